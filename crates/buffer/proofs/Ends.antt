-- Line ends: digits have none, and a text has one for each line.
use Prim.Native.Nat.{ℕ, zero, suc, ◌+◌, ◌*◌, ◌%◌}
use native.Mathlib.Nat.{zero-add, zero-mul, suc-mul, add_comm}
use native.Mathlib.Omega.{arith}
use mathlib.Core.Path.{◌≡◌, refl, ap, ◌∙◌}
use mathlib.Core.List.{List, [], ◌∷◌, ◌++◌}
use lib.Dec.{ltb, eqb}
use lib.ListN.{length, take, drop}
use lib.Seq.{drop-drop}
use borrow.Author.Tests.{eqb-true, eqb-false}
use Rattle.float.specs.Choice.{when◌then◌else◌}
use Rattle.float.proofs.Choice.{cases, when_ne}
use Rattle.buffer.specs.Digits.{digit_of, hex, group}
use Rattle.buffer.specs.Text.{lines_of, text_of, line_ends, OneLineEach}
use Rattle.buffer.proofs.Text.{last_part, torn_no, torn_yes}

pub ends_append : (xs ys : List ℕ) → line_ends (xs ++ ys) ≡ line_ends xs + line_ends ys
unfolding line_ends
ends_append [] ys = omega arith
ends_append (x ∷ xs) ys = omega (arith, ends_append xs ys)

-- a byte that is no line end
pub no_end : (b : ℕ) (bs : List ℕ) → (b ≡ 10 → ⊥) → line_ends (b ∷ bs) ≡ line_ends bs
unfolding line_ends
no_end b bs h = omega (arith, when_ne {A = ℕ} b 10 0 1 0 h refl)

pub digit_no_end : (d : ℕ) (bs : List ℕ) → line_ends (digit_of d ∷ bs) ≡ line_ends bs
unfolding digit_of
digit_no_end d bs =
    cases (λ (b : ℕ). line_ends (b ∷ bs) ≡ line_ends bs) (ltb d 10) (48 + d) (87 + d)
    (λ h. no_end _ bs (λ e. omega arith)) (λ h. no_end _ bs (λ e. omega arith))

ends_hex : (k n : ℕ) → line_ends (hex k n) ≡ 0
unfolding hex line_ends
ends_hex zero n = refl
ends_hex (suc k) n = digit_no_end _ (hex k n) ∙ ends_hex k n

pub ends_group : (n : ℕ) → line_ends (group n) ≡ 0
unfolding group line_ends when◌then◌else◌
ends_group n = rw ends_hex

-- ---- a text, where each line has one line end
module _ (size : ℕ) (line : List ℕ → List ℕ) (torn : List ℕ)
    (one : (r : List ℕ) → line_ends (line r) ≡ 1) (last : line_ends torn ≡ 1) where
  -- n records, with k line ends after them
  ends_lines : (n : ℕ) (s : List ℕ) (k : ℕ)
      → line_ends (lines_of size line torn 0 (drop (n * size) s)) ≡ k → line_ends (lines_of size line torn n s) ≡ n + k
  unfolding lines_of
  ends_lines zero s k h = rw zero-add (rw zero-mul at h)
  ends_lines (suc n) s k h =
      let e : suc n * size ≡ size + n * size = suc-mul n size ∙ add_comm _ _ in
      let f : line_ends (lines_of size line torn 0 (drop (n * size) (drop size s))) ≡ k = rw (drop-drop, ← e) h in
      let rest = lines_of size line torn n (drop size s) in
      omega (arith, ends_append (line (take size s)) rest, one (take size s), ends_lines n (drop size s) k f)

  pub one_line_each : OneLineEach size (text_of size line torn)
  unfolding text_of line_ends
  one_line_each s =
      ends_lines _ s _
      (cases (λ (k : ℕ). line_ends (lines_of size line torn 0 (last_part size s)) ≡ k) (eqb (length s % size) 0) 0 1
      (λ h. ap line_ends (torn_no size line torn s (eqb-true _ _ h)))
      (λ h. ap line_ends (torn_yes size line torn s (eqb-false _ _ h)) ∙ last))
