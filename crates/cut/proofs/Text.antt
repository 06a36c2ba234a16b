-- Lines, how long they are, and how one after the other makes the text.
use Rattle.std.specs.Prelude.{Result, Ok, Err}
use Prim.Native.Nat.{ℕ, ◌+◌, ◌≤◌, ◌<◌}
use native.Mathlib.Omega.{arith}
use mathlib.Core.Path.{◌≡◌, sym, subst, ◌∙◌}
use mathlib.Core.List.{List, [], ◌∷◌, ◌++◌, append-nil}
use lib.ListN.{length, set, length-set, drop, length-append}
use lib.Ieee.{binary64, to_bits}
use Rattle.std.proofs.Common.{drop_of_length-le}
use Rattle.answer.specs.Refusal.{number_of}
use Rattle.answer.specs.declared.Refusal.{Refusal}
use Rattle.buffer.specs.Bytes.{stored, placed}
use Rattle.buffer.specs.Digits.{group}
use Rattle.buffer.proofs.Stored.{stored_front, placed_fits, placed_length, placed_then, length_group}
use Rattle.clip.specs.declared.Segment.{Segment}
use Rattle.clip.proofs.Promises.{promises}
use Rattle.reading.specs.Samples.{point_at, window_at}
use Rattle.cut.specs.Record.{answer_of}
use Rattle.cut.specs.Line.{number_line, kept_line, line_of, Told}

-- ---- lengths
pub length_kept : (s : Segment) → length (kept_line s) ≡ 70
unfolding kept_line
length_kept s = simp (length-append, length_group)

pub length_line : (r : Result Segment Refusal) → length (line_of r) ≤ 70
unfolding line_of number_line
length_line (Ok s) = omega (arith, length_kept s)
length_line (Err e) = omega arith

-- ---- a kept line: a byte, four groups and a byte, stored one after the other
-- a group that fits, then the rest
group_then : (xs ys : List ℕ) (p q n : ℕ) (rest : List ℕ) → ys ≡ placed xs p (group n) → p + 17 ≤ length xs → q ≡ p + 17 → stored ys q rest ≡ stored xs p (group n ++ rest)
group_then xs ys p q n rest = placed_then xs ys p q 17 (group n) rest (length_group n)

stored_kept : (xs a b c d : List ℕ) (s : Segment) → length xs ≡ 70
    → a ≡ placed (set xs 0 48) 1 (group (to_bits binary64 s.ax)) → b ≡ placed a 18 (group (to_bits binary64 s.ay))
    → c ≡ placed b 35 (group (to_bits binary64 s.bx)) → d ≡ placed c 52 (group (to_bits binary64 s.by))
    → set d 69 10 ≡ stored xs 0 (kept_line s)
unfolding kept_line stored
stored_kept xs a b c d s l ea eb ec ed =
    let lx : length (set xs 0 48) ≡ length xs = simp length-set in
    let la = placed_length _ a _ _ ea in
    let lb = placed_length _ b _ _ eb in
    let lc = placed_length _ c _ _ ec in
    group_then c d 52 69 _ (10 ∷ []) ed (omega arith) (omega arith)
    ∙ group_then b c 35 52 _ _ ec (omega arith) (omega arith)
    ∙ group_then a b 18 35 _ _ eb (omega arith) (omega arith)
    ∙ group_then (set xs 0 48) a 1 18 _ _ ea (omega arith) (omega arith)

-- into an array of 70 bytes that begins with 48
pub kept_is : (xs a b c d : List ℕ) (s : Segment) → length xs ≡ 70 → set xs 0 48 ≡ xs
    → a ≡ placed xs 1 (group (to_bits binary64 s.ax)) → b ≡ placed a 18 (group (to_bits binary64 s.ay))
    → c ≡ placed b 35 (group (to_bits binary64 s.bx)) → d ≡ placed c 52 (group (to_bits binary64 s.by))
    → set d 69 10 ≡ kept_line s
kept_is xs a b c d s l z ea eb ec ed =
    let e0 = subst (λ (ys : List ℕ). a ≡ placed ys 1 (group (to_bits binary64 s.ax))) (sym z) ea in
    let k = length_kept s in
    let none : drop (length (kept_line s)) xs ≡ [] = drop_of_length-le xs (omega arith) in
    stored_kept xs a b c d s l e0 eb ec ed ∙ stored_front xs (kept_line s) (omega arith) ∙ rw none (append-nil _)

-- ---- the line of each case
module _ (r : Result Segment Refusal) where
  pub line_ok : (s : Segment) → r ≡ Ok s → line_of r ≡ kept_line s
  unfolding line_of
  line_ok s e = rw e

  pub line_err : (n : Refusal) → r ≡ Err n → line_of r ≡ number_line (number_of n)
  unfolding line_of
  line_err n e = rw e

  pub refused_digit : (n : Refusal) → r ≡ Err n → Told r → number_of n < 10
  refused_digit n e (d, k) = rw e at d

-- ---- a line that was placed
pub line_placed : (xs ys : List ℕ) (to : ℕ) (r : Result Segment Refusal) (line : List ℕ) → to + 70 ≤ length xs → ys ≡ placed xs to line → line ≡ line_of r → ys ≡ stored xs to (line_of r)
line_placed xs ys to r line h e f = rw f at e ∙ sym (placed_fits xs to (line_of r) (omega (arith, length_line r)))

pub line_room : (to next : ℕ) (r : Result Segment Refusal) → next ≡ to + length (line_of r) → next ≤ to + 70
line_room to next r e = omega (arith, length_line r)

-- ---- what an edge can get
pub record_told : (s : List ℕ) → Told (answer_of s)
unfolding answer_of
record_told s = (omega (arith, (promises.numbers.clip_edge (point_at s 0) (point_at s 16) (window_at s 32)).no_other), promises.zero_kept _ _ _)
