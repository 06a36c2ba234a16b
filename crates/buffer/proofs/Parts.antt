-- Two calls, each with a part of a buffer: the order does not matter where each leaves as many bytes as it was lent.
use Prim.Native.Nat.{ℕ, ◌+◌, ◌-◌, ◌≤◌}
use native.Mathlib.Omega.{arith}
use mathlib.Core.Path.{◌≡◌, refl, sym, ap, ◌∙◌}
use mathlib.Core.List.{List, ◌++◌, append_assoc}
use lib.ListN.{length, take, drop, take-append-drop, length-append, length-drop}
use lib.Seq.{take_at, drop_at, drop-drop, length-take-le}
use Rattle.buffer.specs.Parts.{part, in_part, EitherFirst}

-- ---- a buffer in three: what is in front of a part, the part, the rest
module _ (front here rest : List ℕ) (p n : ℕ) (lf : length front ≡ p) (lh : length here ≡ n) where
  part_is : part p n (front ++ (here ++ rest)) ≡ here
  part_is = ap (take n) (drop_at front (here ++ rest) p lf) ∙ take_at here rest n lh

  in_part_is : (call : List ℕ → List ℕ) → in_part call p n (front ++ (here ++ rest)) ≡ front ++ (call here ++ rest)
  in_part_is call =
      let a = take_at front (here ++ rest) p lf in
      let l : length (front ++ here) ≡ p + n = omega (arith, length-append front here) in
      let d : drop (p + n) (front ++ (here ++ rest)) ≡ rest = ap (drop (p + n)) (sym (append_assoc front here rest)) ∙ drop_at (front ++ here) rest (p + n) l in
      rw (a, part_is, d)

-- ---- a buffer cut into parts
length_part : (xs : List ℕ) (p n : ℕ) → p + n ≤ length xs → length (part p n xs) ≡ n
length_part xs p n h = length-take-le n (drop p xs) (omega (arith, length-drop p xs))

part_then : (xs : List ℕ) (p n q : ℕ) → q ≡ p + n → drop p xs ≡ part p n xs ++ drop q xs
part_then xs p n q e = rw (e, ← drop-drop n p xs) (sym (take-append-drop n (drop p xs)))

-- ---- two parts, from p on and from q on
module _ (one other : List ℕ → List ℕ) (one_keeps : (bs : List ℕ) → length (one bs) ≡ length bs) (xs : List ℕ) (p m q n : ℕ) (apart : p + m ≤ q) (within : q + n ≤ length xs) where
  abbrev before : List ℕ
  before = take p xs

  abbrev this : List ℕ
  this = part p m xs

  abbrev between : List ℕ
  between = part (p + m) (q - (p + m)) xs

  abbrev that : List ℕ
  that = part q n xs

  abbrev after : List ℕ
  after = drop (q + n) xs

  past_one : drop (p + m) xs ≡ between ++ (that ++ after)
  past_one = part_then xs (p + m) (q - (p + m)) q (omega arith) ∙ ap (between ++◌) (part_then xs q n (q + n) refl)

  all_five : xs ≡ before ++ (this ++ (between ++ (that ++ after)))
  all_five = sym (take-append-drop p xs) ∙ ap (before ++◌) (part_then xs p m (p + m) refl ∙ ap (this ++◌) past_one)

  -- with bs in the place of this, as long
  module _ (bs : List ℕ) (lb : length bs ≡ m) where
    up_to_that : before ++ (bs ++ (between ++ (that ++ after))) ≡ (before ++ (bs ++ between)) ++ (that ++ after)
    up_to_that = sym (simp append_assoc)

    so_long : length (before ++ (bs ++ between)) ≡ q
    so_long = omega (arith, length-append before (bs ++ between), length-append bs between, length-take-le p xs (omega arith), length_part xs (p + m) (q - (p + m)) (omega arith))

  pub either_first : EitherFirst one other xs p m q n
  either_first =
      record {
        one_lent = ap (part p m) other_done ∙ part_is before this _ p m lp lm;
        other_lent = ap (part q n) one_done ∙ part_is (before ++ (one this ++ between)) that after q n lq ln;
        one_first = ap (in_part other q n) one_done ∙ in_part_is (before ++ (one this ++ between)) that after q n lq ln other ∙ simp append_assoc;
        other_first = ap (in_part one p m) other_done ∙ in_part_is before this _ p m lp lm one;
      }
    where
      lp : length before ≡ p
      lp = length-take-le p xs (omega arith)

      lm : length this ≡ m
      lm = length_part xs p m (omega arith)

      ln : length that ≡ n
      ln = length_part xs q n within

      lo : length (one this) ≡ m
      lo = one_keeps this ∙ lm

      lq : length (before ++ (one this ++ between)) ≡ q
      lq = so_long (one this) lo

      one_done : in_part one p m xs ≡ (before ++ (one this ++ between)) ++ (that ++ after)
      one_done = ap (λ (r : List ℕ). before ++ (one this ++ r)) past_one ∙ up_to_that (one this) lo

      front_of_that : take q xs ≡ before ++ (this ++ between)
      front_of_that = ap (take q) (all_five ∙ up_to_that this lm) ∙ take_at (before ++ (this ++ between)) (that ++ after) q (so_long this lm)

      other_done : in_part other q n xs ≡ before ++ (this ++ (between ++ (other that ++ after)))
      other_done = ap (◌++ (other that ++ after)) front_of_that ∙ simp append_assoc
