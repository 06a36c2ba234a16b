-- The magnitude: finite where the value is, zero where it is, never below zero and never below the value; between two values it is at most the greater of theirs.
use mathlib.Core.Path.{◌≡◌, refl, sym, ◌∙◌}
use mathlib.Core.Bool.{Bool, true, false, and-true, and_self, true≢false, false≢true}
use Prim.Native.Nat.{ℕ, ◌*◌}
use native.Mathlib.Omega.{arith}
use lib.Dec.{eqb}
use borrow.Author.Tests.{le-leb}
use lib.IntN.{pos}
use lib.Ieee.{Float, nan, inf, fin, up, down, level, lt, le, eq, neg, is_nan}
use Rattle.float.specs.Float.{finite, magnitude_of}
use Rattle.float.specs.Choice.{◌and◌}
use Rattle.float.proofs.Choice.{and_parts, and_both, same}
use Rattle.float.proofs.Order.{Num, le_num, le_refl, le_trans, not_lt}
use Rattle.float.proofs.Values.{le_plain}
use Rattle.float.proofs.Negated.{neg_neg, neg_size}
use Rattle.float.proofs.Monotone.{neg_num, le_neg}

pub size_finite : (x : Float) → finite (magnitude_of x) ≡ finite x
unfolding magnitude_of finite
size_finite nan = refl
size_finite (inf s) = refl
size_finite (fin s m e) = refl

-- the sign of a zero does not count
level_zero : (s : Bool) (a b : ℕ) → b ≡ 0 → level false a false b ≡ level s a false b
level_zero false a b h = refl
level_zero true a b h = rw h (and-true (eqb a 0) ∙ sym (and_self (eqb a 0)))

pub size_zero : (x : Float) → eq (magnitude_of x) (fin false 0 (pos 0)) ≡ eq x (fin false 0 (pos 0))
unfolding magnitude_of eq
size_zero nan = refl
size_zero (inf s) = refl
size_zero (fin s m e) = level_zero s (m * up e * 1) (0 * 1 * down e) (omega arith)

pub size_least : (x : Float) → finite x ≡ true → le (fin false 0 (pos 0)) (magnitude_of x) ≡ true
unfolding magnitude_of finite le
size_least nan h = absurd (false≢true h)
size_least (inf s) h = absurd (false≢true h)
size_least (fin s m e) h =
    let a = 0 * 1 * down e in
    let b = m * up e * 1 in
    le_plain a b ∙ le-leb a b (omega arith)

-- ---- beside other values
size_most : (x : Float) → Num x → le x (magnitude_of x) ≡ true
unfolding magnitude_of is_nan
size_most nan h = absurd (true≢false h)
size_most (inf true) h = unfold le in refl
size_most (inf false) h = unfold le in refl
size_most (fin true m e) h = not_lt (fin false m e) (fin true m e) refl refl (unfold lt in refl)
size_most (fin false m e) h = le_refl (fin false m e) refl

-- what is no greater than y is no greater than a limit of its magnitude
up_to_size : (x y l : Float) → le x y ≡ true → le (magnitude_of y) l ≡ true → le x l ≡ true
up_to_size x y l p h = le_trans _ _ _ p (le_trans _ _ _ (size_most y (le_num x y p).1) h)

-- the same from below, of its opposite
turned : (x y l : Float) → le y x ≡ true → le (magnitude_of y) l ≡ true → le (neg x) l ≡ true
turned x y l p h = up_to_size (neg x) (neg y) l (le_neg y x p) (rw (neg_size y) h)

-- a limit of the magnitudes of two values is one of all between them
pub magnitude_between : (x a b l : Float) → le a x ≡ true → le x b ≡ true → le (magnitude_of a) l ≡ true → le (magnitude_of b) l ≡ true → le (magnitude_of x) l ≡ true
magnitude_between nan a b l p q h k = absurd (true≢false (unfold is_nan in (le_num a nan p).1))
magnitude_between (inf false) a b l p q h k = unfold magnitude_of in up_to_size (inf false) b l q k
magnitude_between (fin false m e) a b l p q h k = unfold magnitude_of in up_to_size (fin false m e) b l q k
magnitude_between (inf true) a b l p q h k = unfold magnitude_of neg in turned (inf true) a l p h
magnitude_between (fin true m e) a b l p q h k = unfold magnitude_of neg in turned (fin true m e) a l p h

size_num : (x : Float) → Num (magnitude_of x) → Num x
unfolding magnitude_of is_nan
size_num nan h = h
size_num (inf s) h = refl
size_num (fin s m e) h = refl

-- as two comparisons: x lies from -l to l where its magnitude is at most l
pub size_within : (x l : Float) → magnitude_of l ≡ l → (le (neg l) x and le x l) ≡ le (magnitude_of x) l
size_within x l own = same _ _ within sides
  where
    within : (le (neg l) x and le x l) ≡ true → le (magnitude_of x) l ≡ true
    within h =
        let (low, high) = and_parts _ _ h in
        let one : le (magnitude_of l) l ≡ true = rw own (le_refl l (le_num x l high).1) in
        magnitude_between x (neg l) l l low high (rw (neg_size l) one) one

    sides : le (magnitude_of x) l ≡ true → (le (neg l) x and le x l) ≡ true
    sides h =
        let n = size_num x (le_num (magnitude_of x) l h).0 in
        let below_it : le (neg x) l ≡ true = le_trans _ _ _ (size_most (neg x) (neg_num x n)) (rw (neg_size x) h) in
        and_both _ _ (rw (sym (neg_neg x)) (le_neg (neg x) l below_it)) (le_trans _ _ _ (size_most x n) h)
