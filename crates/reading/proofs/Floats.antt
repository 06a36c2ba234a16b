-- The floats of bytes: how many there are, and how they stand in the buffer that they are read into.
use Prim.Native.Nat.{ℕ, zero, suc, ◌+◌, ◌≤◌}
use native.Mathlib.Omega.{arith}
use native.Mathlib.Nat.{add-zero}
use native.Mathlib.Numerals.{add-one}
use mathlib.Core.Path.{◌≡◌, refl, sym, ap, ◌∙◌}
use mathlib.Core.List.{List, [], ◌∷◌, ◌++◌, append_assoc, append-nil}
use lib.Dec.{leb}
use lib.Ieee.{Float}
use lib.ListN.{length, set, length-set, take}
use lib.Seq.{take-suc-set}
use Rattle.float.specs.Choice.{when◌then◌else◌}
use Rattle.float.proofs.Choice.{when_le}
use Rattle.reading.specs.Samples.{floats_in, floats_from, floats_of, floats_into}

pub length_floats : (s : List ℕ) (i k : ℕ) → length (floats_from s i k) ≡ k
unfolding floats_from
length_floats s i zero = refl
length_floats s i (suc k) = ap suc (length_floats s (i + 1) k)

-- ---- floats put into a buffer
into_front : (xs : List Float) (p : ℕ) (fs : List Float) → p + length fs ≤ length xs → take (p + length fs) (floats_into xs p fs) ≡ take p xs ++ fs
unfolding floats_into
into_front xs p [] h = rw (add-zero, append-nil)
into_front xs p (f ∷ fs) h =
    let k : p + suc (length fs) ≡ p + 1 + length fs = omega arith in
    let j : p + 1 ≡ suc p = add-one p in
    let i = into_front (set xs p f) (p + 1) fs (omega (arith, length-set xs p f)) in
    let one : take (p + 1) (set xs p f) ≡ take p xs ++ (f ∷ []) = rw j (take-suc-set xs p f (omega arith)) in
    ap (λ (m : ℕ). take m (floats_into (set xs p f) (p + 1) fs)) k ∙ i ∙ ap (◌++ fs) one ∙ append_assoc (take p xs) (f ∷ []) fs

-- after `put_samples`, where there is room: the places that are taken have what was there before, and then the floats
pub put_in : (xs out : List Float) (s : List ℕ) (p n : ℕ) → p + floats_in s ≤ length xs
    → n ≡ (when leb (p + floats_in s) (length xs) then p + floats_in s else 0)
    → out ≡ (when leb (p + floats_in s) (length xs) then floats_into xs p (floats_of s) else xs)
    → take n out ≡ take p xs ++ floats_of s
put_in xs out s p n h count floats =
    let k = length_floats s 0 (floats_in s) in
    let all : n ≡ p + floats_in s = count ∙ sym (when_le _ _ _ _ _ h refl) in
    let read : out ≡ floats_into xs p (floats_of s) = floats ∙ sym (when_le _ _ _ _ _ h refl) in
    rw (all, read) (ap (λ (m : ℕ). take (p + m) (floats_into xs p (floats_of s))) (sym k) ∙ into_front xs p (floats_of s) (omega (arith, k)))
