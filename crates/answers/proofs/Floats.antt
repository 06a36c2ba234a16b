-- The floats of a request, one after the other.
use Rattle.std.proofs.Common.{◌≡◌, ℕ, zero, suc, ◌+◌, ◌-◌, ◌*◌, ◌<◌, List, ◌∷◌, ◌++◌, length, take, Float, append_assoc, append-nil, arith}
use Rattle.std.proofs.Math.ListN.{set}
use Rattle.std.proofs.lemmas.List.{take_all, take_more_set}
use Rattle.reading.specs.Samples.{float_at, floats_from}

floats_step : (s : List ℕ) (i n : ℕ) → 0 < n → floats_from s i n ≡ float_at s (8 * i) ∷ floats_from s (i + 1) (n - 1)
unfolding floats_from
floats_step s i zero h = absurd (omega arith)
floats_step s i (suc n) h = let e : suc n - 1 ≡ n = omega arith in rw e

-- one more of those that are left
pub floats_more : (s : List ℕ) (fs : List Float) (x : Float) (k i n : ℕ) → i < n → length fs ≡ n → x ≡ float_at s (8 * (k + i))
    → take (i + 1) (set fs i x) ++ floats_from s (k + (i + 1)) (n - (i + 1)) ≡ take i fs ++ floats_from s (k + i) (n - i)
floats_more s fs x k i n h l e =
    let a : k + i + 1 ≡ k + (i + 1) = omega arith in
    let b : n - i - 1 ≡ n - (i + 1) = omega arith in
    rw (take_more_set fs i x (omega arith), append_assoc, floats_step s (k + i) (n - i) (omega arith), a, b, e)

pub floats_all : (s : List ℕ) (fs all : List Float) (k i n : ℕ) → i ≡ n → length fs ≡ n → take i fs ++ floats_from s (k + i) (n - i) ≡ all → fs ≡ all
unfolding floats_from
floats_all s fs all k i n e l h =
    let z : n - i ≡ 0 = omega arith in
    let t : take i fs ≡ fs = take_all i fs (omega arith) in
    rw (z, t, append-nil) at h
