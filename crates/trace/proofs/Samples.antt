-- Sample k of a trace is its floats 2k and 2k + 1.
use Prim.Native.Nat.{ℕ, zero, suc, ◌+◌, ◌*◌, ◌<◌}
use native.Mathlib.Omega.{arith}
use mathlib.Core.Path.{◌≡◌, refl}
use mathlib.Core.List.{List, [], ◌∷◌}
use lib.Ieee.{Float}
use lib.ListN.{length, get_or}
use Rattle.plane.specs.Point.{at}
use Rattle.trace.specs.Trace.{samples_of}
use Rattle.trace.specs.Promises.{sample_at}

pub sample_is : (fs : List Float) (k : ℕ) (d : Float) → 2 * k + 1 < length fs
    → at (get_or fs (2 * k) d) (get_or fs (2 * k + 1) d) ≡ sample_at k (samples_of fs)
unfolding samples_of
sample_is [] k d h = absurd (omega arith)
sample_is (x ∷ []) k d h = absurd (omega arith)
sample_is (x ∷ y ∷ fs) zero d h = refl
sample_is (x ∷ y ∷ fs) (suc k) d h =
    let e : 2 * suc k ≡ suc (suc (2 * k)) = omega arith in
    let f : suc (suc (2 * k)) + 1 ≡ suc (suc (2 * k + 1)) = omega arith in
    rw (e, f) (sample_is fs k d (omega arith))
