-- The loop that reads floats: those still to come, put after those that are there, give what all of them would have given.
use Prim.Native.Nat.{ℕ, suc, ◌+◌, ◌-◌, ◌*◌, ◌≤◌, ◌<◌}
use mathlib.Core.Path.{◌≡◌, refl, ◌∙◌}
use mathlib.Core.List.{List}
use native.Mathlib.Omega.{arith}
use lib.Dec.{leb}
use lib.ListN.{length, set, length-set}
use lib.Ieee.{Float}
use Rattle.float.specs.Choice.{when◌then◌else◌}
use Rattle.float.proofs.Choice.{when_le, when_gt}
use Rattle.reading.specs.Samples.{float_at, floats_in, floats_from, floats_into}

pub record Reading (s : List ℕ) (out₀ out : List Float) (from n i : ℕ) : Type 0 where
  pub low : i ≤ n
  pub all : n ≡ floats_in s
  pub long : length out ≡ length out₀
  pub room : from + n ≤ length out₀
  pub same : floats_into out (from + i) (floats_from s i (n - i)) ≡ floats_into out₀ from (floats_from s 0 n)

module _ (s : List ℕ) (out₀ out : List Float) (from n i : ℕ) where
  pub goes_on : (v : Float) → v ≡ float_at s (8 * i) → i < n → Reading s out₀ out from n i → Reading s out₀ (set out (from + i) v) from n (i + 1)
  unfolding floats_from floats_into
  goes_on v e h r =
      let k : n - i ≡ suc (n - (i + 1)) = omega arith in
      let p : from + i + 1 ≡ from + (i + 1) = omega arith in
      let m = r.same in
      record {
        low = omega arith;
        all = r.all;
        long = length-set out (from + i) v ∙ r.long;
        room = r.room;
        same = rw (e, ← p) (rw k at m);
      }

  pub ends : Reading s out₀ out from n i → n ≤ i → out ≡ (when leb (from + floats_in s) (length out₀) then floats_into out₀ from (floats_from s 0 (floats_in s)) else out₀)
  unfolding floats_from floats_into
  ends r h =
      let k : n - i ≡ 0 = omega arith in
      let m = r.same in
      let e = r.all in
      when_le (from + floats_in s) (length out₀) _ _ _ (omega (arith, r.room, e)) (rw (← e) (rw k at m))

module _ (s : List ℕ) (out₀ : List Float) (from n : ℕ) (e : n ≡ floats_in s) where
  pub starts : from + n ≤ length out₀ → Reading s out₀ out₀ from n 0
  starts h =
      let k : n - 0 ≡ n = omega arith in
      let p : from + 0 ≡ from = omega arith in
      record { low = omega arith; all = e; long = refl; room = h; same = rw (k, p) refl }

  pub counted : from + n ≤ length out₀ → from + n ≡ (when leb (from + floats_in s) (length out₀) then from + floats_in s else 0)
  counted h = when_le (from + floats_in s) (length out₀) _ _ _ (omega arith) (omega arith)

  pub no_room : {A : Type 0} (x y : A) → length out₀ < from + n → y ≡ (when leb (from + floats_in s) (length out₀) then x else y)
  no_room x y h = when_gt (from + floats_in s) (length out₀) _ _ _ (omega arith) refl
