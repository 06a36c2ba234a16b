-- How far a corner lies off a line, where nothing is beyond 2 ^ k in size: no product of two differences overflows, nor does the sum of two products.
-- Over any format, as in proofs/FromEnd.antt.
use mathlib.Core.Path.{◌≡◌}
use mathlib.Core.Bool.{true}
use Prim.Native.Nat.{ℕ, suc, ◌+◌, ◌≤◌}
use native.Mathlib.Nat.{pow-suc}
use native.Mathlib.Omega.{arith}
use lib.Ieee.{Float, Format, emax, add, sub, mul, neg}
use Rattle.float.specs.Float.{finite}
use Rattle.float.proofs.Bounded.{power_exactly, neg_up_to, sum_up_to}
use Rattle.clip.proofs.FromEnd.{Modest, rise, product}

-- the corner (x, y) and the line from (ax, ay) to (bx, by), seen along either axis
module _ {f : Format} {k : ℕ} (room : suc (suc k + suc k) ≤ emax f) {x y ax ay bx by : Float} (m : Modest f k x ax bx ay by) (n : Modest f k y ay by ax bx) where
  pub off_line_finite : finite (add f (mul f (neg (sub f by ay)) (sub f x ax)) (mul f (sub f bx ax) (sub f y ay))) ≡ true
  off_line_finite =
      let r : suc k + suc k ≤ emax f = omega arith in
      let p = product r m (neg_up_to (rise r m)) in
      let q = product r n (rise r n) in
      (sum_up_to p q (power_exactly f (suc (suc k + suc k)) room) (rw (pow-suc 2 (suc k + suc k)) (omega arith))).value.is_finite
