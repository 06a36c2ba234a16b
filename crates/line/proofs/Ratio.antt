-- (±y - z) / x, rounded at each step, as the exit point has it: from -1 to 1 where ±y - z is no greater in size than x, and ±1 where it is ±x.
use mathlib.Core.Path.{◌≡◌, refl, ap, ◌∙◌}
use mathlib.Core.Bool.{Bool, not}
use Prim.Native.Nat.{◌+◌, ◌≤◌, ◌<◌}
use lib.Ieee.{Float, Format, unlike, sub, mul, div}
use lib.IntN.{◌+ℤ◌}
use Rattle.float.specs.Float.{sign_bit}
use Rattle.float.specs.Exact.{mag, signed}
use Rattle.float.proofs.Values.{Held, neg_is}
use Rattle.float.proofs.Unit.{one, factor_is, quotient_one, quotient_within}
use Rattle.float.proofs.Quotient.{InUnit}
use Rattle.float.proofs.Sums.{sum_exactly, sum_within}
use Rattle.float.proofs.Unlike.{unlike_twice}

abbrev pub ratio : Format → Bool → Float → Float → Float → Float
ratio f k y z x = div f (sub f (mul f (one k) y) z) x

module _ {f : Format} {x y z : Float} (p : Held f x) (q : Held f y) (r : Held f z) (k : Bool) (some : 0 < mag f x) where
  -- where ±y - z is exactly no greater in size than x
  pub ratio_within : (unlike k (sign_bit y) ≡ not (sign_bit z) → mag f y + mag f z ≤ mag f x) → mag f y ≤ mag f x + mag f z → mag f z ≤ mag f x + mag f y
      → InUnit f (ratio f k y z x)
  unfolding sub
  ratio_within h i j =
      let (o, m, e, l) = sum_within p.mag_rep p.mag_under (factor_is q k) (neg_is r.is_own) h i j in
      quotient_within e p.is_own some l

  -- where it is exactly ±x
  pub ratio_exactly : (j : Bool) → signed (unlike k (sign_bit y)) (mag f y) +ℤ signed (not (sign_bit z)) (mag f z) ≡ signed (unlike j (sign_bit x)) (mag f x) → ratio f k y z x ≡ one j
  unfolding sub
  ratio_exactly j e =
      let i = sum_exactly p.mag_rep p.mag_under (factor_is q k) (neg_is r.is_own) (unlike j (sign_bit x)) some e in
      quotient_one i p.is_own some refl ∙ ap one (unlike_twice j (sign_bit x))
