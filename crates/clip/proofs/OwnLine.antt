-- For x from a to b, in either order, the distance to each end is a difference the right way round, and compares as such: so the line's value in the edge's own box, for which no magnitude is taken, is the line's value.
use mathlib.Core.Path.{◌≡◌, sym}
use mathlib.Core.Logic.{inl, inr}
use mathlib.Core.Bool.{Bool, true}
use lib.Ieee.{Float, binary64, le}
use Rattle.float.specs.Float.{◌⊖◌, magnitude_of}
use Rattle.float.specs.Exact.{Value}
use Rattle.float.proofs.Choice.{cases}
use Rattle.float.proofs.Order.{finite_num, le_trans, lt_le, not_lt}
use Rattle.float.proofs.Distance.{distance_turned, distance_le}
use Rattle.plane.specs.Interval.{between}
use Rattle.plane.specs.Within.{In}
use Rattle.clip.specs.Cut.{on_line}
use Rattle.clip.specs.Turns.{a_nearer, own_line}
use Rattle.clip.proofs.FromEnd.{Along}
use Rattle.clip.proofs.Held.{Fit, along, back, num_a, num_b}

-- where a is the lower end
upward : (x a b : Float) → le a b ≡ true → Along x a b → (le a x ≡ true) × (le x b ≡ true)
upward x a b l (inl i) = i
upward x a b l (inr (p, q)) = (le_trans a b x l p, le_trans x a b q l)

module _ {x a b : Float} (X : Value binary64 x) (A : Value binary64 a) (B : Value binary64 b) where
  abbrev Same : Bool → Type 0
  Same t = t ≡ le (magnitude_of (a ⊖ x)) (magnitude_of (b ⊖ x))

  nearer_same : Along x a b → Same (a_nearer x a b)
  unfolding a_nearer
  nearer_same o =
      cases Same _ _ _ (λ h. from_above (upward x b a (lt_le b a h) (back x a b o)))
      (λ h. from_below (upward x a b (not_lt b a (finite_num b B.is_finite) (finite_num a A.is_finite) h) o))
    where
      from_above : (le b x ≡ true) × (le x a ≡ true) → Same (le (a ⊖ x) (x ⊖ b))
      from_above (p, q) = rw (distance_turned binary64 b x) (sym (distance_le A X X B q p))

      from_below : (le a x ≡ true) × (le x b ≡ true) → Same (le (x ⊖ a) (b ⊖ x))
      from_below (p, q) = rw (distance_turned binary64 a x) (sym (distance_le X A B X p q))

pub own_line_lem : {x a b a1 b1 : Float} → Fit x a b a1 b1 → In (between a b) x → own_line x a b a1 b1 ≡ on_line x a b a1 b1
unfolding own_line on_line
own_line_lem {x} {a} {b} m i = rw (nearer_same m.at_x.value m.at_a.value m.at_b.value (along x a b (num_a m) (num_b m) i))
