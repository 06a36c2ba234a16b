-- A clean sample: in a window that is not refused it is one in the window, and a dead one is in no case clean.
use mathlib.Core.Path.{◌≡◌, refl, sym, ◌∙◌}
use mathlib.Core.Logic.{◌↔◌}
use mathlib.Core.Bool.{Bool, true, false, false≢true}
use lib.Ieee.{Float, le}
use Rattle.float.specs.Choice.{◌and◌}
use Rattle.float.proofs.Choice.{and_parts, and_both, same, else_is}
use Rattle.plane.specs.Point.{at}
use Rattle.plane.specs.Interval.{holds}
use Rattle.plane.specs.Rect.{contains_point}
use Rattle.plane.specs.Within.{InRect}
use Rattle.plane.specs.declared.point.Point.{Point}
use Rattle.plane.specs.declared.rect.Rect.{Rect}
use Rattle.plane.proofs.Promises as plane
use Rattle.clip.specs.Refuse.{point_fine, window_fine}
use Rattle.clip.proofs.Inside.{inside_fine}
use Rattle.stretch.specs.Longest.{clean}

pub clean_inside : (w : Rect) (p : Point) → window_fine w ≡ true → contains_point w p ≡ clean w p
unfolding clean
clean_inside w p f = same _ _ (λ h. and_both _ _ (inside_fine w p f h) h) (λ h. (and_parts _ _ h).1)

-- ---- side by side: a sample beyond any of the four is not clean, and of one within three the fourth decides
first_false : (p q : Bool) → p ≡ false → (p and q) ≡ false
first_false p q e = sym (else_is _ _ _ _ e refl)

second_false : (p q : Bool) → q ≡ false → (p and q) ≡ false
second_false p q e = same _ _ (λ h. absurd (false≢true (sym e ∙ (and_parts p q h).1))) (λ h. absurd (false≢true h))

module _ (w : Rect) (x y : Float) (fine : window_fine w ≡ true) where
  pub above : le y w.y.hi ≡ false → false ≡ clean w (at x y)
  unfolding contains_point holds
  above h = sym (second_false _ _ (second_false _ _ h)) ∙ clean_inside w (at x y) fine

  pub left_of : le w.x.lo x ≡ false → false ≡ clean w (at x y)
  unfolding contains_point holds
  left_of h = sym (first_false _ _ (first_false _ _ h)) ∙ clean_inside w (at x y) fine

  pub below : le w.y.lo y ≡ false → false ≡ clean w (at x y)
  unfolding contains_point holds
  below h = sym (second_false _ _ (first_false _ _ h)) ∙ clean_inside w (at x y) fine

  pub right_of : le x w.x.hi ≡ false → false ≡ clean w (at x y)
  unfolding contains_point holds
  right_of h = sym (first_false _ _ (second_false _ _ h)) ∙ clean_inside w (at x y) fine

  -- where the low side of y is asked last, as the code does
  pub not_below : le y w.y.hi ≡ true → le w.x.lo x ≡ true → le x w.x.hi ≡ true → le w.y.lo y ≡ clean w (at x y)
  unfolding contains_point holds
  not_below a l r =
      same _ _ (λ b. and_both _ _ (and_both _ _ l r) (and_both _ _ b a)) (λ h. (and_parts _ _ (and_parts _ _ h).1).0)
      ∙ clean_inside w (at x y) fine

  -- where the high side of x is asked last
  pub by_right : le y w.y.hi ≡ true → le w.x.lo x ≡ true → le w.y.lo y ≡ true → le x w.x.hi ≡ clean w (at x y)
  unfolding contains_point holds
  by_right a l b =
      same _ _ (λ r. and_both _ _ (and_both _ _ l r) (and_both _ _ b a)) (λ h. (and_parts _ _ (and_parts _ _ h).0).1)
      ∙ clean_inside w (at x y) fine

pub ruleset sides = (above, left_of, below, right_of, by_right, not_below)

pub clean_is : (w : Rect) (p : Point) → clean w p ≡ true ↔ ((point_fine p ≡ true) × InRect w p)
unfolding clean
clean_is w p =
    let c = (plane.promises).contains_in w p in
    (λ h. let (f, i) = and_parts _ _ h in (f, c.0 i), λ (f, i). and_both _ _ f (c.1 i))

pub dead_not_clean : (w : Rect) (p : Point) → point_fine p ≡ false → clean w p ≡ false
unfolding clean
dead_not_clean w p d = sym (else_is _ _ _ _ d refl)
