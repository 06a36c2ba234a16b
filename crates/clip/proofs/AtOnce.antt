-- Where all magnitudes of an edge and a window together are at most the limit, each of them is: nothing is refused.
use mathlib.Core.Path.{◌≡◌, refl}
use mathlib.Core.Bool.{true, ◌&&◌}
use lib.Ieee.{Float, binary64, fits, le}
use Rattle.float.specs.Float.{◌⊕◌, magnitude_of}
use Rattle.float.proofs.Choice.{and_both}
use Rattle.float.proofs.Summands.{Above, magnitude_above, sum_above, summands}
use Rattle.answer.specs.Refusal.{done}
use Rattle.plane.specs.declared.point.Point.{Point}
use Rattle.plane.specs.declared.interval.Interval.{Interval}
use Rattle.plane.specs.declared.rect.Rect.{Rect}
use Rattle.clip.specs.Refuse.{limit, coordinate, side, sides_fine, window_fine, edge_refusal}
use Rattle.clip.specs.Values.{every, HandedIn, floats_of}
use Rattle.clip.proofs.Numbers.{fine_from, and_true}

-- x can be handed in
pub record Fit (x : Float) : Type 0 where
  pub holds : fits binary64 x ≡ true

-- the magnitude of x is at most the limit
abbrev Within : Float → Type 0
Within x = le (magnitude_of x) limit ≡ true

-- of two floats, and of four
abbrev pub two_sizes : Float → Float → Float
two_sizes x y = magnitude_of x ⊕ magnitude_of y

module _ {x y : Float} (p : Fit x) (q : Fit y) where
  two_above : Above binary64 (two_sizes x y)
  two_above = sum_above _ _ (magnitude_above binary64 x p.holds) (magnitude_above binary64 y q.holds)

  two_within : le (two_sizes x y) limit ≡ true → Within x × Within y
  two_within = summands _ _ (magnitude_above binary64 x p.holds) (magnitude_above binary64 y q.holds) 500

module _ {x y z u : Float} (p : Fit x) (q : Fit y) (r : Fit z) (s : Fit u) where
  four_above : Above binary64 (two_sizes x y ⊕ two_sizes z u)
  four_above = sum_above _ _ (two_above p q) (two_above r s)

  four_within : le (two_sizes x y ⊕ two_sizes z u) limit ≡ true → (Within x × Within y) × (Within z × Within u)
  four_within h = let (a, b) = summands _ _ (two_above p q) (two_above r s) 500 h in (two_within p q a, two_within r s b)

sides_fine_lem : (i : Interval) → Within i.lo → Within i.hi → le i.lo i.hi ≡ true → sides_fine i ≡ true
unfolding sides_fine side
sides_fine_lem i l h o = and_both _ _ (and_both _ _ l h) o

-- an edge and a window that can be handed in
pub record AllFit (a b : Point) (w : Rect) : Type 0 where
  pub ax : Fit a.x
  pub ay : Fit a.y
  pub bx : Fit b.x
  pub by : Fit b.y
  pub x_low : Fit w.x.lo
  pub x_high : Fit w.x.hi
  pub y_low : Fit w.y.lo
  pub y_high : Fit w.y.hi

-- every float that the language hands over is one of binary64
pub all_fit : (a b : Point) (w : Rect) → fits binary64 a.x ≡ true → fits binary64 a.y ≡ true → fits binary64 b.x ≡ true → fits binary64 b.y ≡ true
    → fits binary64 w.x.lo ≡ true → fits binary64 w.x.hi ≡ true → fits binary64 w.y.lo ≡ true → fits binary64 w.y.hi ≡ true → AllFit a b w
all_fit a b w ax ay bx by xl xh yl yh =
    record {
      ax = record { holds = ax };
      ay = record { holds = ay };
      bx = record { holds = bx };
      by = record { holds = by };
      x_low = record { holds = xl };
      x_high = record { holds = xh };
      y_low = record { holds = yl };
      y_high = record { holds = yh };
    }

pub all_handed : (a b : Point) (w : Rect) → AllFit a b w → HandedIn (floats_of a b w)
unfolding every
all_handed a b w t =
    and_both _ _ t.ax.holds (and_both _ _ t.ay.holds (and_both _ _ t.bx.holds (and_both _ _ t.by.holds
    (and_both _ _ t.x_low.holds (and_both _ _ t.x_high.holds (and_both _ _ t.y_low.holds (and_both _ _ t.y_high.holds refl)))))))

pub at_once : (a b : Point) (w : Rect) → AllFit a b w
    → (le ((two_sizes a.x b.x ⊕ two_sizes w.x.lo w.y.lo) ⊕ (two_sizes a.y b.y ⊕ two_sizes w.x.hi w.y.hi)) limit && le w.x.lo w.x.hi && le w.y.lo w.y.hi) ≡ true
    → edge_refusal a b w ≡ done
unfolding coordinate window_fine
at_once a b w t e =
    let (rest, oy) = and_true _ _ e in
    let (h, ox) = and_true _ _ rest in
    let (low, high) = summands _ _ (four_above t.ax t.bx t.x_low t.y_low) (four_above t.ay t.by t.x_high t.y_high) 500 h in
    let ((wax, wbx), (wxl, wyl)) = four_within t.ax t.bx t.x_low t.y_low low in
    let ((way, wby), (wxh, wyh)) = four_within t.ay t.by t.x_high t.y_high high in
    fine_from _ _ (and_both _ _ (and_both _ _ wax way) (and_both _ _ wbx wby)) (and_both _ _ (sides_fine_lem w.x wxl wxh ox) (sides_fine_lem w.y wyl wyh oy))
