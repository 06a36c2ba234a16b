-- One edge in a window that is not refused: its refusal, and else its cut.
use Prim.Native.Nat.{ℕ, ◌+◌}
use mathlib.Core.Path.{◌≡◌, refl, sym, subst, ◌∙◌}
use mathlib.Core.Bool.{Bool, true, false, not}
use mathlib.Core.List.{List}
use native.Mathlib.Omega.{arith}
use lib.Dec.{T}
use lib.Ieee.{Float, lt, le, unlike, is_nan}
use Rattle.float.specs.Choice.{when◌then◌else◌, ◌and◌}
use Rattle.float.specs.Float.{finite}
use Rattle.float.proofs.Order.{finite_num, le_num}
use Rattle.std.specs.Prelude.{Option, Some, None, Ok, Err}
use Rattle.answer.specs.Refusal.{number_of}
use Rattle.answer.specs.declared.Refusal.{Refusal}
use Rattle.answer.specs.declared.Refusal.TheVariants.{Missed, NotFinite, BadWindow}
use Rattle.plane.specs.Rect.{box_of}
use Rattle.plane.specs.declared.point.Point.{Point}
use Rattle.plane.specs.declared.rect.Rect.{Rect}
use Rattle.clip.specs.Cut.{negative_slope, box_cut}
use Rattle.clip.specs.Turns.{axis_x, axis_y, sides_cut}
use Rattle.clip.specs.Refuse.{window_fine, point_fine, plane_refusal}
use Rattle.clip.specs.Answers.{edge_answer, clipped}
use Rattle.clip.specs.Promises.{Fine}
use Rattle.clip.specs.declared.Segment.{Segment}
use Rattle.clip.proofs.Cases.{then_rest}
use Rattle.clip.proofs.AtOnce.{AllFit}
use Rattle.clip.proofs.OwnBox.{own_answer}
use Rattle.clip.proofs.Promises.{good, promises}
use Rattle.record.specs.Record.{record_bytes}
use Rattle.trace.specs.Trace.{Clipped}
use Rattle.trace.specs.Inner.{kept_with, Number, Numbers, LiveEnds}
use Rattle.trace.specs.Records.{no_ends, ends_of, cut_bytes, is_kept, is_refused}

-- ---- what is refused
pub fine_edge : (a b : Point) (w : Rect) → window_fine w ≡ true → (point_fine a and point_fine b) ≡ true → Fine a b w
unfolding plane_refusal
fine_edge a b w f p = rw (p, f) refl

pub dead_refused : (a b : Point) (w : Rect) → (point_fine a and point_fine b) ≡ false → Err NotFinite ≡ clipped a b w
unfolding clipped plane_refusal
dead_refused a b w p = rw p refl

window_refused : (a b : Point) (w : Rect) → window_fine w ≡ false → (point_fine a and point_fine b) ≡ true → Err BadWindow ≡ clipped a b w
unfolding clipped plane_refusal
window_refused a b w f p = rw (p, f) refl

pub fine_cut : (a b : Point) (w : Rect) → Fine a b w → edge_answer a b (box_cut a b w (box_of a b)) ≡ clipped a b w
unfolding clipped
fine_cut a b w f = sym (then_rest _ _ f)

-- ---- the answer by its cases, where no sample is dead
module _ (P : Clipped → Type 0) (a b : Point) (w : Rect) where
  cut_cases : window_fine w ≡ true → (point_fine a and point_fine b) ≡ true → ((s : Segment) → P (Ok s)) → P (Err Missed) → P (clipped a b w)
  cut_cases f p k m = subst P (fine_cut a b w (fine_edge a b w f p)) (go (box_cut a b w (box_of a b)))
    where
      go : (c : Option Rect) → P (edge_answer a b c)
      go (Some r) = unfold edge_answer in k _
      go None = unfold edge_answer in m

  pub live : (point_fine a and point_fine b) ≡ true → ((s : Segment) → P (Ok s)) → P (Err Missed) → P (Err BadWindow) → P (clipped a b w)
  live p k m r = go (window_fine w) refl
    where
      go : (t : Bool) → window_fine w ≡ t → P (clipped a b w)
      go true f = cut_cases f p k m
      go false f = subst P (window_refused a b w f p) r

-- a live edge is kept or missed
pub fine_not_refused : (a b : Point) (w : Rect) → Fine a b w → is_refused (clipped a b w) ≡ false
fine_not_refused a b w f = subst (λ (c : Clipped). is_refused c ≡ false) (fine_cut a b w f) (go (box_cut a b w (box_of a b)))
  where
    go : (m : Option Rect) → is_refused (edge_answer a b m) ≡ false
    go (Some r) = unfold edge_answer is_refused in refl
    go None = unfold edge_answer is_refused in refl

-- ---- by the way it runs: to the left, and down
pub runs : (a b : Point) (w : Rect) → AllFit a b w → Fine a b w → (left down n : Bool) → n ≡ unlike left down → lt b.x a.x ≡ left → lt b.y a.y ≡ down
    → (first : Rect) → first ≡ box_of a b → (m : Option Rect) → m ≡ sides_cut true 4 false (axis_x a b w first) (axis_y a b w first) n
    → (r : Clipped) → r ≡ edge_answer a b m → r ≡ clipped a b w
runs a b w t f left down n en l d = own_answer a b w t f n (en ∙ slope)
  where
    slope : unlike left down ≡ negative_slope a b
    slope = unfold negative_slope in rw (l, d)

-- ---- what an answer writes
number : (x y : Float) → le x y ≡ true → T (not (is_nan y))
number x y h = subst (λ (t : Bool). T (not t)) (sym (le_num x y h).1) tt

-- what is admitted is no NaN
pub live_ends : (a b : Point) (w : Rect) → Fine a b w → LiveEnds a b
live_ends a b w f =
    let g = good a b w f in
    record { ax = finite_number _ g.ax; ay = finite_number _ g.ay; bx = finite_number _ g.bx; by = finite_number _ g.by }
  where
    finite_number : (x : Float) → finite x ≡ true → Number x
    finite_number x h = subst (λ (t : Bool). T (not t)) (sym (finite_num x h)) tt

-- a kept point lies in the window, so it is no NaN
pub kept_numbers : (a b : Point) (w : Rect) (s : Segment) → clipped a b w ≡ Ok s → Numbers s
kept_numbers a b w s e =
    let k = (promises.kept_points a b w s e).0 in
    record {
      ax = number _ _ k.a.x.low;
      ay = number _ _ k.a.y.low;
      bx = number _ _ k.b.x.low;
      by = number _ _ k.b.y.low;
    }

-- what is written and counted of an edge with the answer c
module _ (c : Clipped) (kept whose : ℕ) (ys : List ℕ) where
  abbrev Put : ℕ → Type 0
  Put n = (n ≡ kept_with kept c) × (ys ≡ cut_bytes whose c)

  pub put_kept : (s : Segment) → c ≡ Ok s → ys ≡ record_bytes 0 whose (ends_of s) → Put (kept + 1)
  unfolding is_kept when◌then◌else◌
  put_kept s e h = rw e (refl, h)

  pub put_refused : (x : Refusal) → c ≡ Err x → ys ≡ record_bytes (number_of x) whose no_ends → Put kept
  unfolding is_kept when◌then◌else◌
  put_refused x e h = rw e (omega arith, h)
