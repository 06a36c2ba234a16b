-- Which number each entry gives: by its refusals, and else by whether its cut misses. Said once, over the two tests and the miss.
use Rattle.std.specs.Prelude.{Option, Some, None, Result, Ok}
use Prim.Native.Nat.{ℕ}
use mathlib.Core.Path.{◌≡◌, refl, sym, ap, ◌∙◌}
use mathlib.Core.Logic.{◌↔◌, ◌⊎◌, inl, inr}
use mathlib.Core.Bool.{Bool, true, false, ◌&&◌, true≢false, false≢true}
use native.Mathlib.Omega.{arith}
use lib.Dec.{eqb}
use borrow.Author.Tests.{eq-eqb}
use lib.Ieee.{Float, lt, le}
use Rattle.float.specs.Choice.{when◌then◌else◌, ◌and◌}
use Rattle.float.proofs.Order.{Num, finite_num, not_le, lt_not_le}
use Rattle.float.proofs.UpTo.{test_finite}
use Rattle.answer.specs.Refusal.{number, done, ◌then◌}
use Rattle.answer.specs.declared.Refusal.{Refusal}
use Rattle.plane.specs.Interval.{is_empty}
use Rattle.plane.specs.declared.point.Point.{Point}
use Rattle.plane.specs.declared.interval.Interval.{Interval}
use Rattle.plane.specs.declared.rect.Rect.{Rect}
use Rattle.clip.specs.Refuse.{side, plane_refusal, sides_fine, window_fine}
use Rattle.clip.specs.Answers.{or_missed, edge_answer, clipped}
use Rattle.clip.specs.Promises.{Numbered, Numbers}

-- ---- the two tests, and the number of the cut: 1 where it misses, 0 where not
Told : Type 0 → ℕ → Type 0
Told Misses k = ((k ≡ 0) × (Misses → ⊥)) ⊎ ((k ≡ 1) × Misses)

-- two numbers that are not the same, and two tests
apart : {A : Type 0} (m n : ℕ) → eqb m n ≡ false → m ≡ n → A
apart m n f e = absurd (true≢false (sym (eq-eqb m n e) ∙ f))

neither : {A : Type 0} → false ≡ true → A
neither e = absurd (false≢true e)

-- the number is that of the refusal, or of the cut
numbered : {A : Type 0} (points window : Bool) (Misses : Type 0) (cut : Result A Refusal) → Told Misses (number cut)
    → Numbered points window Misses (number (plane_refusal points window then cut))
unfolding Told plane_refusal
numbered false window M cut t = record {
  two = (λ e. refl, λ e. refl);
  three = (apart 2 3 refl, λ (p, q). neither p);
  one = (apart 2 1 refl, λ (p, q, m). neither p);
  zero = (apart 2 0 refl, λ (p, q, m). neither p);
  no_other = omega arith;
}
numbered true false M cut t = record {
  two = (apart 3 2 refl, λ e. neither (sym e));
  three = (λ e. (refl, refl), λ e. refl);
  one = (apart 3 1 refl, λ (p, q, m). neither q);
  zero = (apart 3 0 refl, λ (p, q, m). neither q);
  no_other = omega arith;
}
numbered true true M cut (inl (e, m)) = rw e (record {
  two = (apart 0 2 refl, λ e. neither (sym e));
  three = (apart 0 3 refl, λ (p, q). neither (sym q));
  one = (apart 0 1 refl, λ (p, q, h). absurd (m h));
  zero = (λ e. (refl, refl, m), λ e. refl);
  no_other = omega arith;
})
numbered true true M cut (inr (e, m)) = rw e (record {
  two = (apart 1 2 refl, λ e. neither (sym e));
  three = (apart 1 3 refl, λ (p, q). neither (sym q));
  one = (λ e. (refl, refl, m), λ e. refl);
  zero = (apart 1 0 refl, λ (p, q, h). absurd (h m));
  no_other = omega arith;
})

-- one that never misses
never : {A : Type 0} (points window : Bool) (x : A) → Numbered points window ⊥ (number (plane_refusal points window then Ok x))
unfolding Told
never points window x = numbered points window ⊥ (Ok x) (inl (refl, λ e. e))

-- where nothing is refused both tests hold
pub fine_parts : (points window : Bool) → plane_refusal points window ≡ done → (points ≡ true) × (window ≡ true)
fine_parts points window e = let (p, q, n) = (never points window true).zero.0 (ap (λ r. number (r then Ok true)) e) in (p, q)

pub fine_from : (points window : Bool) → points ≡ true → window ≡ true → plane_refusal points window ≡ done
unfolding plane_refusal
fine_from points window p q = rw (p, q)

-- ---- what each cuts, by its cases
told : {A : Type 0} (m : Option A) → Told (m ≡ None) (number (or_missed m))
unfolding Told
told (Some x) = inl (refl, λ e. let z : ◌≡◌ {A = ℕ} 0 1 = cc in omega arith)
told None = inr (refl, refl)

edge_told : (a b : Point) (m : Option Rect) → Told (m ≡ None) (number (edge_answer a b m))
unfolding Told edge_answer
edge_told a b (Some r) = inl (refl, λ e. let z : ◌≡◌ {A = ℕ} 0 1 = cc in omega arith)
edge_told a b None = inr (refl, refl)

-- ---- tests joined
pub and_true : (p q : Bool) → (p && q) ≡ true → (p ≡ true) × (q ≡ true)
and_true true q e = (refl, e)
and_true false q e = absurd (false≢true e)

-- ---- the window
and_no : (p q : Bool) → (p and q) ≡ false ↔ ((p ≡ false) ⊎ (q ≡ false))
unfolding when◌then◌else◌
and_no true q = (λ e. inr e, λ h. elim h [ inl e ↦ neither (sym e) | inr e ↦ e ])
and_no false q = (λ e. inl refl, λ h. refl)

bad_window_lem : (w : Rect) → window_fine w ≡ false ↔ ((sides_fine w.x ≡ false) ⊎ (sides_fine w.y ≡ false))
unfolding window_fine
bad_window_lem w = and_no _ _

bad_sides : (i : Interval) → sides_fine i ≡ false ↔ ((side i.lo ≡ false) ⊎ ((side i.hi ≡ false) ⊎ (is_empty i ≡ true)))
unfolding sides_fine is_empty
bad_sides i = (
  λ e. go (side i.lo) (side i.hi) refl refl e,
  λ h. elim h [
    | inl e ↦ (and_no _ _).1 (inl ((and_no _ _).1 (inl e)))
    | inr (inl e) ↦ (and_no _ _).1 (inl ((and_no _ _).1 (inr e)))
    | inr (inr e) ↦ (and_no _ _).1 (inr (lt_not_le _ _ e))
  ],
)
  where
    go : (p q : Bool) → side i.lo ≡ p → side i.hi ≡ q → ((p and q) and le i.lo i.hi) ≡ false
        → (p ≡ false) ⊎ ((q ≡ false) ⊎ (lt i.hi i.lo ≡ true))
    go false q e f h = inl refl
    go true false e f h = inr (inl refl)
    go true true e f h = inr (inr (not_le _ _ (num _ e) (num _ f) (elim ((and_no _ _).0 h) [ inl k ↦ neither (sym (unfold when◌then◌else◌ in k)) | inr k ↦ k ])))
      where
        num : (x : Float) → side x ≡ true → Num x
        num x h = unfold side in finite_num x (test_finite x _ h)

pub numbers : Numbers
unfolding clipped
numbers = record {
  clip_edge = λ a b w. numbered _ _ _ _ (edge_told a b _);
  clip_edge_bound = λ a b w r. numbered _ _ _ _ (told _);
  clip_bound_axis = λ a0 b0 bound0 a1 b1 bound1 negative w. numbered _ _ _ _ (told _);
  update_endpoint = λ i high v. numbered _ _ _ _ (told _);
  edge_intersects_rect = λ a b w. never _ _ _;
  interpolate = λ x a b a1 b1. never _ _ _;
  bad_window_lem = bad_window_lem;
  bad_sides = bad_sides;
}
