-- An edge that only touches the window: when it is dropped, and that no other edge is.
use mathlib.Core.Path.{◌≡◌, refl, sym, ap, ◌∙◌}
use mathlib.Core.Logic.{◌⊎◌, inl, inr, ⊎_elim}
use native.Mathlib.Omega.{arith}
use mathlib.Core.Bool.{Bool, true, false, not, ◌&&◌, ◌||◌, true≢false, not-not}
use lib.Dec.{T}
use lib.Ieee.{Float, is_nan, lt, eq}
use Rattle.float.specs.Choice.{when◌then◌else◌, ◌and◌}
use Rattle.float.proofs.Choice.{then_is, else_is, and_parts}
use Rattle.float.proofs.Order.{Num, one_less}
use Rattle.std.specs.Prelude.{Ok, Err}
use Rattle.answer.specs.Refusal.{number}
use Rattle.answer.specs.declared.Refusal.{Refusal}
use Rattle.answer.specs.declared.Refusal.TheVariants.{Missed, NotFinite}
use Rattle.plane.specs.declared.point.Point.{Point}
use Rattle.plane.specs.declared.rect.Rect.{Rect}
use Rattle.clip.specs.Answers.{clipped}
use Rattle.clip.specs.Promises.{Fine}
use Rattle.clip.specs.Refuse.{point_fine}
use Rattle.clip.specs.declared.Segment.{Segment}
use Rattle.trace.specs.Inner.{Number, dropped}
use Rattle.trace.specs.Records.{is_refused}
use Rattle.trace.specs.Trace.{Clipped, same_point, touching, is_touch, untouched, edge_cut}
use Rattle.trace.proofs.OneEdge.{dead_refused, fine_not_refused}

-- what a test for the opposite says
pub unsaid : {b t : Bool} → not b ≡ t → b ≡ not t
unsaid {b} e = sym (not-not b) ∙ ap not e

-- ---- the test in code
is_num : (x : Float) → Number x → Num x
is_num x = go (is_nan x)
  where
    go : (t : Bool) → T (not t) → t ≡ false
    go false k = refl
    go true k = elim k [ ]

pub differs : (x y : Float) → Number x → Number y → (lt x y || lt y x) ≡ not (eq x y)
differs x y n m = one_less x y (is_num x n) (is_num y m)

-- the kept points, and then the ends: the first float that differs decides
module _ (touches : Bool) (a b : Point) (s : Segment) where
  pub wide : not (eq s.ax s.bx) ≡ true → false ≡ dropped touches a b s
  unfolding dropped touching when◌then◌else◌
  wide d =
      let x : eq s.ax s.bx ≡ false = unsaid d in
      rw x

  pub high : not (eq s.ax s.bx) ≡ false → not (eq s.ay s.by) ≡ true → false ≡ dropped touches a b s
  unfolding dropped touching when◌then◌else◌
  high d e =
      let x : eq s.ax s.bx ≡ true = unsaid d in
      let y : eq s.ay s.by ≡ false = unsaid e in
      rw (x, y)

  -- where the kept points are the same
  module _ (thin : not (eq s.ax s.bx) ≡ false) (flat : not (eq s.ay s.by) ≡ false) where
    one_point : dropped touches a b s ≡ (not (same_point a b) and not touches)
    unfolding dropped touching when◌then◌else◌
    one_point =
        let x : eq s.ax s.bx ≡ true = unsaid thin in
        let y : eq s.ay s.by ≡ true = unsaid flat in
        rw (x, y)

    pub ends_wide : not (eq a.x b.x) ≡ true → not touches ≡ dropped touches a b s
    unfolding when◌then◌else◌
    ends_wide d =
        let x : eq a.x b.x ≡ false = unsaid d in
        rw (one_point, x)

    pub ends_high : not (eq a.x b.x) ≡ false → (d : Bool) → d ≡ not (eq a.y b.y) → (d && not touches) ≡ dropped touches a b s
    unfolding when◌then◌else◌
    ends_high e d h =
        let x : eq a.x b.x ≡ true = unsaid e in
        rw (one_point, x, h) (both (not (eq a.y b.y)))
      where
        both : (t : Bool) → (t && not touches) ≡ (t and not touches)
        both true = unfold when◌then◌else◌ in refl
        both false = unfold when◌then◌else◌ in refl

-- ---- touches wanted or not, and one of them
stays : (wanted : Bool) (c : Clipped) → (when wanted then c else when false then Err Missed else c) ≡ c
unfolding when◌then◌else◌
stays true c = refl
stays false c = refl

goes : (wanted touch : Bool) (c : Clipped) → (when wanted then c else when touch then Err Missed else c) ≡ (when (touch and not wanted) then Err Missed else c)
unfolding when◌then◌else◌
goes true true c = refl
goes true false c = refl
goes false true c = refl
goes false false c = refl

module _ (touches : Bool) (a b : Point) (w : Rect) where
  -- ---- the edge's cut, by what `clip_edge` answers
  by_answer : {c : Clipped} → clipped a b w ≡ c → edge_cut touches w a b ≡ (when touches then c else when is_touch a b c then Err Missed else c)
  unfolding edge_cut untouched
  by_answer e = ap (λ (c : Clipped). when touches then c else when is_touch a b c then Err Missed else c) e

  pub of_refused : (x : Refusal) → clipped a b w ≡ Err x → edge_cut touches w a b ≡ Err x
  unfolding is_touch
  of_refused x e = by_answer e ∙ stays touches (Err x)

  of_kept : (s : Segment) → clipped a b w ≡ Ok s → edge_cut touches w a b ≡ (when dropped touches a b s then Err Missed else Ok s)
  unfolding is_touch dropped
  of_kept s e = by_answer e ∙ goes touches (touching a b s) (Ok s)

  pub of_drawn : (s : Segment) → clipped a b w ≡ Ok s → dropped touches a b s ≡ false → edge_cut touches w a b ≡ Ok s
  of_drawn s e d = of_kept s e ∙ sym (else_is _ _ _ _ d refl)

  pub of_dropped : (s : Segment) → clipped a b w ≡ Ok s → dropped touches a b s ≡ true → edge_cut touches w a b ≡ Err Missed
  of_dropped s e d = of_kept s e ∙ sym (then_is _ _ _ _ d refl)

  -- ---- so it is that answer, or it was kept and only touches, and counts as missed
  pub record Dropped : Type 0 where
    pub points : Segment
    pub kept : clipped a b w ≡ Ok points
    pub touch : touching a b points ≡ true
    pub unwanted : touches ≡ false
    pub missed : edge_cut touches w a b ≡ Err Missed

  pub drawn_or_dropped : (edge_cut touches w a b ≡ clipped a b w) ⊎ Dropped
  drawn_or_dropped = go (clipped a b w) refl
    where
      kept : (s : Segment) → clipped a b w ≡ Ok s → (d : Bool) → dropped touches a b s ≡ d → (edge_cut touches w a b ≡ clipped a b w) ⊎ Dropped
      kept s e true d =
          let h : (touching a b s and not touches) ≡ true = unfold dropped in d in
          let (t, n) = and_parts _ _ h in
          inr (record { points = s; kept = e; touch = t; unwanted = unsaid n; missed = of_dropped s e d })
      kept s e false d = inl (of_drawn s e d ∙ sym e)

      go : (c : Clipped) → clipped a b w ≡ c → (edge_cut touches w a b ≡ clipped a b w) ⊎ Dropped
      go (Ok s) e = kept s e (dropped touches a b s) refl
      go (Err x) e = inl (of_refused x e ∙ sym e)

  -- where touches are kept, or it is none
  pub not_dropped : (touches ≡ true) ⊎ (is_touch a b (clipped a b w) ≡ false) → edge_cut touches w a b ≡ clipped a b w
  not_dropped t = ⊎_elim (λ e. e) (λ d. absurd (denied d t)) drawn_or_dropped
    where
      denied : Dropped → (touches ≡ true) ⊎ (is_touch a b (clipped a b w) ≡ false) → ⊥
      denied d (inl e) = true≢false (sym e ∙ d.unwanted)
      denied d (inr e) = unfold is_touch in true≢false (sym d.touch ∙ sym (ap (is_touch a b) d.kept) ∙ e)

  -- where it is kept
  pub kept_drawn : number (edge_cut touches w a b) ≡ 0 → edge_cut touches w a b ≡ clipped a b w
  kept_drawn n = ⊎_elim (λ e. e) (λ d. absurd (omega (arith, ap number d.missed))) drawn_or_dropped

  -- ---- what stays of its refusal
  pub dead_edge : (point_fine a and point_fine b) ≡ false → Err NotFinite ≡ edge_cut touches w a b
  dead_edge d = sym (of_refused NotFinite (sym (dead_refused a b w d)))

  pub live_edge_lem : Fine a b w → is_refused (edge_cut touches w a b) ≡ false
  live_edge_lem f = go (clipped a b w) refl (fine_not_refused a b w f)
    where
      drop_or_not : (t : Bool) (s : Segment) → is_refused (when t then Err Missed else Ok s) ≡ false
      drop_or_not true s = unfold when◌then◌else◌ is_refused in refl
      drop_or_not false s = unfold when◌then◌else◌ is_refused in refl

      go : (c : Clipped) → clipped a b w ≡ c → is_refused c ≡ false → is_refused (edge_cut touches w a b) ≡ false
      go (Ok s) e h = ap is_refused (of_kept s e) ∙ drop_or_not (dropped touches a b s) s
      go (Err x) e h = ap is_refused (of_refused x e) ∙ h
