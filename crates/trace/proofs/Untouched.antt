-- A trace without touches beside the same with them: the records, and the counts.
use Prim.Native.Nat.{ℕ, ◌+◌, ◌<◌}
use native.Mathlib.Omega.{arith}
use mathlib.Core.Path.{◌≡◌, refl, sym, ap, subst, ◌∙◌}
use mathlib.Core.Logic.{◌↔◌, inl, inr}
use mathlib.Core.Bool.{Bool, true, false, not, true≢false}
use mathlib.Core.List.{List, [], ◌∷◌}
use lib.Ieee.{Float, eq}
use lib.ListN.{length, get_or}
use Rattle.float.specs.Choice.{when◌then◌else◌}
use Rattle.float.proofs.Choice.{else_is, and_parts, and_both}
use Rattle.float.proofs.Order.{le_trans, le_eq, eq_le}
use Rattle.std.specs.Prelude.{Result, Ok, Err}
use Rattle.answer.specs.Refusal.{number, value_or, ◌then◌}
use Rattle.answer.specs.declared.Refusal.{Refusal}
use Rattle.answer.specs.declared.Refusal.TheVariants.{Missed}
use Rattle.plane.specs.Interval.{from◌to◌, between}
use Rattle.plane.specs.Within.{In}
use Rattle.plane.specs.declared.point.Point.{Point}
use Rattle.plane.specs.declared.interval.Interval.{Interval}
use Rattle.plane.specs.declared.rect.Rect.{Rect}
use Rattle.plane.proofs.Between.{between_equal}
use Rattle.record.specs.Record.{record_at}
use Rattle.clip.specs.Answers.{clipped, points_of, first_of, second_of}
use Rattle.clip.specs.declared.Segment.{Segment}
use Rattle.clip.proofs.Promises.{promises}
use Rattle.trace.specs.Trace.{Clipped, samples_of, same_point, touching, is_touch, untouched, edge_cut, cuts_from, cuts_of}
use Rattle.trace.specs.Records.{cut_bytes, records_of, is_kept, is_missed, is_refused, how_many}
use Rattle.trace.specs.Refuse.{trace_refusal}
use Rattle.trace.specs.Answers.{counts_of, answer_of}
use Rattle.trace.specs.Promises.{sample_at, only_touches, touches_from, touches_of, Fewer, NoDot, Untouched}
use Rattle.trace.proofs.Touch.{not_dropped, kept_drawn}
use Rattle.trace.proofs.Own.{record_is, number_is}
use Rattle.trace.proofs.Cuts.{length_trace}

-- ---- one edge
module _ (w : Rect) (a b : Point) where
  with_them : edge_cut true w a b ≡ clipped a b w
  with_them = not_dropped true a b w (inl refl)

  -- of a kept edge the points tell
  points_tell : (s : Segment) → clipped a b w ≡ Ok s → only_touches w a b ≡ touching a b s
  unfolding is_touch
  points_tell s e = ap (is_touch a b) e

  -- a touch counts as missed
  touch_missed : only_touches w a b ≡ true → edge_cut false w a b ≡ Err Missed
  unfolding edge_cut untouched when◌then◌else◌
  touch_missed t = rw t

  touch_one : only_touches w a b ≡ true → number (edge_cut false w a b) ≡ 1
  touch_one t = ap number (touch_missed t)

  -- and is kept with touches
  touch_kept : only_touches w a b ≡ true → number (clipped a b w) ≡ 0
  touch_kept = go (clipped a b w)
    where
      go : (c : Clipped) → is_touch a b c ≡ true → number c ≡ 0
      go (Ok s) t = refl
      go (Err e) t = unfold is_touch in absurd (true≢false (sym t))

  -- anything else is the same
  other_same : only_touches w a b ≡ false → edge_cut false w a b ≡ edge_cut true w a b
  other_same t = not_dropped false a b w (inr t) ∙ sym with_them

-- a number between a and a number that compares equal
one_number : (a b x : Float) → eq a b ≡ true → In (between a b) x → (eq a x ≡ true) × (eq b x ≡ true)
one_number a b x e i =
    let j : In (from a to a) x = subst (λ (k : Interval). In k x) (between_equal a b e) i in
    let (p, q) = eq_le a b e in
    (le_eq a x j.low j.high, le_eq b x (le_trans b a x q j.low) (le_trans x a b j.high p))

-- kept as one point without touches: the edge is no touch, so its ends are one point, and the kept one lies in their box
one_point : (w : Rect) (a b : Point) → number (clipped a b w) ≡ 0 → edge_cut false w a b ≡ clipped a b w
    → let s = points_of (clipped a b w) in same_point (first_of s) (second_of s) ≡ true → (same_point a (first_of s) ≡ true) × (same_point b (first_of s) ≡ true)
one_point w a b m e t =
    let i = (promises.kept_points a b w _ (promises.zero_kept a b w m)).1.a in
    let (x, y) = and_parts _ _ (ends_same (same_point a b) refl) in
    let (ax, bx) = one_number a.x b.x _ x i.x in
    let (ay, by) = one_number a.y b.y _ y i.y in
    (and_both _ _ ax ay, and_both _ _ bx by)
  where
    ends_same : (u : Bool) → same_point a b ≡ u → same_point a b ≡ true
    ends_same true h = h
    ends_same false h =
        let s = points_of (clipped a b w) in
        let c = promises.zero_kept a b w m in
        let touch : touching a b s ≡ true = unfold touching in and_both _ _ t (ap not h) in
        let n : number (clipped a b w) ≡ 1 = ap number (sym e) ∙ touch_one w a b (points_tell w a b s c ∙ touch) in
        absurd (omega (arith, m))

module _ (whose : ℕ) (w : Rect) (ps : List Point) (k : ℕ) (there : k + 1 < length ps) where
  abbrev a : Point
  a = sample_at k ps

  abbrev b : Point
  b = sample_at (k + 1) ps

  abbrev shown : Bool → List ℕ
  shown touches = record_at k (records_of whose (cuts_of touches w ps))

  is : (touches : Bool) → shown touches ≡ cut_bytes whose (edge_cut touches w a b)
  is touches = record_is touches whose w ps k there

  -- byte 0 tells the two apart
  differ : only_touches w a b ≡ true → shown false ≡ shown true → ⊥
  differ t e =
      let z : number (edge_cut true w a b) ≡ 0 = ap number (with_them w a b) ∙ touch_kept w a b t in
      let m : number (edge_cut false w a b) ≡ 1 = touch_one w a b t in
      let n = sym (number_is false whose w ps k there) ∙ ap (λ (bs : List ℕ). get_or bs 0 0) e ∙ number_is true whose w ps k there in
      omega arith

  same : shown false ≡ shown true ↔ (only_touches w a b ≡ false)
  same = (λ e. go (only_touches w a b) refl e, λ t. is false ∙ ap (cut_bytes whose) (other_same w a b t) ∙ sym (is true))
    where
      go : (t : Bool) → only_touches w a b ≡ t → shown false ≡ shown true → only_touches w a b ≡ false
      go true t e = absurd (differ t e)
      go false t e = t

  no_dot : get_or (shown false) 0 0 ≡ 0 → NoDot whose a b (shown false)
  no_dot z =
      let n = sym (number_is false whose w ps k there) ∙ z in
      let e = kept_drawn false a b w n in
      let m : number (clipped a b w) ≡ 0 = ap number (sym e) ∙ n in
      let c = promises.zero_kept a b w m in
      record { points = points_of (clipped a b w); kept = is false ∙ ap (cut_bytes whose) (e ∙ c); single = one_point w a b m e }

  longer : (s : Segment) → clipped a b w ≡ Ok s → same_point (first_of s) (second_of s) ≡ false → shown false ≡ cut_bytes whose (Ok s)
  longer s e d =
      let none : touching a b s ≡ false = unfold touching in sym (else_is _ _ _ _ d refl) in
      is false ∙ ap (cut_bytes whose) (not_dropped false a b w (inr (points_tell w a b s e ∙ none)) ∙ e)

  pub untouched_record : Untouched whose w ps k a b
  untouched_record = record { same = same; missed = λ t. is false ∙ ap (cut_bytes whose) (touch_missed w a b t); no_dot = no_dot; longer = longer }

-- ---- the counts
-- of one edge: a touch is one kept fewer and one missed more
abbrev one : (Clipped → Bool) → Clipped → ℕ
one is c = when is c then 1 else 0

pub record FewerCuts (n : ℕ) (cs ds : List Clipped) : Type 0 where
  pub kept : how_many is_kept cs + n ≡ how_many is_kept ds
  pub missed : how_many is_missed cs ≡ how_many is_missed ds + n
  pub refused : how_many is_refused cs ≡ how_many is_refused ds

with_touch : (a b : Point) (c : Clipped) (t : Bool) → is_touch a b c ≡ t
    → (one is_kept (untouched a b c) + (when t then 1 else 0) ≡ one is_kept c)
    × (one is_missed (untouched a b c) ≡ one is_missed c + (when t then 1 else 0))
    × (one is_refused (untouched a b c) ≡ one is_refused c)
unfolding untouched is_touch is_kept is_missed is_refused when◌then◌else◌
with_touch a b (Ok s) true e = rw e (refl, refl, refl)
with_touch a b (Ok s) false e = rw e (refl, refl, refl)
with_touch a b (Err x) true e = absurd (true≢false (sym e))
with_touch a b (Err x) false e = (refl, omega arith, refl)

module _ (w : Rect) where
  fewer_from : (a : Point) (ps : List Point) → FewerCuts (touches_from w a ps) (cuts_from false w a ps) (cuts_from true w a ps)
  unfolding touches_from cuts_from how_many edge_cut when◌then◌else◌
  fewer_from a [] = record { kept = refl; missed = refl; refused = refl }
  fewer_from a (b ∷ ps) =
      let h = fewer_from b ps in
      let (k, m, r) = with_touch a b (clipped a b w) (only_touches w a b) refl in
      record { kept = omega (arith, k, h.kept); missed = omega (arith, m, h.missed); refused = omega (arith, r, h.refused) }

  fewer_cuts : (ps : List Point) → FewerCuts (touches_of w ps) (cuts_of false w ps) (cuts_of true w ps)
  unfolding touches_of cuts_of how_many
  fewer_cuts [] = record { kept = refl; missed = refl; refused = refl }
  fewer_cuts (a ∷ ps) = fewer_from a ps

-- they are the answers' where nothing is refused, and else all are zeros
fewer_beside : (r : Result (Unit {0}) Refusal) (n : ℕ) (cs ds : List Clipped) → FewerCuts n cs ds → length cs ≡ length ds
    → Fewer (value_or 0 (r then Ok n)) (r then Ok (counts_of cs)) (r then Ok (counts_of ds))
fewer_beside (Ok x) n cs ds h l = record { number = refl; kept = h.kept; missed = h.missed; refused = h.refused; edges = l }
fewer_beside (Err e) n cs ds h l = record { number = refl; kept = refl; missed = refl; refused = refl; edges = refl }

pub fewer : (fs : List Float) (w : Rect) (bytes : ℕ)
    → Fewer (value_or 0 (trace_refusal fs w bytes then Ok (touches_of w (samples_of fs)))) (answer_of false fs w bytes) (answer_of true fs w bytes)
fewer fs w bytes =
    fewer_beside (trace_refusal fs w bytes) (touches_of w (samples_of fs)) _ _ (fewer_cuts w (samples_of fs)) (length_trace false w fs ∙ sym (length_trace true w fs))
