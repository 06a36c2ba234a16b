-- What specs/Promises.antt promises, proved.
use Prim.Native.Nat.{ℕ, ◌+◌, ◌*◌, ◌/◌, ◌%◌, ◌≤◌, ◌<◌}
use native.Mathlib.Omega.{arith}
use mathlib.Core.Path.{◌≡◌, refl, sym, ap, subst, ◌∙◌}
use mathlib.Core.Logic.{inl, inr}
use mathlib.Core.Bool.{Bool, true, false, true≢false}
use mathlib.Core.List.{List, [], ◌∷◌, ◌++◌}
use lib.Dec.{eqb, leb}
use lib.Ieee.{Float}
use lib.ListN.{length, drop, length-append, length-drop, get_or-append}
use lib.Seq.{length-take-le, get_or-drop, get_or-take, get_or-append_seam}
use borrow.Author.Tests.{le-leb}
use Rattle.float.specs.Choice.{◌and◌}
use Rattle.float.proofs.Whole.{le_or_lt}
use Rattle.std.specs.Prelude.{Result, Ok, Err}
use Rattle.answer.specs.Refusal.{done}
use Rattle.answer.specs.declared.Refusal.{Refusal}
use Rattle.plane.specs.Point.{at, origin}
use Rattle.plane.specs.declared.point.Point.{Point}
use Rattle.plane.specs.declared.rect.Rect.{Rect}
use Rattle.record.specs.Record.{record_at}
use Rattle.clip.specs.Answers.{whole}
use Rattle.trace.specs.Trace.{samples_of, cuts_of}
use Rattle.trace.specs.Records.{cut_bytes, records_of}
use Rattle.trace.specs.Promises.{sample_at}
use Rattle.trace.specs.Refuse.{trace_fine}
use Rattle.trace.proofs.Joins.{samples_join}
use Rattle.stretch.specs.Longest.{clean}
use Rattle.stretch.specs.Answers.{stretch_refusal, longest_stretch, stretch_of, no_stretch, stretch_or_none}
use Rattle.stretch.specs.Promises.{AllClean, LongestClean, Part, Promises}
use Rattle.stretch.specs.declared.Stretch.{Stretch}
use Rattle.stretch.proofs.Runs.{none_clean, longest_clean, longest_most, earliest_least, the_longest}
use Rattle.stretch.proofs.Clean.{clean_is, dead_not_clean}
use Rattle.stretch.proofs.Drawn.{drawn}
use Rattle.stretch.proofs.Answered.{fine_window, not_refused, answered, within}

module _ (w : Rect) (fs : List Float) where
  abbrev ps : List Point
  ps = samples_of fs

  longest_is : LongestClean w fs (longest_stretch fs w)
  longest_is =
      record {
        all_clean_lem = longest_clean w ps;
        no_longer = longest_most w ps;
        none_earlier = earliest_least w ps;
        empty_at_start = λ e. omega (arith, earliest_least w ps 0 (subst (AllClean w ps 0) (sym e) (none_clean w ps)));
      }

  stretch : (s : Stretch) → stretch_of fs w ≡ Ok s → LongestClean w fs s
  stretch s e = rw (answered fs w s e).1 longest_is

  refused_empty : (e : Refusal) → stretch_refusal (length fs) w ≡ Err e → (stretch_of fs w ≡ Err e) × (stretch_or_none fs w ≡ no_stretch)
  refused_empty e r = rw r (refl, refl)

  part : Part fs (stretch_or_none fs w)
  part =
      let s = stretch_or_none fs w in
      let room : 2 * s.first + 2 * s.count ≤ length fs = within fs w _ s refl refl in
      record {
        within = omega arith;
        pairs = length-take-le (2 * s.count) (drop (2 * s.first) fs) (omega (arith, length-drop (2 * s.first) fs));
        own = λ j o h. get_or-take (2 * s.count) (drop (2 * s.first) fs) j o h ∙ get_or-drop (2 * s.first) fs j o;
      }

  only : (s : Stretch) → stretch_refusal (length fs) w ≡ done → LongestClean w fs s → stretch_of fs w ≡ Ok s
  only s d r =
      let (f, c) = the_longest w ps s.first s.count r.all_clean_lem r.no_longer r.none_earlier in
      rw (d, f, c) refl

  edges_drawn : (s : Stretch) → stretch_of fs w ≡ Ok s → (touches : Bool) (whose k : ℕ) → s.first ≤ k → k + 1 < s.first + s.count
      → record_at k (records_of whose (cuts_of touches w ps)) ≡ cut_bytes whose (Ok (whole (sample_at k ps) (sample_at (k + 1) ps)))
  edges_drawn s e = drawn w (fine_window fs w (answered fs w s e).0) ps s.first s.count (stretch s e).all_clean_lem

-- ---- a sample that is not clean, added at the end
module _ (w : Rect) (qs : List Point) (p : Point) (not_clean : clean w p ≡ false) where
  abbrev more : List Point
  more = qs ++ (p ∷ [])

  length_more : length more ≡ length qs + 1
  length_more = length-append qs (p ∷ [])

  kept : (j : ℕ) → j < length qs → sample_at j more ≡ sample_at j qs
  kept j h = get_or-append qs (p ∷ []) origin j h

  run_stays : (i n : ℕ) → AllClean w qs i n → AllClean w more i n
  run_stays i n a =
      record { there = omega (arith, a.there, length_more); each = λ j l h. subst (λ (q : Point). clean w q ≡ true) (sym (kept j (omega (arith, a.there)))) (a.each j l h) }

  -- no clean run has it
  run_before : (i n : ℕ) → 0 < n → AllClean w more i n → AllClean w qs i n
  run_before i n s a =
      elim (le_or_lt (i + n) (length qs)) [
        | inl g ↦ record { there = g; each = λ j l h. subst (λ (q : Point). clean w q ≡ true) (kept j (omega arith)) (a.each j l h) }
        | inr g ↦ absurd (true≢false (sym (a.each (length qs) (omega (arith, a.there, length_more)) (omega arith)) ∙ ap (clean w) (get_or-append_seam qs p [] origin) ∙ not_clean))
      ]

module _ (w : Rect) (fs : List Float) (x y : Float) (few : length fs + 2 ≤ 2 * 4096) (not_clean : clean w (at x y) ≡ false) where
  abbrev longer : List Float
  longer = fs ++ (x ∷ y ∷ [])

  length_longer : length longer ≡ length fs + 2
  length_longer = length-append fs (x ∷ y ∷ [])

  same_fine : trace_fine (length longer) ≡ trace_fine (length fs)
  same_fine =
      let odd : length longer % 2 ≡ length fs % 2 = omega (arith, length_longer) in
      let l = le-leb (length longer / 2) 4096 (omega (arith, length_longer)) in
      let m = le-leb (length fs / 2) 4096 (omega arith) in
      ap (λ (n : ℕ). eqb n 0 and leb (length longer / 2) 4096) odd ∙ ap (λ (t : Bool). eqb (length fs % 2) 0 and t) (l ∙ sym m)

  same_refusal : stretch_refusal (length longer) w ≡ stretch_refusal (length fs) w
  same_refusal = rw same_fine refl

  -- where nothing is refused the samples are those of before and one more
  with_one : length fs % 2 ≡ 0 → (s : Stretch) → LongestClean w fs s → LongestClean w longer s
  with_one even s old =
      let qs = samples_of fs in
      let e : samples_of longer ≡ qs ++ (at x y ∷ []) = unfold samples_of in samples_join fs (x ∷ y ∷ []) even in
      let before = run_before w qs (at x y) not_clean in
      record {
        all_clean_lem = subst (λ (ps : List Point). AllClean w ps s.first s.count) (sym e) (run_stays w qs (at x y) not_clean _ _ old.all_clean_lem);
        no_longer = λ i n a.
            elim (le_or_lt n 0)
            [ inl h ↦ omega arith | inr h ↦ old.no_longer i n (before i n h (subst (λ (ps : List Point). AllClean w ps i n) e a)) ];
        none_earlier = λ i a.
            elim (le_or_lt s.count 0)
            [ inl h ↦ omega (arith, old.empty_at_start (omega arith)) | inr h ↦ old.none_earlier i (before i s.count h (subst (λ (ps : List Point). AllClean w ps i s.count) e a)) ];
        empty_at_start = old.empty_at_start;
      }

  not_clean_last : stretch_of longer w ≡ stretch_of fs w
  not_clean_last = go (stretch_refusal (length fs) w) refl
    where
      go : (r : Result (Unit {0}) Refusal) → stretch_refusal (length fs) w ≡ r → stretch_of longer w ≡ stretch_of fs w
      go (Err e) d = rw (same_refusal, d) refl
      go (Ok z) d =
          only w longer (longest_stretch fs w) (same_refusal ∙ d) (with_one (not_refused fs w d).even _ (longest_is w fs)) ∙ rw d refl

pub promises : Promises
promises = record { clean_is = clean_is; stretch = stretch; refused_empty = refused_empty; part = part; only = only; drawn = edges_drawn; not_clean_last = not_clean_last; dead_not_clean = dead_not_clean }
