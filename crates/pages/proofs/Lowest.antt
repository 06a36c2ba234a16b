-- What the full scan finds, beside what `cut_trace_with_touches` answers and leaves: the lowest of the records that say kept.
use Prim.Native.Nat.{ℕ, zero, suc, ◌+◌, ◌-◌, ◌≤◌, ◌<◌}
use native.Mathlib.Omega.{arith}
use mathlib.Core.Path.{◌≡◌, refl, sym, ap, subst, ◌∙◌}
use mathlib.Core.Logic.{inl, inr, ◌↔◌}
use mathlib.Core.Bool.{Bool, true, false, true≢false}
use mathlib.Core.List.{List, [], ◌∷◌}
use lib.Ieee.{Float}
use lib.ListN.{length, get_or}
use Rattle.float.specs.Choice.{when◌then◌else◌}
use Rattle.float.proofs.Whole.{le_or_lt}
use Rattle.plane.specs.declared.point.Point.{Point}
use Rattle.plane.specs.declared.rect.Rect.{Rect}
use Rattle.std.specs.Prelude.{Option, None, Some, Ok}
use Rattle.answer.specs.Refusal.{number, value_or, done}
use Rattle.record.specs.Record.{record_at}
use Rattle.clip.proofs.Promises.{promises}
use Rattle.trace.specs.Trace.{Clipped, samples_of, edge_cut, trace_cuts}
use Rattle.trace.specs.Records.{is_kept, how_many}
use Rattle.trace.specs.Refuse.{trace_refusal}
use Rattle.trace.specs.Answers as trace
use Rattle.trace.specs.Promises.{sample_at}
use Rattle.trace.proofs.Cuts.{length_samples, length_trace}
use Rattle.trace.proofs.Own.{number_is}
use Rattle.trace.proofs.Promises as trace_proofs
use Rattle.pages.specs.Search.{kept_at}
use Rattle.pages.specs.Answers.{edge_count}
use Rattle.pages.specs.Promises.{first_kept, Scanned}
use Rattle.trace.specs.declared.Counts.{Counts}
use Rattle.pages.proofs.Scan.{kept_cut, first_from, scan_is}
use Rattle.pages.proofs.Going.{with_touches}
use Rattle.pages.proofs.Exits.{taken}

-- ---- of a list of cuts: none exactly when none is kept
first_none : (k : ℕ) (cs : List Clipped) → (first_kept k cs ≡ None) ↔ (how_many is_kept cs ≡ 0)
unfolding first_kept how_many
first_none k [] = (λ e. refl, λ e. refl)
first_none k (c ∷ cs) = go (is_kept c) (first_none (suc k) cs)
  where
    go : (t : Bool) → (first_kept (suc k) cs ≡ None) ↔ (how_many is_kept cs ≡ 0)
        → ((when t then Some k else first_kept (suc k) cs) ≡ None) ↔ ((when t then 1 else 0) + how_many is_kept cs ≡ 0)
    go true e = unfold when◌then◌else◌ in (λ h. cc, λ h. absurd (omega arith))
    go false (f, g) = unfold when◌then◌else◌ in (λ h. omega (arith, f h), λ h. g (omega arith))

-- ---- what is found is one of them and kept, and none before it is
pub record Lowest (w : Rect) (ps : List Point) (k n : ℕ) (hit : Option ℕ) : Type 0 where
  pub among : (j : ℕ) → hit ≡ Some j → j < k + n
  pub kept : (j : ℕ) → hit ≡ Some j → kept_at w ps j ≡ true
  pub lowest : (j : ℕ) → hit ≡ Some j → (i : ℕ) → k ≤ i → i < j → kept_at w ps i ≡ false

module _ (w : Rect) (ps : List Point) where
  step : (k n : ℕ) (rest : Option ℕ) (t : Bool) → kept_at w ps k ≡ t → Lowest w ps (suc k) n rest → Lowest w ps k (suc n) (when t then Some k else rest)
  unfolding when◌then◌else◌
  step k n rest true e f =
      record {
        among = λ j z. let q : k ≡ j = cc in omega arith;
        kept = λ j z. let q : k ≡ j = cc in subst (λ (i : ℕ). kept_at w ps i ≡ true) q e;
        lowest = λ j z i l u. let q : k ≡ j = cc in absurd (omega arith);
      }
  step k n rest false e f =
      record {
        among = λ j z. omega (arith, f.among j z);
        kept = f.kept;
        lowest = λ j z i l u. elim (le_or_lt (suc k) i) [ inl m ↦ f.lowest j z i m u | inr m ↦ let g : i ≡ k = omega arith in ap (kept_at w ps) g ∙ e ];
      }

  lowest_from : (k n : ℕ) → Lowest w ps k n (first_from w ps k n)
  unfolding first_from
  lowest_from k zero = record { among = λ j e. cc; kept = λ j e. cc; lowest = λ j e. cc }
  lowest_from k (suc n) = step k n (first_from w ps (suc k) n) (kept_at w ps k) refl (lowest_from (suc k) n)

-- ---- beside `cut_trace_with_touches`
module _ (fs : List Float) (w : Rect) (whose : ℕ) (ys : List ℕ) (n : Counts) (hit : Option ℕ)
    (is : hit ≡ first_kept 0 (trace_cuts true w fs)) (fine : trace.answer_of true fs w (length ys) ≡ Ok n) where
  abbrev ps : List Point
  ps = samples_of fs

  own : Lowest w ps 0 (length ps - 1) hit
  own = subst (Lowest w ps 0 (length ps - 1)) (scan_is w ps ∙ sym is) (lowest_from w ps 0 (length ps - 1))

  answered : (trace_refusal fs w (length ys) ≡ done) × (trace.counts_of (trace_cuts true w fs) ≡ n)
  answered = taken (trace_refusal fs w (length ys)) (trace.counts_of (trace_cuts true w fs)) n fine

  none_kept : (hit ≡ None) ↔ (n.kept ≡ 0)
  none_kept =
      let (f, g) = first_none 0 (trace_cuts true w fs) in
      (λ e. rw (← answered.1) (f (sym is ∙ e)), λ e. is ∙ g (rw (← answered.1) at e))

  -- byte 0 of the record of an edge that is there
  byte_is : (k : ℕ) → k < edge_count (length fs)
      → get_or (record_at k (trace.buffer_after true ys fs w whose)) 0 0 ≡ number (edge_cut true w (sample_at k ps) (sample_at (k + 1) ps))
  byte_is k h =
      let there : k < (value_or trace.no_edges (trace.answer_of true fs w (length ys))).edges = rw answered.0 (omega (arith, h, length_trace true w fs)) in
      ap (λ (bs : List ℕ). get_or bs 0 0) (((trace_proofs.promises).lent true ys fs w).records whose k there)
      ∙ number_is true whose w ps k (omega (arith, length_samples fs))

  there : (k : ℕ) → hit ≡ Some k → k < edge_count (length fs)
  there k z = omega (arith, own.among k z, length_samples fs)

  -- a record says kept where the edge is
  says_kept : (k : ℕ) → k < edge_count (length fs) → kept_at w ps k ≡ true → get_or (record_at k (trace.buffer_after true ys fs w whose)) 0 0 ≡ 0
  unfolding kept_at
  says_kept k h e = let (s, c) = kept_cut _ e in byte_is k h ∙ ap number c

  said_kept : (k : ℕ) → k < edge_count (length fs) → get_or (record_at k (trace.buffer_after true ys fs w whose)) 0 0 ≡ 0 → kept_at w ps k ≡ true
  unfolding kept_at is_kept
  said_kept k h e =
      let a = sample_at k ps in
      let b = sample_at (k + 1) ps in
      let c = with_touches w a b in
      ap is_kept (c ∙ promises.zero_kept a b w (sym (ap number c) ∙ sym (byte_is k h) ∙ e))

  pub scanned : Scanned fs w whose ys n hit
  scanned =
      record {
        none_kept = none_kept;
        there = there;
        kept = λ k z. says_kept k (there k z) (own.kept k z);
        lowest = λ k z j l e. true≢false (sym (said_kept j (omega (arith, there k z)) e) ∙ own.lowest k z j (omega arith) l);
      }
