-- The record of an edge is that of its own two samples, and 2 exactly when one of them is dead.
use Prim.Native.Nat.{ℕ, zero, suc, ◌+◌, ◌*◌, ◌≤◌, ◌<◌}
use native.Mathlib.Omega.{arith}
use native.Mathlib.Numerals.{add-one}
use mathlib.Core.Path.{◌≡◌, refl, sym, ap, ◌∙◌}
use mathlib.Core.Logic.{◌↔◌, ◌⊎◌, inl, inr}
use mathlib.Core.Bool.{Bool, true, false}
use mathlib.Core.List.{List, [], ◌∷◌, append-nil}
use lib.Dec.{ltb}
use lib.ListN.{length, take, get_or, set, length-set, drop_of_length-le}
use lib.Seq.{take-nil, get_or-set_other}
use Rattle.float.specs.Choice.{◌and◌}
use borrow.Author.Tests.{ltb-true, ltb-false}
use Rattle.answer.specs.Refusal.{number}
use Rattle.plane.specs.Point.{origin}
use Rattle.plane.specs.declared.point.Point.{Point}
use Rattle.plane.specs.declared.rect.Rect.{Rect}
use Rattle.record.specs.Record.{head_bytes, record_bytes, joined, record_at}
use Rattle.record.proofs.Joined.{first_record, next_record}
use Rattle.clip.specs.Refuse.{point_fine}
use Rattle.clip.specs.Answers.{clipped}
use Rattle.trace.specs.Trace.{Clipped, edge_cut, cuts_from, cuts_of}
use Rattle.trace.specs.Records.{cut_bytes, records_of}
use Rattle.trace.specs.Promises.{sample_at}
use Rattle.trace.proofs.OneEdge.{live}
use Rattle.trace.proofs.Touch.{Dropped, drawn_or_dropped, dead_edge}
use Rattle.trace.proofs.Cuts.{length_cuts, length_cut, length_records}

-- ---- record k
module _ (touches : Bool) (whose : ℕ) (w : Rect) where
  of_first : (c : Clipped) (cs : List Clipped) → record_at 0 (records_of whose (c ∷ cs)) ≡ cut_bytes whose c
  of_first c cs = rw append-nil at (first_record (cut_bytes whose) (length_cut whose) [] c cs)

  of_next : (k : ℕ) (c : Clipped) (cs : List Clipped) → record_at (suc k) (records_of whose (c ∷ cs)) ≡ record_at k (records_of whose cs)
  of_next k c cs = simp append-nil at (next_record (cut_bytes whose) (length_cut whose) [] k c cs)

  record_from : (a : Point) (ps : List Point) (k : ℕ) → k < length ps
      → record_at k (records_of whose (cuts_from touches w a ps)) ≡ cut_bytes whose (edge_cut touches w (sample_at k (a ∷ ps)) (sample_at k ps))
  unfolding cuts_from
  record_from a [] k h = absurd (omega arith)
  record_from a (b ∷ ps) zero h = of_first _ _
  record_from a (b ∷ ps) (suc k) h = of_next k _ _ ∙ record_from b ps k (omega arith)

  pub record_is : (ps : List Point) (k : ℕ) → k + 1 < length ps
      → record_at k (records_of whose (cuts_of touches w ps)) ≡ cut_bytes whose (edge_cut touches w (sample_at k ps) (sample_at (k + 1) ps))
  unfolding cuts_of
  record_is [] k h = absurd (omega arith)
  record_is (a ∷ ps) k h = rw (add-one k) (record_from a ps k (omega arith))

  pub own_samples : (ps : List Point) (k : ℕ) → k + 1 < length ps
      → record_at k (records_of whose (cuts_of touches w ps)) ≡ records_of whose (cuts_of touches w (sample_at k ps ∷ sample_at (k + 1) ps ∷ []))
  unfolding cuts_of cuts_from joined
  own_samples ps k h = record_is ps k h ∙ sym (append-nil _)

  no_record : (ps : List Point) (k : ℕ) → length ps ≤ k + 1 → record_at k (records_of whose (cuts_of touches w ps)) ≡ []
  no_record ps k h =
      let l : length (records_of whose (cuts_of touches w ps)) ≤ k * 40 = omega (arith, length_records whose (cuts_of touches w ps), length_cuts touches w ps) in
      ap (take 40) (drop_of_length-le (records_of whose (cuts_of touches w ps)) l) ∙ take-nil 40

  -- another sample elsewhere
  pub two_at_most : (ps : List Point) (i : ℕ) (p : Point) (k : ℕ) → (k ≡ i → ⊥) → (k + 1 ≡ i → ⊥)
      → record_at k (records_of whose (cuts_of touches w (set ps i p))) ≡ record_at k (records_of whose (cuts_of touches w ps))
  two_at_most ps i p k n m = go (ltb (k + 1) (length ps)) refl
    where
      l : length (set ps i p) ≡ length ps
      l = length-set ps i p

      go : (b : Bool) → ltb (k + 1) (length ps) ≡ b → record_at k (records_of whose (cuts_of touches w (set ps i p))) ≡ record_at k (records_of whose (cuts_of touches w ps))
      go true e =
          let h : k + 1 < length ps = ltb-true _ _ e in
          let here = get_or-set_other ps i k p origin n in
          let next = get_or-set_other ps i (k + 1) p origin m in
          record_is (set ps i p) k (omega (arith, l)) ∙ rw (here, next) (sym (record_is ps k h))
      go false e =
          let h : length ps ≤ k + 1 = ltb-false _ _ e in
          no_record (set ps i p) k (omega (arith, l)) ∙ sym (no_record ps k h)

-- ---- dead samples
live_number : (a b : Point) (w : Rect) → (point_fine a and point_fine b) ≡ true → number (clipped a b w) ≡ 2 → ⊥
live_number a b w p = live (λ c. number c ≡ 2 → ⊥) a b w p (λ s e. omega arith) (λ e. omega arith) (λ e. omega arith)

edge_dead : (touches : Bool) (w : Rect) (a b : Point) → (number (edge_cut touches w a b) ≡ 2) ↔ ((point_fine a and point_fine b) ≡ false)
edge_dead touches w a b = (go (point_fine a and point_fine b) refl (drawn_or_dropped touches a b w), λ e. sym (ap number (dead_edge touches a b w e)))
  where
    go : (t : Bool) → (point_fine a and point_fine b) ≡ t → (edge_cut touches w a b ≡ clipped a b w) ⊎ Dropped touches a b w → number (edge_cut touches w a b) ≡ 2 → (point_fine a and point_fine b) ≡ false
    go true p (inl d) e = absurd (live_number a b w p (sym (ap number d) ∙ e))
    go true p (inr d) e = absurd (omega (arith, ap number d.missed))
    go false p d e = p

first_byte : (whose : ℕ) (c : Clipped) → get_or (cut_bytes whose c) 0 0 ≡ number c
unfolding record_bytes head_bytes
first_byte whose c = refl

-- byte 0 of record k is its edge's number
pub number_is : (touches : Bool) (whose : ℕ) (w : Rect) (ps : List Point) (k : ℕ) → k + 1 < length ps
    → get_or (record_at k (records_of whose (cuts_of touches w ps))) 0 0 ≡ number (edge_cut touches w (sample_at k ps) (sample_at (k + 1) ps))
number_is touches whose w ps k h = ap (λ (bs : List ℕ). get_or bs 0 0) (record_is touches whose w ps k h) ∙ first_byte whose _

pub dead : (touches : Bool) (whose : ℕ) (w : Rect) (ps : List Point) (k : ℕ) → k + 1 < length ps
    → (get_or (record_at k (records_of whose (cuts_of touches w ps))) 0 0 ≡ 2) ↔ ((point_fine (sample_at k ps) and point_fine (sample_at (k + 1) ps)) ≡ false)
dead touches whose w ps k h =
    let e = number_is touches whose w ps k h in
    let (p, q) = edge_dead touches w (sample_at k ps) (sample_at (k + 1) ps) in
    (λ f. p (sym e ∙ f), λ f. e ∙ q f)
