-- What is promised of a single edge, said of record k, which is that edge's: an own end in the window is in it as it was, each cut value lies between the edge's own coordinates, and a kept point that was cut is near the line.
use Prim.Native.Nat.{ℕ, ◌+◌, ◌≤◌}
use mathlib.Core.Path.{◌≡◌, sym, ap, ◌∙◌}
use mathlib.Core.Logic.{◌⊎◌, inl, inr}
use mathlib.Core.Bool.{Bool, true, false}
use mathlib.Core.List.{List, [], ◌∷◌}
use lib.ListN.{get_or}
use Rattle.answer.specs.Refusal.{number}
use Rattle.plane.specs.Rect.{box_of}
use Rattle.plane.specs.Within.{InRect}
use Rattle.plane.specs.declared.point.Point.{Point}
use Rattle.plane.specs.declared.rect.Rect.{Rect}
use Rattle.clip.specs.Answers.{clipped, points_of, first_of, second_of}
use Rattle.clip.specs.Values.{every, OwnAsks}
use Rattle.clip.specs.Near.{within}
use Rattle.clip.specs.Promises.{Fine}
use Rattle.clip.proofs.Promises.{promises}
use Rattle.trace.specs.Trace.{Clipped, edge_cut, cuts_of}
use Rattle.trace.specs.Records.{cut_bytes, records_of}
use Rattle.record.specs.Record.{record_at}
use Rattle.trace.specs.Promises.{sample_at, only_touches, LiveEdge, KeptEnds, KeptNear}
use Rattle.trace.proofs.OneEdge.{fine_edge}
use Rattle.trace.proofs.Touch.{not_dropped, kept_drawn}
use Rattle.trace.proofs.Own.{record_is, number_is}

module _ (w : Rect) (ps : List Point) (k : ℕ) (l : LiveEdge w ps k) where
  abbrev a : Point
  a = sample_at k ps

  abbrev b : Point
  b = sample_at (k + 1) ps

  fine : Fine a b w
  fine = fine_edge a b w l.window l.samples

  zero : InRect w a ⊎ InRect w b → number (clipped a b w) ≡ 0
  zero (inl i) = ap number (promises.a_kept a b w l.floats fine i).1
  zero (inr i) = ap number (promises.b_kept a b w l.floats fine i).1

  pub end_kept : (touches : Bool) (whose : ℕ) → InRect w a ⊎ InRect w b → (touches ≡ true) ⊎ (only_touches w a b ≡ false)
      → KeptEnds whose w a b (record_at k (records_of whose (cuts_of touches w ps)))
  end_kept touches whose i t =
      record {
        points = points_of (clipped a b w);
        kept = record_is touches whose w ps k l.there ∙ ap (cut_bytes whose) (not_dropped touches a b w t ∙ promises.zero_kept a b w (zero i));
        first = λ j. let (s, e, h) = promises.a_kept a b w l.floats fine j in ap (λ (c : Clipped). first_of (points_of c)) e ∙ h;
        second = λ j. let (s, e, h) = promises.b_kept a b w l.floats fine j in ap (λ (c : Clipped). second_of (points_of c)) e ∙ h;
      }

pub own_asks : (touches : Bool) (whose : ℕ) (w : Rect) (ps : List Point) (k : ℕ) → LiveEdge w ps k
    → let a = sample_at k ps in let b = sample_at (k + 1) ps in
    (record_at k (records_of whose (cuts_of touches w ps)) ≡ cut_bytes whose (edge_cut touches w a b)) × OwnAsks a b w (box_of a b)
own_asks touches whose w ps k l = (record_is touches whose w ps k l.there, promises.values.edge_own_asks _ _ w l.floats (fine w ps k l))

pub kept_near : (touches : Bool) (whose : ℕ) (w : Rect) (ps : List Point) (i : ℕ) → LiveEdge w ps i → (k : ℕ) → k ≤ 500
    → let a = sample_at i ps in let b = sample_at (i + 1) ps in
    every (within k) (a.x ∷ a.y ∷ b.x ∷ b.y ∷ []) ≡ true → get_or (record_at i (records_of whose (cuts_of touches w ps))) 0 0 ≡ 0
    → KeptNear whose k w a b (record_at i (records_of whose (cuts_of touches w ps)))
kept_near touches whose w ps i l k few within_k z =
    let a = sample_at i ps in
    let b = sample_at (i + 1) ps in
    let n = sym (number_is touches whose w ps i l.there) ∙ z in
    let e = kept_drawn touches a b w n in
    let m : number (clipped a b w) ≡ 0 = ap number (sym e) ∙ n in
    let c = promises.zero_kept a b w m in
    let (p, q) = promises.near.kept_near k few a b w l.floats within_k _ c in
    record { points = points_of (clipped a b w); kept = record_is touches whose w ps i l.there ∙ ap (cut_bytes whose) (e ∙ c); first = p; second = q }
