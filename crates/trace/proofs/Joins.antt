-- A trace cut at a sample: its cuts are those of the halves, joined, and so are records and counts.
use Prim.Native.Nat.{◌+◌, ◌%◌}
use native.Mathlib.Omega.{arith}
use mathlib.Core.Path.{◌≡◌, refl, sym, ap, ◌∙◌}
use mathlib.Core.Bool.{Bool}
use mathlib.Core.List.{List, [], ◌∷◌, ◌++◌}
use lib.Ieee.{Float}
use lib.ListN.{length, length-append}
use Rattle.plane.specs.Point.{at}
use Rattle.plane.specs.declared.point.Point.{Point}
use Rattle.plane.specs.declared.rect.Rect.{Rect}
use Rattle.record.proofs.Joined.{joined_append}
use Rattle.trace.specs.Trace.{Clipped, samples_of, edge_cut, cuts_from, cuts_of, trace_cuts}
use Rattle.trace.specs.Records.{cut_bytes, records_of, how_many}
use Rattle.trace.specs.Promises.{Joined}

pub samples_join : (fs gs : List Float) → length fs % 2 ≡ 0 → samples_of (fs ++ gs) ≡ samples_of fs ++ samples_of gs
unfolding samples_of
samples_join [] gs e = refl
samples_join (x ∷ []) gs e = absurd (omega arith)
samples_join (x ∷ y ∷ fs) gs e = ap (λ (ps : List Point). at x y ∷ ps) (samples_join fs gs (omega arith))

module _ (touches : Bool) (w : Rect) where
  from_join : (a : Point) (ps : List Point) (p : Point) (qs : List Point)
      → cuts_from touches w a (ps ++ (p ∷ qs)) ≡ cuts_from touches w a (ps ++ (p ∷ [])) ++ cuts_from touches w p qs
  unfolding cuts_from
  from_join a [] p qs = refl
  from_join a (b ∷ ps) p qs = ap (λ (cs : List Clipped). edge_cut touches w a b ∷ cs) (from_join b ps p qs)

  cuts_join : (ps : List Point) (p : Point) (qs : List Point)
      → cuts_of touches w (ps ++ (p ∷ qs)) ≡ cuts_of touches w (ps ++ (p ∷ [])) ++ cuts_of touches w (p ∷ qs)
  unfolding cuts_of cuts_from
  cuts_join [] p qs = refl
  cuts_join (a ∷ ps) p qs = from_join a ps p qs

  trace_join : (fs gs : List Float) (x y : Float) → length fs % 2 ≡ 0
      → trace_cuts touches w (fs ++ (x ∷ y ∷ gs)) ≡ trace_cuts touches w (fs ++ (x ∷ y ∷ [])) ++ trace_cuts touches w (x ∷ y ∷ gs)
  unfolding samples_of
  trace_join fs gs x y e =
      let p = at x y in
      let s = samples_join fs (x ∷ y ∷ gs) e in
      let t = samples_join fs (x ∷ y ∷ []) e in
      ap (cuts_of touches w) s ∙ cuts_join (samples_of fs) p (samples_of gs)
      ∙ ap (λ (ps : List Point). cuts_of touches w ps ++ cuts_of touches w (p ∷ samples_of gs)) (sym t)

counts_join : (is : Clipped → Bool) (cs ds : List Clipped) → how_many is (cs ++ ds) ≡ how_many is cs + how_many is ds
unfolding how_many
counts_join is [] ds = omega arith
counts_join is (c ∷ cs) ds = omega (arith, counts_join is cs ds)

joined : (all cs ds : List Clipped) → all ≡ cs ++ ds → Joined all cs ds
joined all cs ds e =
    record {
      records = λ whose. ap (records_of whose) e ∙ joined_append (cut_bytes whose) cs ds;
      counts = λ is. ap (how_many is) e ∙ counts_join is cs ds;
      edges = ap length e ∙ length-append cs ds;
    }

pub joins : (touches : Bool) (w : Rect) (fs gs : List Float) (x y : Float) → length fs % 2 ≡ 0
    → Joined (trace_cuts touches w (fs ++ (x ∷ y ∷ gs))) (trace_cuts touches w (fs ++ (x ∷ y ∷ []))) (trace_cuts touches w (x ∷ y ∷ gs))
joins touches w fs gs x y e = joined _ _ _ (trace_join touches w fs gs x y e)
