-- `put_records` stores the records of the edges, and counts the edges.
use Prim.Native.Nat.{◌+◌, ◌≤◌, ◌<◌}
use mathlib.Core.Path.{◌∙◌}
use native.Mathlib.Omega.{arith}
use lib.ListN.{length}
use Rattle.record.proofs.Words.{length_record}
use Rattle.trace.specs.Trace.{samples_of}
use Rattle.trace.proofs.Cuts.{length_samples, length_cut}
use Rattle.trace.proofs.OneEdge.{fine_edge}
use Rattle.trace.proofs.Writing.{Written, zeros, none_written, both, begins, fits_here, place_length, in_place, past_live, past_dead, all_counted, all_written}
use Rattle.trace.proofs.Chart.put_records.Goals.{then-live-b_live, else-live-b_live}
use Rattle.trace.proofs.Chart.put_records.Goals as goal

pub returns-then-edges-eq0 : goal.returns-then-edges-eq0
returns-then-edges-eq0 c =
    let (r, b) = none_written c.args.self _ _ (omega (arith, length_samples c.args.samples.now, c.edge_count-edges.ensures, c.if-edges-eq0.true)) in
    record { counts = zeros _ c.default.ensures ∙ r; bytes = b }

pub loop-k-init : goal.loop-k-init
loop-k-init c = record { live = c.point_fine-live.ensures; written = begins _ _ _ (omega (arith, length_samples c.args.samples.now, c.edge_count-edges.ensures)) _ c.sample_at-a.ensures }

pub slice_bounds-place-end : goal.slice_bounds-place-end
slice_bounds-place-end c =
    let more : c.loop-k.k + 1 < length (samples_of c.args.samples.now) = omega (arith, length_samples c.args.samples.now, c.edge_count-edges.ensures, c.loop-k-test.true) in
    fits_here c.requires.room c.loop-k.invariant.written more

pub put_edge-kept-requires : goal.put_edge-kept-requires
put_edge-kept-requires c =
    let more : c.loop-k.k + 1 < length (samples_of c.args.samples.now) = omega (arith, length_samples c.args.samples.now, c.edge_count-edges.ensures, c.loop-k-test.true) in
    (fine_edge _ _ _ c.requires.fine (both _ _ _ _ c.loop-k.invariant.live c.point_fine-b_live.ensures ∙ c.if-live-b_live.true), omega (arith, c.loop-k.invariant.written.few, c.edge_count-edges.ensures, c.requires.few, c.loop-k-test.true), place_length c.requires.room c.loop-k.invariant.written more)

pub put_zeros-requires : goal.put_zeros-requires
put_zeros-requires c =
    let more : c.loop-k.k + 1 < length (samples_of c.args.samples.now) = omega (arith, length_samples c.args.samples.now, c.edge_count-edges.ensures, c.loop-k-test.true) in
    place_length c.requires.room c.loop-k.invariant.written more

pub loop-k-preserved : goal.loop-k-preserved
loop-k-preserved c =
    let l = c.loop-k in
    let room = c.requires.room in
    let more : l.k + 1 < length (samples_of c.args.samples.now) = omega (arith, length_samples c.args.samples.now, c.edge_count-edges.ensures, c.loop-k-test.true) in
    let next : Written c.args.self (samples_of c.args.samples.now) c.args.out.now (l.k + 1) c.sample_at-b.result c.if-live-b_live.out c.if-live-b_live.kept c.if-live-b_live.refused =
    elim c.if-live-b_live.branch [
      | then-live-b_live w ↦
          rw (w.out-is, w.kept-is, w.refused-is)
          (past_live room l.invariant.written more _ c.sample_at-b.ensures _ (fine_edge _ _ _ c.requires.fine (both _ _ _ _ c.loop-k.invariant.live c.point_fine-b_live.ensures ∙ w.if-live-b_live.true)) _ w.put_edge-kept.ensures.count (in_place room l.invariant.written more _ _ (length_cut _ _) w.put_edge-kept.ensures.bytes))
      | else-live-b_live w ↦
          rw (w.out-is, w.kept-is, w.refused-is)
          (past_dead room l.invariant.written more _ c.sample_at-b.ensures _ (both _ _ _ _ c.loop-k.invariant.live c.point_fine-b_live.ensures ∙ w.if-live-b_live.false) (in_place room l.invariant.written more _ _ (length_record _ _ _) w.put_zeros.ensures))
    ] in
    record { live = c.point_fine-b_live.ensures; written = next }

pub returns : goal.returns
returns c =
    let v = c.loop-k.invariant.written in
    let over : length (samples_of c.args.samples.now) ≤ c.loop-k.k + 1 = omega (arith, length_samples c.args.samples.now, c.edge_count-edges.ensures, c.loop-k-test.false) in
    record { counts = all_counted v over _ (omega (arith, length_samples c.args.samples.now, c.edge_count-edges.ensures)); bytes = all_written v over }
