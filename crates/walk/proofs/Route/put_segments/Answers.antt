-- `put_segments` is where the walk stops and its count, and where it arrives its records are stored. The loop's invariant is `Along`.
use Prim.Native.Nat.{◌+◌, ◌-◌, ◌*◌, ◌<◌}
use mathlib.Core.Path.{◌≡◌, refl, sym, ◌∙◌}
use native.Mathlib.Omega.{arith}
use Rattle.cube.proofs.OnFace.{taken}
use Rattle.record.proofs.Words.{record_placed}
use Rattle.walk.proofs.Stops.{answer_done, answer_other, at_target, at_miss, at_limit, goes_on}
use Rattle.walk.proofs.Step.{tested, exit_is, next_is}
use Rattle.walk.proofs.Points.{exit_numbers, entered}
use Rattle.walk.proofs.Records as records
use Rattle.walk.proofs.Route.put_segments.Goals as goal

pub loop-at-init : goal.loop-at-init
loop-at-init c =
    let g = c.args.self in
    record {
      few = omega arith;
      long = refl;
      stops = refl;
      counts = omega arith;
      room = omega (arith, records.records_within c.args.whose 8 g.normal g.face g.a g.target g.b, c.requires.room);
      same = refl;
      face = c.requires.face;
      begins = c.requires.begins;
      headed = c.head-head.ensures;
    }

-- ---- at the target
pub returns-then-at-target : goal.returns-then-at-target
returns-then-at-target c =
    let l = c.loop-at in
    let v = l.invariant in
    let some : 0 < 8 - l.closed = omega (arith, v.few) in
    let w = at_target _ l.at _ (8 - l.closed) some c.if-at-target.true in
    record {
      answer = answer_done _ _ _ (sym v.stops ∙ w.0) (omega (arith, w.1, v.counts));
      bytes = λ z. records.last_stored l.out _ (l.closed * 40) _ _ l.at l.begin _ _ (8 - l.closed) some v.room c.if-at-target.true (record_placed _ _ (l.closed * 40) l.head l.at _ _ v.headed (omega (arith, v.face)) c.put_segment.ensures) ∙ v.same;
    }

-- ---- at a face that is missed, and at the limit
pub returns-then-not-intersects_face : goal.returns-then-not-intersects_face
returns-then-not-intersects_face c =
    let l = c.loop-at in
    let some : 0 < 8 - l.closed = omega (arith, l.invariant.few) in
    let m = tested _ l.at _ (taken _ _ _ _ c.face_xyz_to_uvw.ensures c.unwrap-n.ensures) _ _ c.intersects_face.ensures c.if-not-intersects_face.true in
    let e = sym l.invariant.stops ∙ at_miss _ l.at _ (8 - l.closed) some c.if-at-target.false m in
    record { answer = answer_other _ _ _ e; bytes = λ z. absurd (cc) }

pub returns-then-closed-eq7 : goal.returns-then-closed-eq7
returns-then-closed-eq7 c =
    let l = c.loop-at in
    let one : 8 - l.closed ≡ 1 = omega (arith, c.if-closed-eq7.true) in
    let m = tested _ l.at _ (taken _ _ _ _ c.face_xyz_to_uvw.ensures c.unwrap-n.ensures) _ _ c.intersects_face.ensures c.if-not-intersects_face.false in
    let e = sym l.invariant.stops ∙ at_limit _ l.at _ (8 - l.closed) one c.if-at-target.false m in
    record { answer = answer_other _ _ _ e; bytes = λ z. absurd (cc) }

-- ---- over to the next face
pub put_segment-requires-in-loop-at : goal.put_segment-requires-in-loop-at
put_segment-requires-in-loop-at c =
    let l = c.loop-at in
    let g = c.requires in
    let u = taken _ _ _ _ c.face_xyz_to_uvw.ensures c.unwrap-n.ensures in
    let m = tested _ l.at _ u _ _ c.intersects_face.ensures c.if-not-intersects_face.false in
    (l.invariant.begins, exit_numbers _ g.finite g.some l.at l.invariant.face m _ (exit_is _ l.at _ u _ _ c.step-step.ensures))

pub loop-at-preserved : goal.loop-at-preserved
loop-at-preserved c =
    let l = c.loop-at in
    let v = l.invariant in
    let q = c.requires in
    let u = taken _ _ _ _ c.face_xyz_to_uvw.ensures c.unwrap-n.ensures in
    let n = c.if-at-target.false in
    let e = exit_is _ l.at _ u _ _ c.step-step.ensures in
    let g = next_is _ l.at _ u _ _ c.step-step.ensures in
    let m = tested _ l.at _ u _ _ c.intersects_face.ensures c.if-not-intersects_face.false in
    let some : 0 < 8 - l.closed = omega (arith, v.few) in
    let k = goes_on _ l.at _ (8 - l.closed) _ some n m g in
    let r = record_placed _ _ (l.closed * 40) l.head l.at _ _ v.headed (omega (arith, v.face)) c.put_segment-in-loop-at.ensures in
    let a = records.goes_on l.out _ (l.closed * 40) _ _ l.at l.begin _ _ (8 - l.closed) some v.room _ _ _ n r e g c.moved-begin.ensures in
    let t = entered _ q.finite q.some l.at v.face m _ e _ _ g _ c.moved-begin.ensures in
    let left : 8 - (l.closed + 1) ≡ 8 - l.closed - 1 = omega arith in
    let to : (l.closed + 1) * 40 ≡ l.closed * 40 + 40 = omega arith in
    record {
      few = omega (arith, c.if-closed-eq7.false, v.few);
      long = a.long ∙ v.long;
      stops = rw left (k.0 ∙ v.stops);
      counts = rw left (omega (arith, k.1, v.counts));
      room = rw (left, to) a.room;
      same = rw (left, to) (a.same ∙ v.same);
      face = t.0;
      begins = t.1;
      headed = omega (arith, v.headed);
    }
