-- `put_samples` reads the floats of the samples one after the other.
use Rattle.std.proofs.Common.{refl, arith, ◌+◌, ◌*◌, ◌/◌, ◌<◌, length}
use Rattle.reading.proofs.Reading.{starts, goes_on, ends, counted, no_room}
use Rattle.reading.proofs.put_samples.Goals as goal
use Rattle.reading.proofs.put_samples.Goals.{then-out-from-via-then-out-from, then-out-from-via-else-out-from+then-out-from-2}

pub returns-then-out-from : goal.returns-then-out-from
returns-then-out-from c =
    let a = c.args in
    let n = length a.s.now / 16 * 2 in
    let h : length a.out.now < a.from + n = elim c.then-out-from.branch [ then-out-from-via-then-out-from w ↦ omega arith | then-out-from-via-else-out-from+then-out-from-2 w ↦ omega arith ] in
    record {
      count = no_room a.s.now a.out.now a.from n refl _ _ h;
      floats = no_room a.s.now a.out.now a.from n refl _ _ h;
      within = omega arith;
    }

pub loop-i-init : goal.loop-i-init
loop-i-init c = starts _ _ _ _ refl (omega arith)

pub loop-i-preserved : goal.loop-i-preserved
loop-i-preserved c = let l = c.loop-i in goes_on _ _ _ _ _ l.i _ c.float_at.ensures c.loop-i-test.true l.invariant

pub returns : goal.returns
returns c =
    let a = c.args in
    let l = c.loop-i in
    let r = l.invariant in
    record {
      count = counted a.s.now a.out.now a.from _ refl r.room;
      floats = ends a.s.now a.out.now _ a.from _ l.i r c.loop-i-test.false;
      within = omega (arith, r.long, r.room);
    }
