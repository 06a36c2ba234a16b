-- `answer_of` finds the stretch of the floats that it read.
use Rattle.std.proofs.Common.{◌≤◌, arith, length-take}
use Rattle.reading.specs.Samples.{floats_in}
use Rattle.run_stretch.proofs.Found.{found}
use Rattle.run_stretch.proofs.find.answer_of.Goals as goal

pub slice_bounds-longest_clean_run-end : goal.slice_bounds-longest_clean_run-end
slice_bounds-longest_clean_run-end c = simp length-take (omega arith)

pub returns : goal.returns
returns c =
    let a = c.args in
    let read = c.put_samples-n.ensures in
    let room : floats_in a.bytes.now ≤ 8194 = omega arith in
    found a.bytes.now a.window 8194 _ _ _ _ room read.count read.floats c.longest_clean_run.ensures
