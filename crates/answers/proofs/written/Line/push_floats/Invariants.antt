-- The floats so far are written.
use Rattle.std.proofs.Common.{◌≡◌, ◌+◌, ◌*◌, ◌++◌, length, take}
use Rattle.answers.specs.Number.{float_groups}
use Rattle.answers.proofs.written.Line.push_floats.Given as goal

abbrev pub invariant-loop-x : goal.invariant-loop-x
invariant-loop-x l = record {
  text : l.self ≡ l.initial.self ++ float_groups (take l.x-index l.floats);
  long : length l.self ≡ length l.initial.self + 17 * l.x-index;
}
