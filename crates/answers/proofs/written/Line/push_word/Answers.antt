-- `push_word` puts a group behind what is written.
use Rattle.std.proofs.Common.{◌+◌, length, arith, ap}
use Rattle.std.proofs.lemmas.List.{length-take}
use Rattle.buffer.proofs.Stored.{placed_length}
use Rattle.answers.proofs.Run.{take_group}
use Rattle.answers.proofs.written.Line.push_word.Goals as goal

pub returns-clause-text : goal.returns-clause-text
returns-clause-text c =
    let long = length-take c.self.inside.len c.self.inside.bytes in
    rw (← c.self.view_is) (take_group c.self.inside.bytes _ _ _ (omega (arith, long, ap length c.self.view_is)) c.put_group.ensures)

pub returns-clause-long : goal.returns-clause-long
returns-clause-long c =
    let long = length-take c.self.inside.len c.self.inside.bytes in
    omega (arith, long, ap length c.self.view_is, length-take (c.self.inside.len + 17) c.put_group.new.out, placed_length _ _ _ _ c.put_group.ensures)
