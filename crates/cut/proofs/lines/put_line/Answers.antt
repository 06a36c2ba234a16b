-- `put_line` stores the line of an answer, a case for each kind.
use mathlib.Core.Path.{refl, sym, ◌∙◌}
use Rattle.cut.specs.Line.{number_line}
use Rattle.cut.proofs.Text.{length_kept, line_ok, line_err, refused_digit, line_placed}
use Rattle.cut.proofs.lines.put_line.Goals as goal

pub returns-in-Ok : goal.returns-in-Ok
returns-in-Ok c =
    let k = line_ok _ _ c.in-Ok.is in
    record { place = rw (k, length_kept c.in-Ok.s) refl; bytes = line_placed _ _ _ _ _ c.requires.room c.place.ensures (c.kept_line.ensures ∙ sym k) }

pub returns-in-Err : goal.returns-in-Err
unfolding number_line
returns-in-Err c =
    let k = line_err _ _ c.in-Err.is in
    record { place = rw k refl; bytes = line_placed _ _ _ _ _ c.requires.room c.place-in-Err.ensures (c.number_line.ensures ∙ sym k) }

-- a refusal's number is a digit
pub number_line-requires : goal.number_line-requires
number_line-requires c = refused_digit _ _ c.in-Err.is c.requires.told
