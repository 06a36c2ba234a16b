-- An edge's answer for C: the number, and the kept points or zeros.
use Rattle.std.specs.Prelude.{Result}
use Rattle.answer.specs.Refusal.{number}
use Rattle.answer.specs.declared.Refusal.{Refusal}
use Rattle.plane.specs.Point.{at}
use Rattle.clip.specs.declared.Segment.{Segment}
use Rattle.clip.specs.Answers.{points_of}
use Rattle.umblacet.specs.declared.answers.Cut.{Cut}

abbrev pub cut_of : Result Segment Refusal → Cut
cut_of a = let s = points_of a in record { number = number a; a = at s.ax s.ay; b = at s.bx s.by }
