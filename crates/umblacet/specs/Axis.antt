-- The exit axis for C: 0 for U and 1 for V.
use Rattle.std.specs.Prelude.{Result}
use Rattle.answer.specs.Refusal.{number, value_or}
use Rattle.answer.specs.declared.Refusal.{Refusal}
use Rattle.line.specs.Line.{axis_number}
use Rattle.line.specs.declared.compute.Axis.{Axis}
use Rattle.line.specs.declared.compute.Axis.TheVariants.{U}
use Rattle.umblacet.specs.declared.answers.NumberedAxis.{NumberedAxis}

abbrev pub numbered_axis : Result Axis Refusal → NumberedAxis
numbered_axis a = record { number = number a; axis = axis_number (value_or U a) }
