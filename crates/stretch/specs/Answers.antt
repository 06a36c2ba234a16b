-- What is refused, 10 and then 3; the stretch, where nothing is; and the part of the samples that it is.
use Rattle.std.specs.Prelude.{ℕ, ◌+◌, ◌*◌, true, List, Float, length, take, drop, Result, Ok}
use Rattle.std.specs.Result.{result_unwrap_or}
use Rattle.answer.specs.Refusal.{◌then◌}
use Rattle.answer.specs.declared.Refusal.{Refusal}
use Rattle.plane.specs.declared.rect.Rect.{Rect}
use Rattle.clip.specs.Refuse.{window_fine}
use Rattle.trace.specs.Trace.{samples_of}
use Rattle.trace.specs.Refuse.{trace_fine, in_order}
use Rattle.stretch.specs.Longest.{earliest, longest}
use Rattle.stretch.specs.declared.Stretch.{Stretch}

-- of so many floats and a window; nothing is lent, so there is no third refusal
abbrev pub stretch_refusal : ℕ → Rect → Result (Unit {0}) Refusal
stretch_refusal floats w = in_order (trace_fine floats) (window_fine w) true

-- the earliest of the longest clean runs
abbrev pub longest_stretch : List Float → Rect → Stretch
longest_stretch fs w = let ps = samples_of fs in record { first = earliest w ps (longest w ps); count = longest w ps }

abbrev pub stretch_of : List Float → Rect → Result Stretch Refusal
stretch_of fs w = stretch_refusal (length fs) w then Ok (longest_stretch fs w)

-- of no sample, at the start
abbrev pub no_stretch : Stretch
no_stretch = record { first = 0; count = 0 }

-- that one where something is refused
abbrev pub stretch_or_none : List Float → Rect → Stretch
stretch_or_none fs w = result_unwrap_or (stretch_of fs w) no_stretch

-- the floats of its samples: two for each, from the first one's on
abbrev pub part_of : List Float → Stretch → List Float
part_of fs s = take (2 * s.count) (drop (2 * s.first) fs)

-- where they stand in memory: in the samples' own, eight bytes a float
abbrev pub place_of : ℕ × ℕ → Stretch → ℕ × ℕ
place_of samples s = (samples.0, 2 * s.first * 8 + samples.1)
