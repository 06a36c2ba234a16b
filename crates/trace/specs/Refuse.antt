-- What is refused of a trace: 10 for its floats, then 3 for the window, then 8 for the lent bytes.
-- A dead sample is 2 in its edges' records only.
use Rattle.std.specs.Prelude.{ℕ, ◌-◌, ◌/◌, ◌%◌, Bool, List, eqb, leb, Float, length, Result}
use Rattle.float.specs.Choice.{◌and◌}
use Rattle.answer.specs.Refusal.{unless◌refuse◌else◌, done}
use Rattle.answer.specs.declared.Refusal.{Refusal}
use Rattle.answer.specs.declared.Refusal.TheVariants.{BadWindow, ShortBuffer, BadTrace}
use Rattle.plane.specs.declared.rect.Rect.{Rect}
use Rattle.clip.specs.Refuse.{window_fine}
use Rattle.trace.specs.Trace.{samples_of}

-- the count of floats is even, and that of samples at most 4,096
abbrev pub trace_fine : ℕ → Bool
trace_fine floats = eqb (floats % 2) 0 and leb (floats / 2) 4096

-- so many bytes hold so many records whole
abbrev pub room_for : ℕ → ℕ → Bool
room_for records bytes = leb records (bytes / 40)

unfoldable pub in_order : Bool → Bool → Bool → Result (Unit {0}) Refusal
in_order trace window room =
    unless trace refuse BadTrace
    else unless window refuse BadWindow
    else unless room refuse ShortBuffer
    else done

-- of a trace with so many bytes lent: a record for each sample but the first has to fit
abbrev pub trace_refusal : List Float → Rect → ℕ → Result (Unit {0}) Refusal
trace_refusal fs w bytes = in_order (trace_fine (length fs)) (window_fine w) (room_for (length (samples_of fs) - 1) bytes)
