-- The answer for a trace, and what is in the lent buffer after.
use Rattle.std.specs.Prelude.{ℕ, Bool, List, Float, length, Result, Ok}
use Rattle.answer.specs.Refusal.{value_or, ◌then◌}
use Rattle.answer.specs.declared.Refusal.{Refusal}
use Rattle.buffer.specs.Bytes.{followed_by}
use Rattle.plane.specs.declared.rect.Rect.{Rect}
use Rattle.trace.specs.Trace.{Clipped, trace_cuts}
use Rattle.trace.specs.Records.{is_kept, is_missed, is_refused, how_many, records_of}
use Rattle.trace.specs.Refuse.{trace_refusal}
use Rattle.trace.specs.declared.Counts.{Counts}

-- how many edges there are, and of which kind
abbrev pub counts_of : List Clipped → Counts
counts_of cs = record { kept = how_many is_kept cs; missed = how_many is_missed cs; refused = how_many is_refused cs; edges = length cs }

-- what stands beside a refusal
abbrev pub no_edges : Counts
no_edges = record { kept = 0; missed = 0; refused = 0; edges = 0 }

-- the answer, with so many bytes lent; touches are kept, or not
abbrev pub answer_of : Bool → List Float → Rect → ℕ → Result Counts Refusal
answer_of touches fs w bytes = trace_refusal fs w bytes then Ok (counts_of (trace_cuts touches w fs))

-- the records, of the trace number that was handed in, followed by the old bytes; where something is refused the old bytes
unfoldable pub buffer_after : Bool → List ℕ → List Float → Rect → ℕ → List ℕ
buffer_after touches xs fs w whose =
    value_or xs (trace_refusal fs w (length xs) then Ok (followed_by (records_of whose (trace_cuts touches w fs)) xs))
