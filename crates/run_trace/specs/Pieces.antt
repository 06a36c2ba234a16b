-- A piece of the input: the sample that is carried over, where one is, and those of its bytes; and how pieces add up.
use Rattle.std.specs.Prelude.{◌≡◌, ℕ, ◌+◌, ◌*◌, ◌/◌, ◌%◌, ◌^◌, ◌≤◌, Bool, List, [], ◌∷◌, ◌++◌, length, take, nat_le, Float, Option, Some, None}
use Rattle.std.specs.Result.{result_unwrap_or}
use Rattle.float.specs.Choice.{when◌then◌else◌}
use Rattle.plane.specs.declared.point.Point.{Point}
use Rattle.plane.specs.declared.rect.Rect.{Rect}
use Rattle.trace.specs.Trace.{Clipped, trace_cuts}
use Rattle.trace.specs.Answers.{answer_of, no_edges}
use Rattle.trace.specs.Records.{records_of, how_many}
use Rattle.trace.specs.declared.Counts.{Counts}
use Rattle.run_trace.specs.declared.Totals.{Totals}
use Rattle.reading.specs.Samples.{floats_of}
use Rattle.run_trace.specs.Samples.{last_sample}

-- the floats of the sample that is carried over
abbrev pub carried : Option Point → List Float
carried None = []
carried (Some p) = p.x ∷ p.y ∷ []

-- the floats of the piece with the bytes s
unfoldable pub piece_floats : Option Point → List ℕ → List Float
piece_floats before s = carried before ++ floats_of s

-- the last sample of the piece: the one to carry over
abbrev pub last_after : Option Point → List ℕ → Option Point
last_after before s = last_sample (piece_floats before s)

-- the bytes of the samples that so many first edges join
unfoldable pub bytes_for : Option Point → ℕ → ℕ
bytes_for None edges = 16 * edges + 16
bytes_for (Some p) edges = 16 * edges

-- the counts of the edges whose records were written whole, where so many bytes of a piece's records were: the piece's
-- own, or those of the samples which these edges join
abbrev pub written_of : Bool → Counts → ℕ → Option Point → List ℕ → Rect → ℕ → Counts
written_of touches all taken before s w bytes =
    when nat_le all.edges (taken / 40) then all
    else result_unwrap_or (answer_of touches (piece_floats before (take (bytes_for before (taken / 40)) s)) w bytes) no_edges

-- ---- an input in blocks: all but the last are whole samples, one at the least
unfoldable pub Blocks : List (List ℕ) → Type 0
Blocks [] = Unit {0}
Blocks (s ∷ []) = Unit {0}
Blocks (s ∷ t ∷ ss) = (length s % 16 ≡ 0) × ((16 ≤ length s) × Blocks (t ∷ ss))

unfoldable pub joined_blocks : List (List ℕ) → List ℕ
joined_blocks [] = []
joined_blocks (s ∷ ss) = s ++ joined_blocks ss

-- the records of each block's piece; the first block carries no sample over, and every other the last one before it
unfoldable pub records_of_blocks : Bool → ℕ → Rect → Option Point → List (List ℕ) → List ℕ
records_of_blocks touches whose w before [] = []
records_of_blocks touches whose w before (s ∷ ss) =
    records_of whose (trace_cuts touches w (piece_floats before s)) ++ records_of_blocks touches whose w (last_after before s) ss

-- how many of their edges are of a kind
unfoldable pub count_of_blocks : Bool → (Clipped → Bool) → Rect → Option Point → List (List ℕ) → ℕ
count_of_blocks touches is w before [] = 0
count_of_blocks touches is w before (s ∷ ss) =
    how_many is (trace_cuts touches w (piece_floats before s)) + count_of_blocks touches is w (last_after before s) ss

-- ---- the counts with those of one more piece; they wrap at 2^64
abbrev pub with_answer : Totals → Counts → Totals
with_answer t c =
    record {
      kept = (t.kept + c.kept) % 2 ^ 64;
      missed = (t.missed + c.missed) % 2 ^ 64;
      refused = (t.refused + c.refused) % 2 ^ 64;
    }
