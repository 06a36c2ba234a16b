-- What is refused, 10, then 3 for a window, then 8; the answers where nothing is; and what is in the lent buffer after the boxes were built.
use Rattle.std.specs.Prelude.{ℕ, ◌-◌, ◌*◌, ◌/◌, Bool, true, List, [], ◌++◌, eqb, leb, Float, length, drop, Result, Ok}
use Rattle.float.specs.Choice.{when◌then◌else◌}
use Rattle.answer.specs.Refusal.{◌then◌, value_or}
use Rattle.answer.specs.declared.Refusal.{Refusal}
use Rattle.plane.specs.declared.rect.Rect.{Rect}
use Rattle.clip.specs.Refuse.{window_fine}
use Rattle.trace.specs.Trace.{samples_of}
use Rattle.trace.specs.Refuse.{trace_fine, in_order}
use Rattle.pages.specs.Halves.{halves_of}
use Rattle.pages.specs.Boxes.{boxes_of}
use Rattle.pages.specs.Search.{none, search}
use Rattle.pages.specs.declared.Found.{Found}

-- ---- of so many floats of a trace

-- an edge fewer than samples, and none of no sample
abbrev pub edge_count : ℕ → ℕ
edge_count floats = floats / 2 - 1

-- five floats for each of 2m - 1 boxes, and none of no edge
abbrev pub floats_for : ℕ → ℕ
floats_for edges = 5 * (2 * edges - 1)

abbrev pub boxes_fit : ℕ → ℕ → Bool
boxes_fit edges room = leb (floats_for edges) room

-- with so many floats lent; a window is asked for where there is one
abbrev pub pages_refusal : ℕ → ℕ → Result (Unit {0}) Refusal
pages_refusal floats room = in_order (trace_fine floats) true (boxes_fit (edge_count floats) room)

abbrev pub kept_refusal : ℕ → Rect → ℕ → Result (Unit {0}) Refusal
kept_refusal floats w room = in_order (trace_fine floats) (window_fine w) (boxes_fit (edge_count floats) room)

-- ---- `build_pages`

abbrev pub pages_answer : ℕ → ℕ → Result ℕ Refusal
pages_answer floats room = pages_refusal floats room then Ok (floats_for (edge_count floats))

-- the boxes of all edges of a trace
unfoldable pub trace_boxes : List Float → List Float
trace_boxes fs =
    let edges = edge_count (length fs) in
    when eqb edges 0 then [] else boxes_of (samples_of fs) (halves_of edges) 0

-- the boxes followed by the old floats, and where something is refused the old floats
unfoldable pub buffer_after : List Float → List Float → List Float
buffer_after xs fs =
    value_or xs (pages_refusal (length fs) (length xs) then Ok (trace_boxes fs ++ drop (length (trace_boxes fs)) xs))

-- ---- `first_kept`

-- of no edge, none and no box
unfoldable pub search_all : List Float → Rect → List Float → Found
search_all fs w bs =
    let edges = edge_count (length fs) in
    when eqb edges 0 then none 0 else search bs w (samples_of fs) (halves_of edges) 0 0

abbrev pub kept_answer : List Float → Rect → List Float → Result Found Refusal
kept_answer fs w bs = kept_refusal (length fs) w (length bs) then Ok (search_all fs w bs)
