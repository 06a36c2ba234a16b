-- Operations 61 and 62: the line of a trace on a lent buffer, without touches and with them. It shows the number, the counts and the buffer after.
use Rattle.std.specs.Prelude.{ℕ, Bool, List, length}
use Rattle.trace.specs.Answers.{answer_of, no_edges, buffer_after}
use Rattle.answers.specs.Reply.{counts_words}
use Rattle.answers.specs.Request.{word_up_to, samples_at, rect_at, whose_at}
use Rattle.answers.specs.Lent.{lent, shown_line}

-- the trace of a request on the buffer xs; the trace number stands after all floats
unfoldable pub trace_line_on : Bool → List ℕ → List ℕ → List ℕ
trace_line_on touches xs s =
    let fs = samples_at s 7 in
    let w = rect_at s 3 in
    shown_line counts_words (answer_of touches fs w (length xs)) no_edges (buffer_after touches xs fs w (whose_at s 23))

unfoldable pub trace_line : Bool → List ℕ → List ℕ
trace_line touches s = trace_line_on touches (lent (word_up_to s 2 400)) s
