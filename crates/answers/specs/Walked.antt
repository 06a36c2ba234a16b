-- Operation 60: the line of a walk on a lent buffer. It shows the number, the count and the buffer after.
use Rattle.std.specs.Prelude.{ℕ, List, length}
use Rattle.walk.specs.Answers.{walk_or_refusal, buffer_after}
use Rattle.answers.specs.Reply.{count_words}
use Rattle.answers.specs.Request.{word_up_to, uv_at, vector_at, number_at, whose_at}
use Rattle.answers.specs.Lent.{lent, shown_line}

-- the walk of a request on the buffer xs
unfoldable pub walk_line_on : List ℕ → List ℕ → List ℕ
walk_line_on xs s =
    let f = number_at s 1 in
    let a = uv_at s 2 in
    let t = number_at s 4 in
    let b = uv_at s 5 in
    let p = vector_at s 7 in
    shown_line count_words (walk_or_refusal (length xs) f a t b p) 0 (buffer_after xs f a t b p (whose_at s 11))

unfoldable pub walk_line : List ℕ → List ℕ
walk_line s = walk_line_on (lent (word_up_to s 10 400)) s
