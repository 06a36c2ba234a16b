-- Operations 64 and 65, on a lent buffer of floats: the line of the boxes that are built and of the search on them, with the buffer after; and that of the search alone.
use Rattle.std.specs.Prelude.{ℕ, List, [], ◌∷◌, ◌++◌, Float, Result, Ok, Err, ok_or, length, take, replicate}
use Rattle.answer.specs.Refusal.{number, value_or}
use Rattle.answer.specs.declared.Refusal.{Refusal}
use Rattle.answer.specs.declared.Refusal.TheVariants.{Missed}
use Rattle.pages.specs.Answers.{pages_answer, buffer_after, kept_answer}
use Rattle.pages.specs.declared.Found.{Found}
use Rattle.answers.specs.Number.{float_groups, numbered}
use Rattle.answers.specs.Reply.{count_words, pair_words}
use Rattle.answers.specs.Request.{word_up_to, float_at, samples_at, rect_at}

-- n floats x, 75 at the most
abbrev pub filled : ℕ → Float → List Float
filled n x = take n (replicate 75 x)

-- the buffer of a request: as many floats as asked, each of them that of the last word
abbrev pub boxes_at : List ℕ → List Float
boxes_at s = filled (word_up_to s 2 75) (float_at s 23)

-- the edge that is found; a miss where there is none
abbrev pub edge_of : Result Found Refusal → Result ℕ Refusal
edge_of (Ok found) = ok_or found.edge Missed
edge_of (Err e) = Err e

-- how many boxes were opened; none beside a refusal
abbrev pub opened_of : Result Found Refusal → ℕ
opened_of (Ok found) = found.opened
opened_of (Err e) = 0

-- the number, the edge and the count of opened boxes, the floats, a line end
unfoldable pub kept_line : Result Found Refusal → List Float → List ℕ
kept_line a bs = numbered (number (edge_of a)) (pair_words (value_or 0 (edge_of a), opened_of a)) ++ (float_groups bs ++ (10 ∷ []))

-- the number and the count of floats, a space, the line of the search
unfoldable pub built_line : Result ℕ Refusal → Result Found Refusal → List Float → List ℕ
built_line p a bs = numbered (number p) (count_words (value_or 0 p)) ++ (32 ∷ kept_line a bs)

-- the boxes of a request built on the buffer xs, then searched
unfoldable pub pages_line_on : List Float → List ℕ → List ℕ
pages_line_on xs s =
    let fs = samples_at s 7 in
    let bs = buffer_after xs fs in
    built_line (pages_answer (length fs) (length xs)) (kept_answer fs (rect_at s 3) bs) bs

unfoldable pub pages_line : List ℕ → List ℕ
pages_line s = pages_line_on (boxes_at s) s

-- the search on the buffer as it is filled
unfoldable pub first_kept_line : List ℕ → List ℕ
first_kept_line s = kept_line (kept_answer (samples_at s 7) (rect_at s 3) (boxes_at s)) []
