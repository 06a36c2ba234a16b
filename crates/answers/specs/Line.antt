-- The lines: the number and, beside 0, a space and 16 lower-case hex digits for each word. A last part under 192 bytes writes 9.
use Rattle.std.specs.Prelude.{ℕ, true, false, List, [], ◌∷◌, ◌++◌, eqb}
use Rattle.float.specs.Choice.{when◌then◌else◌}
use Rattle.answer.specs.Refusal.{number_of}
use Rattle.answer.specs.declared.Refusal.TheVariants.{Torn}
use Rattle.buffer.specs.Text as Text
use Rattle.answers.specs.Number.{number_text}
use Rattle.answers.specs.Reply.{reply_line}
use Rattle.answers.specs.Request.{word_of}
use Rattle.answers.specs.Table.{reply_of}
use Rattle.answers.specs.Walked.{walk_line}
use Rattle.answers.specs.Traced.{trace_line}
use Rattle.answers.specs.Paged.{pages_line, first_kept_line}

-- the line of a request: 60, 61, 62, 64 and 65 have their own
unfoldable pub line_of : List ℕ → List ℕ
line_of s =
    when eqb (word_of s 0) 60 then walk_line s
    else when eqb (word_of s 0) 61 then trace_line false s
    else when eqb (word_of s 0) 62 then trace_line true s
    else when eqb (word_of s 0) 64 then pages_line s
    else when eqb (word_of s 0) 65 then first_kept_line s
    else reply_line (reply_of s)

-- 9, for a last part under 192 bytes
abbrev pub torn_line : List ℕ
torn_line = number_text (number_of Torn) ++ (10 ∷ [])

abbrev pub text_of : List ℕ → List ℕ
text_of s = Text.text_of 192 line_of torn_line s

-- the room that a text can take: 1,334 bytes for each request, and 2 for a torn end
abbrev pub room : List ℕ → ℕ
room s = Text.room_for 192 1334 s
