-- A buffer lent to a call: its bytes before, and the line that shows them after.
use Rattle.std.specs.Prelude.{ℕ, ◌/◌, ◌%◌, List, [], ◌∷◌, ◌++◌, Result, take, replicate}
use Rattle.std.specs.List.{flat_map}
use Rattle.answer.specs.Refusal.{number, value_or}
use Rattle.answer.specs.declared.Refusal.{Refusal}
use Rattle.buffer.specs.Digits.{digit_of}
use Rattle.answers.specs.Number.{numbered}

-- n bytes a5, 400 at the most
abbrev pub lent : ℕ → List ℕ
lent n = take n (replicate 400 165)

-- a byte as two digits
abbrev pub two_digits : ℕ → List ℕ
two_digits b = digit_of (b / 16) ∷ digit_of (b % 16) ∷ []

-- the digits of bytes
abbrev pub bytes_text : List ℕ → List ℕ
bytes_text bs = flat_map two_digits bs

-- a space and the bytes; nothing where there is none
abbrev pub spaced_bytes : List ℕ → List ℕ
spaced_bytes [] = []
spaced_bytes (b ∷ bs) = 32 ∷ bytes_text (b ∷ bs)

-- the number and the words of an answer, zero's beside a refusal, the bytes, a line end
abbrev pub shown_line : {A : Type 0} → (A → List ℕ) → Result A Refusal → A → List ℕ → List ℕ
shown_line words a zero bs = numbered (number a) (words (value_or zero a)) ++ (spaced_bytes bs ++ (10 ∷ []))
