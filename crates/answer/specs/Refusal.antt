-- Why there is no value, and the number that says so. Document 01, "Numbers given back".
use Rattle.std.specs.Prelude.{ℕ, Bool, if◌then◌else◌, Result, Ok, Err}
use Rattle.answer.specs.declared.Refusal.{Refusal}
use Rattle.answer.specs.declared.Refusal.TheVariants.{Missed, NotFinite, BadWindow, BadFace, Zero, OffFace, Unfinished, ShortBuffer, Torn, BadTrace}

infixr 3 unless◌refuse◌else◌
infixr 3 ◌then◌
abbrev pub number_of : Refusal → ℕ
-- a miss of the window at any step; a vector not on the side of the asked face
number_of Missed = 1
-- a float other than the window's is not finite, or where an edge is cut it is beyond 2 ^ 500
number_of NotFinite = 2
-- a window side is beyond 2 ^ 500 or not finite, or lo > hi on either axis
number_of BadWindow = 3
-- a face above 5; an axis above 2 or a direction above 1
number_of BadFace = 4
-- a vector or normal all zero; a zero divisor
number_of Zero = 5
-- the line does not meet a face that is not the target
number_of OffFace = 6
-- the target is not among the first 8 faces
number_of Unfinished = 7
-- the buffer holds fewer whole records than the walk or the trace has
number_of ShortBuffer = 8
-- the program's input ends in 1 to 63 bytes beyond whole records
number_of Torn = 9
-- a trace of an odd count of floats, or of more than 4,096 samples
number_of BadTrace = 10

-- what an answer gives back: 0 beside a value
abbrev pub number : {A : Type 0} → Result A Refusal → ℕ
number (Ok x) = 0
number (Err e) = number_of e

-- what stands beside the number: the value, or zeros or no beside a refusal
abbrev pub value_or : {A : Type 0} → A → Result A Refusal → A
value_or zero (Ok x) = x
value_or zero (Err e) = zero

-- nothing is refused
abbrev pub done : Result (Unit {0}) Refusal
done = Ok tt

-- Refusals in their order: the first that applies is given, and the rest is not looked at.
abbrev pub unless◌refuse◌else◌ : {A : Type 0} → Bool → Refusal → Result A Refusal → Result A Refusal
unless fine refuse e else rest = if fine then rest else Err e

-- the rest, where nothing was refused before it
abbrev pub ◌then◌ : {A : Type 0} → Result (Unit {0}) Refusal → Result A Refusal → Result A Refusal
Ok x then rest = rest
Err e then rest = Err e
