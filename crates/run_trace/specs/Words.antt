-- The words that the program may be started with: a trace number in decimal, and `touches`, in either order.
use Rattle.std.specs.Prelude.{ℕ, ◌+◌, ◌-◌, ◌*◌, Bool, true, false, List, [], ◌∷◌, length, nat_eq, nat_le, Option, Some, None}
use Rattle.float.specs.Choice.{when◌then◌else◌, ◌and◌}
use Rattle.run_trace.specs.declared.words.Word.{Word}
use Rattle.run_trace.specs.declared.words.Word.TheVariants.{Number, Touches, Other}
use Rattle.run_trace.specs.declared.words.Asked.{Asked}

-- ---- a trace number

-- the digits 0 to 9 are the bytes 48 to 57
abbrev pub is_digit : ℕ → Bool
is_digit b = nat_le 48 b and nat_le b 57

unfoldable pub all_digits : List ℕ → Bool
all_digits [] = true
all_digits (b ∷ bs) = is_digit b and all_digits bs

-- digits that follow those of the number n: each stands for itself and ten times what is before it
unfoldable pub value_after : ℕ → List ℕ → ℕ
value_after n [] = n
value_after n (b ∷ bs) = value_after (n * 10 + (b - 48)) bs

abbrev pub value : List ℕ → ℕ
value s = value_after 0 s

-- one to ten digits, and no more than 2^32 - 1
abbrev pub is_number : List ℕ → Bool
is_number s = (nat_le 1 (length s) and nat_le (length s) 10) and (all_digits s and nat_le (value s) 4294967295)

unfoldable pub number_in : List ℕ → Word
number_in s = when is_number s then Number (value s) else Other

-- ---- a word

unfoldable pub same : List ℕ → List ℕ → Bool
same [] [] = true
same [] (y ∷ ys) = false
same (x ∷ xs) [] = false
same (x ∷ xs) (y ∷ ys) = nat_eq x y and same xs ys

-- t, o, u, c, h, e, s
abbrev pub touches_letters : List ℕ
touches_letters = 116 ∷ 111 ∷ 117 ∷ 99 ∷ 104 ∷ 101 ∷ 115 ∷ []

unfoldable pub word_of : List ℕ → Word
word_of s = when same s touches_letters then Touches else number_in s

-- ---- the words: at most one of each kind, and no other; trace 0 without a number, no touches without that word

abbrev pub records : ℕ → Bool → Option Asked
records whose touches = Some (record { whose = whose; touches = touches })

unfoldable pub of_one : Word → Option Asked
of_one (Number n) = records n false
of_one Touches = records 0 true
of_one Other = None

-- a number and touches, whichever is first
unfoldable pub of_two : Word → Word → Option Asked
of_two (Number n) (Number m) = None
of_two (Number n) Touches = records n true
of_two (Number n) Other = None
of_two Touches (Number n) = records n true
of_two Touches Touches = None
of_two Touches Other = None
of_two Other w = None

unfoldable pub asked : List (List ℕ) → Option Asked
asked [] = records 0 false
asked (s ∷ []) = of_one (word_of s)
asked (s ∷ t ∷ []) = of_two (word_of s) (word_of t)
asked (s ∷ t ∷ u ∷ more) = None
