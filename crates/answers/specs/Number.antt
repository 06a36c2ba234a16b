-- The number of a line, and its words.
use Rattle.std.specs.Prelude.{ℕ, ◌+◌, List, [], ◌∷◌, ◌++◌, Float, leb}
use Rattle.std.specs.List.{flat_map}
use Rattle.std.specs.Float.{binary64}
use Rattle.std.specs.Float.Ieee.{to_bits}
use Rattle.float.specs.Choice.{when◌then◌else◌}
use Rattle.buffer.specs.Digits.{group}

-- a number up to 14 in decimal; 255 for any other
unfoldable pub number_text : ℕ → List ℕ
number_text n = when leb n 9 then ((48 + n) ∷ []) else when leb n 14 then (49 ∷ (38 + n) ∷ []) else (50 ∷ 53 ∷ 53 ∷ [])

-- the groups of words
abbrev pub groups : List ℕ → List ℕ
groups ws = flat_map group ws

-- a number and the groups of words
abbrev pub numbered : ℕ → List ℕ → List ℕ
numbered n ws = number_text n ++ groups ws

-- a float is shown by its bits
abbrev pub bits : Float → ℕ
bits x = to_bits binary64 x

abbrev pub float_group : Float → List ℕ
float_group x = group (bits x)

-- the groups of floats
abbrev pub float_groups : List Float → List ℕ
float_groups fs = flat_map float_group fs
