-- How many bytes of a buffer were read or written.
use Rattle.std.specs.Prelude.{◌≡◌, ℕ, ◌≤◌, List, length, take, Result, Ok, Err}

-- `&xs[..n]` is in bounds and has n bytes: the second part follows from the first, and spares a caller's `&buf[..n]` a proof file
abbrev pub IsPrefixLen : ℕ → List ℕ → Type 0
IsPrefixLen n xs = (n ≤ length xs) × (n ≡ length (take n xs))

-- how many were moved, whether or not a failure ended it
abbrev pub moved : Result ℕ ℕ → ℕ
moved (Ok n) = n
moved (Err n) = n
