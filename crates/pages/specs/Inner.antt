-- What the functions inside ask for. No entry's contract and no promise cites it: a reader of those can pass it over.
use Rattle.std.specs.Prelude.{ℕ, ◌+◌, ◌*◌, ◌≤◌}

-- of some edges of a trace of so many floats, whose boxes are to lie from a place on in a buffer of so many:
-- there is one, they end within the trace, and their boxes within the buffer
pub record Room (floats room place edge edges : ℕ) : Type 0 where
  pub some : 1 ≤ edges
  pub few : floats ≤ 8192
  pub within : 2 * (edge + edges) + 2 ≤ floats
  pub before : place + 2 * edges ≤ 8192
  pub fits : 5 * (place + 2 * edges) ≤ room + 5
