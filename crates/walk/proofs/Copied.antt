-- Bytes taken from the front of a buffer.
use Prim.Native.Nat.{ℕ, ◌≤◌}
use mathlib.Core.Path.{◌≡◌, refl}
use mathlib.Core.List.{List}
use lib.ListN.{length, take}
use lib.Seq.{take_at}
use Rattle.buffer.specs.Bytes.{stored}
use Rattle.buffer.proofs.Stored.{stored_front}

-- what was stored at the front is what a copy takes from there
pub stored_taken : (xs bs : List ℕ) → length bs ≤ length xs → take (length bs) (stored xs 0 bs) ≡ bs
stored_taken xs bs h = rw (stored_front xs bs h) (take_at bs _ _ refl)
