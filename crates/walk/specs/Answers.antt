-- The answer of the walk, and what is in the lent buffer after.
use Rattle.std.specs.Prelude.{ℕ, List, length, Result, Ok}
use Rattle.answer.specs.Refusal.{value_or, ◌then◌}
use Rattle.answer.specs.declared.Refusal.{Refusal}
use Rattle.buffer.specs.Bytes.{followed_by}
use Rattle.cube.specs.declared.vector.Vector.{Vector}
use Rattle.cube.specs.declared.compute.Uv.{Uv}
use Rattle.walk.specs.Walk.{segments, records_of}
use Rattle.walk.specs.Refuse.{walk_refusal}

-- the entry, with so many bytes lent: what it refuses, and else how many segments there are
unfoldable pub walk_or_refusal : ℕ → ℕ → Uv → ℕ → Uv → Vector → Result ℕ Refusal
walk_or_refusal bytes f a t b p = walk_refusal bytes f a t b p then Ok (length (segments 8 p f a t b))

-- the records, of the trace number that was handed in, followed by the old bytes; where something is refused the old bytes
unfoldable pub buffer_after : List ℕ → ℕ → Uv → ℕ → Uv → Vector → ℕ → List ℕ
buffer_after xs f a t b p whose = value_or xs (walk_refusal (length xs) f a t b p then Ok (followed_by (records_of whose (segments 8 p f a t b)) xs))
