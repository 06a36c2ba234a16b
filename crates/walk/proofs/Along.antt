-- Along the walk: what is left of it has its number, and with the segments that are closed its count; its records fit after theirs, and stored there they give what all would have given; its face is one, the point where it begins is no NaN, and the head is that of the face.
use Prim.Native.Nat.{ℕ, ◌+◌, ◌-◌, ◌*◌, ◌≤◌, ◌<◌}
use mathlib.Core.Path.{◌≡◌}
use mathlib.Core.List.{List}
use lib.ListN.{length}
use Rattle.buffer.specs.Bytes.{stored}
use Rattle.cube.specs.declared.vector.Vector.{Vector}
use Rattle.cube.specs.declared.compute.Uv.{Uv}
use Rattle.record.specs.Inner.{head_of}
use Rattle.walk.specs.Inner.{Numbers}
use Rattle.walk.specs.Walk.{stop_refusal, segments, count_of, records_of}

-- the walk from a on the face f, with out₀ before it: at the face `at`, with so many segments closed
pub record Along (out₀ : List ℕ) (f : ℕ) (a : Uv) (t : ℕ) (b : Uv) (p : Vector) (whose : ℕ) (out : List ℕ) (at head : ℕ) (begin : Uv) (closed : ℕ) : Type 0 where
  pub few : closed < 8
  pub long : length out ≡ length out₀
  pub stops : stop_refusal (8 - closed) p at t ≡ stop_refusal 8 p f t
  pub counts : closed + count_of (8 - closed) p at t ≡ count_of 8 p f t
  pub room : closed * 40 + length (records_of whose (segments (8 - closed) p at begin t b)) ≤ length out
  pub same : stored out (closed * 40) (records_of whose (segments (8 - closed) p at begin t b)) ≡ stored out₀ 0 (records_of whose (segments 8 p f a t b))
  pub face : at ≤ 5
  pub begins : Numbers begin
  pub headed : head ≡ head_of at whose
