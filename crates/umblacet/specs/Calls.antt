-- A call that is lent bytes for records: a walk or a trace, with all else that it is handed.
use Rattle.std.specs.Prelude.{ℕ, Bool, List, Float}
use Rattle.plane.specs.declared.rect.Rect.{Rect}
use Rattle.cube.specs.declared.vector.Vector.{Vector}
use Rattle.cube.specs.declared.compute.Uv.{Uv}
use Rattle.walk.specs.Answers as walk
use Rattle.trace.specs.Answers as trace

pub data Call : Type 0 where
  -- face, a, target, b, normal, whose
  Walk : ℕ → Uv → ℕ → Uv → Vector → ℕ → Call
  -- whether touches are kept, samples, window, whose
  Trace : Bool → List Float → Rect → ℕ → Call

-- what it leaves of the bytes that it is lent
unfoldable pub leaves : Call → List ℕ → List ℕ
leaves (Walk f a t b p whose) xs = walk.buffer_after xs f a t b p whose
leaves (Trace touches fs w whose) xs = trace.buffer_after touches xs fs w whose
