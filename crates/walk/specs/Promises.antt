-- What is promised of the walk, over the definitions. Statements only; proofs/Promises.antt has their proofs.
use Rattle.std.specs.Prelude.{ℕ, ◌≤◌, ◌≡◌, ◌↔◌, Bool, true, false, List, [], ◌∷◌, length, Ok, Err}
use Rattle.float.specs.Choice.{when◌then◌else◌}
use Rattle.float.specs.Float.{one_f}
use Rattle.answer.specs.Refusal.{value_or, ◌then◌, done}
use Rattle.answer.specs.declared.Refusal.TheVariants.{OffFace, Unfinished, ShortBuffer}
use Rattle.buffer.specs.Bytes.{followed_by}
use Rattle.record.specs.Record.{joined}
use Rattle.record.specs.Numbered.{unnumbered, Numbered}
use Rattle.cube.specs.Vector.{vec, is_zero, HandedIn}
use Rattle.cube.specs.Faces.{point_at, uvw_of}
use Rattle.cube.specs.Promises.{InUnit, InSquare}
use Rattle.cube.specs.declared.vector.Vector.{Vector}
use Rattle.cube.specs.declared.compute.Uv.{Uv}
use Rattle.line.specs.declared.compute.Axis.{Axis}
use Rattle.line.specs.Line.{one_if, other_axis, coordinate}
use Rattle.line.specs.Promises.{Finite}
use Rattle.walk.specs.Walk.{met, stop_refusal, Segment, segments, segment_ends}
use Rattle.walk.specs.Refuse.{input_refusal, walk_refusal}
use Rattle.walk.specs.Answers.{walk_or_refusal, buffer_after}

-- a finite normal that is not zero
pub record Normal (p : Vector) : Type 0 where
  pub finite : Finite p
  pub some : is_zero p ≡ false

-- such a normal, and a first face that the line meets
pub record Begun (p : Vector) (f t : ℕ) : Type 0 where
  pub normal : Normal p
  pub face : f ≤ 5
  pub target : t ≤ 5
  pub meets : met p f ≡ true

-- ---- from segment to segment

-- the coordinate on the axis is exactly 1 or -1
pub record OneOn (a : Axis) (e : Uv) : Type 0 where
  pub plus : Bool
  pub one : coordinate a e ≡ one_if plus

-- one coordinate exactly 1 or -1, the other from -1 to 1
pub record OnEdge (e : Uv) : Type 0 where
  pub axis : Axis
  pub one : OneOn axis e
  pub inside : InUnit (coordinate (other_axis axis) e)

-- the segment r after s: s ends at an edge, and the line also meets the face of r;
-- r begins at the point where s ended, in the new face's coordinates, where its w is exactly 1, one of its two coordinates exactly 1 or -1, and both from -1 to 1
pub record Follows (p : Vector) (s r : Segment) : Type 0 where
  pub leaves : OnEdge s.b
  pub face : r.face ≤ 5
  pub meets : met p r.face ≡ true
  pub begins : uvw_of r.face (point_at s.face s.b.u s.b.v) ≡ vec r.a.u r.a.v one_f
  pub enters : (a : Axis) × OneOn a r.a
  pub inside : InSquare r.a

-- every segment but the last is so followed
unfoldable pub FollowedBy : Vector → Segment → List Segment → Type 0
FollowedBy p s [] = Unit
FollowedBy p s (r ∷ rs) = Follows p s r

unfoldable pub Linked : Vector → List Segment → Type 0
Linked p [] = Unit
Linked p (s ∷ ss) = FollowedBy p s ss × Linked p ss

-- ---- the entry's number

-- in floats that can be handed in, with so many bytes lent
pub record Entry (bytes f : ℕ) (a : Uv) (t : ℕ) (b : Uv) (p : Vector) : Type 0 where
  -- 6 is given where the line misses the first face, and nowhere else
  pub off : walk_refusal bytes f a t b p ≡ Err OffFace → met p f ≡ false
  -- 7: with however many faces it would have been unfinished
  pub gives_up : walk_refusal bytes f a t b p ≡ Err Unfinished → (k : ℕ) → stop_refusal k p f t ≡ Err Unfinished
  -- 0: it has at most six segments
  pub at_most_six : walk_refusal bytes f a t b p ≡ done → length (segments 8 p f a t b) ≤ 6
  -- so that 240 bytes always hold it: 8 is not given
  pub holds : 240 ≤ bytes → walk_refusal bytes f a t b p ≡ Err ShortBuffer → ⊥
  -- and of an input that is admitted, on a first face that the line meets, the number is 0 where it meets the target too, and else 7
  pub given : input_refusal f a t b p ≡ done → met p f ≡ true → 240 ≤ bytes → walk_refusal bytes f a t b p ≡ (when met p t then done else Err Unfinished)

-- ---- what the entry leaves in the buffer xs

pub record Lent (xs : List ℕ) (f : ℕ) (a : Uv) (t : ℕ) (b : Uv) (p : Vector) : Type 0 where
  -- as many bytes as there were
  pub as_long : (whose : ℕ) → length (buffer_after xs f a t b p whose) ≡ length xs
  -- the trace number is in each of the records that the answer counts, and changes no other byte
  pub numbered : Numbered (buffer_after xs f a t b p) (value_or 0 (walk_or_refusal (length xs) f a t b p))
  -- with number 0 the records are as they were before there was one
  pub of_none : buffer_after xs f a t b p 0
      ≡ value_or xs (walk_refusal (length xs) f a t b p then Ok (followed_by (joined (λ s. unnumbered s.face (segment_ends s)) (segments 8 p f a t b)) xs))

-- ---- all of it

pub record Promises : Type 0 where
  -- with however many faces, each segment but the last is followed by the next
  pub linked : (k : ℕ) (p : Vector) (f t : ℕ) → Begun p f t → (a b : Uv) → Linked p (segments k p f a t b)
  -- so number 6 is never given
  pub never_off : (k : ℕ) (p : Vector) (f t : ℕ) → Begun p f t → stop_refusal k p f t ≡ Err OffFace → ⊥
  -- whatever the normal, where 6 is not given: 7 exactly when no longer walk, with however many faces, would arrive
  pub never_arrives : (p : Vector) (f t : ℕ) → f ≤ 5 → t ≤ 5 → (stop_refusal 8 p f t ≡ Err OffFace → ⊥) → (stop_refusal 8 p f t ≡ Err Unfinished) ↔ ((k : ℕ) → stop_refusal k p f t ≡ done → ⊥)
  -- given up unfinished, a walk is unfinished with however many faces
  pub given_up : (p : Vector) (f t : ℕ) → Begun p f t → stop_refusal 8 p f t ≡ Err Unfinished → (k : ℕ) → stop_refusal k p f t ≡ Err Unfinished
  -- it arrives exactly when the line meets the target
  pub arrives : (p : Vector) (f t : ℕ) → Begun p f t → stop_refusal 8 p f t ≡ (when met p t then done else Err Unfinished)
  -- a walk that arrives has at most six segments, from whatever face it began
  pub six : (p : Vector) (f t : ℕ) → Normal p → f ≤ 5 → t ≤ 5 → stop_refusal 8 p f t ≡ done → (a b : Uv) → length (segments 8 p f a t b) ≤ 6
  -- the same of the number that the entry gives, with a buffer of any length and whatever points
  pub entry : (bytes f : ℕ) (a : Uv) (t : ℕ) (b : Uv) (p : Vector) → HandedIn p → Entry bytes f a t b p
  -- and of what it leaves, whatever it is handed
  pub lent : (xs : List ℕ) (f : ℕ) (a : Uv) (t : ℕ) (b : Uv) (p : Vector) → Lent xs f a t b p
