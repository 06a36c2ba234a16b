-- The next face is a neighbour over u or v, and a point of an edge that they share lies on an edge of both.
use Prim.Native.Nat.{ℕ, ◌%◌, ◌≤◌}
use native.Mathlib.Omega.{arith}
use mathlib.Core.Path.{◌≡◌, refl, ap, ◌∙◌}
use mathlib.Core.Bool.{Bool, true, false, ◌&&◌, ◌||◌, false≢true}
use lib.Dec.{leb, eqb}
use borrow.Author.Tests.{leb-true}
use lib.Ieee.{Float}
use Rattle.float.specs.Choice.{when◌then◌else◌}
use Rattle.float.specs.Float.{one_f}
use Rattle.float.proofs.Choice.{cases}
use Rattle.cube.specs.Vector.{vec, is_zero}
use Rattle.cube.specs.Faces as Faces
use Rattle.cube.specs.Faces.{by_face, point_at, uvw_of, minus_or_plus, neighbour}
use Rattle.cube.specs.declared.vector.Vector.{Vector}
use Rattle.cube.specs.declared.compute.Uv.{Uv}
use Rattle.cube.proofs.Six.{six, up_to, at, both}
use Rattle.cube.proofs.Directions.{at_point, u_dir, v_dir, u_dir_le, v_dir_le, uvw_is, along_point}
use Rattle.cube.proofs.Neighbours.{asked, neighbour_is}
use Rattle.cube.proofs.Promises as cube
use Rattle.line.specs.declared.compute.Axis.{Axis}
use Rattle.line.specs.declared.compute.Axis.TheVariants.{U, «V»}
use Rattle.line.specs.Line.{by_axis, exit_axis, one_if, other_axis, coordinate, axis_number, direction_of, neighbour_over, at_corner, next_face, left_at, onward}
use Rattle.line.specs.Promises.{Finite, corner_at}
use Rattle.line.proofs.Next.{finite_in, not_zero_in, axis_le, direction_le}
use Rattle.line.proofs.Promises as line
use Rattle.walk.specs.Walk.{met, moved_to}
use Rattle.walk.specs.Promises.{OneOn}

-- ---- the next face
-- g is the neighbour of f over u or v, in some direction
pub record Beside (f g : ℕ) : Type 0 where
  pub axis : ℕ
  pub direction : ℕ
  pub axis_is : axis ≤ 1
  pub direction_is : direction ≤ 1
  pub is : g ≡ neighbour f axis direction

pub over_beside : (f : ℕ) (a : Axis) (e : Uv) → Beside f (neighbour_over f a e)
over_beside f a e = record { axis = axis_number a; direction = direction_of (coordinate a e); axis_is = axis_le a; direction_is = direction_le (coordinate a e); is = refl }

pub beside_le : {f g : ℕ} → f ≤ 5 → Beside f g → g ≤ 5
beside_le {f} {g} F h = rw h.is ((cube.promises).neighbours f h.axis h.direction F (omega arith) h.direction_is).face

-- whatever the normal, it is a face
pub onward_le : (p : Vector) (f t : ℕ) → f ≤ 5 → t ≤ 5 → onward p f t ≤ 5
unfolding next_face
onward_le p f t F T =
    let n = uvw_of f p in
    let a = exit_axis n in
    cases (λ (g : ℕ). g ≤ 5) (at_corner f (left_at p f) a n t) t (neighbour_over f a (left_at p f)) (λ h. T) (λ h. beside_le F (over_beside f a (left_at p f)))

pub onward_beside : {p : Vector} → Finite p → is_zero p ≡ false → (f t : ℕ) → f ≤ 5 → met p f ≡ true → Beside f (onward p f t)
unfolding next_face
onward_beside {p} v nz f t F m =
    let n = uvw_of f p in
    let a = exit_axis n in
    cases (Beside f) (at_corner f (left_at p f) a n t) t (neighbour_over f a (left_at p f))
    (λ h.
    let l = ((line.promises).exit_corner n (finite_in v f F) (not_zero_in v nz f F) m f t).0 h in
    rw (← l.corner.target) (over_beside f (other_axis a) (corner_at l.i l.j)))
    (λ h. over_beside f a (left_at p f))

-- ---- a point of f in the coordinates of g: one of the two is the w of f, which is 1
is_w : ℕ → Bool
is_w h = leb h 5 && eqb (h % 3) 2

shares : ℕ → ℕ → Bool
shares f g = is_w (at_point f (u_dir g)) || is_w (at_point f (v_dir g))

all_share : up_to 5 (λ f. up_to 1 (λ a. up_to 1 (λ d. shares f (asked f a d)))) ≡ true
unfolding shares is_w at_point minus_or_plus when◌then◌else◌ u_dir v_dir by_face
all_share = refl

share_at : {f g : ℕ} → f ≤ 5 → Beside f g → shares f g ≡ true
share_at {f} {g} F h =
    let e = at 1 (λ d. shares f (asked f h.axis d)) (at 1 (λ a. up_to 1 (λ d. shares f (asked f a d))) (at 5 (λ f. up_to 1 (λ a. up_to 1 (λ d. shares f (asked f a d)))) all_share f F) h.axis h.axis_is) h.direction h.direction_is in
    rw (h.is ∙ neighbour_is f h.axis h.direction F (omega arith) h.direction_is) e

w_one : (u v : Float) (h : ℕ) → is_w h ≡ true → (plus : Bool) × (Faces.along h (vec u v one_f) ≡ one_if plus)
unfolding is_w Faces.along by_face one_if when◌then◌else◌
w_one u v h e =
    let (l, m) = both (leb h 5) (eqb (h % 3) 2) e in
    six (λ h. eqb (h % 3) 2 ≡ true → (plus : Bool) × (Faces.along h (vec u v one_f) ≡ one_if plus))
    (λ z. absurd (false≢true z)) (λ z. absurd (false≢true z)) (λ z. (true, refl)) (λ z. absurd (false≢true z)) (λ z. absurd (false≢true z)) (λ z. (false, refl)) h (leb-true h 5 l) m

either : {R : Type 0} (p q : Bool) → (p || q) ≡ true → (p ≡ true → R) → (q ≡ true → R) → R
either true q e f g = f refl
either false q e f g = g e

-- the coordinates there, as directions of (u, v, 1)
module _ (f g : ℕ) (F : f ≤ 5) (G : g ≤ 5) (e : Uv) where
  pub moved_u : (moved_to f e g).u ≡ Faces.along (at_point f (u_dir g)) (vec e.u e.v one_f)
  moved_u = ap (λ (r : Vector). r.x) (uvw_is (point_at f e.u e.v) g G) ∙ along_point e.u e.v f (u_dir g) F (u_dir_le g G)

  pub moved_v : (moved_to f e g).v ≡ Faces.along (at_point f (v_dir g)) (vec e.u e.v one_f)
  moved_v = ap (λ (r : Vector). r.y) (uvw_is (point_at f e.u e.v) g G) ∙ along_point e.u e.v f (v_dir g) F (v_dir_le g G)

-- so a point of f has there one coordinate exactly 1 or -1
pub enters_one : (f g : ℕ) → f ≤ 5 → Beside f g → (e : Uv) → (a : Axis) × OneOn a (moved_to f e g)
unfolding shares by_axis
enters_one f g F h e =
    let G = beside_le F h in
    either (is_w (at_point f (u_dir g))) (is_w (at_point f (v_dir g))) (share_at F h)
    (λ z. let (k, o) = w_one e.u e.v (at_point f (u_dir g)) z in (U, record { plus = k; one = moved_u f g F G e ∙ o }))
    (λ z. let (k, o) = w_one e.u e.v (at_point f (v_dir g)) z in («V», record { plus = k; one = moved_v f g F G e ∙ o }))
