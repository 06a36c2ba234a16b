-- Directions: each table of the six faces is a choice of three, so what holds of the tables is computed. A direction is named by the face that it points at.
use mathlib.Core.Path.{◌≡◌, refl, sym, ap, ◌∙◌}
use mathlib.Core.Bool.{true}
use Prim.Native.Nat.{ℕ, ◌+◌, ◌%◌, ◌≤◌}
use borrow.Author.Tests.{leb-true, eqb-true}
use lib.Dec.{leb, eqb}
use lib.Ieee.{Float, binary64, neg}
use Rattle.float.specs.Float.{◌⊘◌, one_f, magnitude_of}
use Rattle.float.proofs.Negated.{neg_neg, neg_size, div_turn}
use Rattle.cube.specs.Vector.{vec}
use Rattle.cube.specs.Faces.{by_face, along, absolute, uv, uv_of, point_at, uvw_of}
use Rattle.cube.specs.Promises.{own_axis}
use Rattle.cube.specs.declared.vector.Vector.{Vector}
use Rattle.cube.proofs.Six.{six, up_to, at}

-- the opposite direction
abbrev back : ℕ → ℕ
back h = (h + 3) % 6

neg_along : (p : Vector) (h : ℕ) → h ≤ 5 → neg (along h p) ≡ along (back h) p
unfolding along by_face
neg_along p = six (λ h. neg (along h p) ≡ along (back h) p) refl refl refl (neg_neg p.x) (neg_neg p.y) (neg_neg p.z)

-- a direction and its axis: the same absolute coordinate
pub along_size : (p : Vector) (h : ℕ) → h ≤ 5 → magnitude_of (along h p) ≡ absolute (own_axis h) p
unfolding along by_face
along_size p = six (λ h. magnitude_of (along h p) ≡ absolute (own_axis h) p) refl refl refl (neg_size p.x) (neg_size p.y) (neg_size p.z)

-- ---- three directions of a vector, and a direction of those three
abbrev turned : ℕ → ℕ → ℕ → Vector → Vector
turned a b c p = vec (along a p) (along b p) (along c p)

abbrev pub through : ℕ → ℕ → ℕ → ℕ → ℕ
through h a b c = by_face h a b c (back a) (back b) (back c) 0

pub along_turned : (p : Vector) (a b c : ℕ) → a ≤ 5 → b ≤ 5 → c ≤ 5 → (h : ℕ) → h ≤ 5 → along h (turned a b c p) ≡ along (through h a b c) p
unfolding along by_face
along_turned p a b c A B C = six (λ h. along h (turned a b c p) ≡ along (through h a b c) p) refl refl refl (neg_along p a A) (neg_along p b B) (neg_along p c C)

-- ---- (u, v, w) are the directions of u and v, and the face's own
unfoldable pub u_dir : ℕ → ℕ
u_dir f = by_face f 1 3 3 5 5 1 0

unfoldable pub v_dir : ℕ → ℕ
v_dir f = by_face f 2 2 4 4 0 0 0

pub u_dir_le : (f : ℕ) → f ≤ 5 → u_dir f ≤ 5
unfolding u_dir by_face
u_dir_le f h = leb-true (u_dir f) 5 (at 5 (λ g. leb (u_dir g) 5) refl f h)

pub v_dir_le : (f : ℕ) → f ≤ 5 → v_dir f ≤ 5
unfolding v_dir by_face
v_dir_le f h = leb-true (v_dir f) 5 (at 5 (λ g. leb (v_dir g) 5) refl f h)

pub uvw_is : (p : Vector) (f : ℕ) → f ≤ 5 → uvw_of f p ≡ turned (u_dir f) (v_dir f) f p
unfolding uvw_of u_dir v_dir along by_face
uvw_is p = six (λ f. uvw_of f p ≡ turned (u_dir f) (v_dir f) f p) refl refl refl refl refl refl

-- (u, v) is u / w and v / w: a sign on both sides of a quotient is on neither, and one below is one above
both_sides : (x y : Float) → x ⊘ y ≡ neg x ⊘ neg y
both_sides x y = sym (div_turn binary64 (neg x) y ∙ ap (λ (z : Float). z ⊘ y) (neg_neg x))

below_above : (x y : Float) → neg x ⊘ y ≡ x ⊘ neg y
below_above x y = sym (div_turn binary64 x y)

pub uv_is : (p : Vector) (f : ℕ) → f ≤ 5 → uv_of f p ≡ uv (along (u_dir f) p ⊘ along f p) (along (v_dir f) p ⊘ along f p)
unfolding uv_of u_dir v_dir along by_face
uv_is p =
    let x = p.x in
    let y = p.y in
    let z = p.z in
    six (λ f. uv_of f p ≡ uv (along (u_dir f) p ⊘ along f p) (along (v_dir f) p ⊘ along f p)) refl refl refl
    (cc (both_sides z x, both_sides y x))
    (cc (both_sides z y, below_above x y))
    (cc (below_above y z, below_above x z))

-- ---- the point at (u, v) is three directions of (u, v, 1)
abbrev flat : Float → Float → Vector
flat u v = vec u v one_f

-- which of these the direction h of the point is
unfoldable pub at_point : ℕ → ℕ → ℕ
at_point f h = through h (by_face f 2 3 3 5 1 1 0) (by_face f 0 2 4 4 5 0 0) (by_face f 1 1 2 3 3 5 0)

point_is : (u v : Float) (f : ℕ) → f ≤ 5 → point_at f u v ≡ turned (at_point f 0) (at_point f 1) (at_point f 2) (flat u v)
unfolding point_at at_point along by_face
point_is u v = six (λ f. point_at f u v ≡ turned (at_point f 0) (at_point f 1) (at_point f 2) (flat u v)) refl refl refl refl refl refl

pub along_point : (u v : Float) (f h : ℕ) → f ≤ 5 → h ≤ 5 → along h (point_at f u v) ≡ along (at_point f h) (flat u v)
unfolding at_point by_face
along_point u v f h F H =
    let low : (k : ℕ) → up_to 5 (λ g. leb (at_point g k) 5) ≡ true → at_point f k ≤ 5 = λ k e. leb-true (at_point f k) 5 (at 5 (λ g. leb (at_point g k) 5) e f F) in
    ap (along h) (point_is u v f F) ∙ along_turned (flat u v) (at_point f 0) (at_point f 1) (at_point f 2) (low 0 refl) (low 1 refl) (low 2 refl) h H

-- where a direction d of every face is the same direction k of (u, v, 1), which is computed, the point reaches as far along it
reach : (u v : Float) (k : ℕ) (d : ℕ → ℕ) → up_to 5 (λ g. eqb (at_point g (d g)) k) ≡ true → (f : ℕ) → f ≤ 5 → d f ≤ 5 → along (d f) (point_at f u v) ≡ along k (flat u v)
reach u v k d e f F D = along_point u v f (d f) F D ∙ ap (λ (h : ℕ). along h (flat u v)) (eqb-true (at_point f (d f)) k (at 5 (λ g. eqb (at_point g (d g)) k) e f F))

pub point_u : (u v : Float) (f : ℕ) → f ≤ 5 → along (u_dir f) (point_at f u v) ≡ u
unfolding u_dir at_point along by_face
point_u u v f F = reach u v 0 u_dir refl f F (u_dir_le f F)

pub point_v : (u v : Float) (f : ℕ) → f ≤ 5 → along (v_dir f) (point_at f u v) ≡ v
unfolding v_dir at_point along by_face
point_v u v f F = reach u v 1 v_dir refl f F (v_dir_le f F)

pub point_w : (u v : Float) (f : ℕ) → f ≤ 5 → along f (point_at f u v) ≡ one_f
unfolding at_point along by_face
point_w u v f F = reach u v 2 (λ g. g) refl f F F

pub point_uvw : (f : ℕ) → f ≤ 5 → (u v : Float) → uvw_of f (point_at f u v) ≡ vec u v one_f
point_uvw f F u v = uvw_is (point_at f u v) f F ∙ (rw (point_u u v f F, point_v u v f F, point_w u v f F))
