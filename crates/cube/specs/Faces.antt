-- The six faces: the rules of document 01, in its order, and those of source document 002. A face is a number up to 5.
use Rattle.std.specs.Prelude.{ℕ, zero, suc, ◌+◌, eqb, Float}
use Rattle.std.specs.Float.Ieee.{lt, neg}
use Rattle.float.specs.Choice.{when◌then◌else◌}
use Rattle.float.specs.Float.{◌⊘◌, zero_f, one_f, magnitude_of}
use Rattle.cube.specs.Vector.{vec, zero_vector}
use Rattle.cube.specs.declared.vector.Vector.{Vector}
use Rattle.cube.specs.declared.compute.Uv.{Uv}

-- what belongs to each of the faces 0 to 5, in this order, and what to a number that is no face
unfoldable pub by_face : {A : Type 0} → ℕ → A → A → A → A → A → A → A → A
by_face zero a b c d e g none = a
by_face (suc zero) a b c d e g none = b
by_face (suc (suc zero)) a b c d e g none = c
by_face (suc (suc (suc zero))) a b c d e g none = d
by_face (suc (suc (suc (suc zero)))) a b c d e g none = e
by_face (suc (suc (suc (suc (suc zero))))) a b c d e g none = g
by_face (suc (suc (suc (suc (suc (suc n)))))) a b c d e g none = none

-- A direction is named by the face that it points at: 0 is x, 1 y, 2 z, and 3, 4, 5 are their opposites. This is how far p reaches along it.
unfoldable pub along : ℕ → Vector → Float
along h p = by_face h p.x p.y p.z (neg p.x) (neg p.y) (neg p.z) zero_f

-- ---- face: greatest absolute coordinate, ties to the lower axis; 3 more when it is negative

abbrev pub absolute : ℕ → Vector → Float
absolute axis p = magnitude_of (along axis p)

-- of two axes the one with the greater absolute coordinate, the first where they tie
unfoldable pub greater : Vector → ℕ → ℕ → ℕ
greater p i j = when lt (absolute i p) (absolute j p) then j else i

unfoldable pub face_of : Vector → ℕ
face_of p =
    let axis = greater p (greater p 0 1) 2 in
    when lt (along axis p) zero_f then axis + 3 else axis

-- ---- (u, v) on faces 0 to 5: (y/x, z/x), (-x/y, z/y), (-x/z, -y/z), (z/x, y/x), (z/y, -x/y), (-y/z, -x/z)

abbrev pub uv : Float → Float → Uv
uv u v = record { u = u; v = v }

unfoldable pub uv_of : ℕ → Vector → Uv
uv_of f p =
    let x = p.x in
    let y = p.y in
    let z = p.z in
    by_face f
    (uv (y ⊘ x) (z ⊘ x))
    (uv (neg x ⊘ y) (z ⊘ y))
    (uv (neg x ⊘ z) (neg y ⊘ z))
    (uv (z ⊘ x) (y ⊘ x))
    (uv (z ⊘ y) (neg x ⊘ y))
    (uv (neg y ⊘ z) (neg x ⊘ z))
    (uv zero_f zero_f)

-- ---- point at (u, v): (1,u,v), (-u,1,v), (-u,-v,1), (-1,-v,-u), (v,-1,-u), (v,u,-1)

unfoldable pub point_at : ℕ → Float → Float → Vector
point_at f u v =
    by_face f
    (vec one_f u v)
    (vec (neg u) one_f v)
    (vec (neg u) (neg v) one_f)
    (vec (neg one_f) (neg v) (neg u))
    (vec v (neg one_f) (neg u))
    (vec v u (neg one_f))
    zero_vector

-- ---- (u, v, w): (y,z,x), (-x,z,y), (-x,-y,z), (-z,-y,-x), (-z,x,-y), (y,x,-z)

unfoldable pub uvw_of : ℕ → Vector → Vector
uvw_of f p =
    let x = p.x in
    let y = p.y in
    let z = p.z in
    by_face f
    (vec y z x)
    (vec (neg x) z y)
    (vec (neg x) (neg y) z)
    (vec (neg z) (neg y) (neg x))
    (vec (neg z) x (neg y))
    (vec y x (neg z))
    zero_vector

-- ---- neighbours, per face, as u-/u+, v-/v+, w-/w+: a row of six numbers

-- the direction 0 is minus, any other plus
unfoldable pub minus_or_plus : ℕ → ℕ → ℕ → ℕ
minus_or_plus direction minus plus = when eqb direction 0 then minus else plus

-- the axis 0 is u, 1 is v, any other w
unfoldable pub row_at : ℕ → ℕ → ℕ → ℕ → ℕ → ℕ → ℕ → ℕ → ℕ
row_at axis direction um up vm vp wm wp =
    when eqb axis 0 then minus_or_plus direction um up
    else when eqb axis 1 then minus_or_plus direction vm vp
    else minus_or_plus direction wm wp

unfoldable pub neighbour : ℕ → ℕ → ℕ → ℕ
neighbour f axis direction =
    by_face f
    (row_at axis direction 4 1 5 2 3 0)
    (row_at axis direction 0 3 5 2 4 1)
    (row_at axis direction 0 3 1 4 5 2)
    (row_at axis direction 2 5 1 4 0 3)
    (row_at axis direction 2 5 3 0 1 4)
    (row_at axis direction 4 1 3 0 2 5)
    0

-- ---- from source document 002: the unit vectors along a face's u and v

unfoldable pub u_axis : ℕ → Vector
u_axis f =
    let o = zero_f in
    let i = one_f in
    by_face f (vec o i o) (vec (neg i) o o) (vec (neg i) o o) (vec o o (neg i)) (vec o o (neg i)) (vec o i o) zero_vector

unfoldable pub v_axis : ℕ → Vector
v_axis f =
    let o = zero_f in
    let i = one_f in
    by_face f (vec o o i) (vec o o i) (vec o (neg i) o) (vec o (neg i) o) (vec i o o) (vec i o o) zero_vector

-- ---- from source document 002: a normal of the plane through the cube's centre and the line of a face at a u, or at a v

unfoldable pub u_norm : ℕ → Float → Vector
u_norm f u =
    let o = zero_f in
    let i = one_f in
    by_face f
    (vec u (neg i) o)
    (vec i u o)
    (vec i o u)
    (vec (neg u) o i)
    (vec o (neg u) i)
    (vec o (neg i) (neg u))
    zero_vector

unfoldable pub v_norm : ℕ → Float → Vector
v_norm f v =
    let o = zero_f in
    let i = one_f in
    by_face f
    (vec (neg v) o i)
    (vec o (neg v) i)
    (vec o (neg i) (neg v))
    (vec v (neg i) o)
    (vec i v o)
    (vec i o v)
    zero_vector
