-- The unit vectors and the normals of each face in its own (u, v, w): computed, but for the sign that is changed twice.
use mathlib.Core.Path.{◌≡◌, refl, ◌∙◌}
use mathlib.Core.Bool.{Bool, true, ◌&&◌}
use Prim.Native.Nat.{ℕ, ◌≤◌}
use lib.Ieee.{Float, eq, neg, of_bits}
use Rattle.float.specs.Float.{zero_f, one_f, finite}
use Rattle.float.proofs.Order.{finite_num, le_refl, le_eq}
use Rattle.float.proofs.Negated.{neg_neg, neg_finite}
use Rattle.cube.specs.Vector.{vec}
use Rattle.cube.specs.Faces.{by_face, uvw_of, u_axis, v_axis, u_norm, v_norm}
use Rattle.cube.specs.Promises.{Alike, Axes, Norms}
use Rattle.cube.specs.declared.vector.Vector.{Vector}
use Rattle.cube.proofs.Six.{six, at, both}

abbrev alike : Vector → Vector → Bool
alike p q = eq p.x q.x && (eq p.y q.y && eq p.z q.z)

alike_is : (p q : Vector) → alike p q ≡ true → Alike p q
alike_is p q e =
    let (a, r) = both (eq p.x q.x) (eq p.y q.y && eq p.z q.z) e in
    let (b, c) = both (eq p.y q.y) (eq p.z q.z) r in
    record { x = a; y = b; z = c }

pub axes : (f : ℕ) → f ≤ 5 → Axes f
unfolding uvw_of u_axis v_axis by_face eq neg of_bits
axes f h =
    record {
      u = alike_is _ _ (at 5 (λ f. alike (uvw_of f (u_axis f)) (vec one_f zero_f zero_f)) refl f h);
      v = alike_is _ _ (at 5 (λ f. alike (uvw_of f (v_axis f)) (vec zero_f one_f zero_f)) refl f h);
    }

itself : (c : Float) → finite c ≡ true → eq c c ≡ true
itself c h = let n = le_refl c (finite_num c h) in le_eq c c n n

-- the first two coordinates are computed, and the third is the given, its sign changed twice on some faces
u_norm_lem : (c : Float) → eq c c ≡ true → (f : ℕ) → f ≤ 5 → alike (uvw_of f (u_norm f c)) (vec (neg one_f) zero_f c) ≡ true
unfolding uvw_of u_norm by_face eq neg of_bits
u_norm_lem c h =
    let k : eq (neg (neg c)) c ≡ true = rw neg_neg h in
    six (λ f. alike (uvw_of f (u_norm f c)) (vec (neg one_f) zero_f c) ≡ true) h h h k k k

v_norm_lem : (c : Float) → eq (neg c) (neg c) ≡ true → (f : ℕ) → f ≤ 5 → alike (uvw_of f (v_norm f c)) (vec zero_f one_f (neg c)) ≡ true
unfolding uvw_of v_norm by_face eq neg of_bits
v_norm_lem c h = six (λ f. alike (uvw_of f (v_norm f c)) (vec zero_f one_f (neg c)) ≡ true) h h h h h h

pub norms : (f : ℕ) → f ≤ 5 → (c : Float) → finite c ≡ true → Norms f c
norms f h c fine =
    record {
      u = alike_is _ _ (u_norm_lem c (itself c fine) f h);
      v = alike_is _ _ (v_norm_lem c (itself (neg c) (neg_finite c ∙ fine)) f h);
    }
