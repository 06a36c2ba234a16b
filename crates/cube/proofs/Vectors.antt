-- What is asked of a vector, that it is finite or all zero, along every direction.
use mathlib.Core.Path.{◌≡◌, sym, ◌∙◌}
use mathlib.Core.Bool.{true, false}
use Prim.Native.Nat.{ℕ, ◌≤◌}
use native.Mathlib.Omega.{arith}
use lib.Ieee.{Float, fin, le, eq, of_bits}
use lib.IntN.{pos}
use Rattle.float.specs.Float.{zero_f, finite, magnitude_of}
use Rattle.float.proofs.Choice.{and_parts, and_both}
use Rattle.float.proofs.Order.{eq_both, le_trans, le_eq}
use Rattle.float.proofs.Negated.{neg_size, neg_finite}
use Rattle.float.proofs.Size.{size_zero, size_least}
use Rattle.cube.specs.Vector.{finite_vector, is_zero}
use Rattle.cube.specs.Faces.{by_face, along, absolute}
use Rattle.cube.specs.declared.vector.Vector.{Vector}
use Rattle.cube.proofs.Six.{six, both}

-- ---- a finite vector is finite along every direction
pub along_finite : (p : Vector) → finite_vector p ≡ true → (h : ℕ) → h ≤ 5 → finite (along h p) ≡ true
unfolding finite_vector along by_face
along_finite p e =
    let (a, r) = and_parts (finite p.x) _ e in
    let (b, c) = and_parts (finite p.y) (finite p.z) r in
    six (λ h. finite (along h p) ≡ true) a b c (neg_finite p.x ∙ a) (neg_finite p.y ∙ b) (neg_finite p.z ∙ c)

pub finite_vector_lem : (p : Vector) → ((i : ℕ) → i ≤ 2 → finite (along i p) ≡ true) → finite_vector p ≡ true
unfolding finite_vector along by_face
finite_vector_lem p h = and_both _ _ (h 0 (omega arith)) (and_both _ _ (h 1 (omega arith)) (h 2 (omega arith)))

-- ---- a vector that is all zero is zero along every direction, and one is where each coordinate is no more than a zero
pub zero_along : (p : Vector) → is_zero p ≡ true → (h : ℕ) → h ≤ 5 → eq (magnitude_of (along h p)) zero_f ≡ true
unfolding is_zero along by_face of_bits
zero_along p e =
    let (a, r) = and_parts (eq p.x zero_f) _ e in
    let (b, c) = and_parts (eq p.y zero_f) (eq p.z zero_f) r in
    let x = size_zero p.x ∙ a in
    let y = size_zero p.y ∙ b in
    let z = size_zero p.z ∙ c in
    six (λ h. eq (magnitude_of (along h p)) zero_f ≡ true) x y z (rw neg_size x) (rw neg_size y) (rw neg_size z)

-- what is no more than a zero is one
below_zero : (x y : Float) → finite x ≡ true → le (magnitude_of x) (magnitude_of y) ≡ true → eq (magnitude_of y) (fin false 0 (pos 0)) ≡ true → eq x (fin false 0 (pos 0)) ≡ true
below_zero x y f h e =
    let z = (both (le (magnitude_of y) (fin false 0 (pos 0))) _ (sym (eq_both (magnitude_of y) (fin false 0 (pos 0))) ∙ e)).0 in
    sym (size_zero x) ∙ le_eq _ _ (le_trans _ _ _ h z) (size_least x f)

pub all_zero_lem : (p : Vector) → finite_vector p ≡ true → (y : Float) → ((i : ℕ) → i ≤ 2 → le (absolute i p) (magnitude_of y) ≡ true) → eq (magnitude_of y) (fin false 0 (pos 0)) ≡ true → is_zero p ≡ true
unfolding is_zero along by_face of_bits
all_zero_lem p fine y h e =
    let zero : (i : ℕ) → i ≤ 2 → eq (along i p) zero_f ≡ true = λ i l. below_zero (along i p) y (along_finite p fine i (omega arith)) (h i l) e in
    and_both _ _ (zero 0 (omega arith)) (and_both _ _ (zero 1 (omega arith)) (zero 2 (omega arith)))
