-- The point at (u, v), with |u|, |v| < 1: it is admitted, points at its own face, and has u and v there.
use mathlib.Core.Path.{◌≡◌, refl, sym, ap, ◌∙◌}
use mathlib.Core.Bool.{Bool, true, false, ◌&&◌, beq, true≢false}
use Prim.Native.Nat.{ℕ, ◌≤◌}
use native.Mathlib.Decide.{ℕ_discrete}
use native.Mathlib.Omega.{arith}
use borrow.Author.Tests.{leb-true, le-leb, eqb-true, eqb-false, eq-eqb, ne_eqb}
use lib.Dec.{leb, eqb}
use lib.IntN.{pos}
use lib.Ieee.{Float, fin, binary64, lt, le, eq, neg, of_bits}
use Rattle.float.specs.Float.{◌⊘◌, zero_f, one_f, finite, magnitude_of}
use Rattle.float.specs.Exact.{Value}
use Rattle.float.proofs.Choice.{and_both}
use Rattle.float.proofs.Order.{lt_le}
use Rattle.float.proofs.Unit.{div_one}
use Rattle.answer.specs.Refusal.{done}
use Rattle.cube.specs.Vector.{vec, finite_vector, is_zero}
use Rattle.cube.specs.Faces.{by_face, along, absolute, face_of, point_at}
use Rattle.cube.specs.Refuse.{vector_refusal, side_refusal}
use Rattle.cube.specs.Promises.{own_axis, Greatest, ReadBack}
use Rattle.cube.specs.declared.vector.Vector.{Vector}
use Rattle.cube.proofs.Six.{six, three, up_to, at, both, beq_is}
use Rattle.cube.proofs.Directions.{along_size, uv_is, at_point, along_point, point_u, point_v, point_w}
use Rattle.cube.proofs.Greatest.{face_greatest, face_only}
use Rattle.cube.proofs.Vectors.{along_finite, finite_vector_lem, zero_along}

one_is : one_f ≡ fin false 1 (pos 0)
unfolding of_bits
one_is = refl

-- ---- an axis of the point is 1 in size where it is the face's own, and there alone
right : ℕ → ℕ → Bool
right f i = leb (at_point f i) 5 && beq (eqb (own_axis (at_point f i)) 2) (eqb i (own_axis f))

all_right : up_to 5 (λ f. up_to 2 (λ i. right f i)) ≡ true
unfolding right at_point by_face
all_right = refl

right_at : (f i : ℕ) → f ≤ 5 → i ≤ 2 → (at_point f i ≤ 5) × (eqb (own_axis (at_point f i)) 2 ≡ eqb i (own_axis f))
unfolding right
right_at f i F I =
    let (a, b) = both (leb (at_point f i) 5) _ (at 2 (λ i. right f i) (at 5 (λ f. up_to 2 (λ i. right f i)) all_right f F) i I) in
    (leb-true (at_point f i) 5 a, beq_is _ _ b)

point_sign : (u v : Float) (f : ℕ) → f ≤ 5 → leb 3 f ≡ lt (along (own_axis f) (point_at f u v)) zero_f
unfolding point_at along by_face lt neg of_bits
point_sign u v = six (λ f. leb 3 f ≡ lt (along (own_axis f) (point_at f u v)) zero_f) refl refl refl refl refl refl

-- ---- so it points at its own face
module _ (u v : Float) (hu : lt (magnitude_of u) one_f ≡ true) (hv : lt (magnitude_of v) one_f ≡ true) (f : ℕ) (F : f ≤ 5) where
  abbrev q : Vector
  q = vec u v one_f

  abbrev p : Vector
  p = point_at f u v

  size_is : (i : ℕ) → i ≤ 2 → absolute i p ≡ absolute (own_axis (at_point f i)) q
  size_is i I = ap magnitude_of (along_point u v f i F (omega arith)) ∙ along_size q (at_point f i) (right_at f i F I).0

  less : (k : ℕ) → k ≤ 2 → (k ≡ 2 → ⊥) → lt (absolute k q) (absolute 2 q) ≡ true
  unfolding along by_face magnitude_of of_bits
  less = three (λ k. (k ≡ 2 → ⊥) → lt (absolute k q) (absolute 2 q) ≡ true) (λ n. hu) (λ n. hv) (λ n. absurd (n refl))

  own : absolute (own_axis f) p ≡ absolute 2 q
  own =
      let i = own_axis f in
      let I : i ≤ 2 = omega arith in
      size_is i I ∙ ap (λ (k : ℕ). absolute k q) (eqb-true (own_axis (at_point f i)) 2 ((right_at f i F I).1 ∙ eq-eqb i i refl))

  other : (i : ℕ) → i ≤ 2 → (i ≡ own_axis f → ⊥) → lt (absolute i p) (absolute (own_axis f) p) ≡ true
  other i I n =
      let k = own_axis (at_point f i) in
      rw (size_is i I, own) (less k (omega arith) (eqb-false k 2 ((right_at f i F I).1 ∙ ne_eqb i (own_axis f) n)))

  itself : le (absolute 2 q) (absolute 2 q) ≡ true
  unfolding along by_face magnitude_of le of_bits
  itself = refl

  most : (i : ℕ) → i ≤ 2 → le (absolute i p) (absolute (own_axis f) p) ≡ true
  most i I = elim (ℕ_discrete i (own_axis f)) [ yes e ↦ rw (e, own) itself | no n ↦ lt_le _ _ (other i I n) ]

  point_greatest : Greatest p f
  point_greatest = record { face = F; most = most; lowest = λ i l. other i (omega arith) (λ e. omega arith); sign = point_sign u v f F }

-- ---- and is admitted: finite, and not zero
module _ (u v : Float) (fu : finite u ≡ true) (fv : finite v ≡ true) (f : ℕ) (F : f ≤ 5) where
  flat_finite : finite_vector (vec u v one_f) ≡ true
  unfolding finite_vector finite of_bits
  flat_finite = and_both _ _ fu (and_both _ _ fv refl)

  point_finite : finite_vector (point_at f u v) ≡ true
  point_finite = finite_vector_lem (point_at f u v) (λ i I. ap finite (along_point u v f i F (omega arith)) ∙ along_finite (vec u v one_f) flat_finite (at_point f i) (right_at f i F I).0)

  point_some : is_zero (point_at f u v) ≡ false
  point_some = go (is_zero (point_at f u v)) refl
    where
      one : eq (magnitude_of one_f) zero_f ≡ false
      one = unfold eq magnitude_of of_bits in refl

      go : (b : Bool) → is_zero (point_at f u v) ≡ b → b ≡ false
      go true e = absurd (true≢false (sym (zero_along (point_at f u v) e f F) ∙ (rw (point_w u v f F) one)))
      go false e = refl

  point_admitted : vector_refusal (point_at f u v) ≡ done
  point_admitted = rw (point_finite, point_some)

  point_on_side : side_refusal f (point_at f u v) ≡ done
  unfolding lt of_bits
  point_on_side = rw (le-leb f 5 F, point_finite, point_w u v f F)

-- ---- with its own numbers
over_one : (x : Float) → Value binary64 x → x ⊘ one_f ≡ x
over_one x v = rw one_is (div_one binary64 x v)

pub read_back : (f : ℕ) → f ≤ 5 → (u v : Float) → Value binary64 u → Value binary64 v → lt (magnitude_of u) one_f ≡ true → lt (magnitude_of v) one_f ≡ true → ReadBack f u v
read_back f F u v a b hu hv =
    let p = point_at f u v in
    let fine = point_finite u v a.is_finite b.is_finite f F in
    record {
      admitted = point_admitted u v a.is_finite b.is_finite f F;
      on_side = point_on_side u v a.is_finite b.is_finite f F;
      face = face_only p (face_of p) f (face_greatest p fine) (point_greatest u v hu hv f F);
      numbers = uv_is p f F ∙ (rw (point_u u v f F, point_v u v f F, point_w u v f F, over_one u a, over_one v b));
    }
