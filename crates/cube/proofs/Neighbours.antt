-- The neighbour over an axis is the one face whose own w is that axis in that direction: one test over faces, axes and directions, computed.
use mathlib.Core.Path.{◌≡◌, refl, sym, ap, ◌∙◌}
use mathlib.Core.Bool.{Bool, true, false, ◌&&◌, cond}
use Prim.Native.Nat.{ℕ, ◌+◌, ◌≤◌}
use native.Mathlib.Omega.{arith}
use borrow.Author.Tests.{leb-true, eqb-true}
use lib.Dec.{leb, eqb}
use lib.Ieee.{Float, nan, inf, fin, neg}
use lib.IntN.{pos, negsuc}
use Rattle.float.specs.Choice.{when◌then◌else◌}
use Rattle.float.proofs.Choice.{cases}
use Rattle.cube.specs.Vector.{vec}
use Rattle.cube.specs.Faces.{by_face, along, uvw_of, minus_or_plus, row_at, neighbour}
use Rattle.cube.specs.Promises.{toward, TheOneOver}
use Rattle.cube.specs.declared.vector.Vector.{Vector}
use Rattle.cube.proofs.Six.{up_to, at, both}
use Rattle.cube.proofs.Directions.{through, along_turned, u_dir, v_dir, u_dir_le, v_dir_le, uvw_is}

-- ---- the asked axis of f in the asked direction, as a direction
abbrev pub asked : ℕ → ℕ → ℕ → ℕ
asked f axis direction = through (toward axis direction) (u_dir f) (v_dir f) f

-- the neighbour is that direction
right : ℕ → ℕ → ℕ → Bool
right f axis direction = leb (neighbour f axis direction) 5 && eqb (asked f axis direction) (neighbour f axis direction)

all_right : up_to 5 (λ f. up_to 2 (λ a. up_to 1 (λ d. right f a d))) ≡ true
unfolding right neighbour row_at minus_or_plus when◌then◌else◌ u_dir v_dir by_face
all_right = refl

right_at : (f axis direction : ℕ) → f ≤ 5 → axis ≤ 2 → direction ≤ 1 → (neighbour f axis direction ≤ 5) × (asked f axis direction ≡ neighbour f axis direction)
unfolding right
right_at f axis direction F A D =
    let g = neighbour f axis direction in
    let e = at 1 (λ d. right f axis d) (at 2 (λ a. up_to 1 (λ d. right f a d)) (at 5 (λ f. up_to 2 (λ a. up_to 1 (λ d. right f a d))) all_right f F) axis A) direction D in
    let (p, q) = both (leb g 5) (eqb (asked f axis direction) g) e in
    (leb-true g 5 p, eqb-true (asked f axis direction) g q)

-- what other crates compute with in its place
pub neighbour_is : (f axis direction : ℕ) → f ≤ 5 → axis ≤ 2 → direction ≤ 1 → neighbour f axis direction ≡ asked f axis direction
neighbour_is f axis direction F A D = sym (right_at f axis direction F A D).1

-- ---- directions are told apart by one vector, (1, 2, 4)
probe : Vector
probe = vec (fin false 1 (pos 0)) (fin false 1 (pos 1)) (fin false 1 (pos 2))

name_of : Float → ℕ
name_of nan = 0
name_of (inf s) = 0
name_of (fin s m (pos k)) = cond s (k + 3) k
name_of (fin s m (negsuc k)) = 0

name_along : (h : ℕ) → h ≤ 5 → name_of (along h probe) ≡ h
unfolding name_of probe along by_face neg
name_along h H = eqb-true _ h (at 5 (λ h. eqb (name_of (along h probe)) h) refl h H)

-- ---- so the neighbour is the one
own_w : (p : Vector) (g : ℕ) → g ≤ 5 → (uvw_of g p).z ≡ along g p
own_w p g G = ap (λ (q : Vector). q.z) (uvw_is p g G)

module _ (f axis direction : ℕ) (F : f ≤ 5) (A : axis ≤ 2) (D : direction ≤ 1) where
  toward_le : toward axis direction ≤ 5
  unfolding minus_or_plus
  toward_le = cases (λ (h : ℕ). h ≤ 5) (eqb direction 0) (axis + 3) axis (λ e. omega arith) (λ e. omega arith)

  over_is : (p : Vector) → along (toward axis direction) (uvw_of f p) ≡ along (neighbour f axis direction) p
  over_is p =
      ap (along (toward axis direction)) (uvw_is p f F) ∙ along_turned p (u_dir f) (v_dir f) f (u_dir_le f F) (v_dir_le f F) F (toward axis direction) toward_le
      ∙ ap (λ (h : ℕ). along h p) (right_at f axis direction F A D).1

  pub neighbours : TheOneOver f axis direction (neighbour f axis direction)
  neighbours =
      let g = neighbour f axis direction in
      let G = (right_at f axis direction F A D).0 in
      record {
        face = G;
        over = λ p. own_w p g G ∙ sym (over_is p);
        only = λ h H o. sym (name_along h H) ∙ ap name_of (sym (own_w probe h H) ∙ o probe ∙ over_is probe) ∙ name_along g G;
      }
