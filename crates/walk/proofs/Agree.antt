-- The step on floats is the step on kinds, in one face: n is the normal in its u, v, w, and m the sum of its sizes.
use mathlib.Core.Path.{◌≡◌, refl, sym, ap, ◌∙◌}
use mathlib.Core.Logic.{inl, inr}
use mathlib.Core.Bool.{Bool, true, false, not, ◌&&◌, ◌||◌, cond}
use Prim.Native.Nat.{ℕ, ◌+◌, ◌≤◌, ◌<◌}
use native.Mathlib.Nat.{pos_of_ne-zero}
use native.Mathlib.Omega.{arith}
use lib.Dec.{leb, eqb}
use borrow.Author.Tests.{le-leb, lt-leb, eq-eqb, eqb-true, eqb-false}
use lib.Ieee.{Float, unlike, lt, neg, of_bits}
use Rattle.float.specs.Choice.{when◌then◌else◌}
use Rattle.float.specs.Float.{sign_bit}
use Rattle.float.proofs.Choice.{same, split}
use Rattle.float.proofs.Whole.{le_or_lt}
use Rattle.float.proofs.Plain.{plain, le_units}
use Rattle.float.proofs.Signed.{turned}
use Rattle.float.proofs.Zero.{lt_nought, nought_lt}
use Rattle.cube.specs.Vector.{is_zero}
use Rattle.cube.specs.Faces.{neighbour}
use Rattle.cube.specs.declared.vector.Vector.{Vector}
use Rattle.cube.proofs.Six.{both}
use Rattle.cube.proofs.Neighbours.{asked, neighbour_is}
use Rattle.line.specs.declared.compute.Axis.{Axis}
use Rattle.line.specs.declared.compute.Axis.TheVariants.{U, «V»}
use Rattle.line.specs.Line.{by_axis, meets_face, passes_opposite_edges, even_signs, exit_axis, one_if, exit_point, direction_of, at_corner, next_face}
use Rattle.line.specs.Line.{other_axis, coordinate, axis_number, neighbour_over}
use Rattle.line.specs.Promises.{size, Finite, apart, corner_at, Through}
use Rattle.line.proofs.Next.{axis_le}
use Rattle.line.proofs.Normal.{u_held, v_held, zero_is, opposite_is}
use Rattle.line.proofs.Exit.{is_v, leaves, exit_side, axis_v}
use Rattle.line.proofs.Corner.{corner_coordinate, one_if_inj, factor_is_signed, on_own, on_other, exit_corner}
use Rattle.walk.proofs.Kind.{Part, part_of, total, through_k, on_vk, hit, step_k}
use Rattle.walk.proofs.Balance.{to_test, of_test}

-- ---- the exit axis, on whole numbers: m is a + b + c
axis_is : (a b c m : ℕ) (x : Bool) → m ≡ a + b + c → cond (leb c (apart a b)) (leb b a) x ≡ (leb m (a + a) || (not (leb m (b + b)) && x))
axis_is a b c m x e =
    elim (le_or_lt m (a + a)) [
      | inl h ↦
          let p : leb m (a + a) ≡ true = le-leb m (a + a) h in
          let q : leb c (apart a b) ≡ true = le-leb c (apart a b) (omega arith) in
          let r : leb b a ≡ true = le-leb b a (omega arith) in
          rw (p, q, r)
      | inr h ↦
          elim (le_or_lt m (b + b)) [
            | inl k ↦
                let p : leb m (a + a) ≡ false = lt-leb m (a + a) h in
                let q : leb c (apart a b) ≡ true = le-leb c (apart a b) (omega arith) in
                let r : leb b a ≡ false = lt-leb b a (omega arith) in
                let s : leb m (b + b) ≡ true = le-leb m (b + b) k in
                rw (p, q, r, s)
            | inr k ↦
                let p : leb m (a + a) ≡ false = lt-leb m (a + a) h in
                let q : leb c (apart a b) ≡ false = lt-leb c (apart a b) (omega arith) in
                let s : leb m (b + b) ≡ false = lt-leb m (b + b) k in
                rw (p, q, s)
          ]
    ]

-- ---- a corner of the exit edge
hit_is : (c : Bool) (t : ℕ) (through : Bool → Bool) (other : Bool → ℕ) → (c ≡ true → (j : Bool) × (through j ≡ true) × (other j ≡ t)) → ((j : Bool) → through j ≡ true → other j ≡ t → c ≡ true)
    → c ≡ hit t through other
hit_is c t through other f g = same c (hit t through other) (λ h. let (j, p, q) = f h in into j p q) (λ h. out (through true && eqb (other true) t) (through false && eqb (other false) t) h refl refl)
  where
    into : (j : Bool) → through j ≡ true → other j ≡ t → hit t through other ≡ true
    into true p q = rw (p, eq-eqb (other true) t q)
    into false p q = rw (p, eq-eqb (other false) t q) (last (through true && eqb (other true) t))
      where
        last : (b : Bool) → (b || true) ≡ true
        last true = refl
        last false = refl

    at : (j : Bool) → (through j && eqb (other j) t) ≡ true → c ≡ true
    at j h = let (p, q) = both (through j) (eqb (other j) t) h in g j p (eqb-true (other j) t q)

    out : (x y : Bool) → (x || y) ≡ true → (through true && eqb (other true) t) ≡ x → (through false && eqb (other false) t) ≡ y → c ≡ true
    out true y h p q = at true p
    out false y h p q = at false (q ∙ h)

choose : {b c : Bool} (x : ℕ) {y z : ℕ} → b ≡ c → y ≡ z → (when b then x else y) ≡ cond c x z
choose {b} {c} x {y} {z} p q = rw (p, q) (go c)
  where
    go : (c : Bool) → (when c then x else z) ≡ cond c x z
    go true = unfold when◌then◌else◌ in refl
    go false = unfold when◌then◌else◌ in refl

-- ---- a side: 1 if plus, else -1
direction_is : (plus : Bool) → direction_of (one_if plus) ≡ cond plus 1 0
unfolding direction_of one_if when◌then◌else◌ lt neg of_bits
direction_is true = refl
direction_is false = refl

-- the neighbour over an axis, by its side
abbrev pub over : Axis → ℕ → Bool → ℕ
over a f plus = asked f (axis_number a) (cond plus 1 0)

side_le : (plus : Bool) → cond plus 1 0 ≤ 1
side_le true = omega arith
side_le false = omega arith

over_side : (f : ℕ) → f ≤ 5 → (a : Axis) {c : Float} (plus : Bool) → c ≡ one_if plus → neighbour f (axis_number a) (direction_of c) ≡ over a f plus
over_side f F a plus e = ap (neighbour f (axis_number a)) (ap direction_of e ∙ direction_is plus) ∙ neighbour_is f (axis_number a) (cond plus 1 0) F (omega (arith, axis_le a)) (side_le plus)

over_corner : (f : ℕ) → f ≤ 5 → (a : Axis) (i j : Bool) → neighbour_over f a (corner_at i j) ≡ over a f (by_axis a i j)
over_corner f F a i j = over_side f F a _ (corner_coordinate a i j)

-- what holds of a corner holds of it by its sides on the two axes
by_sides : (a : Axis) (i j : Bool) (P : Bool → Bool → Type 0) → P i j
    → P (by_axis a (by_axis a i j) (by_axis (other_axis a) i j)) (by_axis a (by_axis (other_axis a) i j) (by_axis a i j))
unfolding by_axis
by_sides U i j P h = h
by_sides «V» i j P h = h

module _ {n : Vector} (v : Finite n) (nz : is_zero n ≡ false) (met : meets_face n ≡ true) (m : ℕ) (e : m ≡ total n) where
  abbrev pub u_part : Part
  u_part = part_of m n.x

  abbrev pub v_part : Part
  v_part = part_of m n.y

  abbrev pub w_part : Part
  w_part = part_of m n.z

  some : 0 < m
  some = rw e (pos_of_ne-zero (eqb-false _ 0 (sym (zero_is v) ∙ nz)))

  axis_kind : (a : Axis) → exit_axis n ≡ a → on_vk u_part v_part w_part ≡ is_v a
  unfolding exit_axis
  axis_kind a h =
      let x = size n.x in
      let y = size n.y in
      let z = size n.z in
      let k = sym (axis_is x y z m (even_signs n) e) in
      split (passes_opposite_edges n) _ _ a h
      (λ o g. let q : leb z (apart x y) ≡ true = sym (opposite_is v) ∙ o in k ∙ (rw q (sym (le_units (plain (v_held v)).is (plain (u_held v)).is) ∙ axis_v _ a g)))
      (λ o g. let q : leb z (apart x y) ≡ false = sym (opposite_is v) ∙ o in k ∙ (rw q (axis_v _ a g)))

  -- ---- through a corner
  module _ (i j : Bool) where
    u_sign : Bool
    u_sign = unlike (not i) (sign_bit n.x)

    v_sign : Bool
    v_sign = unlike (not j) (sign_bit n.y)

    through_to : Through n i j → through_k i j u_part v_part w_part ≡ true
    unfolding u_sign v_sign
    through_to h =
        let x = factor_is_signed i (sign_bit n.x) (size n.x) in
        let y = factor_is_signed j (sign_bit n.y) (size n.y) in
        let z = turned (sign_bit n.z) (size n.z) in
        to_test (size n.x) (size n.y) (size n.z) m (sign_bit n.x) (sign_bit n.y) (sign_bit n.z) e some u_sign v_sign (not (sign_bit n.z)) (rw (x, y, z) at h)

    through_of : through_k i j u_part v_part w_part ≡ true → Through n i j
    unfolding u_sign v_sign
    through_of h =
        let x = factor_is_signed i (sign_bit n.x) (size n.x) in
        let y = factor_is_signed j (sign_bit n.y) (size n.y) in
        let z = turned (sign_bit n.z) (size n.z) in
        rw (x, y, z) (of_test (size n.x) (size n.y) (size n.z) m (sign_bit n.x) (sign_bit n.y) (sign_bit n.z) e some u_sign v_sign (not (sign_bit n.z)) h)

  -- ---- the side of the exit
  abbrev pub plus_side : Axis → Bool
  plus_side a = by_axis a (not (sign_bit n.y)) (sign_bit n.x)

  side_is : (a : Axis) → exit_axis n ≡ a → coordinate a (exit_point n a) ≡ one_if (plus_side a)
  unfolding by_axis of_bits
  side_is U h = exit_side n U ∙ ap one_if (nought_lt (v_held v).is_own (leaves v nz met U h).divides)
  side_is «V» h = exit_side n «V» ∙ ap one_if (lt_nought (u_held v).is_own (leaves v nz met «V» h).divides)

  -- ---- the next face, by the exit axis a: a corner of the exit edge has the side m on the other axis
  module _ (f t : ℕ) (F : f ≤ 5) where
    abbrev pub through : Axis → Bool → Bool
    through a m = through_k (by_axis a (plus_side a) m) (by_axis a m (plus_side a)) u_part v_part w_part

    corner_is : (a : Axis) → exit_axis n ≡ a → at_corner f (exit_point n a) a n t ≡ hit t (through a) (over (other_axis a) f)
    corner_is a h =
        let k = plus_side a in
        let s = side_is a h in
        let c = exit_corner v a (leaves v nz met a h) f t in
        hit_is (at_corner f (exit_point n a) a n t) t (through a) (over (other_axis a) f)
        (λ g.
        let d = c.0 g in
        let q : by_axis a d.i d.j ≡ k = one_if_inj _ k (sym (corner_coordinate a d.i d.j) ∙ d.edge ∙ s) in
        let p = by_sides a d.i d.j (λ i j. through_k i j u_part v_part w_part ≡ true) (through_to d.i d.j d.corner.through) in
        (by_axis (other_axis a) d.i d.j, rw q at p, sym (over_corner f F (other_axis a) d.i d.j) ∙ d.corner.target))
        (λ m g q.
        let i = by_axis a k m in
        let j = by_axis a m k in
        let e = corner_coordinate a i j ∙ ap one_if (on_own a k m) ∙ sym s in
        let o = over_corner f F (other_axis a) i j ∙ ap (over (other_axis a) f) (on_other a k m) ∙ q in
        c.1 (record { i = i; j = j; edge = e; corner = record { through = through_of i j g; target = o } }))

    next_is : (a : Axis) → exit_axis n ≡ a → next_face f (exit_point n a) a n t ≡ cond (hit t (through a) (over (other_axis a) f)) t (over a f (plus_side a))
    unfolding next_face
    next_is a h = choose t (corner_is a h) (over_side f F a (plus_side a) (side_is a h))

    pub step_is : next_face f (exit_point n (exit_axis n)) (exit_axis n) n t ≡ step_k t f u_part v_part w_part
    step_is = go (exit_axis n) refl
      where
        go : (a : Axis) → exit_axis n ≡ a → next_face f (exit_point n a) a n t ≡ step_k t f u_part v_part w_part
        go U h = let o = axis_kind U h in rw o (unfold by_axis in next_is U h)
        go «V» h = let o = axis_kind «V» h in rw o (unfold by_axis in next_is «V» h)
