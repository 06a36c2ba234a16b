-- A normal and its kind, in each of the six faces: whether the line meets the face, and the next face.
use mathlib.Core.Path.{◌≡◌, refl, sym, ap, ◌∙◌}
use mathlib.Core.Logic.{inl, inr}
use mathlib.Core.Bool.{Bool, true, false, not, ◌&&◌, ◌||◌, false≢true}
use Prim.Native.Nat.{ℕ, ◌+◌, ◌≤◌, ◌<◌}
use native.Mathlib.Nat.{pos_of_ne-zero}
use native.Mathlib.Omega.{arith}
use lib.Dec.{leb}
use borrow.Author.Tests.{le-leb, lt-leb, leb-true, leb-false, eqb-false}
use lib.Ieee.{Float, nan, inf, fin, binary64, neg}
use Rattle.float.specs.Float.{finite, sign_bit}
use Rattle.float.specs.Exact.{mag, Value}
use Rattle.float.proofs.Choice.{same}
use Rattle.float.proofs.Whole.{le_or_lt}
use Rattle.cube.specs.Vector.{is_zero}
use Rattle.cube.specs.Faces.{by_face, along, uvw_of}
use Rattle.cube.specs.declared.vector.Vector.{Vector}
use Rattle.cube.proofs.Six.{six}
use Rattle.cube.proofs.Directions.{u_dir, v_dir, u_dir_le, v_dir_le, uvw_is}
use Rattle.line.specs.Promises.{size, Finite}
use Rattle.line.specs.Line.{onward}
use Rattle.line.proofs.Normal.{meets_is, zero_is}
use Rattle.line.proofs.Next.{total_is, finite_in, not_zero_in}
use Rattle.walk.specs.Walk.{met}
use Rattle.walk.proofs.Kind.{Part, flip, part_at, part_of, total, kind_of, next_k, meets_k, real}
use Rattle.walk.proofs.Agree.{step_is}

neg_part : (t : ℕ) (x : Float) → Value binary64 x → flip (part_of t x) ≡ part_of t (neg x)
unfolding neg mag sign_bit finite
neg_part t nan p = absurd (false≢true p.is_finite)
neg_part t (inf s) p = absurd (false≢true p.is_finite)
neg_part t (fin s m e) p = refl

module _ {p : Vector} (v : Finite p) where
  along_part : (h : ℕ) → h ≤ 5 → part_at h (kind_of p) ≡ part_of (total p) (along h p)
  unfolding along part_at by_face
  along_part =
      six (λ h. part_at h (kind_of p) ≡ part_of (total p) (along h p)) refl refl refl (neg_part (total p) p.x v.u) (neg_part (total p) p.y v.v) (neg_part (total p) p.z v.w)

  module _ (f : ℕ) (F : f ≤ 5) where
    u_part : part_of (total p) (uvw_of f p).x ≡ part_at (u_dir f) (kind_of p)
    u_part = ap (λ (r : Vector). part_of (total p) r.x) (uvw_is p f F) ∙ sym (along_part (u_dir f) (u_dir_le f F))

    v_part : part_of (total p) (uvw_of f p).y ≡ part_at (v_dir f) (kind_of p)
    v_part = ap (λ (r : Vector). part_of (total p) r.y) (uvw_is p f F) ∙ sym (along_part (v_dir f) (v_dir_le f F))

    w_part : part_of (total p) (uvw_of f p).z ≡ part_at f (kind_of p)
    w_part = ap (λ (r : Vector). part_of (total p) r.z) (uvw_is p f F) ∙ sym (along_part f F)

    pub meets_kind : met p f ≡ meets_k f (kind_of p)
    unfolding meets_k
    meets_kind =
        let n = uvw_of f p in
        let e = total_is p f F in
        meets_is (finite_in v f F)
        ∙ same (leb (size n.z) (size n.x + size n.y)) (leb (size n.z + size n.z) (total p))
        (λ h. le-leb (size n.z + size n.z) (total p) (omega (arith, leb-true (size n.z) (size n.x + size n.y) h)))
        (λ h. le-leb (size n.z) (size n.x + size n.y) (omega (arith, leb-true (size n.z + size n.z) (total p) h)))
        ∙ ap (λ (q : Part). q.l) w_part

    pub next_kind : is_zero p ≡ false → (t : ℕ) → met p f ≡ true → onward p f t ≡ next_k t f (kind_of p)
    unfolding next_k
    next_kind nz t m = step_is (finite_in v f F) (not_zero_in v nz f F) m (total p) (sym (total_is p f F)) f t F ∙ cc (u_part, v_part, w_part)

-- ---- the kind of a normal is one of the eighty
or_i : (a b : Bool) → (a ≡ false → b ≡ true) → (a || b) ≡ true
or_i true b h = refl
or_i false b h = h refl

implies : (a b : Bool) → (a ≡ true → b ≡ true) → (not a || b) ≡ true
implies true b h = h refl
implies false b h = refl

and_i : (a b : Bool) → a ≡ true → b ≡ true → (a && b) ≡ true
and_i a b h k = rw (h, k)

module _ (t : ℕ) where
  whole_is : (a : ℕ) → (leb t (a + a) || leb (a + a) t) ≡ true
  whole_is a = or_i (leb t (a + a)) (leb (a + a) t) (λ h. le-leb (a + a) t (omega (arith, leb-false t (a + a) h)))

  pairs_is : (a b : ℕ) → a + b ≤ t → ((not (leb t (a + a)) || leb (b + b) t) && (not (leb t (b + b)) || leb (a + a) t)) ≡ true
  pairs_is a b e =
      and_i _ _ (implies (leb t (a + a)) (leb (b + b) t) (λ h. le-leb (b + b) t (omega (arith, leb-true t (a + a) h))))
      (implies (leb t (b + b)) (leb (a + a) t) (λ h. le-leb (a + a) t (omega (arith, leb-true t (b + b) h))))

  not_all : (a b c : ℕ) → t ≡ a + b + c → 0 < t → not (leb t (a + a) && (leb t (b + b) && leb t (c + c))) ≡ true
  not_all a b c e p = elim (le_or_lt t (a + a)) [
    | inl x ↦ elim (le_or_lt t (b + b)) [
      | inl y ↦ (let k : leb t (c + c) ≡ false = lt-leb t (c + c) (omega arith) in let i : leb t (a + a) ≡ true = le-leb t (a + a) x in let j : leb t (b + b) ≡ true = le-leb t (b + b) y in rw (i, j, k))
      | inr y ↦ (let j : leb t (b + b) ≡ false = lt-leb t (b + b) y in let i : leb t (a + a) ≡ true = le-leb t (a + a) x in rw (i, j))
    ]
    | inr x ↦ (let i : leb t (a + a) ≡ false = lt-leb t (a + a) x in rw i)
  ]

pub real_kind : {p : Vector} → Finite p → is_zero p ≡ false → real (kind_of p) ≡ true
unfolding real
real_kind {p} v nz =
    let a = size p.x in
    let b = size p.y in
    let c = size p.z in
    let t = total p in
    let some : 0 < total p = pos_of_ne-zero (eqb-false _ 0 (sym (zero_is v) ∙ nz)) in
    and_i _ _ (whole_is t a) (and_i _ _ (whole_is t b) (and_i _ _ (whole_is t c) (and_i _ _ (pairs_is t a b (omega arith)) (and_i _ _ (pairs_is t b c (omega arith)) (and_i _ _ (pairs_is t a c (omega arith)) (not_all t a b c refl some))))))
