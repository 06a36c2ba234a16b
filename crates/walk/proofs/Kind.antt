-- What of a normal decides the walk: for each axis its sign bit, and how twice its size compares with the sum of all three sizes. The step on such kinds.
use Prim.Native.Nat.{ℕ, ◌+◌}
use mathlib.Core.Bool.{Bool, true, false, not, ◌&&◌, ◌||◌, cond, beq}
use lib.Dec.{leb, eqb}
use lib.Ieee.{Float, unlike}
use Rattle.float.specs.Float.{sign_bit}
use Rattle.cube.specs.Faces.{by_face}
use Rattle.cube.specs.declared.vector.Vector.{Vector}
use Rattle.cube.proofs.Directions.{u_dir, v_dir}
use Rattle.cube.proofs.Neighbours.{asked}
use Rattle.line.specs.Promises.{size}

-- one axis: its sign bit; it is at least the others' sum; it is at most that
pub record Part : Type 0 where
  pub s : Bool
  pub g : Bool
  pub l : Bool

pub record Kind : Type 0 where
  pub x : Part
  pub y : Part
  pub z : Part

abbrev pub flip : Part → Part
flip p = record { s = not p.s; g = p.g; l = p.l }

unfoldable pub part_at : ℕ → Kind → Part
part_at h k = by_face h k.x k.y k.z (flip k.x) (flip k.y) (flip k.z) k.x

-- the part of a number, where the sum of all three is t
abbrev pub part_of : ℕ → Float → Part
part_of t c = record { s = sign_bit c; g = leb t (size c + size c); l = leb (size c + size c) t }

abbrev pub total : Vector → ℕ
total p = size p.x + size p.y + size p.z

abbrev pub kind_of : Vector → Kind
kind_of p = record { x = part_of (total p) p.x; y = part_of (total p) p.y; z = part_of (total p) p.z }

-- ---- a step

-- it is the others' sum
abbrev pub even : Part → Bool
even p = p.g && p.l

-- ±a ± b = ±c, by the signs r, s, t
abbrev pub balance : Bool → Part → Bool → Part → Bool → Part → Bool
balance r a s b t c = cond (beq r s) (cond (beq r t) (even c) false) (cond (beq r t) (even a) (even b))

-- the line passes through the corner whose u is 1 if i holds, else -1, and its v so by j
abbrev pub through_k : Bool → Bool → Part → Part → Part → Bool
through_k i j u v w = balance (unlike (not i) u.s) u (unlike (not j) v.s) v (not w.s) w

-- the exit axis is V
abbrev pub on_vk : Part → Part → Part → Bool
on_vk u v w = u.g || (not v.g && not (unlike (unlike u.s v.s) w.s))

-- the neighbour over u, and over v, on the plus side or the minus: the direction asked for, which its law says it is
abbrev pub over_u : ℕ → Bool → ℕ
over_u f plus = asked f 0 (cond plus 1 0)

abbrev pub over_v : ℕ → Bool → ℕ
over_v f plus = asked f 1 (cond plus 1 0)

-- a corner of the exit edge is passed, and the target lies over the other axis there
abbrev pub hit : ℕ → (Bool → Bool) → (Bool → ℕ) → Bool
hit t through other = (through true && eqb (other true) t) || (through false && eqb (other false) t)

abbrev pub step_k : ℕ → ℕ → Part → Part → Part → ℕ
step_k t f u v w =
    cond (on_vk u v w)
    (cond (hit t (λ i. through_k i u.s u v w) (over_u f)) t (over_v f u.s))
    (cond (hit t (λ j. through_k (not v.s) j u v w) (over_v f)) t (over_u f (not v.s)))

unfoldable pub next_k : ℕ → ℕ → Kind → ℕ
next_k t f k = step_k t f (part_at (u_dir f) k) (part_at (v_dir f) k) (part_at f k)

unfoldable pub meets_k : ℕ → Kind → Bool
meets_k f k = (part_at f k).l

-- ---- which kinds there are
abbrev pub pairs : Part → Part → Bool
pairs a b = (not a.g || b.l) && (not b.g || a.l)

abbrev pub whole : Part → Bool
whole a = a.g || a.l

unfoldable pub real : Kind → Bool
real k = whole k.x && (whole k.y && (whole k.z && (pairs k.x k.y && (pairs k.y k.z && (pairs k.x k.z && not (k.x.g && (k.y.g && k.z.g)))))))
