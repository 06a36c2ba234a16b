-- What the input's tests admit.
use Prim.Native.Nat.{ℕ, ◌≤◌}
use native.Mathlib.Omega.{arith}
use mathlib.Core.Path.{◌≡◌, refl}
use mathlib.Core.Bool.{Bool, true, false}
use borrow.Author.Tests.{not-true, leb-true}
use Rattle.float.specs.Float.{finite}
use Rattle.float.proofs.Choice.{and_parts}
use Rattle.float.proofs.Order.{finite_num}
use Rattle.answer.specs.Refusal.{number, done}
use Rattle.cube.specs.Vector.{HandedIn}
use Rattle.cube.specs.Refuse.{cube_refusal}
use Rattle.cube.specs.declared.vector.Vector.{Vector}
use Rattle.cube.specs.declared.compute.Uv.{Uv}
use Rattle.line.proofs.Promises as line
use Rattle.walk.specs.Refuse.{input_refusal}
use Rattle.walk.specs.Inner.{Numbers}
use Rattle.walk.specs.Promises.{Normal}
use Rattle.walk.proofs.Square.{no_nan}

pub record Fine (f : ℕ) (a : Uv) (t : ℕ) (b : Uv) (p : Vector) : Type 0 where
  pub face : f ≤ 5
  pub target : t ≤ 5
  pub begins : Numbers a
  pub ends : Numbers b
  pub normal : Normal p

all_hold : (x y z : Bool) → cube_refusal x y z done ≡ done → (x ≡ true) × (y ≡ true) × (z ≡ true)
all_hold true true true e = (refl, refl, refl)
all_hold true true false e = absurd (cc)
all_hold true false z e = absurd (cc)
all_hold false y z e = absurd (cc)

numbers : (q : Uv) → finite q.u ≡ true → finite q.v ≡ true → Numbers q
numbers q u v = record { u = no_nan _ (finite_num _ u); v = no_nan _ (finite_num _ v) }

pub fine : (f : ℕ) (a : Uv) (t : ℕ) (b : Uv) (p : Vector) → HandedIn p → input_refusal f a t b p ≡ done → Fine f a t b p
fine f a t b p h e =
    let (faces, floats, some) = all_hold _ _ _ e in
    let (F, T) = and_parts _ _ faces in
    let (points, parts) = and_parts _ _ floats in
    let (first, last) = and_parts _ _ points in
    let (au, av) = and_parts _ _ first in
    let (bu, bv) = and_parts _ _ last in
    record {
      face = leb-true f 5 F;
      target = leb-true t 5 T;
      begins = numbers a au av;
      ends = numbers b bu bv;
      normal = record { finite = (line.promises).finite_is p h parts; some = not-true _ some };
    }

-- the input is refused with 5 at the most
most : (x y z : Bool) → number (cube_refusal x y z done) ≤ 5
most true true true = omega arith
most true true false = omega arith
most true false z = omega arith
most false y z = omega arith

pub input_most : (f : ℕ) (a : Uv) (t : ℕ) (b : Uv) (p : Vector) → number (input_refusal f a t b p) ≤ 5
input_most f a t b p = search most
