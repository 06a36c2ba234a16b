-- From `xyz_to_face_uv` both coordinates lie in -1..1: each is a quotient by the greatest absolute coordinate, which is not zero.
use mathlib.Core.Path.{◌≡◌, refl, sym, ◌∙◌}
use mathlib.Core.Bool.{Bool, true, false, true≢false}
use Prim.Native.Nat.{ℕ, ◌≤◌}
use native.Mathlib.Omega.{arith}
use lib.Ieee.{Float, fin, binary64, le, eq, neg, round, of_bits}
use lib.IntN.{pos}
use Rattle.float.specs.Float.{◌⊘◌, one_f, magnitude_of}
use Rattle.float.proofs.Size.{size_zero}
use Rattle.float.proofs.Quotient as Quotient
use Rattle.float.proofs.Quotient.{quotient_unit}
use Rattle.cube.specs.Vector.{finite_vector, is_zero}
use Rattle.cube.specs.Faces.{along, uv_of}
use Rattle.cube.specs.Promises.{own_axis, Greatest, InUnit, InSquare}
use Rattle.cube.specs.declared.vector.Vector.{Vector}
use Rattle.cube.proofs.Directions.{along_size, u_dir, v_dir, u_dir_le, v_dir_le, uv_is}
use Rattle.cube.proofs.Vectors.{along_finite, all_zero_lem}

pub unit_is : (x : Float) → Quotient.InUnit binary64 x → InUnit x
unit_is x h = record { low = rw minus h.low; high = rw plus h.high }
  where
    minus : neg one_f ≡ round binary64 true 1 1
    minus = unfold neg round of_bits in refl

    plus : one_f ≡ round binary64 false 1 1
    plus = unfold round of_bits in refl

module _ (p : Vector) (fine : finite_vector p ≡ true) (some : is_zero p ≡ false) (f : ℕ) (own : Greatest p f) where
  F : f ≤ 5
  F = own.face

  most : (h : ℕ) → h ≤ 5 → le (magnitude_of (along h p)) (magnitude_of (along f p)) ≡ true
  most h H = rw (along_size p h H, along_size p f F) (own.most (own_axis h) (omega arith))

  not_zero : eq (along f p) (fin false 0 (pos 0)) ≡ false
  not_zero = go (eq (along f p) (fin false 0 (pos 0))) refl
    where
      go : (b : Bool) → eq (along f p) (fin false 0 (pos 0)) ≡ b → b ≡ false
      go true e = absurd (true≢false (sym (all_zero_lem p fine (along f p) (λ i l. most i (omega arith)) (size_zero (along f p) ∙ e)) ∙ some))
      go false e = refl

  unit : (h : ℕ) → h ≤ 5 → InUnit (along h p ⊘ along f p)
  unit h H = unit_is _ (quotient_unit binary64 (along h p) (along f p) (along_finite p fine h H) (along_finite p fine f F) not_zero (most h H))

  pub square : InSquare (uv_of f p)
  square = rw (uv_is p f F) (record { u = unit (u_dir f) (u_dir_le f F); v = unit (v_dir f) (v_dir_le f F) })
