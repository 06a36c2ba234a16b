-- A product and a quotient of finite floats, each as the rounding of one fraction of their units.
use mathlib.Core.Path.{◌≡◌, ap, ◌∙◌}
use mathlib.Core.Bool.{Bool}
use Prim.Native.Nat.{ℕ, ◌*◌, ◌^◌, ◌<◌}
use native.Mathlib.Nat.{mul-pos, mul-mul-mul_comm, pos_of_ne-zero}
use native.Mathlib.Omega.{arith}
use borrow.Author.Tests.{ne_eqb}
use lib.Pow.{pow_pos}
use lib.Ieee.{Float, Format, low, up, down, unlike, round, mul, div}
use lib.Ieee.Fits.{up_pos, down_pos}
use lib.Ieee.Scale.{round_same}
use Rattle.float.proofs.Values.{Is, of}

pub mul_is : {f : Format} {x y : Float} {s t : Bool} {a b : ℕ} → Is f x s a → Is f y t b → mul f x y ≡ round f (unlike s t) (a * b) (2 ^ low f * 2 ^ low f)
unfolding mul
mul_is {f} {s = s} {t = t} (of {m = m} {n = a} {e = e} p) (of {m = n} {n = b} {e = d} q) =
    let l = 2 ^ low f in
    let r : m * up e * (n * up d) * (l * l) ≡ a * b * (down e * down d) = mul-mul-mul_comm (m * up e) (n * up d) l l ∙ (rw (p, q)) ∙ mul-mul-mul_comm a (down e) b (down d) in
    round_same f (unlike s t) _ (down e * down d) (a * b) (l * l) (mul-pos (down_pos e) (down_pos d)) (mul-pos (pow_pos (low f)) (pow_pos (low f))) r

-- x / y over its denominators is a / b, where l counts the units of both
cross : (x y a b d e l : ℕ) → x * l ≡ a * e → y * l ≡ b * d → x * d * b ≡ a * (y * e)
cross x y a b d e l p q = omega (arith, ap (λ (z : ℕ). x * z) q, ap (λ (z : ℕ). z * y) p)

pub div_is : {f : Format} {x y : Float} {s t : Bool} {a b : ℕ} → Is f x s a → Is f y t b → 0 < b → div f x y ≡ round f (unlike s t) a b
unfolding div
div_is {f} {s = s} {t = t} (of {m = m} {n = a} {e = e} p) (of {m = n} {n = b} {e = d} q) B =
    let none : n ≡ 0 → ⊥ = λ z. omega (arith, rw z at q, mul-pos B (down_pos d)) in
    rw (ne_eqb n 0 none)
    (round_same f (unlike s t) (m * up e * down d) (n * up d * down e) a b (mul-pos (mul-pos (pos_of_ne-zero none) (up_pos d)) (down_pos e)) B
    (cross (m * up e) (n * up d) a b (down d) (down e) (2 ^ low f) p q))
