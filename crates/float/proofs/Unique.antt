-- Two values that the format holds, of one sign and as many units, are the same: `to_bits` sees only those two.
use mathlib.Core.Path.{◌≡◌, sym, ap, ◌∙◌}
use mathlib.Core.Bool.{Bool, cond}
use Prim.Native.Nat.{ℕ, ◌+◌, ◌-◌, ◌*◌, ◌/◌, ◌^◌}
use lib.Dec.{T}
use lib.Ieee.{Float, fin, Format, prec, hid, top, size, fits, of_bits, to_bits}
use lib.Ieee.Bits.{of_bits-to_bits}
use Rattle.float.specs.Exact.{mag}
use Rattle.float.proofs.Values.{Is, of, is_mag}

bits_of : Format → Bool → ℕ → ℕ
bits_of f s n = let k = size n - prec f in cond s (top f) 0 + k * hid f + n / 2 ^ k

bits_is : {f : Format} {x : Float} {s : Bool} {n : ℕ} → Is f x s n → to_bits f x ≡ bits_of f s n
unfolding to_bits bits_of mag
bits_is {f} (of {s = s} {m = m} {n = n} {e = e} p) = ap (bits_of f s) (is_mag {f = f} {x = fin s m e} (of p))

pub same : {f : Format} {x y : Float} {s : Bool} {n : ℕ} → T (fits f x) → T (fits f y) → Is f x s n → Is f y s n → x ≡ y
same {f} {x} {y} a b p q = sym (of_bits-to_bits f x a) ∙ ap (of_bits f) (bits_is p ∙ sym (bits_is q)) ∙ of_bits-to_bits f y b
