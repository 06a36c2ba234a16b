-- 1 and -1: a factor of either changes nothing but the sign, x / 1 is x, a zero with its sign, and a quotient lies from -1 to 1 where the first is no greater in size than the second.
use mathlib.Core.Path.{◌≡◌, refl, sym, ap, subst, ◌∙◌}
use mathlib.Core.Bool.{Bool, true, false}
use Prim.Native.Nat.{ℕ, ◌*◌, ◌^◌, ◌≤◌, ◌<◌}
use native.Mathlib.Nat.{one-mul, mul_comm, mul_assoc, mul-pos}
use native.Mathlib.Omega.{arith}
use borrow.Author.Tests.{eqb-true, ne_eqb, le-leb}
use lib.Pow.{pow_pos}
use lib.Dec.{T}
use lib.IntN.{pos, neg_ℤ, ◌*ℤ◌}
use lib.Ieee.{Float, nan, inf, fin, Format, binary32, binary64, low, unlike, round, neg, mul, div, eq, fits}
use lib.Ieee.Bits.{is_true}
use lib.Ieee.Fits.{round-fits, neg-fits, div-fits}
use lib.Ieee.Scale.{overflow, round_same}
use Rattle.float.specs.Float.{magnitude_of, sign_bit}
use Rattle.float.specs.Exact.{mag, signed, units, Value}
use Rattle.float.proofs.Whole.{Rep}
use Rattle.float.proofs.Values.{Is, of, Held, held, is_finite, is_sign, is_mag, neg_is}
use Rattle.float.proofs.Signed.{turned, times}
use Rattle.float.proofs.Product.{mul_is, div_is}
use Rattle.float.proofs.Rounded.{round_fix}
use Rattle.float.proofs.Plain.{drop_sign, eq_units, le_units}
use Rattle.float.proofs.Quotient.{InUnit, quotient_unit}
use Rattle.float.proofs.Zero.{eq_nought}
use Rattle.float.proofs.Unique.{same}

-- 1, or -1 where the sign is set
abbrev pub one : Bool → Float
one s = fin s 1 (pos 0)

pub one_is : (f : Format) (s : Bool) → Is f (one s) s (2 ^ low f)
one_is f s = of (mul_comm 1 (2 ^ low f))

one_round : (f : Format) (s : Bool) → round f s 1 1 ≡ one s
unfolding round
one_round binary32 true = refl
one_round binary32 false = refl
one_round binary64 true = refl
one_round binary64 false = refl

one_fits : (f : Format) (s : Bool) → T (fits f (one s))
one_fits f s = rw (← one_round f s) (round-fits f s 1 1)

-- a value of size 1 is one of the two
pub is_one_lem : {f : Format} {x : Float} → Value f x → eq (magnitude_of x) (one false) ≡ true → x ≡ one (sign_bit x)
is_one_lem {f} {x} v e =
    let i = (held v).is_own in
    let k : mag f x ≡ 2 ^ low f = eqb-true _ _ (sym (eq_units (drop_sign i) (one_is f false)) ∙ e) in
    same (subst T (sym v.held) tt) (one_fits f (sign_bit x)) (rw k at i) (one_is f (sign_bit x))

-- ---- a factor, and the sign changed
held_is : {f : Format} {x : Float} {s : Bool} {n : ℕ} → Is f x s n → Rep f n → n < overflow f → Held f x
held_is i r u = record { is_own = rw (is_sign i, is_mag i) i; mag_rep = rw (is_mag i) r; mag_under = rw (is_mag i) u }

pub factor_is : {f : Format} {y : Float} → Held f y → (s : Bool) → Is f (mul f (one s) y) (unlike s (sign_bit y)) (mag f y)
factor_is {f} {y} h s =
    let l = 2 ^ low f in
    let b = mag f y in
    let e : l * b * l ≡ b * (l * l) = rw (mul_comm l b, mul_assoc) in
    rw (mul_is (one_is f s) h.is_own) (round_fix h.mag_rep h.mag_under (unlike s (sign_bit y)) (l * b) (l * l) (mul-pos (pow_pos (low f)) (pow_pos (low f))) e)

pub signed_one : (s t : Bool) (n : ℕ) → signed s 1 *ℤ signed t n ≡ signed (unlike s t) n
signed_one s t n = times s t 1 n ∙ ap (signed (unlike s t)) (one-mul n)

module _ {f : Format} {x : Float} (h : Held f x) where
  pub factor_held : (s : Bool) → Held f (mul f (one s) x)
  factor_held s = held_is (factor_is h s) h.mag_rep h.mag_under

  pub factor_units : (s : Bool) → units f (mul f (one s) x) ≡ signed s 1 *ℤ units f x
  factor_units s = rw (is_sign (factor_is h s), is_mag (factor_is h s)) (sym (signed_one s (sign_bit x) (mag f x)))

  -- the sign changed
  pub neg_held : Held f (neg x)
  neg_held = held_is (neg_is h.is_own) h.mag_rep h.mag_under

  pub neg_units : units f (neg x) ≡ neg_ℤ (units f x)
  neg_units = rw (is_sign (neg_is h.is_own), is_mag (neg_is h.is_own)) (sym (turned (sign_bit x) (mag f x)))

pub neg_mag : (f : Format) (x : Float) → mag f (neg x) ≡ mag f x
unfolding neg mag
neg_mag f nan = refl
neg_mag f (inf s) = refl
neg_mag f (fin s m e) = refl

pub neg_value : {f : Format} {x : Float} → Value f x → Value f (neg x)
neg_value {f} {x} v = record { is_finite = is_finite (neg_is (held v).is_own); held = is_true _ (neg-fits f x (subst T (sym v.held) tt)) }

-- ---- a quotient
unlike_plain : (s : Bool) → unlike s false ≡ s
unlike_plain true = refl
unlike_plain false = refl

pub div_one : (f : Format) (x : Float) → Value f x → div f x (one false) ≡ x
div_one f x v =
    let h = held v in
    let s = sign_bit x in
    let n = mag f x in
    let l = 2 ^ low f in
    let e : div f x (one false) ≡ round f s n l = div_is h.is_own (one_is f false) (pow_pos (low f)) ∙ (rw (unlike_plain s)) in
    let i = round_fix h.mag_rep h.mag_under s n l (pow_pos (low f)) refl in
    same (div-fits f x (one false)) (subst T (sym v.held) tt) (rw e i) h.is_own

module _ {f : Format} {x y : Float} {s t : Bool} {a b : ℕ} (p : Is f x s a) (q : Is f y t b) (B : 0 < b) where
  -- of two that are equal in size
  pub quotient_one : a ≡ b → div f x y ≡ one (unlike s t)
  quotient_one e = div_is p q B ∙ round_same f (unlike s t) a b 1 1 B (pow_pos 0) (omega arith) ∙ one_round f (unlike s t)

  -- of two whose first is no greater in size
  pub quotient_within : a ≤ b → InUnit f (div f x y)
  quotient_within h = quotient_unit f x y (is_finite p) (is_finite q) (eq_nought q ∙ ne_eqb b 0 (λ e. omega arith)) (le_units (drop_sign p) (drop_sign q) ∙ le-leb a b h)
