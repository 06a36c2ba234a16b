-- What is exactly a representable number of units is rounded to it. Sum, difference, product and quotient are one rounding each, so this is said once.
use mathlib.Core.Path.{◌≡◌, refl, sym, ◌∙◌}
use mathlib.Core.Logic.{inl, inr}
use mathlib.Core.Bool.{Bool, true, false, not, ◌&&◌, not-not}
use Prim.Native.Nat.{ℕ, ◌+◌, ◌-◌, ◌*◌, ◌^◌, ◌≤◌, ◌<◌}
use native.Mathlib.Nat.{le_of_lt, sub-eq-zero_of_le, mul-pos, mul_assoc}
use lib.Dec.{ltb}
use borrow.Author.Tests.{eqb-true, lt-ltb, le-ltb}
use lib.Pow.{pow_pos}
use lib.IntN.{pos, ◌+ℤ◌, ◌-ℤ◌, ◌*ℤ◌, +ℤ_comm}
use lib.Ieee.{Float, Format, low, unlike, level, eq, sum, add, sub, mul, div, round}
use lib.Ieee.Scale.{overflow, round_same}
use Rattle.float.specs.Float.{sign_bit}
use Rattle.float.specs.Exact.{mag, signed, units}
use Rattle.float.proofs.Whole.{Rep, rnd_fix, le_or_lt}
use Rattle.float.proofs.Values.{Is, Held, round_is_rnd, eq_is, level_scale, add_is, sub_is, alike, unlike_ge, unlike_lt}
use Rattle.float.proofs.Signed.{level_of, level_turn, turned, plus, minus, times, times_pos}
use Rattle.float.proofs.Product.{mul_is, div_is}

-- ---- ±a / b, which is exactly n units
pub round_fix : {f : Format} {n : ℕ} → Rep f n → n < overflow f → (s : Bool) (a b : ℕ) → 0 < b → a * 2 ^ low f ≡ n * b → Is f (round f s a b) s n
round_fix {f} {n} r u s a b B e =
    let k = rnd_fix r in
    rw (round_same f s a b n (2 ^ low f) B (pow_pos (low f)) e) (rw k at (round_is_rnd f s n (rw k u)))

-- where that is the float z, it is rounded to z
round_eq : {f : Format} {z : Float} → Held f z → (s : Bool) (a b : ℕ) → 0 < b → level s (a * 2 ^ low f) (sign_bit z) (mag f z * b) ≡ true → eq (round f s a b) z ≡ true
round_eq {f} {z} h s a b B e =
    let m = mag f z in
    let k : a * 2 ^ low f ≡ m * b = eqb-true _ _ (first _ _ e) in
    eq_is (round_fix h.mag_rep h.mag_under s a b B k) h.is_own ∙ level_scale s (sign_bit z) m m b B ∙ (rw k at e)
  where
    first : (p q : Bool) → (p && q) ≡ true → p ≡ true
    first true q e = refl
    first false q e = e

level_times : (s t : Bool) (a b k : ℕ) → 0 < k → signed s a ≡ signed t b → level s (a * k) t (b * k) ≡ true
level_times s t a b k K e = sym (level_scale s t a b k K) ∙ level_of s t a b e

-- ---- a sum is the rounding of the exact whole number ±n
pub record Net (f : Format) (s t : Bool) (a b n : ℕ) : Type 0 where
  pub sign : Bool
  pub once : sum f s a t b (2 ^ low f) ≡ round f sign n (2 ^ low f)
  pub whole : signed s a +ℤ signed t b ≡ signed sign n

-- the sign of a difference that is zero does not count
zero_sign : (s : Bool) (a b : ℕ) → signed s (a - b) ≡ signed (s && ltb b a) (a - b)
zero_sign false a b = refl
zero_sign true a b = elim (le_or_lt a b) [ inl k ↦ rw (sub-eq-zero_of_le k, le-ltb b a k) | inr k ↦ rw (lt-ltb b a k) ]

pub net_ge : (f : Format) (s : Bool) {a b : ℕ} → b ≤ a → Net f s (not s) a b (a - b)
net_ge f s {a} {b} h = record { sign = s && ltb b a; once = unlike_ge f s (2 ^ low f) h; whole = minus s h ∙ zero_sign s a b }

pub net_lt : (f : Format) (s : Bool) {a b : ℕ} → a < b → Net f s (not s) a b (b - a)
net_lt f s {a} {b} h =
    let w : signed (not s) b +ℤ signed s a ≡ signed (not s) (b - a) = rw not-not at (minus (not s) (le_of_lt h)) in
    record { sign = not s; once = unlike_lt f s (2 ^ low f) h; whole = +ℤ_comm (signed s a) (signed (not s) b) ∙ w }

net_like : (f : Format) (s : Bool) (a b : ℕ) → Net f s s a b (a + b)
net_like f s a b = record { sign = s; once = alike f s a b (2 ^ low f); whole = plus s a b }

net_unlike : (f : Format) (s : Bool) (a b : ℕ) → (n : ℕ) × Net f s (not s) a b n
net_unlike f s a b = elim (le_or_lt b a) [ inl h ↦ (a - b, net_ge f s h) | inr h ↦ (b - a, net_lt f s h) ]

pub net : (f : Format) (s t : Bool) (a b : ℕ) → (n : ℕ) × Net f s t a b n
net f false false a b = (a + b, net_like f false a b)
net f false true a b = net_unlike f false a b
net f true false a b = net_unlike f true a b
net f true true a b = (a + b, net_like f true a b)

-- ---- the four operations, where the exact result is z
module _ {f : Format} {z : Float} (h : Held f z) where
  sum_eq : (s t : Bool) (a b : ℕ) → signed s a +ℤ signed t b ≡ units f z → eq (sum f s a t b (2 ^ low f)) z ≡ true
  sum_eq s t a b e =
      let (n, o) = net f s t a b in
      rw o.once (round_eq h o.sign n (2 ^ low f) (pow_pos (low f)) (level_times o.sign (sign_bit z) n (mag f z) (2 ^ low f) (pow_pos (low f)) (sym o.whole ∙ e)))

  module _ {x y : Float} {s t : Bool} {a b : ℕ} (p : Is f x s a) (q : Is f y t b) where
    pub exact_sum : signed s a +ℤ signed t b ≡ units f z → eq (add f x y) z ≡ true
    exact_sum e = rw (add_is p q) (sum_eq s t a b e)

    pub exact_difference : signed s a -ℤ signed t b ≡ units f z → eq (sub f x y) z ≡ true
    exact_difference e = rw (sub_is p q) (sum_eq s (not t) a b (rw (turned t b) at e))

    pub exact_product : signed s a *ℤ signed t b ≡ units f z *ℤ pos (2 ^ low f) → eq (mul f x y) z ≡ true
    exact_product e =
        let l = 2 ^ low f in
        let L : 0 < l = pow_pos (low f) in
        let k = sym (times s t a b) ∙ e ∙ times_pos (sign_bit z) (mag f z) l in
        rw (mul_is p q) (round_eq h (unlike s t) (a * b) (l * l) (mul-pos L L) (rw (← mul_assoc (mag f z) l l) (level_times (unlike s t) (sign_bit z) (a * b) (mag f z * l) l L k)))

    pub exact_quotient : 0 < b → signed s a *ℤ pos (2 ^ low f) ≡ units f z *ℤ signed t b → eq (div f x y) z ≡ true
    exact_quotient B e =
        let l = 2 ^ low f in
        let k = sym (times_pos s a l) ∙ e ∙ times (sign_bit z) t (mag f z) b in
        rw (div_is p q B) (round_eq h (unlike s t) a b B (level_turn s t (sign_bit z) (a * l) (mag f z * b) ∙ level_of s (unlike (sign_bit z) t) (a * l) (mag f z * b) k))
