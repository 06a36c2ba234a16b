-- The operations on values of at most so many units, no sign looked at: a result is at most n units where the exact one is, n units being a value; and where a result is no NaN.
use mathlib.Core.Path.{◌≡◌, refl, sym, ap, ◌∙◌}
use mathlib.Core.Logic.{◌⊎◌, inl, inr}
use mathlib.Core.Bool.{Bool, true, false, not, true≢false, false≢true}
use Prim.Native.Nat.{ℕ, zero, suc, ◌+◌, ◌*◌, ◌^◌, ◌≤◌, ◌<◌}
use native.Mathlib.Nat.{le_trans, lt_of_le_of_lt, one-mul, mul-pos, mul-le-mul, mul-le-mul_right}
use native.Mathlib.Omega.{arith}
use borrow.Author.Tests.{leb-true, le-leb}
use lib.Dec.{T}
use lib.Pow.{pow-add, pow_pos, pow-lt}
use lib.IntN.{ℤ, pos, ◌+ℤ◌, ◌-ℤ◌, -ℤ-+ℤ_cancel, +ℤ_idl, +ℤ_idr}
use lib.Signed.{le_z, ≤ℤ_refl}
use lib.Ieee.{Float, nan, inf, fin, Format, prec, emax, low, round, neg, add, sub, mul, div, le, eq, fits, is_nan}
use lib.Ieee.Bits.{is_true}
use lib.Ieee.Fits.{two, round-fits, add-fits, sub-fits}
use lib.Ieee.Scale.{overflow}
use Rattle.float.specs.Float.{finite, sign_bit}
use Rattle.float.specs.Exact.{mag, signed, units, Value}
use Rattle.float.proofs.Order.{Num, finite_num, le_num, between}
use Rattle.float.proofs.Whole.{Rep, rnd, rnd_pos, rep_small, le_or_lt}
use Rattle.float.proofs.Values.{Is, of, held, is_finite, is_mag, round_is_rnd, round_over, add_is, neg_is, sub_is}
use Rattle.float.proofs.Signed.{turned}
use Rattle.float.proofs.Sizes.{eq_eq_z}
use Rattle.float.proofs.Product.{mul_is, div_is}
use Rattle.float.proofs.Rounded.{Net, net, round_fix}
use Rattle.float.proofs.Monotone.{le_neg, round_neg, turned_le, both_zero, monotone}
use Rattle.float.proofs.Sums.{rnd_z_fix, sum_equals, sum_within}
use Rattle.float.proofs.SumOrder.{sub_up}
use Rattle.float.proofs.Unit.{neg_mag, neg_value}
use Rattle.float.proofs.Laws.{compared}
use Rattle.float.proofs.UpTo.{UpTo, power_units}

-- n units are a value of the format
pub record Exactly (f : Format) (n : ℕ) : Type 0 where
  pub rep : Rep f n
  pub under : n < overflow f

pub none_exactly : (f : Format) → Exactly f 0
none_exactly f = record { rep = rep_small (pow_pos (prec f)); under = pow_pos (low f + suc (emax f)) }

pub power_exactly : (f : Format) (k : ℕ) → k ≤ emax f → Exactly f (power_units f k)
power_exactly f k h =
    record {
      rep = record { digits = 1; zeros = k + low f; few = pow-lt {i = 0} (omega (arith, two f)); whole = rw (pow-add, one-mul) };
      under = rw (← pow-add) (pow-lt (omega arith));
    }

-- a value times 2 ^ j
pub times_exactly : {f : Format} {x : Float} (k j : ℕ) → UpTo f (power_units f k) x → k + j ≤ emax f → Exactly f (mag f x * 2 ^ j)
times_exactly {f} {x} k j u h =
    let r = (held u.value).mag_rep in
    let e : power_units f (k + j) ≡ power_units f k * 2 ^ j = rw pow-add (omega arith) in
    record {
      rep = record { digits = r.digits; zeros = r.zeros + j; few = r.few; whole = rw (r.whole, pow-add) (omega arith) };
      under = lt_of_le_of_lt (mul-le-mul_right (2 ^ j) u.size) (rw (← e) (power_exactly f (k + j) h).under);
    }

of_is : {f : Format} {x : Float} {s : Bool} {m n : ℕ} → T (fits f x) → Is f x s m → m ≤ n → UpTo f n x
of_is t i h = record { value = record { is_finite = is_finite i; held = is_true _ t }; size = rw (is_mag i) h }

pub neg_up_to : {f : Format} {x : Float} {n : ℕ} → UpTo f n x → UpTo f n (neg x)
neg_up_to {f} {x} u = record { value = neg_value u.value; size = rw (neg_mag f x) u.size }

-- ---- what lies between a zero and y is no greater in size than y
inner : (r s t : Bool) {c a b : ℕ} → c ≤ 0 → le_z (signed r c) (signed s a) ≡ true → le_z (signed s a) (signed t b) ≡ true → a ≤ b
inner r false false z p q = leb-true _ _ q
inner r false true {a = a} {b = b} z p q = let (e, g) = both_zero a b q in omega arith
inner false true t {c = c} {a = a} z p q = let (e, g) = both_zero c a p in omega arith
inner true true t {c = c} {a = a} z p q = omega (arith, leb-true a c (sym (turned_le c a) ∙ p))

module _ {f : Format} where
  above : {z x y : Float} → UpTo f 0 z → Value f x → Value f y → le z x ≡ true → le x y ≡ true → mag f x ≤ mag f y
  above {z} {x} {y} u v w p q = inner (sign_bit z) (sign_bit x) (sign_bit y) u.size (sym (compared f z x u.value v).at_most ∙ p) (sym (compared f x y v w).at_most ∙ q)

  pub no_farther : {z x y : Float} → UpTo f 0 z → Value f x → Value f y → ((le z x ≡ true) × (le x y ≡ true)) ⊎ ((le y x ≡ true) × (le x z ≡ true)) → mag f x ≤ mag f y
  no_farther u v w (inl (p, q)) = above u v w p q
  no_farther {z} {x} {y} u v w (inr (p, q)) = rw (neg_mag f x, neg_mag f y) at (above (neg_up_to u) (neg_value v) (neg_value w) (le_neg x z q) (le_neg y x p))

-- ---- rounding keeps below the units of a value
module _ {f : Format} {n : ℕ} (e : Exactly f n) (a b : ℕ) (B : 0 < b) (h : a * 2 ^ low f ≤ n * b) where
  plain : UpTo f n (round f false a b)
  plain =
      let l = 2 ^ low f in
      let z : UpTo f 0 (round f false 0 1) = of_is (round-fits f false 0 1) (round_fix (none_exactly f).rep (none_exactly f).under false 0 1 (pow_pos 0) (omega arith)) (omega arith) in
      let y : UpTo f n (round f false n l) = of_is (round-fits f false n l) (round_fix e.rep e.under false n l (pow_pos (low f)) refl) (omega arith) in
      let p = monotone f false false 0 1 a b (pow_pos 0) B (le-leb (0 * b) (a * 1) (omega arith)) in
      let q = monotone f false false a b n l B (pow_pos (low f)) (le-leb _ _ h) in
      let v : Value f (round f false a b) = record { is_finite = between _ _ _ z.value.is_finite y.value.is_finite p q; held = is_true _ (round-fits f false a b) } in
      record { value = v; size = le_trans (no_farther z v y.value (inl (p, q))) y.size }

  round_up_to : (s : Bool) → UpTo f n (round f s a b)
  round_up_to false = plain
  round_up_to true = rw round_neg (neg_up_to plain)

-- ---- the operations
module _ {f : Format} {x y : Float} {p q n : ℕ} (X : UpTo f p x) (Y : UpTo f q y) (e : Exactly f n) where
  pub sum_up_to : p + q ≤ n → UpTo f n (add f x y)
  sum_up_to h =
      let (o, m, i, l) = sum_within e.rep e.under (held X.value).is_own (held Y.value).is_own (λ g. omega (arith, X.size, Y.size)) (omega (arith, X.size)) (omega (arith, Y.size)) in
      of_is (add-fits f x y) i l

  pub product_up_to : p * q ≤ n * 2 ^ low f → UpTo f n (mul f x y)
  product_up_to h =
      let l = 2 ^ low f in
      rw (mul_is (held X.value).is_own (held Y.value).is_own)
      (round_up_to e (mag f x * mag f y) (l * l) (mul-pos (pow_pos (low f)) (pow_pos (low f))) (omega (arith, mul-le-mul_right l (le_trans (mul-le-mul X.size Y.size) h))) _)

  pub quotient_up_to : 0 < mag f y → p * 2 ^ low f ≤ n * mag f y → UpTo f n (div f x y)
  quotient_up_to B h = rw (div_is (held X.value).is_own (held Y.value).is_own B) (round_up_to e (mag f x) (mag f y) B (le_trans (mul-le-mul_right (2 ^ low f) X.size) h) _)

pub difference_up_to : {f : Format} {x y : Float} {p q n : ℕ} → UpTo f p x → UpTo f q y → Exactly f n → p + q ≤ n → UpTo f n (sub f x y)
unfolding sub
difference_up_to X Y e h = sum_up_to X (neg_up_to Y) e h

-- a value less itself
pub itself_up_to : {f : Format} {x : Float} → Value f x → UpTo f 0 (sub f x x)
unfolding sub
itself_up_to {f} {x} v =
    let i = (held v).is_own in
    let (o, m, k, l) = sum_within {n = 0} (none_exactly f).rep (none_exactly f).under i (neg_is i) (λ g. absurd (other (sign_bit x) g)) (omega arith) (omega arith) in
    of_is (add-fits f x (neg x)) k l
  where
    other : (s : Bool) → s ≡ not s → ⊥
    other true e = true≢false e
    other false e = false≢true e

-- a value less one that it compares equal to
pub equal_up_to : {f : Format} {x y : Float} → Value f x → Value f y → finite (sub f x y) ≡ true → le x y ≡ true → le y x ≡ true → UpTo f 0 (sub f x y)
equal_up_to {f} {x} {y} v w g p q =
    let z = itself_up_to w in
    let d : Value f (sub f x y) = record { is_finite = g; held = is_true _ (sub-fits f x y) } in
    let m = finite_num _ z.value.is_finite in
    let n = finite_num _ g in
    record { value = d; size = le_trans (no_farther z d z.value (inl (sub_up f y x y q m n, sub_up f x y y p n m))) z.size }

no_units : (s : Bool) → signed s 0 ≡ pos 0
no_units true = refl
no_units false = refl

-- a value and a zero come to that value
pub with_none : {f : Format} {x y : Float} → Value f x → UpTo f 0 y → eq (add f x y) x ≡ true
with_none {f} {x} {y} v u =
    let h = held v in
    let e : mag f y ≡ 0 = omega (arith, u.size) in
    rw (sum_equals h h.is_own (rw e at (held u.value).is_own), no_units (sign_bit y), +ℤ_idr, rnd_z_fix h) (eq_eq_z (units f x) (units f x) refl)

-- ---- the difference of two that are not equal is not zero
minus_zero : (x y : ℤ) → x -ℤ y ≡ pos 0 → x ≡ y
minus_zero x y e = sym (-ℤ-+ℤ_cancel x y) ∙ ap (λ (z : ℤ). z +ℤ y) e ∙ +ℤ_idl y

infinite : (s : Bool) → finite (inf s) ≡ true → ⊥
unfolding finite
infinite s h = false≢true h

module _ {f : Format} {x y : Float} (v : Value f x) (w : Value f y) (d : eq x y ≡ false) where
  some_units : (n : ℕ) → Net f (sign_bit x) (not (sign_bit y)) (mag f x) (mag f y) n → 0 < n
  some_units zero o =
      let k : units f x -ℤ units f y ≡ pos 0 = rw (turned (sign_bit y) (mag f y)) (o.whole ∙ no_units o.sign) in
      absurd (true≢false (sym ((compared f x y v w).equal ∙ eq_eq_z _ _ (minus_zero (units f x) (units f y) k)) ∙ d))
  some_units (suc n) o = omega arith

  pub difference_some : finite (sub f x y) ≡ true → 0 < mag f (sub f x y)
  difference_some g =
      let (n, o) = net f (sign_bit x) (not (sign_bit y)) (mag f x) (mag f y) in
      let e : sub f x y ≡ round f o.sign n (2 ^ low f) = sub_is (held v).is_own (held w).is_own ∙ o.once in
      elim (le_or_lt (overflow f) (rnd f n)) [
        | inl u ↦ absurd (infinite o.sign (rw (e, round_over f o.sign n u) at g))
        | inr u ↦ rw (e, is_mag (round_is_rnd f o.sign n u)) (rnd_pos f (some_units n o))
      ]

-- ---- no NaN: what is rounded, a quotient whose divisor is not zero, and a sum with a finite value
round_num : (f : Format) (s : Bool) (a b : ℕ) → 0 < b → Num (round f s a b)
round_num f s a b B = (le_num _ _ (monotone f s s a b a b B B (is_true _ (≤ℤ_refl (signed s (a * b))).le))).0

pub quotient_num : {f : Format} {x y : Float} → Value f x → Value f y → 0 < mag f y → Num (div f x y)
quotient_num {f} {x} {y} v w B = rw (div_is (held v).is_own (held w).is_own B) (round_num f _ _ _ B)

pub sum_num : {f : Format} {x : Float} {s : Bool} {a : ℕ} → Is f x s a → (y : Float) → fits f y ≡ true → Num y → Num (add f x y)
sum_num i nan t h = absurd (true≢false (unfold is_nan in h))
sum_num (of p) (inf g) t h = unfold add is_nan in refl
sum_num {f} {s = s} {a = a} i (fin r m e) t h =
    let v : Value f (fin r m e) = record { is_finite = unfold finite in refl; held = t } in
    let (n, o) = net f s (sign_bit (fin r m e)) a (mag f (fin r m e)) in
    rw (add_is i (held v).is_own, o.once) (round_num f _ n _ (pow_pos (low f)))
