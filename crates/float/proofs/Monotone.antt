-- Rounding keeps the order of signed fractions: by the kit's law where neither is negative, by its mirror image where both are, and through zero where the signs differ.
use mathlib.Core.Path.{◌≡◌, refl, sym, ap, ◌∙◌}
use mathlib.Core.Bool.{Bool, true, false, not, ◌||◌, false≢true, cond}
use Prim.Native.Nat.{ℕ, zero, suc, ◌+◌, ◌*◌, ◌^◌, ◌≤◌, ◌<◌}
use native.Mathlib.Nat.{zero-mul, add_comm, eq_of_mul-eq-mul_right}
use native.Mathlib.Omega.{arith}
use lib.Dec.{leb, ltb, leb-zero, leb-suc-zero, leb-suc-suc}
use borrow.Author.Tests.{leb-true}
use lib.Pow.{pow_pos}
use lib.IntN.{pos, neg_ℤ}
use lib.Signed.{le_z}
use lib.Ieee.{Float, nan, inf, fin, Format, prec, emax, low, up, down, below, level, lt, le, neg, odd, units, round, is_nan}
use lib.Ieee.Bits.{is_true}
use lib.Ieee.Fits.{round_is}
use lib.Ieee.Order.{round_mono}
use lib.Ieee.Scale.{overflow}
use Rattle.float.specs.Laws.{Monotone}
use Rattle.float.proofs.Order.{Num, le_num, le_trans, not_lt, le_not_lt}
use Rattle.float.proofs.Whole.{rep_small}
use Rattle.float.proofs.Values.{Is, le_is}
use Rattle.float.proofs.Rounded.{round_fix}

-- ---- the sign changed on both sides turns the order round
below_neg : (s t : Bool) (a b : ℕ) → below (not s) a (not t) b ≡ below t b s a
below_neg false false a b = refl
below_neg false true a b = rw (add_comm a b)
below_neg true false a b = refl
below_neg true true a b = refl

lt_neg : (x y : Float) → lt (neg x) (neg y) ≡ lt y x
unfolding lt neg
lt_neg nan nan = refl
lt_neg nan (inf t) = refl
lt_neg nan (fin t n d) = refl
lt_neg (inf s) nan = refl
lt_neg (inf true) (inf true) = refl
lt_neg (inf true) (inf false) = refl
lt_neg (inf false) (inf true) = refl
lt_neg (inf false) (inf false) = refl
lt_neg (inf s) (fin t n d) = refl
lt_neg (fin s m e) nan = refl
lt_neg (fin s m e) (inf true) = refl
lt_neg (fin s m e) (inf false) = refl
lt_neg (fin s m e) (fin t n d) = below_neg s t (m * up e * down d) (n * up d * down e)

pub neg_num : (x : Float) → Num x → Num (neg x)
unfolding is_nan neg
neg_num nan h = h
neg_num (inf s) h = h
neg_num (fin s m e) h = h

pub le_neg : (x y : Float) → le x y ≡ true → le (neg y) (neg x) ≡ true
le_neg x y h = let (p, q) = le_num x y h in not_lt (neg x) (neg y) (neg_num x p) (neg_num y q) (lt_neg x y ∙ le_not_lt x y h)

-- ---- the sign goes through rounding
units_neg : (f : Format) (q k : ℕ) → units f true q k ≡ neg (units f false q k)
unfolding units
units_neg f q k = go (ltb (q * 2 ^ k) (overflow f)) q
  where
    go : (b : Bool) (q : ℕ) → cond b (odd (suc (prec f)) true q k (low f)) (inf true) ≡ neg (cond b (odd (suc (prec f)) false q k (low f)) (inf false))
    go true zero = unfold neg odd in refl
    go true (suc q) = unfold neg odd in refl
    go false q = unfold neg in refl

pub round_neg : (f : Format) (a b : ℕ) → round f true a b ≡ neg (round f false a b)
round_neg f a b = round_is f true a b ∙ units_neg f _ _ ∙ ap neg (sym (round_is f false a b))

-- ---- by signs
module _ (f : Format) {b d : ℕ} (B : 0 < b) (D : 0 < d) where
  up_mono : (a c : ℕ) → a * d ≤ c * b → le (round f false a b) (round f false c d) ≡ true
  up_mono a c h = is_true _ (round_mono f a b c d B D h)

  down_mono : (a c : ℕ) → a * d ≤ c * b → le (round f true c d) (round f true a b) ≡ true
  down_mono a c h = rw (round_neg f a b, round_neg f c d) (le_neg _ _ (up_mono a c h))

  zeros : (s t : Bool) → le (round f s 0 b) (round f t 0 d) ≡ true
  zeros s t = le_is (nought s b B) (nought t d D) ∙ same s t
    where
      nought : (s : Bool) (c : ℕ) → 0 < c → Is f (round f s 0 c) s 0
      nought s c C = round_fix (rep_small (pow_pos (prec f))) (pow_pos (low f + suc (emax f))) s 0 c C (omega arith)

      same : (s t : Bool) → (below s 0 t 0 || level s 0 t 0) ≡ true
      same true true = refl
      same true false = refl
      same false true = refl
      same false false = refl

pub turned_le : (u v : ℕ) → le_z (neg_ℤ (pos u)) (neg_ℤ (pos v)) ≡ leb v u
turned_le zero zero = refl
turned_le zero (suc v) = sym (leb-suc-zero v)
turned_le (suc u) zero = sym (leb-zero (suc u))
turned_le (suc u) (suc v) = sym (leb-suc-suc v u)

pub both_zero : (u v : ℕ) → le_z (pos u) (neg_ℤ (pos v)) ≡ true → (u ≡ 0) × (v ≡ 0)
both_zero u zero h = (omega (arith, leb-true u 0 h), refl)
both_zero u (suc v) h = absurd (false≢true h)

no_factor : (n k : ℕ) → 0 < k → n * k ≡ 0 → n ≡ 0
no_factor n k K e = eq_of_mul-eq-mul_right k K n 0 (e ∙ sym (zero-mul k))

pub monotone : (f : Format) → Monotone f
monotone f false false a b c d B D h = up_mono f B D a c (leb-true _ _ h)
monotone f false true a b c d B D h =
    let (p, q) = both_zero (a * d) (c * b) h in
    rw (no_factor a d D p, no_factor c b B q) (zeros f B D false true)
monotone f true false a b c d B D h = le_trans _ _ _ (down_mono f B B 0 a (omega arith)) (le_trans _ _ _ (zeros f B D true false) (up_mono f D D 0 c (omega arith)))
monotone f true true a b c d B D h = down_mono f D B c a (leb-true _ _ (sym (turned_le (a * d) (c * b)) ∙ h))
