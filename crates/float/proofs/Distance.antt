-- The distance of two floats, the magnitude of their difference: the same either way round, for every float; and of two distances, each from a value up to another, the differences compare as their magnitudes do.
use mathlib.Core.Path.{◌≡◌, refl, sym, ◌∙◌}
use mathlib.Core.Logic.{inl, inr}
use mathlib.Core.Bool.{Bool, true, false, not, ◌||◌, false≢true}
use Prim.Native.Nat.{ℕ, ◌+◌, ◌-◌, ◌*◌}
use native.Mathlib.Nat.{add_comm, mul_comm, add-zero, zero-add, le_of_lt, sub-eq-zero_of_le}
use native.Mathlib.Omega.{arith}
use borrow.Author.Tests.{le-ltb}
use lib.Ieee.{Float, nan, inf, fin, Format, up, down, below, level, le, lt, eq, neg, round, sum, add, sub, is_nan}
use Rattle.float.specs.Float.{magnitude_of, sign_bit}
use Rattle.float.specs.Exact.{mag, Value}
use Rattle.float.proofs.Choice.{same}
use Rattle.float.proofs.Order.{Num, finite_num, le_refl, le_trans, not_lt}
use Rattle.float.proofs.Whole.{le_or_lt}
use Rattle.float.proofs.Values.{held, le_is, alike, unlike_ge, unlike_lt}
use Rattle.float.proofs.Negated.{neg_size}
use Rattle.float.proofs.Monotone.{le_neg, round_neg}
use Rattle.float.proofs.Zero.{nought, nought_is}
use Rattle.float.proofs.SumOrder.{sub_up}
use Rattle.float.proofs.Unit.{neg_value}
use Rattle.float.proofs.Bounded.{itself_up_to, sum_num}

-- ---- either way round
module _ (f : Format) (c : ℕ) where
  round_size : (s : Bool) (n : ℕ) → magnitude_of (round f s n c) ≡ magnitude_of (round f false n c)
  round_size false n = refl
  round_size true n = rw round_neg (neg_size (round f false n c))

  -- a sum of unlike signs is rounded from what the greater has over the lesser
  unlike_size : (s : Bool) (a b : ℕ) → magnitude_of (sum f s a (not s) b c) ≡ magnitude_of (round f false (a - b + (b - a)) c)
  unlike_size s a b =
      elim (le_or_lt b a) [
        | inl h ↦ rw (unlike_ge f s c h, sub-eq-zero_of_le h, add-zero) (round_size _ (a - b))
        | inr h ↦ rw (unlike_lt f s c h, sub-eq-zero_of_le (le_of_lt h), zero-add) (round_size _ (b - a))
      ]

  unlike_turned : (s : Bool) (a b : ℕ) → magnitude_of (sum f s a (not s) b c) ≡ magnitude_of (sum f s b (not s) a c)
  unlike_turned s a b = unlike_size s a b ∙ (rw (add_comm (a - b) (b - a))) ∙ sym (unlike_size s b a)

  sum_turned : (s t : Bool) (a b : ℕ) → magnitude_of (sum f s a (not t) b c) ≡ magnitude_of (sum f t b (not s) a c)
  sum_turned true true a b = unlike_turned true a b
  sum_turned false false a b = unlike_turned false a b
  sum_turned true false a b = rw (alike f true a b c, alike f false b a c, add_comm a b) (round_size true (b + a))
  sum_turned false true a b = rw (alike f false a b c, alike f true b a c, add_comm a b) (sym (round_size true (b + a)))

pub distance_turned : (f : Format) (x y : Float) → magnitude_of (sub f x y) ≡ magnitude_of (sub f y x)
unfolding sub add neg
distance_turned f nan nan = refl
distance_turned f nan (inf t) = refl
distance_turned f nan (fin t n d) = refl
distance_turned f (inf s) nan = refl
distance_turned f (inf true) (inf true) = refl
distance_turned f (inf true) (inf false) = unfold magnitude_of in refl
distance_turned f (inf false) (inf true) = unfold magnitude_of in refl
distance_turned f (inf false) (inf false) = refl
distance_turned f (inf s) (fin t n d) = unfold magnitude_of in refl
distance_turned f (fin s m e) nan = refl
distance_turned f (fin s m e) (inf t) = unfold magnitude_of in refl
distance_turned f (fin s m e) (fin t n d) = rw (mul_comm (down e) (down d)) (sum_turned f (down d * down e) s t _ _)

-- ---- from a value up to another
-- what is not below zero is its own magnitude, but for a zero's sign
own_size : (x : Float) → le nought x ≡ true → (le x (magnitude_of x) ≡ true) × (le (magnitude_of x) x ≡ true)
unfolding magnitude_of neg
own_size nan h = absurd (false≢true (unfold le in h))
own_size (inf true) h = absurd (false≢true (unfold le in h))
own_size (inf false) h = unfold le in (refl, refl)
own_size (fin false m e) h = let r = le_refl (fin false m e) (unfold is_nan in refl) in (r, r)
own_size (fin true m e) h =
    let k : le nought (fin false m e) ≡ true = not_lt _ _ (unfold is_nan in refl) (unfold is_nan in refl) (unfold lt in le-ltb (m * up e * 1) (0 * 1 * down e) (omega arith)) in
    (le_trans _ nought _ (turned (fin false m e) k) k, le_trans _ nought _ (turned (fin true m e) h) h)
  where
    -- its opposite is not above zero
    turned : (x : Float) → le nought x ≡ true → le (neg x) nought ≡ true
    turned x p = le_trans _ (neg nought) _ (le_neg nought x p) (unfold le lt eq neg in refl)

module _ {f : Format} where
  difference_num : {x y : Float} → Value f x → Value f y → Num (sub f x y)
  unfolding sub
  difference_num {x} {y} v w = let n = neg_value w in sum_num (held v).is_own (neg y) n.held (finite_num _ n.is_finite)

  -- x - y is no less than y - y, a zero
  not_below : {x y : Float} → Value f x → Value f y → le y x ≡ true → le nought (sub f x y) ≡ true
  not_below {x} {y} v w h =
      let z = itself_up_to w in
      let e : mag f (sub f y y) ≡ 0 = omega (arith, z.size) in
      le_trans nought (sub f y y) (sub f x y) (le_is (nought_is f) (rw e at (held z.value).is_own) ∙ zeros (sign_bit (sub f y y))) (sub_up f y x y h (difference_num w w) (difference_num v w))
    where
      zeros : (s : Bool) → (below false 0 s 0 || level false 0 s 0) ≡ true
      zeros true = refl
      zeros false = refl

  pub distance_le : {x y u v : Float} → Value f x → Value f y → Value f u → Value f v → le y x ≡ true → le v u ≡ true
      → le (magnitude_of (sub f x y)) (magnitude_of (sub f u v)) ≡ le (sub f x y) (sub f u v)
  distance_le X Y U W p q =
      let (a, b) = own_size _ (not_below X Y p) in
      let (c, d) = own_size _ (not_below U W q) in
      same _ _ (λ h. le_trans _ _ _ a (le_trans _ _ _ h d)) (λ h. le_trans _ _ _ b (le_trans _ _ _ h c))
