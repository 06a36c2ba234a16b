-- A product by a factor that is not below zero keeps the order, by one that is not above it turns it round, the infinities included, where neither result is a NaN.
use mathlib.Core.Path.{◌≡◌, refl, sym, ap, ◌∙◌}
use mathlib.Core.Bool.{Bool, true, false, not, true≢false, false≢true, cond}
use Prim.Native.Nat.{ℕ, zero, suc, ◌+◌, ◌*◌, ◌≤◌, ◌<◌}
use native.Mathlib.Nat.{zero-mul, add-mul, mul-pos, pos_of_ne-zero, mul-le-mul_right}
use native.Mathlib.Omega.{arith}
use lib.Dec.{eqb}
use borrow.Author.Tests.{eq-eqb}
use lib.IntN.{ℤ, pos}
use lib.Ieee.{Float, nan, inf, fin, Format, up, down, unlike, lt, le, eq, neg, round, mul, is_nan}
use lib.Ieee.Fits.{up_pos, down_pos}
use Rattle.float.proofs.Order.{Num, le_trans, least, most}
use Rattle.float.proofs.Unlike.{unlike_not}
use Rattle.float.proofs.Zero.{nought}
use Rattle.float.proofs.Negated.{neg_neg}
use Rattle.float.proofs.Monotone.{le_neg, neg_num, round_neg, monotone}
use Rattle.float.proofs.AtMost.{over, under, over_times, AtMost, most_signed, le_fin, at_most, from_least, to_most}

-- ---- product
same_sign : (s : Bool) → unlike false s ≡ s
same_sign true = refl
same_sign false = refl

over_none : (s : Bool) → over s 0 ≡ 0
unfolding over
over_none true = refl
over_none false = refl

pub mul_nums : (f : Format) (x y : Float) → Num (mul f x y) → Num x × Num y
unfolding mul is_nan
mul_nums f nan y h = absurd (true≢false h)
mul_nums f (inf s) nan h = absurd (true≢false h)
mul_nums f (inf s) (inf t) h = (refl, refl)
mul_nums f (inf s) (fin t n d) h = (refl, refl)
mul_nums f (fin s m e) nan h = absurd (true≢false h)
mul_nums f (fin s m e) (inf t) h = (refl, refl)
mul_nums f (fin s m e) (fin t n d) h = (refl, refl)

-- x / p ≤ y / q, both times c / g
scaled : (s t : Bool) (c g x p y q : ℕ) → AtMost s (x * q) t (y * p) → AtMost s (c * x * (g * q)) t (c * y * (g * p))
unfolding AtMost under
scaled s t c g x p y q h =
    let a : c * x * (g * q) ≡ x * q * (c * g) = omega arith in
    let b : c * y * (g * p) ≡ y * p * (c * g) = omega arith in
    rw (a, b) (rw (over_times s (x * q) (c * g), over_times (not t) (y * p) (c * g), over_times t (y * p) (c * g), over_times (not s) (x * q) (c * g), ← add-mul, ← add-mul) (mul-le-mul_right (c * g) h))

-- a factor that is not below zero has no sign, or is zero
data NotBelow : Bool → ℕ → Type 0 where
  no_sign : {c : ℕ} → NotBelow false c
  no_size : {s : Bool} → NotBelow s 0

not_below : (s : Bool) (c : ℕ) (g : ℤ) → le nought (fin s c g) ≡ true → NotBelow s c
not_below false c g h = no_sign
not_below true zero g h = no_size
not_below true (suc c) g h = absurd (below _ (mul-pos {m = suc c} {n = up g} (omega arith) (up_pos g)) (unfold AtMost under over in le_fin false true 0 (suc c) (pos 0) g h))
  where
    below : (n : ℕ) → 0 < n → 0 * 1 * down g + n * 1 ≤ 0 + 0 → ⊥
    below n p q = omega arith

not_below_times : {s : Bool} {c : ℕ} → NotBelow s c → (u : ℕ) → NotBelow s (c * u)
not_below_times no_sign u = no_sign
not_below_times no_size u = rw zero-mul no_size

not_below_scaled : {r : Bool} {c : ℕ} → NotBelow r c → (s t : Bool) (g x p y q : ℕ) → AtMost s (x * q) t (y * p) → AtMost (unlike r s) (c * x * (g * q)) (unlike r t) (c * y * (g * p))
not_below_scaled (no_sign {c}) s t g x p y q h = rw (same_sign s, same_sign t) (scaled s t c g x p y q h)
not_below_scaled {r} no_size s t g x p y q h = unfold AtMost under in none (0 * x * (g * q)) (0 * y * (g * p)) (omega arith) (omega arith)
  where
    none : (a b : ℕ) → a ≡ 0 → b ≡ 0 → over (unlike r s) a + over (not (unlike r t)) b ≤ over (unlike r t) b + over (not (unlike r s)) a
    none a b e k = rw (e, k) (rw (over_none (unlike r s), over_none (not (unlike r t)), over_none (unlike r t), over_none (not (unlike r s))) (omega arith))

mul_fin : (f : Format) (r s t : Bool) (c m n : ℕ) (g e d : ℤ) → NotBelow r c → le (fin s m e) (fin t n d) ≡ true → le (mul f (fin r c g) (fin s m e)) (mul f (fin r c g) (fin t n d)) ≡ true
unfolding mul
mul_fin f r s t c m n g e d z h =
    monotone f (unlike r s) (unlike r t) _ _ _ _ (mul-pos (down_pos g) (down_pos e)) (mul-pos (down_pos g) (down_pos d))
    (most_signed _ _ _ _ (not_below_scaled (not_below_times z (up g)) s t (down g) (m * up e) (down e) (n * up d) (down d) (le_fin s t m n e d h)))

-- a product with an infinity that is no NaN, by a factor that is not below zero, is that infinity
mul_inf : (f : Format) (k : Float) (s : Bool) → le nought k ≡ true → Num (mul f k (inf s)) → mul f k (inf s) ≡ inf s
mul_inf f nan s h p = unfold mul is_nan in absurd (true≢false p)
mul_inf f (inf true) s h p = unfold le in absurd (false≢true h)
mul_inf f (inf false) s h p = unfold mul in ap inf (same_sign s)
mul_inf f (fin r c g) s h p = unfold mul in go (not_below r c g h) (unfold mul in p)
  where
    go : {r : Bool} {c : ℕ} → NotBelow r c → Num (cond (eqb c 0) nan (inf (unlike r s))) → cond (eqb c 0) nan (inf (unlike r s)) ≡ inf s
    go (no_sign {c}) p = signless c (eqb c 0) p
      where
        signless : (c : ℕ) (b : Bool) → Num (cond b nan (inf (unlike false s))) → cond b nan (inf (unlike false s)) ≡ inf s
        signless c true p = unfold is_nan in absurd (true≢false p)
        signless c false p = ap inf (same_sign s)
    go no_size p = unfold is_nan in absurd (true≢false p)

-- +∞ times a number that is not zero is the infinity of its sign
inf_times : (f : Format) (s : Bool) (m : ℕ) (e : ℤ) → Num (mul f (inf false) (fin s m e)) → (mul f (inf false) (fin s m e) ≡ inf s) × (m ≡ 0 → ⊥)
unfolding mul
inf_times f s m e p = go (eqb m 0) refl p
  where
    go : (b : Bool) → eqb m 0 ≡ b → Num (cond b nan (inf (unlike false s))) → (cond b nan (inf (unlike false s)) ≡ inf s) × (m ≡ 0 → ⊥)
    go true k p = unfold is_nan in absurd (true≢false p)
    go false k p = (ap inf (same_sign s), λ z. true≢false (sym (eq-eqb m 0 z) ∙ k))

inf_signs : (s t : Bool) (m n : ℕ) (e d : ℤ) → (m ≡ 0 → ⊥) → le (fin s m e) (fin t n d) ≡ true → le (inf s) (inf t) ≡ true
inf_signs true t m n e d z h = least (inf t) (unfold is_nan in refl)
inf_signs false false m n e d z h = most (inf false) (unfold is_nan in refl)
inf_signs false true m n e d z h = absurd (none (m * up e * down d) (n * up d * down e) (mul-pos (mul-pos (pos_of_ne-zero z) (up_pos e)) (down_pos d)) (unfold AtMost under over in le_fin false true m n e d h))
  where
    none : (a b : ℕ) → 0 < a → a + b ≤ 0 + 0 → ⊥
    none a b p q = omega arith

pub mul_up : (f : Format) (k x y : Float) → le nought k ≡ true → le x y ≡ true → Num (mul f k x) → Num (mul f k y) → le (mul f k x) (mul f k y) ≡ true
mul_up f k nan y z h p q = unfold le in absurd (false≢true h)
mul_up f k (inf true) y z h p q = from_least _ _ (mul_inf f k true z p) q
mul_up f k (inf false) y z h p q = to_most _ _ (rw (at_most y h) (mul_inf f k false z (rw (at_most y h) at q))) p
mul_up f k (fin s m e) nan z h p q = unfold le in absurd (false≢true h)
mul_up f k (fin s m e) (inf true) z h p q = unfold le in absurd (false≢true h)
mul_up f k (fin s m e) (inf false) z h p q = to_most _ _ (mul_inf f k false z q) p
mul_up f nan (fin s m e) (fin t n d) z h p q = unfold mul is_nan in absurd (true≢false p)
mul_up f (inf true) (fin s m e) (fin t n d) z h p q = unfold le in absurd (false≢true z)
mul_up f (inf false) (fin s m e) (fin t n d) z h p q = let (a, c) = inf_times f s m e p in rw (a, (inf_times f t n d q).0) (inf_signs s t m n e d c h)
mul_up f (fin r c g) (fin s m e) (fin t n d) z h p q = mul_fin f r s t c m n g e d (not_below r c g z) h

-- ---- by a factor that is not above zero the order turns round
round_turn : (f : Format) (s : Bool) (a b : ℕ) → round f (not s) a b ≡ neg (round f s a b)
round_turn f false a b = round_neg f a b
round_turn f true a b = sym (neg_neg (round f false a b)) ∙ ap neg (sym (round_neg f a b))

mul_neg : (f : Format) (k x : Float) → mul f (neg k) x ≡ neg (mul f k x)
unfolding mul neg
mul_neg f nan x = refl
mul_neg f (inf s) nan = refl
mul_neg f (inf s) (inf t) = ap inf (unlike_not s t)
mul_neg f (inf s) (fin t n d) = go (eqb n 0)
  where
    go : (b : Bool) → cond b nan (inf (unlike (not s) t)) ≡ neg (cond b nan (inf (unlike s t)))
    go true = unfold neg in refl
    go false = unfold neg in ap inf (unlike_not s t)
mul_neg f (fin s m e) nan = refl
mul_neg f (fin s m e) (inf t) = go (eqb m 0)
  where
    go : (b : Bool) → cond b nan (inf (unlike (not s) t)) ≡ neg (cond b nan (inf (unlike s t)))
    go true = unfold neg in refl
    go false = unfold neg in ap inf (unlike_not s t)
mul_neg f (fin s m e) (fin t n d) = rw (unlike_not s t) (round_turn f (unlike s t) _ _)

pub mul_down : (f : Format) (k x y : Float) → le k nought ≡ true → le x y ≡ true → Num (mul f k x) → Num (mul f k y) → le (mul f k y) (mul f k x) ≡ true
mul_down f k x y z h p q =
    let up = mul_up f (neg k) x y (le_trans _ _ _ zeros (le_neg _ _ z)) h (rw mul_neg (neg_num _ p)) (rw mul_neg (neg_num _ q)) in
    let turned : le (neg (mul f k x)) (neg (mul f k y)) ≡ true = rw (mul_neg f k x, mul_neg f k y) at up in
    rw (neg_neg (mul f k y), neg_neg (mul f k x)) at (le_neg _ _ turned)
  where
    zeros : le nought (neg nought) ≡ true
    zeros = unfold le lt eq neg in refl
