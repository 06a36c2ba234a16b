-- Sum and difference keep the order of what goes in, the infinities included, where neither result is a NaN.
-- Of finite floats a sum is one rounding of a signed fraction, and rounding keeps their order.
use mathlib.Core.Path.{◌≡◌, refl, ap}
use mathlib.Core.Logic.{inl, inr}
use mathlib.Core.Bool.{Bool, true, false, not, true≢false, false≢true}
use Prim.Native.Nat.{ℕ, ◌+◌, ◌-◌, ◌*◌, ◌≤◌}
use native.Mathlib.Nat.{add-mul, mul_assoc, mul-pos, mul-le-mul_right}
use native.Mathlib.Omega.{arith}
use lib.Dec.{ltb}
use borrow.Author.Tests.{lt-ltb, le-ltb}
use lib.IntN.{ℤ}
use lib.Ieee.{Float, nan, inf, fin, Format, up, down, le, neg, round, sum, add, sub, is_nan}
use lib.Ieee.Fits.{down_pos}
use Rattle.float.proofs.Order.{Num, le_refl}
use Rattle.float.proofs.Whole.{le_or_lt}
use Rattle.float.proofs.Values.{alike, unlike_ge, unlike_lt}
use Rattle.float.proofs.Monotone.{monotone}
use Rattle.float.proofs.AtMost.{over, under, over_times, AtMost, most_signed, le_fin, at_most, from_least, to_most}

-- the sum of ±a / c and ±b / c is one rounding of what they come to
record Sum (f : Format) (s t : Bool) (a b c : ℕ) : Type 0 where
  sign : Bool
  size : ℕ
  once : sum f s a t b c ≡ round f sign size c
  whole : over sign size + (under s a + under t b) ≡ under sign size + (over s a + over t b)

sum_once : (f : Format) (s t : Bool) (a b c : ℕ) → Sum f s t a b c
unfolding under over
sum_once f false false a b c = record { sign = false; size = a + b; once = alike f false a b c; whole = omega arith }
sum_once f true true a b c = record { sign = true; size = a + b; once = alike f true a b c; whole = omega arith }
sum_once f false true a b c =
    elim (le_or_lt b a) [
      | inl h ↦ record { sign = false; size = a - b; once = unlike_ge f false c h; whole = omega arith }
      | inr h ↦ record { sign = true; size = b - a; once = unlike_lt f false c h; whole = omega arith }
    ]
sum_once f true false a b c =
    elim (le_or_lt b a) [
      | inl h ↦ record { sign = ltb b a; size = a - b; once = unlike_ge f true c h; whole = zero_sign a b h }
      | inr h ↦ record { sign = false; size = b - a; once = unlike_lt f true c h; whole = omega arith }
    ]
  where
    zero_sign : (a b : ℕ) → b ≤ a → over (ltb b a) (a - b) + (a + 0) ≡ over (not (ltb b a)) (a - b) + (0 + b)
    zero_sign a b h = elim (le_or_lt a b) [ inl k ↦ rw (le-ltb b a k) (omega arith) | inr k ↦ rw (lt-ltb b a k) (omega arith) ]

-- x / d₁ ≤ y / d₃ and u / d₂ ≤ v / d₄: so are the sums, over d₁ * d₂ and d₃ * d₄
joined : (p1 q1 p2 q2 p3 q3 p4 q4 d1 d2 d3 d4 pl ql pr qr : ℕ)
    → p1 * d3 + q3 * d1 ≤ p3 * d1 + q1 * d3 → p2 * d4 + q4 * d2 ≤ p4 * d2 + q2 * d4
    → pl + (q1 * d2 + q2 * d1) ≡ ql + (p1 * d2 + p2 * d1) → pr + (q3 * d4 + q4 * d3) ≡ qr + (p3 * d4 + p4 * d3)
    → pl * (d3 * d4) + qr * (d1 * d2) ≤ pr * (d1 * d2) + ql * (d3 * d4)
joined p1 q1 p2 q2 p3 q3 p4 q4 d1 d2 d3 d4 pl ql pr qr h k l r =
    let a : d2 * (d3 * d4) ≡ d3 * (d2 * d4) = omega arith in
    let b : d1 * (d3 * d4) ≡ d4 * (d1 * d3) = omega arith in
    let c : d4 * (d1 * d2) ≡ d1 * (d2 * d4) = omega arith in
    let d : d3 * (d1 * d2) ≡ d2 * (d1 * d3) = omega arith in
    linear (d3 * (d2 * d4)) (d4 * (d1 * d3)) (d1 * (d2 * d4)) (d2 * (d1 * d3)) (pl * (d3 * d4)) (ql * (d3 * d4)) (pr * (d1 * d2)) (qr * (d1 * d2))
    (simp (add-mul, mul_assoc) at (mul-le-mul_right (d2 * d4) h))
    (simp (add-mul, mul_assoc) at (mul-le-mul_right (d1 * d3) k))
    (rw (a, b) at (simp (add-mul, mul_assoc) at (ap (λ (z : ℕ). z * (d3 * d4)) l)))
    (rw (c, d) at (simp (add-mul, mul_assoc) at (ap (λ (z : ℕ). z * (d1 * d2)) r)))
  where
    linear : (e1 e2 e3 e4 x y z w : ℕ) → p1 * e1 + q3 * e3 ≤ p3 * e3 + q1 * e1 → p2 * e2 + q4 * e4 ≤ p4 * e4 + q2 * e2
        → x + (q1 * e1 + q2 * e2) ≡ y + (p1 * e1 + p2 * e2) → z + (q3 * e3 + q4 * e4) ≡ w + (p3 * e3 + p4 * e4) → x + w ≤ z + y
    linear e1 e2 e3 e4 x y z w f g m n = omega arith

sums_most : (s1 s2 s3 s4 sl sr : Bool) (a1 a2 a3 a4 d1 d2 d3 d4 nl nr : ℕ)
    → AtMost s1 (a1 * d3) s3 (a3 * d1) → AtMost s2 (a2 * d4) s4 (a4 * d2)
    → over sl nl + (under s1 (a1 * d2) + under s2 (a2 * d1)) ≡ under sl nl + (over s1 (a1 * d2) + over s2 (a2 * d1))
    → over sr nr + (under s3 (a3 * d4) + under s4 (a4 * d3)) ≡ under sr nr + (over s3 (a3 * d4) + over s4 (a4 * d3))
    → AtMost sl (nl * (d3 * d4)) sr (nr * (d1 * d2))
unfolding AtMost under
sums_most s1 s2 s3 s4 sl sr a1 a2 a3 a4 d1 d2 d3 d4 nl nr h k l r =
    simp over_times
    (joined (over s1 a1) (over (not s1) a1) (over s2 a2) (over (not s2) a2) (over s3 a3) (over (not s3) a3) (over s4 a4) (over (not s4) a4) d1 d2 d3 d4 (over sl nl) (over (not sl) nl) (over sr nr) (over (not sr) nr)
    (simp over_times at h) (simp over_times at k) (simp over_times at l) (simp over_times at r))

add_fin : (f : Format) (s t u v : Bool) (m n k l : ℕ) (e d g h : ℤ) → le (fin s m e) (fin u k g) ≡ true → le (fin t n d) (fin v l h) ≡ true
    → le (add f (fin s m e) (fin t n d)) (add f (fin u k g) (fin v l h)) ≡ true
unfolding add
add_fin f s t u v m n k l e d g h p q =
    let x = sum_once f s t (m * up e * down d) (n * up d * down e) (down e * down d) in
    let y = sum_once f u v (k * up g * down h) (l * up h * down g) (down g * down h) in
    rw (x.once, y.once)
    (monotone f x.sign y.sign _ _ _ _ (mul-pos (down_pos e) (down_pos d)) (mul-pos (down_pos g) (down_pos h))
    (most_signed _ _ _ _ (sums_most s t u v x.sign y.sign (m * up e) (n * up d) (k * up g) (l * up h) (down e) (down d) (down g) (down h) x.size y.size
    (le_fin s u m k e g p) (le_fin t v n l d h q) x.whole y.whole)))

-- ---- sum and difference
-- an infinity stays in a sum that is no NaN
add_inf : (f : Format) (s : Bool) (x : Float) → Num (add f (inf s) x) → add f (inf s) x ≡ inf s
unfolding add is_nan
add_inf f s nan h = absurd (true≢false h)
add_inf f true (inf true) h = refl
add_inf f true (inf false) h = absurd (true≢false h)
add_inf f false (inf true) h = absurd (true≢false h)
add_inf f false (inf false) h = refl
add_inf f s (fin t n d) h = refl

inf_add : (f : Format) (x : Float) (s : Bool) → Num (add f x (inf s)) → add f x (inf s) ≡ inf s
unfolding add is_nan
inf_add f nan s h = absurd (true≢false h)
inf_add f (inf true) true h = refl
inf_add f (inf true) false h = absurd (true≢false h)
inf_add f (inf false) true h = absurd (true≢false h)
inf_add f (inf false) false h = refl
inf_add f (fin t n d) s h = refl

pub add_up : (f : Format) (x y u v : Float) → le x y ≡ true → le u v ≡ true → Num (add f x u) → Num (add f y v) → le (add f x u) (add f y v) ≡ true
add_up f nan y u v h k p q = unfold add is_nan in absurd (true≢false p)
add_up f (inf true) y u v h k p q = from_least _ _ (add_inf f true u p) q
add_up f (inf false) y u v h k p q = to_most _ _ (rw (at_most y h) (add_inf f false v (rw (at_most y h) at q))) p
add_up f (fin s m e) nan u v h k p q = unfold add is_nan in absurd (true≢false q)
add_up f (fin s m e) (inf true) u v h k p q = unfold le in absurd (false≢true h)
add_up f (fin s m e) (inf false) u v h k p q = to_most _ _ (add_inf f false v q) p
add_up f (fin s m e) (fin t n d) nan v h k p q = unfold add is_nan in absurd (true≢false p)
add_up f (fin s m e) (fin t n d) (inf true) v h k p q = from_least _ _ (inf_add f (fin s m e) true p) q
add_up f (fin s m e) (fin t n d) (inf false) v h k p q = to_most _ _ (rw (at_most v k) (inf_add f (fin t n d) false (rw (at_most v k) at q))) p
add_up f (fin s m e) (fin t n d) (fin a b c) nan h k p q = unfold add is_nan in absurd (true≢false q)
add_up f (fin s m e) (fin t n d) (fin a b c) (inf true) h k p q = unfold le in absurd (false≢true k)
add_up f (fin s m e) (fin t n d) (fin a b c) (inf false) h k p q = to_most _ _ (inf_add f (fin t n d) false q) p
add_up f (fin s m e) (fin t n d) (fin a b c) (fin w z g) h k p q = add_fin f s a t w m b n z e c d g h k

-- a sum that is no NaN is of two that are none
pub add_nums : (f : Format) (x y : Float) → Num (add f x y) → Num x × Num y
unfolding add is_nan
add_nums f nan y h = absurd (true≢false h)
add_nums f (inf s) nan h = absurd (true≢false h)
add_nums f (inf s) (inf t) h = (refl, refl)
add_nums f (inf s) (fin t n d) h = (refl, refl)
add_nums f (fin s m e) nan h = absurd (true≢false h)
add_nums f (fin s m e) (inf t) h = (refl, refl)
add_nums f (fin s m e) (fin t n d) h = (refl, refl)

pub sub_up : (f : Format) (x y c : Float) → le x y ≡ true → Num (sub f x c) → Num (sub f y c) → le (sub f x c) (sub f y c) ≡ true
unfolding sub
sub_up f x y c h p q = add_up f x y (neg c) (neg c) h (le_refl _ (add_nums f x (neg c) p).1) p q
