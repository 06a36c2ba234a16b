-- The numbers behind a cut value. A step (b1 - a1) * (x - a) / (b - a) is worked out by five roundings, and the sum with a1 is a sixth: how far that is from the line.
-- Distances of whole numbers alone. N is 2 ^ prec, L the units of 1, and C a bound on the heights a1 and b1.
use mathlib.Core.Path.{◌≡◌, ap}
use mathlib.Core.Logic.{inl, inr}
use Prim.Native.Nat.{ℕ, ◌+◌, ◌*◌, ◌≤◌}
use native.Mathlib.Nat.{le_dest, le_of_lt, mul-le-mul, mul-le-mul_left, mul-le-mul_right}
use native.Mathlib.Omega.{arith}
use lib.IntN.{ℤ, pos, nat_abs, ◌+ℤ◌, ◌-ℤ◌, ◌*ℤ◌, *ℤ_comm}
use Rattle.float.specs.Errors.{apart}
use Rattle.float.proofs.Whole.{le_or_lt}
use Rattle.float.proofs.Less.{parts, less_same, less_neg, less_plus, less_times}
use Rattle.float.proofs.Apart.{size_times, size_plus, times_plus, size_within, apart_via, apart_swap, apart_size, apart_plus, apart_times}

-- x exceeds y by at most j / N, so by at most j / M for an M that is no greater
pub coarser : (x y j : ℕ) {M N : ℕ} → M ≤ N → x * N ≤ y * N + j → x * M ≤ y * M + j
coarser x y j {M} {N} h k = elim (le_or_lt x y) [ inl l ↦ omega (arith, mul-le-mul_right M l) | inr l ↦ beyond (le_dest (le_of_lt l)) ]
  where
    beyond : (z : ℕ) × (y + z ≡ x) → x * M ≤ y * M + j
    beyond (z, e) = rw (← e) (omega (arith, mul-le-mul_left z h, rw (← e) at k))

-- ---- sizes: D, P, Q are exact and d, p, q rounded, m the product of d and p, t the quotient of m by q, each rounded; ed .. et are the five errors
module _ (N L C D P Q d p q m t ed ep eq em et : ℕ) (digits : 1024 ≤ N) where
  five : ed * N ≤ D → ep * N ≤ P → eq * N ≤ Q → em * (2 * N) ≤ d * p * 2 + L * N → et * (2 * N) ≤ m * 2 + q * N
      → d ≤ D + ed → p ≤ P + ep → q ≤ Q + eq → Q ≤ q + eq → m ≤ d * p + em → t * q ≤ m + et
      → D ≤ C * 2 → P * 1024 ≤ Q * 513 → N * 128 ≤ C → L * N * 128 ≤ Q * C
      → (t * eq + et + em + p * ed + D * ep) * N * 16 ≤ C * Q * 81
  five hd hp hq hm ht sd sp sq s_q sm st wide nearer room far =
      let d1 : d * 1024 ≤ D * 1025 = omega (arith, coarser ed 0 D digits (omega arith)) in
      let p1 : p * 1024 ≤ P * 1025 = omega (arith, coarser ep 0 P digits (omega arith)) in
      let q1 : eq * 1024 ≤ Q = omega (arith, coarser eq 0 Q digits (omega arith)) in
      -- d * p is hardly more than D * P, and so are m, t * q and t * Q in turn, but for what is too small to count
      let m1 : m * 2048 ≤ d * p * 2050 + L * 1024 = omega (arith, coarser (em * 2) L (d * p * 2) digits (omega (arith, hm))) in
      let t1 : t * q * 2048 ≤ m * 2050 + q * 1024 = omega (arith, coarser (et * 2) q (m * 2) digits (omega (arith, ht))) in
      let t2 : t * Q * 1023 ≤ t * q * 1024 = omega (arith, mul-le-mul_left t s_q, mul-le-mul_left t q1) in
      let small = mul-le-mul_left Q room in
      let x1 : D * P * 512 ≤ C * Q * 513 = omega (arith, mul-le-mul_right P wide, mul-le-mul_left C nearer) in
      let q_n : q * N * 1024 ≤ Q * N * 1025 = omega (arith, mul-le-mul_right N sq, mul-le-mul_right N q1) in
      omega (arith, mul-le-mul d1 p1, mul-le-mul_left D p1, mul-le-mul_left t hq, mul-le-mul_left p hd, mul-le-mul_left D hp, mul-le-mul_left L digits, mul-le-mul_left q digits)

-- ---- the same with their signs: the line is a1 at P = 0, b1 at R = 0, and over P + R it rises by b1 - a1
pub record Worked (N L : ℕ) (a1 b1 P R d p q m t v : ℤ) : Type 0 where
  pub rise : apart d (b1 -ℤ a1) * N ≤ nat_abs (b1 -ℤ a1)
  pub part : apart p P * N ≤ nat_abs P
  pub run : apart q (P +ℤ R) * N ≤ nat_abs (P +ℤ R)
  pub product : apart (m *ℤ pos L) (d *ℤ p) * (2 * N) ≤ nat_abs (d *ℤ p) * 2 + L * N
  pub quotient : apart (t *ℤ q) (m *ℤ pos L) * (2 * N) ≤ nat_abs (m *ℤ pos L) * 2 + nat_abs q * N
  pub sum : apart v (a1 +ℤ t) * N ≤ nat_abs (a1 +ℤ t)

-- a1 and b1 are at most C, P is hardly more than half of P + R, and what underflows is too small to count
pub record Sized (N L C : ℕ) (a1 b1 P R : ℤ) : Type 0 where
  pub height_a : nat_abs a1 ≤ C
  pub height_b : nat_abs b1 ≤ C
  pub along : nat_abs (P +ℤ R) ≡ nat_abs P + nat_abs R
  pub nearer : nat_abs P * 1024 ≤ nat_abs (P +ℤ R) * 513
  pub room : N * 128 ≤ C
  pub far : L * N * 128 ≤ nat_abs (P +ℤ R) * C

line_rises : (a1 b1 P R : ℤ) → a1 *ℤ (P +ℤ R) +ℤ (b1 -ℤ a1) *ℤ P ≡ a1 *ℤ R +ℤ b1 *ℤ P
line_rises a1 b1 P R =
    let (a1', a0, ea) = parts a1 in
    let (b1', b0, eb) = parts b1 in
    let (p1, p0, ep) = parts P in
    let (r1, r0, er) = parts R in
    rw (ea, eb, ep, er) (simp (less_neg, less_plus, less_times) (less_same _ _ _ _ (omega arith)))

module _ {N L C : ℕ} {a1 b1 P R d p q m t v : ℤ} (digits : 1024 ≤ N) (s : Sized N L C a1 b1 P R) (w : Worked N L a1 b1 P R d p q m t v) where
  abbrev D : ℤ
  D = b1 -ℤ a1

  abbrev Q : ℤ
  Q = P +ℤ R

  -- from t * Q to D * P by way of t * q, m * L, d * p and D * p
  chain : apart (t *ℤ Q) (D *ℤ P) ≤ nat_abs t * apart q Q + apart (t *ℤ q) (m *ℤ pos L) + apart (m *ℤ pos L) (d *ℤ p) + nat_abs p * apart d D + nat_abs D * apart p P
  chain =
      let e1 : apart (t *ℤ Q) (t *ℤ q) ≡ nat_abs t * apart q Q = rw (apart_times t Q q, apart_swap Q q) in
      let e2 : apart (d *ℤ p) (D *ℤ p) ≡ nat_abs p * apart d D = rw (*ℤ_comm d p, *ℤ_comm D p) (apart_times p d D) in
      omega (arith, e1, e2, apart_times D p P, apart_via (t *ℤ Q) (t *ℤ q) (D *ℤ P), apart_via (t *ℤ q) (m *ℤ pos L) (D *ℤ P), apart_via (m *ℤ pos L) (d *ℤ p) (D *ℤ P), apart_via (d *ℤ p) (D *ℤ p) (D *ℤ P))

  step : apart (t *ℤ Q) (D *ℤ P) * N * 16 ≤ C * nat_abs Q * 81
  step =
      let dp = size_times d p in
      let tq = size_times t q in
      let h =
      five N L C (nat_abs D) (nat_abs P) (nat_abs Q) (nat_abs d) (nat_abs p) (nat_abs q) (nat_abs (m *ℤ pos L)) (nat_abs t) (apart d D) (apart p P) (apart q Q) (apart (m *ℤ pos L) (d *ℤ p)) (apart (t *ℤ q) (m *ℤ pos L)) digits
      w.rise w.part w.run (rw dp at w.product) w.quotient
      (size_within d D) (size_within p P) (size_within q Q) (rw (apart_swap q Q) (size_within Q q))
      (rw (← dp) (size_within (m *ℤ pos L) (d *ℤ p))) (rw (← tq) (size_within (t *ℤ q) (m *ℤ pos L)))
      (omega (arith, apart_size b1 a1, s.height_a, s.height_b)) s.nearer s.room s.far
      in
      omega (arith, h, mul-le-mul_right N chain)

  -- the line's own height is at most C
  line_size : nat_abs (a1 *ℤ R +ℤ b1 *ℤ P) ≤ C * nat_abs Q
  line_size =
      omega (arith, size_plus (a1 *ℤ R) (b1 *ℤ P), size_times a1 R, size_times b1 P, mul-le-mul_right (nat_abs R) s.height_a, mul-le-mul_right (nat_abs P) s.height_b, ap (λ (k : ℕ). C * k) s.along)

  -- v is within (6 + 1/8) / N of C of the line, all of it times Q
  pub six : apart (v *ℤ Q) (a1 *ℤ R +ℤ b1 *ℤ P) * N * 8 ≤ C * nat_abs Q * 49
  six =
      let line = a1 *ℤ R +ℤ b1 *ℤ P in
      let u = a1 +ℤ t in
      let e1 : apart (v *ℤ Q) (u *ℤ Q) ≡ nat_abs Q * apart v u = rw (*ℤ_comm v Q, *ℤ_comm u Q) (apart_times Q v u) in
      let e2 : apart (u *ℤ Q) line ≡ apart (t *ℤ Q) (D *ℤ P) = rw (← line_rises a1 b1 P R, *ℤ_comm u Q, times_plus Q a1 t, *ℤ_comm a1 Q, *ℤ_comm t Q) (apart_plus (Q *ℤ a1) (Q *ℤ t) (D *ℤ P)) in
      let h : nat_abs u * nat_abs Q ≤ C * nat_abs Q + apart (t *ℤ Q) (D *ℤ P) = omega (arith, size_times u Q, size_within (u *ℤ Q) line, e2, line_size) in
      let g : apart (v *ℤ Q) line ≤ nat_abs Q * apart v u + apart (t *ℤ Q) (D *ℤ P) = omega (arith, e1, e2, apart_via (v *ℤ Q) (u *ℤ Q) line) in
      omega (arith, h, step, mul-le-mul_right N g, mul-le-mul_left (nat_abs Q) w.sum, mul-le-mul_left (apart (t *ℤ Q) (D *ℤ P)) digits)
