-- How far a point is from the line through two others, in whole numbers: seen from either end and along either axis, for a value that is moved towards the line, and for a corner between two values.
use mathlib.Core.Path.{◌≡◌, sym, ap, ◌∙◌}
use mathlib.Core.Logic.{◌⊎◌, inl, inr}
use mathlib.Core.Bool.{Bool, true, false, not, not-not}
use Prim.Native.Nat.{ℕ, ◌+◌, ◌-◌, ◌*◌, ◌≤◌}
use native.Mathlib.Omega.{arith}
use borrow.Author.Tests.{leb-true}
use lib.IntN.{ℤ, neg_ℤ, nat_abs, ◌+ℤ◌, ◌-ℤ◌, ◌*ℤ◌}
use lib.Signed.{le_z}
use lib.Ieee.{unlike}
use Rattle.float.specs.Exact.{signed}
use Rattle.float.proofs.Whole.{le_or_lt}
use Rattle.float.proofs.Signed.{turned, plus, times}
use Rattle.float.proofs.Unlike.{unlike_swap, unlike_not}
use Rattle.float.proofs.Sizes.{size_is}
use Rattle.float.proofs.Less.{◌less◌, parts, pos_less, neg_less, of_one, of_two, less_same, less_neg, less_plus, less_times, less_size, less_le}
use Rattle.float.proofs.Apart.{size_neg, minus_via, minus_swap}

-- the line through (a, a1) and (b, b1) at x, times b - a
abbrev pub line_at : ℤ → ℤ → ℤ → ℤ → ℤ → ℤ
line_at x a b a1 b1 = a1 *ℤ (b -ℤ x) +ℤ b1 *ℤ (x -ℤ a)

-- how far v is above it, times b - a
abbrev pub off : ℤ → ℤ → ℤ → ℤ → ℤ → ℤ → ℤ
off v x a b a1 b1 = v *ℤ (b -ℤ a) -ℤ line_at x a b a1 b1

module _ (v x a b a1 b1 : ℤ) where
  -- seen from b, and along the other axis, it has the other sign
  turns : (off v x b a b1 a1 ≡ neg_ℤ (off v x a b a1 b1)) × (off x v a1 b1 a b ≡ neg_ℤ (off v x a b a1 b1))
  turns =
      let (v1, v0, ev) = parts v in
      let (x1, x0, ex) = parts x in
      let (p1, p0, ea) = parts a in
      let (q1, q0, eb) = parts b in
      let (r1, r0, ec) = parts a1 in
      let (s1, s0, ed) = parts b1 in
      rw (ev, ex, ea, eb, ec, ed)
      (simp (less_neg, less_plus, less_times) (less_same _ _ _ _ (omega arith)), simp (less_neg, less_plus, less_times) (less_same _ _ _ _ (omega arith)))

  pub off_turned : nat_abs (off v x b a b1 a1) ≡ nat_abs (off v x a b a1 b1)
  off_turned = ap nat_abs turns.0 ∙ size_neg (off v x a b a1 b1)

  off_mirrored : off x v a1 b1 a b ≡ neg_ℤ (off v x a b a1 b1)
  off_mirrored = turns.1

  -- of another value
  off_moved : (w : ℤ) → off w x a b a1 b1 ≡ off v x a b a1 b1 +ℤ (w -ℤ v) *ℤ (b -ℤ a)
  off_moved w =
      let (v1, v0, ev) = parts v in
      let (w1, w0, ew) = parts w in
      let (q1, q0, eq) = parts (b -ℤ a) in
      let (l1, l0, el) = parts (line_at x a b a1 b1) in
      rw (el, eq, ev, ew) (simp (less_neg, less_plus, less_times) (less_same _ _ _ _ (omega arith)))

-- ---- y is ahead of x, upwards or downwards
abbrev pub Ahead : Bool → ℤ → ℤ → Type 0
Ahead up x y = (n : ℕ) × (y -ℤ x ≡ signed (not up) n)

pub le_ahead : (x y : ℤ) → le_z x y ≡ true → Ahead true x y
le_ahead =
    of_two (λ x y. le_z x y ≡ true → Ahead true x y)
    (λ x1 x0 y1 y0 h.
    let l = leb-true (x1 + y0) (y1 + x0) (sym (less_le x1 x0 y1 y0) ∙ h) in
    let n = y1 + x0 - (x1 + y0) in
    (n, simp (less_neg, less_plus) (less_same _ _ n 0 (omega arith) ∙ sym (pos_less n))))

pub ge_ahead : (x y : ℤ) → le_z y x ≡ true → Ahead false x y
ge_ahead x y h = let (n, e) = le_ahead y x h in (n, minus_swap x y ∙ ap neg_ℤ e)

ahead_on : (up : Bool) (x y z : ℤ) (m n : ℕ) → y -ℤ x ≡ signed (not up) m → z -ℤ y ≡ signed (not up) n → z -ℤ x ≡ signed (not up) (m + n)
ahead_on up x y z m n d e = sym (minus_via x y z) ∙ (rw (d, e) (plus (not up) m n))

-- ---- how far w is from the line, by how far both heights are ahead of it
off_heights : (w a1 b1 p r : ℤ) → w *ℤ (p +ℤ r) -ℤ (a1 *ℤ r +ℤ b1 *ℤ p) ≡ neg_ℤ ((a1 -ℤ w) *ℤ r +ℤ (b1 -ℤ w) *ℤ p)
off_heights w a1 b1 p r =
    let (w', w0, ew) = parts w in
    let (a', a0, ea) = parts a1 in
    let (b', b0, eb) = parts b1 in
    let (p', p0, ep) = parts p in
    let (r', r0, er) = parts r in
    rw (ew, ea, eb, ep, er) (simp (less_neg, less_plus, less_times) (less_same _ _ _ _ (omega arith)))

-- where both are ahead the same way, and x lies between a and b
module _ (x a b : ℤ) (g : Bool) (p r : ℕ) (from : x -ℤ a ≡ signed g p) (to : b -ℤ x ≡ signed g r) where
  off_size : (w a1 b1 : ℤ) (s : Bool) (m n : ℕ) → a1 -ℤ w ≡ signed s m → b1 -ℤ w ≡ signed s n → nat_abs (off w x a b a1 b1) ≡ m * r + n * p
  off_size w a1 b1 s m n d e =
      let h = unlike s g in
      let k = ap (λ (z : ℤ). w *ℤ z -ℤ line_at x a b a1 b1) (sym (minus_via a x b)) ∙ off_heights w a1 b1 (x -ℤ a) (b -ℤ x) in
      ap nat_abs k ∙ size_neg ((a1 -ℤ w) *ℤ (b -ℤ x) +ℤ (b1 -ℤ w) *ℤ (x -ℤ a)) ∙ (rw (d, e, from, to, times s g m r, times s g n p, plus h (m * r) (n * p)) (size_is h (m * r + n * p)))

  -- a value that is moved towards the line, and not past either height, is no farther from it
  pub off_pulled : (up : Bool) (v w a1 b1 : ℤ) → Ahead up v w → Ahead up w a1 → Ahead up w b1 → nat_abs (off w x a b a1 b1) ≤ nat_abs (off v x a b a1 b1)
  off_pulled up v w a1 b1 (k, h) (m, d) (n, e) =
      rw (off_size w a1 b1 (not up) m n d e, off_size v a1 b1 (not up) (k + m) (k + n) (ahead_on up v w a1 k m h d) (ahead_on up v w b1 k n h e)) (omega arith)

-- ---- a corner (x, y) between two values: v1 at x lies past y and v2 at y past x, both as a is ahead of b; then they lie on two sides of the line, and the corner is no farther from it than one of them
grows : (e : ℤ) (g : Bool) (m n : ℕ) → (nat_abs e ≤ nat_abs (e +ℤ signed g m)) ⊎ (nat_abs (neg_ℤ e) ≤ nat_abs (neg_ℤ e +ℤ signed g n))
grows e g m n =
    of_one (λ e. (nat_abs e ≤ nat_abs (e +ℤ signed g m)) ⊎ (nat_abs (neg_ℤ e) ≤ nat_abs (neg_ℤ e +ℤ signed g n)))
    (λ e1 e0. rw less_neg (elim g as (λ g. (nat_abs (e1 less e0) ≤ nat_abs ((e1 less e0) +ℤ signed g m)) ⊎ (nat_abs (e0 less e1) ≤ nat_abs ((e0 less e1) +ℤ signed g n))) [
      | false ↦ elim (le_or_lt e0 e1) [ inl h ↦ inl (rw (pos_less m) (simp (less_plus, less_size) (omega arith))) | inr h ↦ inr (rw (pos_less n) (simp (less_plus, less_size) (omega arith))) ]
      | true ↦ elim (le_or_lt e0 e1) [ inl h ↦ inr (rw (neg_less n) (simp (less_plus, less_size) (omega arith))) | inr h ↦ inl (rw (neg_less m) (simp (less_plus, less_size) (omega arith))) ]
    ])) e

pub off_corner : (cx cy : Bool) (x y v1 v2 ax bx ay by : ℤ) → Ahead cx bx ax → Ahead cy by ay → Ahead cy y v1 → Ahead cx x v2
    → (nat_abs (off y x ax bx ay by) ≤ nat_abs (off v1 x ax bx ay by)) ⊎ (nat_abs (off x y ay by ax bx) ≤ nat_abs (off v2 y ay by ax bx))
off_corner cx cy x y v1 v2 ax bx ay by (m, hm) (n, hn) (p, hp) (q, hq) =
    let e = off y x ax bx ay by in
    let i : off v1 x ax bx ay by ≡ e +ℤ signed (unlike (not cy) cx) (p * m) = off_moved y x ax bx ay by v1 ∙ ap (λ (z : ℤ). e +ℤ z) (moved cx cy ax bx y v1 m p hm hp) in
    let k : off v2 y ay by ax bx ≡ neg_ℤ e +ℤ signed (unlike (not cy) cx) (q * n) =
    off_moved x y ay by ax bx v2 ∙ ap (λ (z : ℤ). z +ℤ (v2 -ℤ x) *ℤ (by -ℤ ay)) (off_mirrored y x ax bx ay by) ∙ ap (λ (z : ℤ). neg_ℤ e +ℤ z) (moved cy cx ay by x v2 n q hn hq ∙ ap (λ (g : Bool). signed g (q * n)) (crossed cx cy))
    in
    rw (i, k, off_mirrored y x ax bx ay by) (grows e (unlike (not cy) cx) (p * m) (q * n))
  where
    -- what a value moved by p adds over a run of m
    moved : (c d : Bool) (a b y v : ℤ) (m p : ℕ) → a -ℤ b ≡ signed (not c) m → v -ℤ y ≡ signed (not d) p → (v -ℤ y) *ℤ (b -ℤ a) ≡ signed (unlike (not d) c) (p * m)
    moved c d a b y v m p h k = rw (k, minus_swap a b, h, turned (not c) m, not-not) (times (not d) c p m)

    crossed : (c d : Bool) → unlike (not c) d ≡ unlike (not d) c
    crossed c d = unlike_not c d ∙ ap not (unlike_swap c d) ∙ sym (unlike_not d c)
