-- Three whole numbers with signs: where the sum of each two, rounded, is the third with its sign changed, the three sum to zero.
-- Two of the three have one sign, so it is the sum of numbers that are not negative.
use mathlib.Core.Path.{◌≡◌, refl, sym, ap, ◌∙◌}
use mathlib.Core.Bool.{Bool, true, false, not, not-not}
use Prim.Native.Nat.{ℕ, ◌+◌, ◌-◌, ◌≤◌}
use native.Mathlib.Omega.{arith}
use lib.IntN.{ℤ, neg_ℤ, ◌+ℤ◌, ◌-ℤ◌, +ℤ_comm, neg_ℤ-+ℤ, neg_ℤ-neg_ℤ, -ℤ-+ℤ_cancel}
use lib.Ieee.{Format}
use Rattle.float.specs.Exact.{signed}
use Rattle.float.proofs.Whole.{Rep, rnd, rnd_ge, rnd_rep}
use Rattle.float.proofs.Signed.{turned, plus, minus}
use Rattle.float.proofs.Sizes.{same_size}
use Rattle.float.proofs.Sums.{rnd_z, rnd_z_signed}
use Rattle.line.proofs.Lines.{sum_only}

-- the sum of each two, rounded, is the third with its sign changed
pub record Thirds (f : Format) (x y z : ℤ) : Type 0 where
  pub last : rnd_z f (x +ℤ y) ≡ neg_ℤ z
  pub first : rnd_z f (y +ℤ z) ≡ neg_ℤ x
  pub middle : rnd_z f (z +ℤ x) ≡ neg_ℤ y

round : {f : Format} {x y z : ℤ} → Thirds f x y z → Thirds f y z x
round d = record { last = d.first; first = d.middle; middle = d.last }

turn : (x y z : ℤ) → y +ℤ z ≡ neg_ℤ x → x +ℤ y ≡ neg_ℤ z
turn x y z h =
    let e : x ≡ neg_ℤ z -ℤ y = sym (neg_ℤ-neg_ℤ x) ∙ ap neg_ℤ (sym h) ∙ neg_ℤ-+ℤ y z ∙ +ℤ_comm (neg_ℤ y) (neg_ℤ z) in
    rw e (-ℤ-+ℤ_cancel (neg_ℤ z) y)

-- ---- two of one sign
-- w - b, rounded, is a
rest : (f : Format) (s : Bool) (a : ℕ) {b w : ℕ} → b ≤ w → rnd_z f (signed s b +ℤ signed (not s) w) ≡ neg_ℤ (signed s a) → rnd f (w - b) ≡ a
rest f s a {b} {w} h n = same_size (not s) (not s) (sym (rnd_z_signed f (not s) (w - b)) ∙ ap (rnd_z f) (sym e) ∙ n ∙ turned s a)
  where
    e : signed s b +ℤ signed (not s) w ≡ signed (not s) (w - b)
    e = +ℤ_comm (signed s b) (signed (not s) w) ∙ (rw not-not at (minus (not s) h))

like : {f : Format} (s : Bool) {a b : ℕ} {z : ℤ} → Rep f a → Rep f b → Thirds f (signed s a) (signed s b) z → signed s a +ℤ signed s b ≡ neg_ℤ z
like {f} s {a} {b} {z} p q d =
    let w = rnd f (a + b) in
    let e : signed s w ≡ neg_ℤ z = sym (rnd_z_signed f s (a + b)) ∙ ap (rnd_z f) (sym (plus s a b)) ∙ d.last in
    let g : z ≡ signed (not s) w = sym (neg_ℤ-neg_ℤ z) ∙ ap neg_ℤ (sym e) ∙ turned s w in
    let i : rnd f (w - b) ≡ a = rest f s a (rnd_ge q (omega arith)) (rw g at d.first) in
    let j : rnd f (w - a) ≡ b = rest f s b (rnd_ge p (omega arith)) (rw (g, +ℤ_comm (signed (not s) w) (signed s a)) at d.middle) in
    plus s a b ∙ ap (signed s) (sum_only p q (rnd_rep f (a + b)) refl i j) ∙ e

-- ---- and of any signs
pub balance : {f : Format} (r s t : Bool) {a b c : ℕ} → Rep f a → Rep f b → Rep f c → Thirds f (signed r a) (signed s b) (signed t c) → signed r a +ℤ signed s b ≡ neg_ℤ (signed t c)
balance true true t p q o d = like true p q d
balance false false t p q o d = like false p q d
balance true false false {a} {b} {c} p q o d = turn (signed true a) (signed false b) (signed false c) (like false q o (round d))
balance false true true {a} {b} {c} p q o d = turn (signed false a) (signed true b) (signed true c) (like true q o (round d))
balance true false true {a} {b} {c} p q o d = turn (signed true a) (signed false b) (signed true c) (turn (signed false b) (signed true c) (signed true a) (like true o p (round (round d))))
balance false true false {a} {b} {c} p q o d = turn (signed false a) (signed true b) (signed false c) (turn (signed true b) (signed false c) (signed false a) (like false o p (round (round d))))
