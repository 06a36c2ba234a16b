-- What specs/Laws.antt promises, proved: comparisons, exact operations, Sterbenz's law, monotone rounding, its errors and what is handed in, over every format.
use mathlib.Core.Path.{◌≡◌, refl, sym, ◌∙◌}
use mathlib.Core.Logic.{inl, inr}
use mathlib.Core.Bool.{Bool, true, false, not}
use Prim.Native.Nat.{ℕ, ◌^◌, ◌<◌}
use native.Mathlib.Omega.{arith}
use lib.Pow.{pow_pos}
use lib.IntN.{◌-ℤ◌}
use lib.Dec.{T}
use lib.Ieee.{Float, Format, low, sub, fits, of_bits}
use lib.Ieee.Bits.{of_bits-fits, of_bits-to_bits}
use lib.Ieee.Scale.{overflow}
use Rattle.float.specs.Float.{finite, sign_bit}
use Rattle.float.specs.Exact.{mag, signed, units, Value}
use Rattle.float.specs.Laws.{Compared, Exact, Sterbenz, Handed, Laws}
use Rattle.float.proofs.Whole as Whole
use Rattle.float.proofs.Whole.{Rep, le_or_lt}
use Rattle.float.proofs.Values.{Is, held, is_finite, is_sign, is_mag, lt_is, le_is, eq_is, sub_is}
use Rattle.float.proofs.Signed.{below_z, level_z, leq_z, turned}
use Rattle.float.proofs.Rounded.{Net, net_ge, net_lt, round_fix, exact_sum, exact_difference, exact_product, exact_quotient}
pub use Rattle.float.proofs.Monotone.{monotone}
pub use Rattle.float.proofs.Errors.{errors}

pub compared : (f : Format) (x y : Float) → Value f x → Value f y → Compared f x y
compared f x y v w =
    let p = (held v).is_own in
    let q = (held w).is_own in
    record {
      less = lt_is p q ∙ below_z (sign_bit x) (sign_bit y) (mag f x) (mag f y);
      at_most = le_is p q ∙ leq_z (sign_bit x) (sign_bit y) (mag f x) (mag f y);
      equal = eq_is p q ∙ level_z (sign_bit x) (sign_bit y) (mag f x) (mag f y);
    }

pub exact : (f : Format) (x y z : Float) → Value f x → Value f y → Value f z → Exact f x y z
exact f x y z v w u =
    let p = (held v).is_own in
    let q = (held w).is_own in
    let h = held u in
    record { sum = exact_sum h p q; difference = exact_difference h p q; product = exact_product h p q; quotient = exact_quotient h p q }

-- ---- Sterbenz
-- a difference whose units are representable
difference_exact : {f : Format} {x y : Float} {s : Bool} {a b n : ℕ} → Is f x s a → Is f y s b → Net f s (not s) a b n → Rep f n → n < overflow f → (finite (sub f x y) ≡ true) × (units f (sub f x y) ≡ signed s a -ℤ signed s b)
difference_exact {f} {x} {y} {s} {a} {b} {n} p q o r u =
    let i : Is f (sub f x y) o.sign n = rw (sub_is p q ∙ o.once) (round_fix r u o.sign n (2 ^ low f) (pow_pos (low f)) refl) in
    (is_finite i, rw (is_sign i, is_mag i, turned s b) (sym o.whole))

pub sterbenz : (f : Format) (x y : Float) → Value f x → Value f y → Sterbenz f x y
sterbenz f x y v w e h k =
    let p = held v in
    let q = held w in
    let i : Is f y (sign_bit x) (mag f y) = rw e q.is_own in
    rw (← e)
    (elim (le_or_lt (mag f y) (mag f x)) [
      | inl l ↦ difference_exact p.is_own i (net_ge f (sign_bit x) l) (Whole.sterbenz p.mag_rep q.mag_rep h) (omega arith)
      | inr l ↦ difference_exact p.is_own i (net_lt f (sign_bit x) l) (Whole.sterbenz q.mag_rep p.mag_rep k) (omega arith)
    ])

-- ---- what is handed in
is_true : (b : Bool) → T b → b ≡ true
is_true true h = refl
is_true false h = absurd h

pub handed : (f : Format) → Handed f
handed f =
    let own : (n : ℕ) → fits f (of_bits f n) ≡ true = λ n. is_true (fits f (of_bits f n)) (of_bits-fits f n) in
    record {
      held = own;
      pattern = λ x h. of_bits-to_bits f x (rw h tt);
      value = λ n h. record { is_finite = h; held = own n };
    }

-- ---- all of it
pub laws : Laws
laws = record { compared = compared; exact = exact; sterbenz = sterbenz; monotone = monotone; errors = errors; handed = handed }
