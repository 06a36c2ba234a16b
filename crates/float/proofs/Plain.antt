-- Values that are not negative, as magnitudes are, and the difference of two: its size is the difference of the units, rounded.
use mathlib.Core.Path.{◌≡◌, ◌∙◌}
use mathlib.Core.Logic.{inl, inr}
use mathlib.Core.Bool.{Bool, true, false, ◌&&◌, ◌||◌}
use Prim.Native.Nat.{ℕ, zero, suc, ◌+◌, ◌-◌, ◌^◌, ◌≤◌, ◌<◌}
use native.Mathlib.Nat.{lt_irrefl, lt_of_le_of_lt, sub-le, sub-eq-zero_of_le, zero-add, add-zero, le_of_lt}
use native.Mathlib.Omega.{arith}
use lib.Dec.{leb, eqb}
use borrow.Author.Tests.{lt-ltb, le-leb, lt-leb}
use lib.Ieee.{Float, Format, low, sub, below, level, le, eq}
use lib.Ieee.Scale.{overflow}
use Rattle.float.specs.Float.{magnitude_of}
use Rattle.float.specs.Exact.{mag}
use Rattle.float.proofs.Whole.{Rep, rnd, rnd_le, rnd_pos, le_or_lt}
use Rattle.float.proofs.Values.{Is, of, Held, round_is_rnd, sub_is, unlike_ge, unlike_lt, le_is, le_plain, eq_is, eq_plain}
use Rattle.float.proofs.Signed.{leq_z}

-- x has no sign, and n units that the format holds
pub record Plain (f : Format) (x : Float) (n : ℕ) : Type 0 where
  pub is : Is f x false n
  pub rep : Rep f n
  pub under : n < overflow f

pub drop_sign : {f : Format} {x : Float} {s : Bool} {n : ℕ} → Is f x s n → Is f (magnitude_of x) false n
unfolding magnitude_of
drop_sign (of p) = of p

pub plain : {f : Format} {x : Float} → Held f x → Plain f (magnitude_of x) (mag f x)
plain h = record { is = drop_sign h.is_own; rep = h.mag_rep; under = h.mag_under }

-- ---- comparisons are those of the units
pub le_units : {f : Format} {x y : Float} {a b : ℕ} → Is f x false a → Is f y false b → le x y ≡ leb a b
le_units {a = a} {b = b} p q = le_is p q ∙ le_plain a b

pub eq_units : {f : Format} {x y : Float} {a b : ℕ} → Is f x false a → Is f y false b → eq x y ≡ eqb a b
eq_units {a = a} {b = b} p q = eq_is p q ∙ eq_plain a b

-- what is not negative is not at most what is
above : (c n : ℕ) → 0 < n → (below false c true n || level false c true n) ≡ false
above c zero h = absurd (lt_irrefl 0 h)
above c (suc n) h = leq_z false true c (suc n)

module _ {f : Format} {x y : Float} {a b : ℕ} (p : Plain f x a) (q : Plain f y b) where
  -- ---- the difference, where it is not negative and where it is
  sub_ge : b ≤ a → Is f (sub f x y) false (rnd f (a - b))
  sub_ge h = rw (sub_is p.is q.is, unlike_ge f false (2 ^ low f) h) (round_is_rnd f false (a - b) (lt_of_le_of_lt (rnd_le p.rep (sub-le a b)) p.under))

  sub_lt : a < b → Is f (sub f x y) true (rnd f (b - a))
  sub_lt h = rw (sub_is p.is q.is, unlike_lt f false (2 ^ low f) h) (round_is_rnd f true (b - a) (lt_of_le_of_lt (rnd_le q.rep (sub-le b a)) q.under))

  -- ---- against a third
  module _ {z : Float} {c : ℕ} (r : Plain f z c) where
    pub sub_le_is : le (sub f x y) z ≡ leb (rnd f (a - b)) c
    sub_le_is =
        elim (le_or_lt b a) [
          | inl h ↦ le_units (sub_ge h) r.is
          | inr h ↦
              let n = rnd f (b - a) in
              let u : 0 < n = rnd_pos f (omega arith) in
              rw (le_is (sub_lt h) r.is, lt-ltb 0 (n + c) (omega arith), le-leb (rnd f (a - b)) c (rnd_le r.rep (omega arith)))
        ]

    pub le_sub_is : le z (sub f x y) ≡ (leb b a && leb c (rnd f (a - b)))
    le_sub_is =
        elim (le_or_lt b a) [
          | inl h ↦ rw (le_units r.is (sub_ge h), le-leb b a h)
          | inr h ↦
              let n = rnd f (b - a) in
              let u : 0 < n = rnd_pos f (omega arith) in
              rw (le_is r.is (sub_lt h), lt-leb b a h) (above c n u)
        ]

  -- ---- its size
  pub gap_is : Is f (magnitude_of (sub f x y)) false (rnd f (a - b + (b - a)))
  gap_is =
      elim (le_or_lt b a) [
        | inl h ↦ rw (sub-eq-zero_of_le h, add-zero) (drop_sign (sub_ge h))
        | inr h ↦ rw (sub-eq-zero_of_le (le_of_lt h), zero-add) (drop_sign (sub_lt h))
      ]
