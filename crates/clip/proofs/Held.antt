-- The value at x, of floats up to 2 ^ 500: it is no NaN; for x from a to b it is finite and lies between a1 and b1; and at an end it is that end's.
use mathlib.Core.Path.{◌≡◌, refl, sym, ◌∙◌}
use mathlib.Core.Logic.{inl, inr}
use mathlib.Core.Bool.{Bool, true, false, true≢false}
use native.Mathlib.Omega.{arith}
use lib.Ieee.{Float, binary64, le, eq}
use lib.Ieee.Bits.{is_true}
use lib.Ieee.Fits.{add-fits}
use Rattle.float.specs.Float.{◌⊕◌, ◌⊖◌, finite, magnitude_of}
use Rattle.float.specs.Exact.{Value}
use Rattle.float.proofs.Choice.{then_is, else_is, cases}
use Rattle.float.proofs.Order.{Num, finite_num, le_num, le_refl, le_trans, le_eq, le_not_lt, not_lt, eq_le, total}
use Rattle.float.proofs.Sums.{eq_swap}
use Rattle.float.proofs.UpTo.{UpTo, power_units}
use Rattle.plane.specs.Interval.{from◌to◌, between}
use Rattle.plane.specs.Within.{In, Some}
use Rattle.plane.specs.declared.interval.Interval.{Interval}
use Rattle.plane.proofs.Parts.{in_some, part_in, equal_in}
use Rattle.plane.proofs.Between.{between_in, between_ends, between_least}
use Rattle.plane.proofs.Promises.{promises as plane}
use Rattle.clip.specs.Cut.{from_end, on_line, held_in, value_at}
use Rattle.clip.proofs.FromEnd.{Modest, Along, from_end_num, from_end_finite, from_end_own, own_nearer, other_farther}

abbrev pub Small : Float → Type 0
Small x = UpTo binary64 (power_units binary64 500) x

abbrev pub Fit : Float → Float → Float → Float → Float → Type 0
Fit x a b a1 b1 = Modest binary64 500 x a b a1 b1

-- ---- a value held in an interval
module _ (i : Interval) (v : Float) where
  -- it is one of the ends, or as it was
  held_cases : (P : Float → Type 0) → P i.lo → P i.hi → P v → P (held_in i v)
  unfolding held_in
  held_cases P l h p = cases P _ _ _ (λ e. l) (λ e. cases P _ _ _ (λ f. h) (λ f. p))

  pub held_within : Some i → Num v → In i (held_in i v)
  unfolding held_in
  held_within s n =
      let (l, h) = le_num _ _ s in
      cases (In i) _ _ _ (λ e. record { low = le_refl _ l; high = s }) (λ e. cases (In i) _ _ _ (λ f. record { low = s; high = le_refl _ h }) (λ f. record { low = not_lt _ _ n l e; high = not_lt _ _ h n f }))

  -- what lies in it stays
  held_stays : In i v → held_in i v ≡ v
  unfolding held_in
  held_stays h = sym (else_is _ _ _ _ (le_not_lt _ _ h.low) (else_is _ _ _ _ (le_not_lt _ _ h.high) refl))

-- ---- x from a to b
pub along : (x a b : Float) → Num a → Num b → In (between a b) x → Along x a b
along x a b p q i =
    elim (total a b p q) [
      | inl h ↦
          let j = part_in _ _ x (between_least a b (from a to b) (record { low = le_refl a p; high = h }) (record { low = h; high = le_refl b q })) i in
          inl (j.low, j.high)
      | inr h ↦
          let j = part_in _ _ x (between_least a b (from b to a) (record { low = h; high = le_refl a p }) (record { low = le_refl b q; high = h })) i in
          inr (j.low, j.high)
    ]

pub back : (x a b : Float) → Along x a b → Along x b a
back x a b (inl p) = inr p
back x a b (inr p) = inl p

-- b equals x and not a
unequal : (a x b : Float) → eq x b ≡ true → eq a b ≡ false → eq a x ≡ false
unequal a x b e f = go (eq a x) refl
  where
    go : (c : Bool) → eq a x ≡ c → eq a x ≡ false
    go true g =
        let (p, q) = eq_le a x g in
        let (r, s) = eq_le x b e in
        absurd (true≢false (sym (le_eq a b (le_trans _ _ _ p r) (le_trans _ _ _ s q)) ∙ f))
    go false g = g

pub value_level : (x a b a1 b1 : Float) → eq a b ≡ true → value_at x a b a1 b1 ≡ a1
unfolding value_at
value_level x a b a1 b1 e = sym (then_is _ _ _ _ e refl)

module _ {x a b a1 b1 : Float} (m : Fit x a b a1 b1) where
  -- from the other end
  pub turned : Fit x b a b1 a1
  turned = record { at_x = m.at_x; at_a = m.at_b; at_b = m.at_a; height_a = m.height_b; height_b = m.height_a }

  pub num_a : Num a
  num_a = finite_num _ m.at_a.value.is_finite

  pub num_b : Num b
  num_b = finite_num _ m.at_b.value.is_finite

  both_heights : In (between a1 b1) a1 × In (between a1 b1) b1
  both_heights = between_in a1 b1 (finite_num _ m.height_a.value.is_finite) (finite_num _ m.height_b.value.is_finite)

  line_either : (P : Float → Type 0) → (eq b a ≡ false → P (from_end x a b a1 b1)) → (eq a b ≡ false → P (from_end x b a b1 a1)) → eq a b ≡ false → P (on_line x a b a1 b1)
  unfolding on_line
  line_either P f g h = cases P _ (from_end x a b a1 b1) (from_end x b a b1 a1) (λ k. f (eq_swap b a ∙ h)) (λ k. g h)

  pub line_num : eq a b ≡ false → Num (on_line x a b a1 b1)
  line_num = line_either Num (from_end_num (omega arith) m) (from_end_num (omega arith) turned)

  -- what holds of both heights, and of the line's value, holds of the value
  value_cases : (P : Float → Type 0) → P a1 → P b1 → (eq a b ≡ false → P (on_line x a b a1 b1)) → P (value_at x a b a1 b1)
  unfolding value_at
  value_cases P p q f =
      let (l, h) = between_ends P a1 b1 p q in
      cases P (eq a b) _ _ (λ e. p) (λ e. cases P _ _ _ (λ k. held_cases _ _ P l h (f e)) (λ k. f e))

  pub value_num : Num (value_at x a b a1 b1)
  value_num = value_cases Num (finite_num _ m.height_a.value.is_finite) (finite_num _ m.height_b.value.is_finite) line_num

  -- for x from a to b
  pub line_value : In (between a b) x → eq a b ≡ false → Value binary64 (on_line x a b a1 b1)
  line_value i =
      let o = along x a b num_a num_b i in
      line_either (Value binary64) (λ h. of_sum _ _ (from_end_finite (omega arith) m h o)) (λ h. of_sum _ _ (from_end_finite (omega arith) turned h (back x a b o)))
    where
      of_sum : (y z : Float) → finite (y ⊕ z) ≡ true → Value binary64 (y ⊕ z)
      of_sum y z h = record { is_finite = h; held = is_true _ (add-fits binary64 y z) }

  pub value_value : In (between a b) x → Value binary64 (value_at x a b a1 b1)
  value_value i = value_cases (Value binary64) m.height_a.value m.height_b.value (line_value i)

  pub value_between : In (between a b) x → In (between a1 b1) (value_at x a b a1 b1)
  unfolding value_at
  value_between i =
      let (p, q) = both_heights in
      cases (In (between a1 b1)) (eq a b) _ _ (λ e. p)
      (λ e. cases (In (between a1 b1)) _ _ _ (λ k. held_within _ _ (in_some _ _ p) (line_num e)) (λ k. absurd (true≢false (sym ((plane.holds_in _ _).1 i) ∙ k))))

  -- a line's value that is not past an end is the value
  as_it_is : eq a b ≡ false → In (between a1 b1) (on_line x a b a1 b1) → value_at x a b a1 b1 ≡ on_line x a b a1 b1
  unfolding value_at
  as_it_is e h = sym (else_is _ _ _ _ e (cases (λ (v : Float). on_line x a b a1 b1 ≡ v) _ _ _ (λ k. sym (held_stays _ _ h)) (λ k. refl)))

  -- at an end: the line's value there is that end's height as a number, so it stays
  settled : eq a b ≡ false → (v h : Float) → on_line x a b a1 b1 ≡ v → eq v h ≡ true → In (between a1 b1) h → eq (value_at x a b a1 b1) h ≡ true
  settled f v h l e i = rw (as_it_is f (rw l (equal_in _ v h e i)), l) e

  from_a : le (magnitude_of (a ⊖ x)) (magnitude_of (b ⊖ x)) ≡ true → on_line x a b a1 b1 ≡ from_end x a b a1 b1
  unfolding on_line
  from_a e = sym (then_is _ _ _ _ e refl)

  from_b : le (magnitude_of (a ⊖ x)) (magnitude_of (b ⊖ x)) ≡ false → on_line x a b a1 b1 ≡ from_end x b a b1 a1
  unfolding on_line
  from_b e = sym (else_is _ _ _ _ e refl)

  pub value_at_a : eq x a ≡ true → eq (value_at x a b a1 b1) a1 ≡ true
  value_at_a e = go (eq a b) refl
    where
      go : (c : Bool) → eq a b ≡ c → eq (value_at x a b a1 b1) a1 ≡ true
      go true f = rw (value_level x a b a1 b1 f) (let n = le_refl a1 (finite_num _ m.height_a.value.is_finite) in le_eq a1 a1 n n)
      go false f =
          let (p, q) = eq_le x a e in
          settled f _ a1 (from_a (own_nearer (omega arith) m q p)) (from_end_own (omega arith) m q p (eq_swap b a ∙ f)) both_heights.0

  pub value_at_b : eq x b ≡ true → eq a b ≡ false → eq (value_at x a b a1 b1) b1 ≡ true
  value_at_b e f =
      let (p, q) = eq_le x b e in
      settled f _ b1 (from_b (other_farther (omega arith) turned q p (unequal a x b e f))) (from_end_own (omega arith) turned q p f) both_heights.1
