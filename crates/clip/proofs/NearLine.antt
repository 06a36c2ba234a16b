-- The value at x and the exact line: six roundings from the nearer end, and a value that is held is no farther.
-- Over any format as far as the code's rule goes, so that no power of two becomes a long numeral.
use mathlib.Core.Path.{◌≡◌, refl, sym, ap, ◌∙◌}
use mathlib.Core.Logic.{inl, inr}
use mathlib.Core.Bool.{Bool, true, false, true≢false}
use Prim.Native.Nat.{ℕ, suc, ◌+◌, ◌*◌, ◌^◌, ◌≤◌, ◌<◌}
use native.Mathlib.Nat.{le_trans, mul-le-mul, mul-le-mul_right}
use native.Mathlib.Omega.{arith}
use lib.Dec.{lit≤}
use lib.Pow.{pow_pos}
use lib.IntN.{ℤ, nat_abs, ◌-ℤ◌, +ℤ_invr}
use borrow.Author.Tests.{leb-true}
use lib.Signed.{le_z}
use lib.Ieee.{Float, Format, binary32, binary64, prec, low, emax, add, sub, mul, div, lt, le, eq}
use Rattle.float.specs.Float.{◌⊖◌, magnitude_of, sign_bit}
use Rattle.float.specs.Exact.{mag, signed, units, Value}
use Rattle.float.specs.Errors.{apart}
use Rattle.float.proofs.Choice.{cases}
use Rattle.float.proofs.Order.{Num, finite_num, lt_le, total}
use Rattle.float.proofs.Values.{held, is_finite}
use Rattle.float.proofs.Sizes.{size_is, eq_z_true}
use Rattle.float.proofs.Sums.{eq_swap}
use Rattle.float.proofs.Plain.{drop_sign, le_units}
use Rattle.float.proofs.Apart.{apart_along, apart_swap, size_within, minus_via}
use Rattle.float.proofs.Laws.{compared, errors}
use Rattle.float.proofs.Errors.{in_all}
use Rattle.float.proofs.UpTo.{UpTo, power_units}
use Rattle.plane.specs.Interval.{between}
use Rattle.plane.specs.Within.{In}
use Rattle.plane.proofs.Between.{between_in, between_ends}
use Rattle.clip.specs.Cut.{from_end, on_line, held_in, value_at}
use Rattle.clip.proofs.Roundings.{coarser, Worked, Sized, six}
use Rattle.clip.proofs.Lines.{off, off_turned, Ahead, le_ahead, ge_ahead, off_pulled}
use Rattle.clip.proofs.FromEnd.{Modest, Along, difference, rise, run, part, product, some, quotient, from_end_finite}
use Rattle.clip.proofs.Held.{Small, Fit, along, back, turned, num_a, num_b, line_value}

-- v is within (6 + 1/8) / 2 ^ prec of C of the line, all of it times the width
abbrev pub Close : Format → ℕ → Float → Float → Float → Float → Float → Float → Type 0
Close f C v x a b a1 b1 = nat_abs (off (units f v) (units f x) (units f a) (units f b) (units f a1) (units f b1)) * 2 ^ prec f * 8 ≤ C * apart (units f b) (units f a) * 49

-- both formats have digits enough, and 1 has units enough
digits : (f : Format) → 1024 ≤ 2 ^ prec f
digits binary32 = lit≤ tt
digits binary64 = lit≤ tt

unit_room : (f : Format) → 2 ^ prec f * 128 ≤ 2 ^ low f
unit_room binary32 = lit≤ tt
unit_room binary64 = lit≤ tt

pub size_of : (f : Format) (x : Float) → nat_abs (units f x) ≡ mag f x
size_of f x = size_is (sign_bit x) (mag f x)

-- values in order are so exactly
pub exactly : {f : Format} {y z : Float} → Value f y → Value f z → le y z ≡ true → le_z (units f y) (units f z) ≡ true
exactly {f} {y} {z} v w h = sym (compared f y z v w).at_most ∙ h

pub ahead_up : {f : Format} {y z : Float} → Value f y → Value f z → le y z ≡ true → Ahead true (units f y) (units f z)
ahead_up {f} {y} {z} v w h = le_ahead (units f y) (units f z) (exactly v w h)

pub ahead_down : {f : Format} {y z : Float} → Value f y → Value f z → le z y ≡ true → Ahead false (units f y) (units f z)
ahead_down {f} {y} {z} v w h = ge_ahead (units f y) (units f z) (exactly w v h)

module _ {f : Format} {k : ℕ} (room : suc k + suc k ≤ emax f) {x a b a1 b1 : Float} (m : Modest f k x a b a1 b1) (o : Along x a b) where
  abbrev u : Float → ℤ
  u y = units f y

  -- what each rounding is off by
  worked : eq b a ≡ false → Worked (2 ^ prec f) (2 ^ low f) (u a1) (u b1) (u x -ℤ u a) (u b -ℤ u x) (u (sub f b1 a1)) (u (sub f x a)) (u (sub f b a)) (u (mul f (sub f b1 a1) (sub f x a)))
      (u (div f (mul f (sub f b1 a1) (sub f x a)) (sub f b a))) (u (add f a1 (div f (mul f (sub f b1 a1) (sub f x a)) (sub f b a))))
  worked apart =
      let r = (rise room m).value in
      let p = (part room m).value in
      let q = (run room m).value in
      let t = (product room m (rise room m)).value in
      let d = (quotient room m apart o).value in
      record {
        rise = (errors f b1 a1 m.height_b.value m.height_a.value).difference r.is_finite;
        part = (errors f x a m.at_x.value m.at_a.value).difference p.is_finite;
        run = rw (minus_via (u a) (u x) (u b)) ((errors f b a m.at_b.value m.at_a.value).difference q.is_finite);
        product = in_all ((errors f _ _ r p).product t.is_finite);
        quotient = rw (size_of f (sub f b a)) (in_all ((errors f _ _ t q).quotient (some room m apart) d.is_finite));
        sum = (errors f _ _ m.height_a.value d).sum (from_end_finite room m apart o);
      }

  -- x lies between the ends, so that what is before it and what is after it come to the whole width
  widths : apart (u b) (u a) ≡ apart (u x) (u a) + apart (u b) (u x)
  widths =
      let X = m.at_x.value in
      let A = m.at_a.value in
      let B = m.at_b.value in
      elim o [
        | inl (p, q) ↦ apart_along (u a) (u x) (u b) (exactly A X p) (exactly X B q)
        | inr (p, q) ↦ rw (apart_swap (u b) (u a), apart_swap (u b) (u x), apart_swap (u x) (u a)) (apart_along (u b) (u x) (u a) (exactly B X p) (exactly X A q) ∙ omega arith)
      ]

  -- the end that is nearer by the rounded distances is hardly farther than the other
  nearer : le (magnitude_of (sub f a x)) (magnitude_of (sub f b x)) ≡ true → apart (u x) (u a) * 1024 ≤ apart (u b) (u a) * 513
  nearer h =
      let d = (difference room m m.at_a m.at_x).value in
      let e = (difference room m m.at_b m.at_x).value in
      let l : mag f (sub f a x) ≤ mag f (sub f b x) = leb-true _ _ (sym (le_units (drop_sign (held d).is_own) (drop_sign (held e).is_own)) ∙ h) in
      let p = coarser (apart (u (sub f a x)) (u a -ℤ u x)) 0 (apart (u a) (u x)) (digits f) (omega (arith, (errors f a x m.at_a.value m.at_x.value).difference d.is_finite)) in
      let r = coarser (apart (u (sub f b x)) (u b -ℤ u x)) 0 (apart (u b) (u x)) (digits f) (omega (arith, (errors f b x m.at_b.value m.at_x.value).difference e.is_finite)) in
      let i = size_within (u a -ℤ u x) (u (sub f a x)) in
      let j = size_within (u (sub f b x)) (u b -ℤ u x) in
      omega (arith, widths, apart_swap (u x) (u a), apart_swap (u a -ℤ u x) (u (sub f a x)), size_of f (sub f a x), size_of f (sub f b x))

  -- the heights are at most 2 ^ j
  module _ (j : ℕ) (ha : UpTo f (power_units f j) a1) (hb : UpTo f (power_units f j) b1) (far : 2 ^ prec f * 128 ≤ apart (u b) (u a)) where
    sized : le (magnitude_of (sub f a x)) (magnitude_of (sub f b x)) ≡ true → Sized (2 ^ prec f) (2 ^ low f) (power_units f j) (u a1) (u b1) (u x -ℤ u a) (u b -ℤ u x)
    sized h =
        let via = ap nat_abs (minus_via (u a) (u x) (u b)) in
        let one : 2 ^ low f ≤ power_units f j = omega (arith, mul-le-mul_right (2 ^ low f) (pow_pos j)) in
        record {
          height_a = rw (size_of f a1) ha.size;
          height_b = rw (size_of f b1) hb.size;
          along = via ∙ widths;
          nearer = rw via (nearer h);
          room = omega (arith, unit_room f);
          far = rw via (omega (arith, mul-le-mul one far));
        }

    from_end_lem : eq b a ≡ false → le (magnitude_of (sub f a x)) (magnitude_of (sub f b x)) ≡ true → Close f (power_units f j) (add f a1 (div f (mul f (sub f b1 a1) (sub f x a)) (sub f b a))) x a b a1 b1
    from_end_lem apart h = rw (minus_via (u a) (u x) (u b)) at (six (digits f) (sized h) (worked apart))

-- ---- seen from the other end
turn : (f : Format) (C : ℕ) (v x a b a1 b1 : Float) → Close f C v x b a b1 a1 → Close f C v x a b a1 b1
turn f C v x a b a1 b1 h =
    let u : Float → ℤ = units f in
    rw (off_turned (u v) (u x) (u a) (u b) (u a1) (u b1), apart_swap (u a) (u b)) at h

-- ---- a value that is held is no farther from the line, which lies between the heights
between_ways : {f : Format} {x a b : Float} → Value f x → Value f a → Value f b → Along x a b
    → (g : Bool) × (p : ℕ) × (r : ℕ) × (units f x -ℤ units f a ≡ signed g p) × (units f b -ℤ units f x ≡ signed g r)
between_ways X A B (inl (p, q)) = let (n, e) = ahead_up A X p in let (k, d) = ahead_up X B q in (false, n, k, e, d)
between_ways X A B (inr (p, q)) = let (n, e) = ahead_down A X q in let (k, d) = ahead_down X B p in (true, n, k, e, d)

module _ {f : Format} (C : ℕ) {x a b a1 b1 : Float} (X : Value f x) (A : Value f a) (B : Value f b) (A1 : Value f a1) (B1 : Value f b1) (o : Along x a b) where
  pulled : (up : Bool) (v w : Float) → Ahead up (units f v) (units f w) → Ahead up (units f w) (units f a1) → Ahead up (units f w) (units f b1) → Close f C v x a b a1 b1 → Close f C w x a b a1 b1
  pulled up v w h d e c =
      let (g, p, r, from, to) = between_ways X A B o in
      le_trans (mul-le-mul_right 8 (mul-le-mul_right (2 ^ prec f) (off_pulled (units f x) (units f a) (units f b) g p r from to up (units f v) (units f w) (units f a1) (units f b1) h d e))) c

  held_close : (v : Float) → Value f v → Close f C v x a b a1 b1 → Close f C (held_in (between a1 b1) v) x a b a1 b1
  unfolding held_in
  held_close v own c =
      let i = between a1 b1 in
      let (ia, ib) = between_in a1 b1 (finite_num _ A1.is_finite) (finite_num _ B1.is_finite) in
      let (L, H) = between_ends (Value f) a1 b1 A1 B1 in
      let Goal : Float → Type 0 = λ y. Close f C y x a b a1 b1 in
      cases Goal (lt v i.lo) i.lo _
      (λ e. pulled true v i.lo (ahead_up own L (lt_le _ _ e)) (ahead_up L A1 ia.low) (ahead_up L B1 ib.low) c)
      (λ e. cases Goal (lt i.hi v) i.hi v
      (λ e. pulled false v i.hi (ahead_down own H (lt_le _ _ e)) (ahead_down H A1 ia.high) (ahead_down H B1 ib.high) c)
      (λ e. c))

-- ends that are apart do not compare equal
differ : {f : Format} {a b : Float} → Value f a → Value f b → 0 < apart (units f b) (units f a) → eq a b ≡ false
differ {f} {a} {b} A B h = go (eq a b) refl
  where
    go : (c : Bool) → eq a b ≡ c → eq a b ≡ false
    go true e =
        let k : units f b ≡ units f a = sym (eq_z_true _ _ (sym (compared f a b A B).equal ∙ e)) in
        let z : apart (units f b) (units f a) ≡ 0 = ap (λ (y : ℤ). apart y (units f a)) k ∙ ap nat_abs (+ℤ_invr (units f a)) in
        absurd (omega arith)
    go false e = e

-- ---- the value at x
module _ {x a b a1 b1 : Float} (m : Fit x a b a1 b1) (i : In (between a b) x) (j : ℕ) (ha : UpTo binary64 (power_units binary64 j) a1) (hb : UpTo binary64 (power_units binary64 j) b1)
    (far : 2 ^ prec binary64 * 128 ≤ apart (units binary64 b) (units binary64 a)) where
  o : Along x a b
  o = along x a b (num_a m) (num_b m) i

  line_close : eq a b ≡ false → Close binary64 (power_units binary64 j) (on_line x a b a1 b1) x a b a1 b1
  unfolding on_line
  line_close e =
      cases (λ v. Close binary64 (power_units binary64 j) v x a b a1 b1) _ (from_end x a b a1 b1) (from_end x b a b1 a1)
      (λ h. from_end_lem (omega arith) m o j ha hb far (eq_swap b a ∙ e) h)
      (λ h. turn binary64 (power_units binary64 j) _ x a b a1 b1 (from_end_lem (omega arith) (turned m) (back x a b o) j hb ha (rw (apart_swap (units binary64 a) (units binary64 b)) far) e (other h)))
    where
      other : le (magnitude_of (a ⊖ x)) (magnitude_of (b ⊖ x)) ≡ false → le (magnitude_of (b ⊖ x)) (magnitude_of (a ⊖ x)) ≡ true
      other h =
          let n : (y : Float) → Small y → Num (magnitude_of (y ⊖ x)) = λ y s. finite_num _ (is_finite (drop_sign (held (difference (omega arith) m s m.at_x).value).is_own)) in
          elim (total _ _ (n a m.at_a) (n b m.at_b)) [ inl g ↦ absurd (true≢false (sym g ∙ h)) | inr g ↦ g ]

  pub value_close : Close binary64 (power_units binary64 j) (value_at x a b a1 b1) x a b a1 b1
  unfolding value_at
  value_close =
      let e = differ m.at_a.value m.at_b.value (omega (arith, far)) in
      let Goal : Float → Type 0 = λ v. Close binary64 (power_units binary64 j) v x a b a1 b1 in
      cases Goal (eq a b) a1 _ (λ g. absurd (true≢false (sym g ∙ e)))
      (λ g. cases Goal _ _ _ (λ h. held_close (power_units binary64 j) m.at_x.value m.at_a.value m.at_b.value m.height_a.value m.height_b.value o _ (line_value m i e) (line_close e)) (λ h. line_close e))
