-- A word read digit by digit: the number so far and what is left give the value and the test of the whole.
use Rattle.std.proofs.Common.{◌≡◌, ℕ, ◌+◌, ◌-◌, ◌*◌, ◌^◌, ◌<◌, ◌≤◌, Bool, true, false, List, [], ◌∷◌, length, get_or, drop, sym, refl, ap, ◌∙◌, add-one, arith, drop_of_length-le, drop-cons, pow-add, le-leb}
use native.Mathlib.Nat.{pow-le-pow_right}
use borrow.Author.Tests.{lt-leb}
use Rattle.float.specs.Choice.{when◌then◌else◌, ◌and◌}
use Rattle.float.proofs.Choice.{then_is, else_is, and_both}
use Rattle.run_trace.specs.declared.words.Word.TheVariants.{Number, Other}
use Rattle.run_trace.specs.Words.{is_digit, all_digits, value_after, value, is_number, number_in}

not_first : (p q : Bool) → p ≡ false → (p and q) ≡ false
not_first p q e = sym (else_is p false q false e refl)

not_second : (p q : Bool) → q ≡ false → (p and q) ≡ false
unfolding when◌then◌else◌
not_second true q e = e
not_second false q e = refl

-- ---- what a word asks for, by what is found of it
module _ (s : List ℕ) where
  none : is_number s ≡ false → Other ≡ number_in s
  unfolding number_in
  none e = else_is _ _ _ _ e refl

  pub empty : length s ≡ 0 → Other ≡ number_in s
  empty h = none (not_first _ _ (not_first _ _ (lt-leb 1 (length s) (omega arith))))

  pub too_long : 10 < length s → Other ≡ number_in s
  too_long h = none (not_first _ _ (not_second _ _ (lt-leb (length s) 10 h)))

  not_digits : all_digits s ≡ false → Other ≡ number_in s
  not_digits e = none (not_second _ _ (not_first _ _ e))

-- ---- the first i digits make n
pub record Read (s : List ℕ) (i n : ℕ) : Type 0 where
  pub some : 1 ≤ length s
  pub few : length s ≤ 10
  pub within : i ≤ length s
  pub digits : all_digits (drop i s) ≡ all_digits s
  pub value : value_after n (drop i s) ≡ value s
  pub small : n < 10 ^ i

pub begins : (s : List ℕ) → (length s ≡ 0 → ⊥) → length s ≤ 10 → Read s 0 0
begins s h l = record { some = omega arith; few = l; within = omega arith; digits = refl; value = refl; small = omega arith }

digit_low : (b : ℕ) → b < 48 → is_digit b ≡ false
digit_low b h = not_first _ _ (lt-leb 48 b h)

digit_high : (b : ℕ) → 57 < b → is_digit b ≡ false
digit_high b h = not_second _ _ (lt-leb b 57 h)

module _ {s : List ℕ} {i n : ℕ} (r : Read s i n) where
  -- with one to come there is room for it
  pub room : i < length s → n < 1000000000
  room h =
      let m : i ≤ 9 = omega (arith, r.few) in
      let p : 10 ^ i ≤ 10 ^ 9 = pow-le-pow_right (omega arith) m in
      omega (arith, r.small)

  next : i < length s → drop i s ≡ get_or s i 0 ∷ drop (i + 1) s
  next h = rw (add-one i) (drop-cons s i 0 h)

  no_digit : i < length s → is_digit (get_or s i 0) ≡ false → Other ≡ number_in s
  unfolding all_digits
  no_digit h e = not_digits s (sym r.digits ∙ ap all_digits (next h) ∙ not_first _ _ e)

  pub too_low : i < length s → get_or s i 0 < 48 → Other ≡ number_in s
  too_low h l = no_digit h (digit_low _ l)

  pub too_high : i < length s → 57 < get_or s i 0 → Other ≡ number_in s
  too_high h l = no_digit h (digit_high _ l)

  pub one_more : i < length s → 48 ≤ get_or s i 0 → get_or s i 0 ≤ 57 → (m : ℕ) → m ≡ n * 10 + (get_or s i 0 - 48) → Read s (i + 1) m
  unfolding all_digits value_after
  one_more h l u m e =
      let d : is_digit (get_or s i 0) ≡ true = and_both _ _ (le-leb 48 (get_or s i 0) l) (le-leb (get_or s i 0) 57 u) in
      record {
        some = r.some;
        few = r.few;
        within = omega arith;
        digits = then_is _ _ _ _ d refl ∙ sym (ap all_digits (next h)) ∙ r.digits;
        value = rw e (sym (ap (value_after n) (next h)) ∙ r.value);
        small = rw (pow-add 10 i 1) (omega (arith, r.small));
      }

  -- ---- no digit is left
  module _ (h : length s ≤ i) where
    none_left : drop i s ≡ []
    none_left = drop_of_length-le s h

    all_digits_lem : all_digits s ≡ true
    unfolding all_digits
    all_digits_lem = sym r.digits ∙ ap all_digits none_left

    value_is : value s ≡ n
    unfolding value_after
    value_is = sym r.value ∙ ap (value_after n) none_left

    pub too_great : 4294967295 < n → Other ≡ number_in s
    too_great g = none s (not_second _ _ (not_second _ _ (lt-leb (value s) 4294967295 (omega (arith, value_is)))))

    pub number : n ≤ 4294967295 → Number n ≡ number_in s
    unfolding number_in
    number g =
        then_is _ _ _ _
        (and_both _ _ (and_both _ _ (le-leb 1 (length s) r.some) (le-leb (length s) 10 r.few)) (and_both _ _ all_digits_lem (le-leb (value s) 4294967295 (omega (arith, value_is)))))
        (ap Number (sym value_is))
