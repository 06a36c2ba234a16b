-- The order of floats, for every value: infinities are ordered, and a NaN is below, above and equal to nothing.
-- Nothing here asks that a value fits a format. The library's laws of order, of tests that came out true or false.
use mathlib.Core.Path.{◌≡◌, refl, sym, ◌∙◌}
use mathlib.Core.Logic.{◌⊎◌, inl, inr}
use mathlib.Core.Bool.{Bool, true, false, not, ◌&&◌, ◌||◌, true≢false, false≢true}
use lib.Dec.{T}
use lib.Ieee.{Float, nan, inf, fin, lt, le, eq, is_nan}
use Rattle.std.proofs.lemmas.Bool.{false_from_ne_true}
use Rattle.std.proofs.lemmas.Float as std
use Rattle.float.specs.Float.{finite}

-- x is no NaN
abbrev pub Num : Float → Type 0
Num x = is_nan x ≡ false

pub finite_num : (x : Float) → finite x ≡ true → Num x
unfolding finite is_nan
finite_num nan h = sym h
finite_num (inf s) h = refl
finite_num (fin s m e) h = refl

-- ---- a test that the library's laws say holds, or does not
yes : (b : Bool) → T b → b ≡ true
yes true t = refl
yes false t = absurd t

no : (b : Bool) → T (not b) → b ≡ false
no true t = absurd t
no false t = refl

-- what is compared, and found in order, is no NaN
pub le_num : (x y : Float) → le x y ≡ true → Num x × Num y
le_num x y h = let t = std.T_from_true _ h in (no _ (std.le_left x y t), no _ (std.le_right x y t))

-- the infinities are the least and the greatest
pub least : (z : Float) → Num z → le (inf true) z ≡ true
unfolding le is_nan
least nan h = absurd (true≢false h)
least (inf true) h = refl
least (inf false) h = refl
least (fin t n d) h = refl

pub most : (z : Float) → Num z → le z (inf false) ≡ true
unfolding le is_nan
most nan h = absurd (true≢false h)
most (inf true) h = refl
most (inf false) h = refl
most (fin t n d) h = refl

pub le_trans : (x y z : Float) → le x y ≡ true → le y z ≡ true → le x z ≡ true
le_trans x y z p q = yes _ (std.le_trans x y z (std.T_from_true _ p) (std.T_from_true _ q))

pub lt_le_trans : (x y z : Float) → lt x y ≡ true → le y z ≡ true → lt x z ≡ true
lt_le_trans x y z p q = yes _ (std.lt_of_lt_of_le x y z (std.T_from_true _ p) (std.T_from_true _ q))

pub le_lt_trans : (x y z : Float) → le x y ≡ true → lt y z ≡ true → lt x z ≡ true
le_lt_trans x y z p q = yes _ (std.lt_of_le_of_lt x y z (std.T_from_true _ p) (std.T_from_true _ q))

pub lt_le : (x y : Float) → lt x y ≡ true → le x y ≡ true
lt_le x y h = yes _ (std.le_of_lt x y (std.T_from_true _ h))

pub le_refl : (x : Float) → Num x → le x x ≡ true
le_refl x p = yes _ (std.le_refl x (std.T_from_false _ p))

pub not_lt : (x y : Float) → Num x → Num y → lt x y ≡ false → le y x ≡ true
not_lt x y p q h = yes _ (std.le_of_not-lt x y (std.T_from_false _ p) (std.T_from_false _ q) (std.T_from_false _ h))

pub not_le : (x y : Float) → Num x → Num y → le x y ≡ false → lt y x ≡ true
not_le x y p q h = yes _ (std.lt_of_not-le x y (std.T_from_false _ p) (std.T_from_false _ q) (std.T_from_false _ h))

not_both : (x y : Float) → lt x y ≡ true → le y x ≡ true → ⊥
not_both x y h k = std.lt_irrefl x (std.T_from_true _ (lt_le_trans x y x h k))

pub lt_not_le : (x y : Float) → lt x y ≡ true → le y x ≡ false
lt_not_le x y h = false_from_ne_true _ (λ k. not_both x y h k)

pub le_not_lt : (x y : Float) → le x y ≡ true → lt y x ≡ false
le_not_lt x y h = false_from_ne_true _ (λ k. not_both y x k h)

-- of two values that are no NaN, the one is below the other exactly where the other is not at most the one
pub lt_turned : (x y : Float) → Num x → Num y → lt x y ≡ not (le y x)
lt_turned x y p q = go (le y x) refl
  where
    go : (b : Bool) → le y x ≡ b → lt x y ≡ not b
    go true e = le_not_lt y x e
    go false e = not_le y x q p e

pub total : (x y : Float) → Num x → Num y → (le x y ≡ true) ⊎ (le y x ≡ true)
total x y p q = go (le x y) refl
  where
    go : (b : Bool) → le x y ≡ b → (le x y ≡ true) ⊎ (le y x ≡ true)
    go true e = inl e
    go false e = inr (lt_le y x (not_le x y p q e))

-- ---- equal is both ways in order; a NaN is neither
pub le_eq : (x y : Float) → le x y ≡ true → le y x ≡ true → eq x y ≡ true
le_eq x y p q = elim (std.lt-or-eq x y (std.T_from_true _ p)) [ inl l ↦ absurd (not_both x y (yes _ l) q) | inr e ↦ yes _ e ]

pub eq_le : (x y : Float) → eq x y ≡ true → (le x y ≡ true) × (le y x ≡ true)
eq_le x y e = let t = std.T_from_true _ e in (yes _ (std.le_of_eq x y t), yes _ (std.le_of_eq y x (std.eq_flip x y t)))

pub eq_both : (x y : Float) → eq x y ≡ (le x y && le y x)
eq_both x y = go (le x y) (le y x) refl refl
  where
    go : (p q : Bool) → le x y ≡ p → le y x ≡ q → eq x y ≡ (p && q)
    go true true h k = le_eq x y h k
    go true false h k = false_from_ne_true _ (λ e. true≢false (sym (eq_le x y e).1 ∙ k))
    go false q h k = false_from_ne_true _ (λ e. true≢false (sym (eq_le x y e).0 ∙ h))

no_less : (p q : Bool) → (not q || not p) ≡ not (p && q)
no_less true true = refl
no_less true false = refl
no_less false true = refl
no_less false false = refl

-- of two numbers that are not equal one is less
pub one_less : (x y : Float) → Num x → Num y → (lt x y || lt y x) ≡ not (eq x y)
one_less x y n m = rw (lt_turned x y n m, lt_turned y x m n, eq_both x y) (no_less (le x y) (le y x))

-- what lies between finite values is finite
pub between : (x y z : Float) → finite x ≡ true → finite z ≡ true → le x y ≡ true → le y z ≡ true → finite y ≡ true
between x nan z f g p q = absurd (true≢false (unfold is_nan in (le_num x nan p).1))
between nan (inf true) z f g p q = unfold finite in f
between (inf s) (inf true) z f g p q = unfold finite in f
between (fin s m e) (inf true) z f g p q = unfold le in absurd (false≢true p)
between x (inf false) nan f g p q = unfold finite in g
between x (inf false) (inf t) f g p q = unfold finite in g
between x (inf false) (fin t n d) f g p q = unfold le in absurd (false≢true q)
between x (fin s m e) z f g p q = unfold finite in refl
