-- Two words compared byte by byte; and what the words ask for, whichever is first.
use Rattle.std.proofs.Common.{◌≡◌, ℕ, Bool, true, false, eqb, ◌↔◌, List, [], ◌∷◌, sym, refl, ap, ◌∙◌, true≢false, arith, eqb-true}
use Rattle.std.specs.Prelude.{◌&&◌}
use Rattle.std.specs.Cmp.Lexicographic.{pointwise}
use Rattle.float.specs.Choice.{when◌then◌else◌, ◌and◌}
use Rattle.float.proofs.Choice.{then_is, split, and_parts}
use Rattle.run_trace.specs.declared.words.Word.{Word}
use Rattle.run_trace.specs.declared.words.Word.TheVariants.{Number, Touches, Other}
use Rattle.run_trace.specs.Words.{number_in, same, touches_letters, word_of, of_two, asked}

-- ---- byte by byte
and_is : (p q : Bool) → (p && q) ≡ (p and q)
unfolding when◌then◌else◌
and_is true q = refl
and_is false q = refl

-- as std has it
pub same_is : (s t : List ℕ) → pointwise eqb s t ≡ same s t
unfolding same
same_is [] [] = refl
same_is [] (y ∷ t) = refl
same_is (x ∷ s) [] = refl
same_is (x ∷ s) (y ∷ t) = and_is (eqb x y) _ ∙ ap (λ (q : Bool). eqb x y and q) (same_is s t)

all_same : (s t : List ℕ) → same s t ≡ true → s ≡ t
unfolding same
all_same [] [] e = refl
all_same [] (y ∷ t) e = absurd (true≢false (sym e))
all_same (x ∷ s) [] e = absurd (true≢false (sym e))
all_same (x ∷ s) (y ∷ t) e = let (p, q) = and_parts _ _ e in rw (eqb-true x y p, all_same s t q)

-- ---- a word
number_or_other : (t : Bool) (n : ℕ) → (when t then Number n else Other) ≡ Touches → ⊥
unfolding when◌then◌else◌
number_or_other true n e = let z : ◌≡◌ {A = ℕ} 0 1 = cc in omega arith
number_or_other false n e = let z : ◌≡◌ {A = ℕ} 0 1 = cc in omega arith

pub touches_word : (s : List ℕ) → word_of s ≡ Touches ↔ (s ≡ touches_letters)
unfolding word_of number_in
touches_word s = (λ e. split _ _ _ _ e (λ t f. all_same s touches_letters t) (λ t f. absurd (number_or_other _ _ f)), λ e. sym (then_is _ _ _ _ (letters s e) refl))
  where
    letters : (u : List ℕ) → u ≡ touches_letters → same u touches_letters ≡ true
    letters u e = unfold same when◌then◌else◌ in rw e

-- ---- two words
either : (v w : Word) → of_two v w ≡ of_two w v
unfolding of_two
either (Number n) (Number m) = refl
either (Number n) Touches = refl
either (Number n) Other = refl
either Touches (Number n) = refl
either Touches Touches = refl
either Touches Other = refl
either Other (Number n) = refl
either Other Touches = refl
either Other Other = refl

pub either_order : (s t : List ℕ) → asked (s ∷ t ∷ []) ≡ asked (t ∷ s ∷ [])
unfolding asked
either_order s t = either (word_of s) (word_of t)
