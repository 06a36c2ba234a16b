-- For a fixed normal and target the face alone decides the next face, and there are six: a walk that has not arrived after so many faces goes round, and never arrives.
-- The faces that arrive with k + 1 faces but not with k are fewer than six in all, so at some k there are none; then none come later.
use Prim.Native.Nat.{ℕ, zero, suc, ◌+◌, ◌≤◌, ◌<◌}
use native.Mathlib.Omega.{arith}
use native.Mathlib.Nat.{eq-or-lt_of_le}
use mathlib.Core.Path.{◌≡◌, refl, sym}
use mathlib.Core.Logic.{◌↔◌, ◌⊎◌, inl, inr}
use mathlib.Core.Bool.{true}
use lib.Dec.{eqb}
use Rattle.std.specs.Prelude.{Result, Ok, Err}
use Rattle.answer.specs.Refusal.{done}
use Rattle.answer.specs.declared.Refusal.{Refusal}
use Rattle.answer.specs.declared.Refusal.TheVariants.{OffFace, Unfinished}
use Rattle.float.proofs.Choice.{split, then_is, cases}
use Rattle.float.proofs.Whole.{le_or_lt}
use Rattle.cube.specs.declared.vector.Vector.{Vector}
use Rattle.line.specs.Line.{onward}
use Rattle.walk.specs.Walk.{met, stop_refusal}
use Rattle.walk.proofs.Over.{onward_le}

-- 1 where it arrives
one : Result (Unit {0}) Refusal → ℕ
one (Ok x) = 1
one (Err e) = 0

one_most : (m : Result (Unit {0}) Refusal) → one m ≤ 1
unfolding one
one_most (Ok x) = omega arith
one_most (Err e) = omega arith

-- from one walk to the next: none comes, or one does
grown : (m n : Result (Unit {0}) Refusal) → (m ≡ done → n ≡ done) → ((n ≡ done → m ≡ done) × (one m ≤ one n)) ⊎ (one m < one n)
unfolding one
grown (Ok x) (Ok y) h = inl ((λ e. refl), omega arith)
grown (Ok x) (Err e) h = absurd (let z : ◌≡◌ {A = Result (Unit {0}) Refusal} (Err e) done = h refl in cc)
grown (Err e) (Ok y) h = inr (omega arith)
grown (Err e) (Err d) h = inl ((λ z. absurd (cc)), omega arith)

module _ (p : Vector) (t : ℕ) (T : t ≤ 5) where
  -- the walk from f with k faces arrives
  abbrev pub Arrives : ℕ → ℕ → Type 0
  Arrives k f = stop_refusal k p f t ≡ done

  -- with one face more: at the target, or as it goes on
  step_back : (k f : ℕ) → Arrives (suc k) f → (eqb f t ≡ true) ⊎ ((met p f ≡ true) × Arrives k (onward p f t))
  unfolding stop_refusal
  step_back k f e = split (eqb f t) _ _ done e (λ z w. inl z) (λ z w. split (met p f) _ _ done w (λ y x. inr (y, x)) (λ y x. absurd (cc)))

  step_target : (k f : ℕ) → eqb f t ≡ true → Arrives (suc k) f
  unfolding stop_refusal
  step_target k f z = sym (then_is _ _ _ _ z refl)

  step_on : (k f : ℕ) → met p f ≡ true → Arrives k (onward p f t) → Arrives (suc k) f
  unfolding stop_refusal
  step_on k f m a = cases (λ (r : Result (Unit {0}) Refusal). r ≡ done) (eqb f t) _ _ (λ z. refl) (λ z. sym (then_is _ _ _ _ m (sym a)))

  more : (k f : ℕ) → Arrives k f → Arrives (suc k) f
  more zero f e = absurd (let h : ◌≡◌ {A = Result (Unit {0}) Refusal} (Err Unfinished) done = unfold stop_refusal in e in cc)
  more (suc k) f e = elim (step_back k f e) [ inl z ↦ step_target (suc k) f z | inr (m, a) ↦ step_on (suc k) f m (more k (onward p f t) a) ]

  pub more_to : (k j f : ℕ) → k ≤ j → Arrives k f → Arrives j f
  more_to k zero f l e = let q : k ≡ 0 = omega arith in rw q at e
  more_to k (suc j) f l e = elim (eq-or-lt_of_le l) [ inl q ↦ rw q at e | inr q ↦ more j f (more_to k j f (omega arith) e) ]

  -- ---- no face below m arrives with k + 1 faces that does not with k
  abbrev Still : ℕ → ℕ → Type 0
  Still m k = (f : ℕ) → f < m → Arrives (suc k) f → Arrives k f

  still_on : (k : ℕ) → Still 6 k → Still 6 (suc k)
  still_on k s f F e =
      elim (step_back (suc k) f e) [
        | inl z ↦ step_target k f z
        | inr (m, a) ↦ let l : onward p f t ≤ 5 = onward_le p f t (omega arith) T in step_on k f m (s (onward p f t) (omega arith) a)
      ]

  still_from : (k j : ℕ) → k ≤ j → Still 6 k → Still 6 j
  still_from k zero l s = let q : k ≡ 0 = omega arith in rw q at s
  still_from k (suc j) l s = elim (eq-or-lt_of_le l) [ inl q ↦ rw q at s | inr q ↦ still_on j (still_from k j (omega arith) s) ]

  still_back : (k j f : ℕ) → f < 6 → k ≤ j → Still 6 k → Arrives j f → Arrives k f
  still_back k zero f F l s e = let q : k ≡ 0 = omega arith in rw q e
  still_back k (suc j) f F l s e = elim (eq-or-lt_of_le l) [ inl q ↦ rw (← q) at e | inr q ↦ still_back k j f F (omega arith) s (still_from k j (omega arith) s f F e) ]

  -- ---- how many faces below m arrive
  count : ℕ → ℕ → ℕ
  count zero k = 0
  count (suc m) k = one (stop_refusal k p m t) + count m k

  count_most : (m k : ℕ) → count m k ≤ m
  unfolding count
  count_most zero k = omega arith
  count_most (suc m) k = omega (arith, one_most (stop_refusal k p m t), count_most m k)

  counted : (m k : ℕ) → (Still m k × (count m k ≤ count m (suc k))) ⊎ (count m k < count m (suc k))
  unfolding count
  counted zero k = inl ((λ f F. absurd (omega arith)), omega arith)
  counted (suc m) k =
      elim (grown (stop_refusal k p m t) (stop_refusal (suc k) p m t) (more k m)) [
        | inl (h, l) ↦
            elim (counted m k) [
              | inl (s, i) ↦ inl ((λ f F e. elim (eq-or-lt_of_le F) [ inl q ↦ at_last f q h e | inr q ↦ s f (omega arith) e ]), omega arith)
              | inr i ↦ inr (omega arith)
            ]
        | inr l ↦ elim (counted m k) [ inl (s, i) ↦ inr (omega arith) | inr i ↦ inr (omega arith) ]
      ]
    where
      at_last : (f : ℕ) → suc f ≡ suc m → (Arrives (suc k) m → Arrives k m) → Arrives (suc k) f → Arrives k f
      at_last f q h = let e : f ≡ m = omega arith in rw e h

  -- among the first j there is a k where none comes, or at least j arrive
  found : (j : ℕ) → ((k : ℕ) × (k < j) × Still 6 k) ⊎ (j ≤ count 6 j)
  found zero = inr (omega arith)
  found (suc j) =
      elim (found j) [
        | inl (k, l, s) ↦ inl (k, omega arith, s)
        | inr l ↦ elim (counted 6 j) [ inl (s, i) ↦ inl (j, omega arith, s) | inr i ↦ inr (omega arith) ]
      ]

  -- so with eight faces all arrive that ever do
  pub arrives_8 : (k f : ℕ) → f ≤ 5 → Arrives k f → Arrives 8 f
  arrives_8 k f F e =
      elim (found 7) [
        | inl (j, l, s) ↦
            elim (le_or_lt k j) [
              | inl i ↦ more_to k 8 f (omega arith) e
              | inr i ↦ more_to j 8 f (omega arith) (still_back j k f (omega arith) (omega arith) s e)
            ]
        | inr l ↦ absurd (omega (arith, count_most 6 7))
      ]

-- ---- unfinished exactly when no longer walk would arrive
pub stops : (k : ℕ) (p : Vector) (f t : ℕ) → (stop_refusal k p f t ≡ done) ⊎ ((stop_refusal k p f t ≡ Err OffFace) ⊎ (stop_refusal k p f t ≡ Err Unfinished))
unfolding stop_refusal
stops zero p f t = inr (inr refl)
stops (suc k) p f t =
    cases (λ (r : Result (Unit {0}) Refusal). (r ≡ done) ⊎ ((r ≡ Err OffFace) ⊎ (r ≡ Err Unfinished))) (eqb f t) _ _ (λ z. inl refl)
    (λ z. cases (λ (r : Result (Unit {0}) Refusal). (r ≡ done) ⊎ ((r ≡ Err OffFace) ⊎ (r ≡ Err Unfinished))) (met p f) _ _ (λ y. stops k p (onward p f t) t) (λ y. inr (inl refl)))

pub never_arrives : (p : Vector) (f t : ℕ) → f ≤ 5 → t ≤ 5 → (stop_refusal 8 p f t ≡ Err OffFace → ⊥) → (stop_refusal 8 p f t ≡ Err Unfinished) ↔ ((k : ℕ) → stop_refusal k p f t ≡ done → ⊥)
never_arrives p f t F T n = (
  (λ e k a. let z = arrives_8 p t T k f F a in cc),
  (λ h. elim (stops 8 p f t) [ inl e ↦ absurd (h 8 e) | inr o ↦ elim o [ inl e ↦ absurd (n e) | inr e ↦ e ] ]),
)
