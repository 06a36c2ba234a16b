-- From a face that the line meets the walk arrives exactly when the line meets the target, and then in at most six faces.
use mathlib.Core.Path.{◌≡◌, refl, sym, ap, ◌∙◌}
use mathlib.Core.Logic.{inl, inr}
use mathlib.Core.Bool.{Bool, true, false, cond, true≢false}
use Prim.Native.Nat.{ℕ, zero, suc, ◌/◌, ◌≤◌}
use native.Mathlib.Omega.{arith}
use lib.Dec.{eqb}
use lib.ListN.{length}
use borrow.Author.Tests.{eqb-true}
use Rattle.float.specs.Choice.{when◌then◌else◌}
use Rattle.float.proofs.Choice.{split, then_is, else_is}
use Rattle.std.specs.Prelude.{Err}
use Rattle.answer.specs.Refusal.{◌then◌, done}
use Rattle.answer.specs.declared.Refusal.TheVariants.{OffFace, Unfinished}
use Rattle.cube.specs.Vector.{is_zero}
use Rattle.cube.specs.declared.vector.Vector.{Vector}
use Rattle.cube.specs.declared.compute.Uv.{Uv}
use Rattle.line.specs.Promises.{Finite}
use Rattle.line.specs.Line.{onward}
use Rattle.line.proofs.Promises as line
use Rattle.walk.specs.Walk.{met, stop_refusal, segments, count_of}
use Rattle.walk.specs.Refuse.{input_refusal, room_refusal, walk_refusal}
use Rattle.walk.proofs.Records.{length_segments}
use Rattle.walk.proofs.Exits.{room_enough}
use Rattle.walk.proofs.Chain.{never_off}
use Rattle.walk.proofs.Cycle.{more_to, stops}
use Rattle.walk.proofs.Kind.{kind_of, next_k}
use Rattle.walk.proofs.Every.{arrives, six_enough}
use Rattle.walk.proofs.Faces.{meets_kind, next_kind, real_kind}

module _ {p : Vector} (v : Finite p) (nz : is_zero p ≡ false) (t : ℕ) (T : t ≤ 5) where
  -- the walk on kinds says what the walk says
  on_kind : (k f : ℕ) → f ≤ 5 → met p f ≡ true → stop_refusal k p f t ≡ cond (arrives k t f (kind_of p)) done (Err Unfinished)
  unfolding stop_refusal
  on_kind zero f F m = refl
  on_kind (suc k) f F m =
      let i = (line.promises).next p v nz f t F m in
      go (eqb f t) (on_kind k (onward p f t) i.face i.met)
    where
      go : (b : Bool) → stop_refusal k p (onward p f t) t ≡ cond (arrives k t (onward p f t) (kind_of p)) done (Err Unfinished)
          → (when b then done else when met p f then stop_refusal k p (onward p f t) t else Err OffFace) ≡ cond (elim b [ true ↦ true | false ↦ arrives k t (next_k t f (kind_of p)) (kind_of p) ]) done (Err Unfinished)
      go true h = sym (then_is true done done _ refl refl)
      go false h =
          sym (else_is false _ done _ refl (then_is (met p f) _ _ (Err OffFace) m refl)) ∙ h ∙ ap (λ (g : ℕ). cond (arrives k t g (kind_of p)) done (Err Unfinished)) (next_kind v f F nz t m)

  in_six : (f : ℕ) → f ≤ 5 → met p f ≡ true → met p t ≡ true → stop_refusal 6 p f t ≡ done
  in_six f F m e =
      let a : arrives 6 t f (kind_of p) ≡ true = six_enough (kind_of p) (real_kind v nz) t f T F (sym (meets_kind v f F) ∙ m) ∙ sym (meets_kind v t T) ∙ e in
      on_kind 6 f F m ∙ ap (λ (b : Bool). cond b done (Err Unfinished)) a

  -- a target that is reached is met
  target_met : (k f : ℕ) → f ≤ 5 → met p f ≡ true → stop_refusal k p f t ≡ done → met p t ≡ true
  unfolding stop_refusal
  target_met zero f F m e = absurd (cc)
  target_met (suc k) f F m e =
      let i = (line.promises).next p v nz f t F m in
      split (eqb f t) _ _ done e (λ z w. ap (met p) (sym (eqb-true f t z)) ∙ m)
      (λ z w. split (met p f) _ _ done w (λ y x. target_met k (onward p f t) i.face i.met x) (λ y x. absurd (cc)))

  -- a walk that arrives with k faces has at most k segments
  count_most : (k j f : ℕ) → k ≤ j → stop_refusal k p f t ≡ done → count_of j p f t ≤ k
  unfolding stop_refusal count_of
  count_most zero j f l e = absurd (cc)
  count_most (suc k) zero f l e = absurd (omega arith)
  count_most (suc k) (suc j) f l e =
      split (eqb f t) _ _ done e
      (λ z w. rw (sym (then_is (eqb f t) 1 1 (suc (count_of j p (onward p f t) t)) z refl)) (omega arith))
      (λ z w. split (met p f) _ _ done w
      (λ y x. rw (sym (else_is (eqb f t) _ 1 (suc (count_of j p (onward p f t) t)) z refl)) (omega (arith, count_most k j (onward p f t) (omega arith) x)))
      (λ y x. absurd (cc)))

  module _ (f : ℕ) (F : f ≤ 5) (m : met p f ≡ true) where
    pub arrives_when : stop_refusal 8 p f t ≡ (when met p t then done else Err Unfinished)
    arrives_when = go (met p t) refl
      where
        go : (b : Bool) → met p t ≡ b → stop_refusal 8 p f t ≡ (when b then done else Err Unfinished)
        go true e = more_to p t T 6 8 f (omega arith) (in_six f F m e) ∙ then_is true done done (Err Unfinished) refl refl
        go false e =
            elim (stops 8 p f t) [
              | inl h ↦ absurd (true≢false (sym (target_met 8 f F m h) ∙ e))
              | inr o ↦ elim o [ inl h ↦ absurd (never_off p v nz t 8 f F m h) | inr h ↦ h ∙ else_is false (Err Unfinished) done (Err Unfinished) refl refl ]
            ]

    pub six_most : stop_refusal 8 p f t ≡ done → (a b : Uv) → length (segments 8 p f a t b) ≤ 6
    six_most h a b = omega (arith, length_segments 8 p f a t b, count_most 6 8 f (omega arith) (in_six f F m (target_met 8 f F m h)))

    pub given : (a b : Uv) → input_refusal f a t b p ≡ done → (bytes : ℕ) → 240 ≤ bytes → walk_refusal bytes f a t b p ≡ (when met p t then done else Err Unfinished)
    unfolding walk_refusal when◌then◌else◌
    given a b ok bytes l = rw ok (go (met p t) arrives_when)
      where
        go : (c : Bool) → stop_refusal 8 p f t ≡ (when c then done else Err Unfinished) → (stop_refusal 8 p f t then room_refusal (length (segments 8 p f a t b)) bytes) ≡ (when c then done else Err Unfinished)
        go true e = let n : length (segments 8 p f a t b) ≤ bytes / 40 = omega (arith, six_most e a b) in rw e (room_enough _ _ n)
        go false e = rw e
