-- What the six rules and the refusal for the rest say of the number: a face where there is a value, none where there is a refusal.
use mathlib.Core.Path.{◌≡◌, refl, sym, ◌∙◌}
use mathlib.Core.Bool.{Bool, true, false}
use Prim.Native.Nat.{ℕ, ◌≤◌, ◌<◌}
use borrow.Author.Tests.{leb-true, leb-false, lt-leb}
use lib.Dec.{leb}
use Rattle.std.specs.Prelude.{if◌then◌else◌, Result, Ok, Err}
use Rattle.std.specs.Prelude.{Float}
use Rattle.std.specs.Float.Ieee.{lt}
use Rattle.float.specs.Float.{zero_f}
use Rattle.answer.specs.Refusal.{done, unless◌refuse◌else◌, ◌then◌}
use Rattle.answer.specs.declared.Refusal.TheVariants.{BadFace, NotFinite, Missed}
use Rattle.cube.specs.Refuse.{is_face, cube_refusal, face_refusal}
use Rattle.answer.specs.declared.Refusal.{Refusal}
use Rattle.std.specs.Result.{result_unwrap_or}
use Rattle.cube.specs.Vector.{zero_vector}
use Rattle.cube.specs.Faces.{by_face, uv}
use Rattle.cube.specs.declared.vector.Vector.{Vector}
use Rattle.cube.specs.declared.compute.Uv.{Uv}
use Rattle.cube.specs.Inner.{on_face}
use Rattle.cube.proofs.Six.{beyond_is}

pub one : {A : Type 0} (f : ℕ) (x v : A) → Ok v ≡ on_face f x → (f ≤ 5) × (v ≡ x)
one f x v e = go (leb f 5) refl e
  where
    go : (b : Bool) → leb f 5 ≡ b → Ok v ≡ (if b then Ok x else Err BadFace) → (f ≤ 5) × (v ≡ x)
    go true h e = (leb-true f 5 h, cc)
    go false h e = absurd (cc)

-- what is asked one thing after the other, 4, then 2, and after that 1, is refused in document 01's order
pub also_floats : (f : ℕ) (floats : Bool) → (on_face f tt then (unless floats refuse NotFinite else done)) ≡ face_refusal f floats
also_floats f floats = go (leb f 5)
  where
    go : (b : Bool) → ((if b then Ok tt else Err BadFace) then (unless floats refuse NotFinite else done)) ≡ cube_refusal b floats true done
    go true = refl
    go false = refl

pub also_side : (f : ℕ) (floats : Bool) (reach : Float) →
    (on_face f tt then (unless floats refuse NotFinite else (unless lt zero_f reach refuse Missed else done)))
    ≡ cube_refusal (is_face f) floats true (unless lt zero_f reach refuse Missed else done)
also_side f floats reach = go (leb f 5)
  where
    go : (b : Bool) → ((if b then Ok tt else Err BadFace) then (unless floats refuse NotFinite else (unless lt zero_f reach refuse Missed else done)))
        ≡ cube_refusal b floats true (unless lt zero_f reach refuse Missed else done)
    go true = refl
    go false = refl

pub none : {A : Type 0} (f : ℕ) (x : A) (r : Refusal) → Err r ≡ on_face f x → 5 < f
none f x r e = go (leb f 5) refl e
  where
    go : (b : Bool) → leb f 5 ≡ b → Err r ≡ (if b then Ok x else Err BadFace) → 5 < f
    go true h e = absurd (cc)
    go false h e = leb-false f 5 h

-- ---- the last arm: past 5 the answer is 4, as the entries refuse it, and nothing of a rule
pub refused_is : (f : ℕ) → 5 < f → ◌≡◌ {A = Result (Unit {0}) Refusal} (Err BadFace) (face_refusal f true)
refused_is f h = rw (lt-leb f 5 h) refl

pub beyond : {A : Type 0} (f : ℕ) (x : A) (r : Result A Refusal) → r ≡ Err BadFace → 5 < f → r ≡ on_face f x
beyond f x r q h = q ∙ rw (lt-leb f 5 h) refl

pub vector_refused_lem : (f : ℕ) (a b c d e g : Vector) (r : Result Vector Refusal) → r ≡ Err BadFace → 5 < f → r ≡ on_face f (by_face f a b c d e g zero_vector)
vector_refused_lem f a b c d e g = beyond f (by_face f a b c d e g zero_vector)

pub uv_refused_lem : (f : ℕ) (a b c d e g : Uv) (r : Result Uv Refusal) → r ≡ Err BadFace → 5 < f → r ≡ on_face f (by_face f a b c d e g (uv zero_f zero_f))
uv_refused_lem f a b c d e g = beyond f (by_face f a b c d e g (uv zero_f zero_f))

-- ---- taken out: of a face its value, of any other number what the rule gives in its place
pub taken : {A : Type 0} (r : Result A Refusal) (f : ℕ) (x v : A) → r ≡ on_face f x → r ≡ Ok v → v ≡ x
taken r f x v e h = (one f x v (sym h ∙ e)).1

pub or_rest : {A : Type 0} (f : ℕ) (a b c d e g rest : A) → result_unwrap_or (on_face f (by_face f a b c d e g rest)) rest ≡ by_face f a b c d e g rest
or_rest f a b c d e g rest = go (leb f 5) refl
  where
    go : (i : Bool) → leb f 5 ≡ i → result_unwrap_or (if i then Ok (by_face f a b c d e g rest) else Err BadFace) rest ≡ by_face f a b c d e g rest
    go true h = refl
    go false h = beyond_is f a b c d e g rest (leb-false f 5 h)
