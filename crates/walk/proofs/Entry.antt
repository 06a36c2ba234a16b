-- What the entry's refusal says of the walk.
use Prim.Native.Nat.{ℕ, ◌/◌, ◌≤◌}
use native.Mathlib.Omega.{arith}
use mathlib.Core.Path.{◌≡◌, refl, ap}
use mathlib.Core.Logic.{◌⊎◌, inl, inr}
use mathlib.Core.Bool.{Bool, true, false}
use lib.Dec.{leb, eqb}
use lib.ListN.{length}
use borrow.Author.Tests.{eqb-true, eqb-false}
use Rattle.std.specs.Prelude.{if◌then◌else◌, Result, Ok, Err}
use Rattle.answer.specs.Refusal.{number, number_of, ◌then◌, done}
use Rattle.answer.specs.declared.Refusal.{Refusal}
use Rattle.answer.specs.declared.Refusal.TheVariants.{OffFace, Unfinished, ShortBuffer}
use Rattle.cube.specs.Vector.{HandedIn}
use Rattle.cube.specs.declared.vector.Vector.{Vector}
use Rattle.cube.specs.declared.compute.Uv.{Uv}
use Rattle.walk.specs.Walk.{met, stop_refusal, segments}
use Rattle.walk.specs.Refuse.{input_refusal, room_refusal, walk_refusal}
use Rattle.walk.specs.Promises.{Normal, Begun, Entry}
use Rattle.walk.proofs.Records.{length_segments}
use Rattle.walk.proofs.Stops.{at_target, at_miss}
use Rattle.walk.proofs.Exits.{room_enough}
use Rattle.walk.proofs.Chain.{never_off}
use Rattle.walk.proofs.Cycle.{arrives_8, stops}
use Rattle.walk.proofs.Arrive as arrive
use Rattle.walk.proofs.Admitted.{Fine, fine, input_most}

-- ---- given up, it is unfinished with however many faces
pub given_up : (p : Vector) (f t : ℕ) → Begun p f t → stop_refusal 8 p f t ≡ Err Unfinished → (k : ℕ) → stop_refusal k p f t ≡ Err Unfinished
given_up p f t h e k =
    elim (stops k p f t) [
      | inl d ↦ absurd (let z = arrives_8 p t h.target k f h.face d in cc)
      | inr o ↦ elim o [ inl d ↦ absurd (never_off p h.normal.finite h.normal.some t k f h.face h.meets d) | inr d ↦ d ]
    ]

-- ---- from whatever face it began: one that is missed is refused
pub six : (p : Vector) (f t : ℕ) → Normal p → f ≤ 5 → t ≤ 5 → stop_refusal 8 p f t ≡ done → (a b : Uv) → length (segments 8 p f a t b) ≤ 6
six p f t n F T d a b = go (eqb f t) refl (met p f) refl
  where
    go : (c : Bool) → eqb f t ≡ c → (m : Bool) → met p f ≡ m → length (segments 8 p f a t b) ≤ 6
    go true e m o = omega (arith, length_segments 8 p f a t b, (at_target p f t 8 (omega arith) (eqb-true f t e)).1)
    go false e true o = arrive.six_most n.finite n.some t T f F o d a b
    go false e false o = absurd (cc (at_miss p f t 8 (omega arith) (eqb-false f t e) o))

-- ---- which of the refusals it is
pub first : (m n r : Result (Unit {0}) Refusal) → (m ≡ r → r ≡ done) → (m then n) ≡ r → (m ≡ done) × (n ≡ r)
first (Ok x) n r h e = (refl, e)
first (Err d) n r h e = absurd (let z = h e in cc)

second : (m n r : Result (Unit {0}) Refusal) → (n ≡ r → ⊥) → (m then n) ≡ r → m ≡ r
second (Ok x) n r h e = absurd (h e)
second (Err d) n r h e = e

room_or : (count bytes : ℕ) → (room_refusal count bytes ≡ done) ⊎ (room_refusal count bytes ≡ Err ShortBuffer)
unfolding room_refusal
room_or count bytes = go (leb count (bytes / 40))
  where
    go : (b : Bool) → ((if b then done else Err ShortBuffer) ≡ done) ⊎ ((if b then done else Err ShortBuffer) ≡ Err ShortBuffer)
    go true = inl refl
    go false = inr refl

module _ (bytes f : ℕ) (a : Uv) (t : ℕ) (b : Uv) (p : Vector) (given_in : HandedIn p) where
  room : Result (Unit {0}) Refusal
  room = room_refusal (length (segments 8 p f a t b)) bytes

  -- a refusal that no input has
  admitted : (r : Result (Unit {0}) Refusal) → (input_refusal f a t b p ≡ r → r ≡ done) → walk_refusal bytes f a t b p ≡ r → Fine f a t b p × ((stop_refusal 8 p f t then room) ≡ r)
  unfolding walk_refusal room
  admitted r h e = let (o, s) = first (input_refusal f a t b p) _ r h e in (fine f a t b p given_in o, s)

  not_input : (e : Refusal) → 6 ≤ number_of e → input_refusal f a t b p ≡ Err e → ⊥
  not_input e l q = omega (arith, input_most f a t b p, ap number q)

  -- 6 and 7 are where the walk stopped
  stopped : (e : Refusal) → 6 ≤ number_of e → number_of e ≤ 7 → walk_refusal bytes f a t b p ≡ Err e → Fine f a t b p × (stop_refusal 8 p f t ≡ Err e)
  unfolding room
  stopped e l u q =
      let (g, r) = admitted (Err e) (λ z. absurd (not_input e l z)) q in
      (g, second (stop_refusal 8 p f t) room (Err e) (λ z. elim (room_or (length (segments 8 p f a t b)) bytes) [ inl y ↦ cc | inr y ↦ omega (arith, ap number y, ap number z) ]) r)

  -- none and 8 are given where it arrived
  arrived : (r : Result (Unit {0}) Refusal) → (input_refusal f a t b p ≡ r → r ≡ done) → (stop_refusal 8 p f t ≡ r → r ≡ done) → walk_refusal bytes f a t b p ≡ r → Fine f a t b p × ((stop_refusal 8 p f t ≡ done) × (room ≡ r))
  arrived r h i e = let (g, s) = admitted r h e in (g, first (stop_refusal 8 p f t) room r i s)

  begun : Fine f a t b p → met p f ≡ true → Begun p f t
  begun g m = record { normal = g.normal; face = g.face; target = g.target; meets = m }

  off : walk_refusal bytes f a t b p ≡ Err OffFace → met p f ≡ false
  off e = go (met p f) refl
    where
      go : (m : Bool) → met p f ≡ m → m ≡ false
      go true m = let (g, d) = stopped OffFace (omega arith) (omega arith) e in absurd (never_off p g.normal.finite g.normal.some t 8 f g.face m d)
      go false m = refl

  -- it did not stop at its first face, so the line meets that
  gives_up : walk_refusal bytes f a t b p ≡ Err Unfinished → (k : ℕ) → stop_refusal k p f t ≡ Err Unfinished
  gives_up e k = let (g, d) = stopped Unfinished (omega arith) (omega arith) e in go g d (eqb f t) refl (met p f) refl
    where
      go : Fine f a t b p → stop_refusal 8 p f t ≡ Err Unfinished → (c : Bool) → eqb f t ≡ c → (m : Bool) → met p f ≡ m → stop_refusal k p f t ≡ Err Unfinished
      go g d true q m o = absurd (cc ((at_target p f t 8 (omega arith) (eqb-true f t q)).0))
      go g d false q true o = given_up p f t (begun g o) d k
      go g d false q false o = absurd (cc (at_miss p f t 8 (omega arith) (eqb-false f t q) o))

  at_most_six : walk_refusal bytes f a t b p ≡ done → length (segments 8 p f a t b) ≤ 6
  at_most_six e = let (g, (d, r)) = arrived done (λ q. refl) (λ q. refl) e in six p f t g.normal g.face g.target d a b

  no_eight : stop_refusal 8 p f t ≡ Err ShortBuffer → ⊥
  no_eight q = elim (stops 8 p f t) [ inl z ↦ cc | inr o ↦ elim o [ inl z ↦ cc | inr z ↦ cc ] ]

  holds : 240 ≤ bytes → walk_refusal bytes f a t b p ≡ Err ShortBuffer → ⊥
  unfolding room
  holds l e =
      let (g, (d, r)) = arrived (Err ShortBuffer) (λ q. absurd (not_input ShortBuffer (omega arith) q)) (λ q. absurd (no_eight q)) e in
      let n = six p f t g.normal g.face g.target d a b in
      let m : length (segments 8 p f a t b) ≤ bytes / 40 = omega arith in
      cc (room_enough _ _ m)

  pub entry : Entry bytes f a t b p
  entry = record {
    off = off;
    gives_up = gives_up;
    at_most_six = at_most_six;
    holds = holds;
    given = λ o m l. let g = fine f a t b p given_in o in arrive.given g.normal.finite g.normal.some t g.target f g.face m a b o bytes l;
  }
