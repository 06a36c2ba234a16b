-- What each way out of the entry leaves.
use Prim.Native.Nat.{ℕ, ◌*◌, ◌/◌, ◌≤◌, ◌<◌}
use native.Mathlib.Omega.{arith}
use mathlib.Core.Path.{◌≡◌, refl, sym, ap, ◌∙◌}
use mathlib.Core.Bool.{Bool, true, false}
use mathlib.Core.List.{List, ◌++◌}
use lib.Dec.{leb}
use lib.ListN.{length, take, drop}
use borrow.Author.Tests.{leb-true, leb-false, le-leb, lt-leb}
use Rattle.std.specs.Prelude.{if◌then◌else◌, Result, Ok, Err}
use Rattle.answer.specs.Refusal.{unless◌refuse◌else◌, ◌then◌, done}
use Rattle.answer.specs.declared.Refusal.{Refusal}
use Rattle.answer.specs.declared.Refusal.TheVariants.{ShortBuffer}
use Rattle.buffer.specs.Bytes.{stored}
use Rattle.buffer.proofs.Stored.{length_stored}
use Rattle.cube.specs.declared.vector.Vector.{Vector}
use Rattle.cube.specs.declared.compute.Uv.{Uv}
use Rattle.walk.specs.Walk.{stop_refusal, segments, count_of, records_of}
use Rattle.walk.specs.Refuse.{input_refusal, room_refusal, walk_refusal}
use Rattle.walk.specs.Answers.{walk_or_refusal, buffer_after}
use Rattle.walk.proofs.Records.{length_records, length_segments, records_within}
use Rattle.walk.proofs.Copied.{stored_taken}

room_short : (count bytes : ℕ) → bytes / 40 < count → room_refusal count bytes ≡ Err ShortBuffer
unfolding room_refusal
room_short count bytes h = rw (lt-leb count (bytes / 40) h)

pub room_enough : (count bytes : ℕ) → count ≤ bytes / 40 → room_refusal count bytes ≡ done
unfolding room_refusal
room_enough count bytes h = rw (le-leb count (bytes / 40) h)

-- ---- what was asked of the lent bytes
short : (n m : ℕ) (e : Refusal) → Err e ≡ (unless leb n m refuse ShortBuffer else done) → (m < n) × (e ≡ ShortBuffer)
short n m e h = go (leb n m) refl h
  where
    go : (b : Bool) → leb n m ≡ b → Err e ≡ (if b then done else Err ShortBuffer) → (m < n) × (e ≡ ShortBuffer)
    go true l h = absurd (cc)
    go false l h = (leb-false n m l, cc)

pub enough : (n m : ℕ) → done ≡ (unless leb n m refuse ShortBuffer else done) → n ≤ m
enough n m h = go (leb n m) refl h
  where
    go : (b : Bool) → leb n m ≡ b → done ≡ (if b then done else Err ShortBuffer) → n ≤ m
    go true l h = leb-true n m l
    go false l h = absurd (cc)

-- ---- what the walk gave: where it stopped, or how many segments it has
stopped : (m : Result (Unit {0}) Refusal) (k : ℕ) (e : Refusal) → Err e ≡ (m then Ok k) → m ≡ Err e
stopped (Ok x) k e h = absurd (cc)
stopped (Err d) k e h = cc

arrived : (m : Result (Unit {0}) Refusal) (k c : ℕ) → Ok c ≡ (m then Ok k) → (m ≡ done) × (c ≡ k)
arrived (Ok x) k c h = (refl, cc)
arrived (Err d) k c h = absurd (cc)

module _ (f : ℕ) (a : Uv) (t : ℕ) (b : Uv) (p : Vector) (whose : ℕ) (g : Result ℕ Refusal) (d : g ≡ (stop_refusal 8 p f t then Ok (count_of 8 p f t))) where
  stopped_at : (e : Refusal) → g ≡ Err e → stop_refusal 8 p f t ≡ Err e
  stopped_at e z = stopped _ _ e (sym z ∙ d)

  module _ (c : ℕ) (z : g ≡ Ok c) where
    has_arrived : stop_refusal 8 p f t ≡ done
    has_arrived = (arrived _ _ c (sym z ∙ d)).0

    count_is : c ≡ length (segments 8 p f a t b)
    count_is = (arrived _ _ c (sym z ∙ d)).1 ∙ sym (length_segments 8 p f a t b)

    -- its records: so many bytes
    so_long : length (records_of whose (segments 8 p f a t b)) ≡ c * 40
    so_long = omega (arith, count_is, length_records whose (segments 8 p f a t b))

    -- eight at the most
    pub at_most_eight_lem : c * 40 ≤ 320
    at_most_eight_lem = omega (arith, so_long, records_within whose 8 p f a t b)

    -- ---- and they stand aside, over bytes zs that hold eight
    module _ (zs aside : List ℕ) (l : 320 ≤ length zs) (w : stop_refusal 8 p f t ≡ done → aside ≡ stored zs 0 (records_of whose (segments 8 p f a t b))) where
      there : aside ≡ stored zs 0 (records_of whose (segments 8 p f a t b))
      there = w has_arrived

      pub aside_holds : c * 40 ≤ length aside
      aside_holds = omega (arith, at_most_eight_lem, ap length there, length_stored zs 0 (records_of whose (segments 8 p f a t b)))

      pub aside_taken : take (c * 40) aside ≡ records_of whose (segments 8 p f a t b)
      aside_taken = rw (there, ← so_long) (stored_taken zs _ (omega (arith, records_within whose 8 p f a t b)))

-- ---- the answer, and the buffer after
module _ (f : ℕ) (a : Uv) (t : ℕ) (b : Uv) (p : Vector) (whose : ℕ) (xs ys : List ℕ) where
  abbrev pub Left : Result ℕ Refusal → Type 0
  Left r = (r ≡ walk_or_refusal (length xs) f a t b p) × (ys ≡ buffer_after xs f a t b p whose)

  refused : (e : Refusal) → walk_refusal (length xs) f a t b p ≡ Err e → ys ≡ xs → Left (Err e)
  unfolding walk_or_refusal buffer_after
  refused e h u = rw h (refl, u)

  module _ (i : Result (Unit {0}) Refusal) (d : i ≡ input_refusal f a t b p) where
    pub by_input : (e : Refusal) → i ≡ Err e → ys ≡ xs → Left (Err e)
    by_input e z u = refused e (unfold walk_refusal in rw (← d, z)) u

    module _ (o : i ≡ done) (g : Result ℕ Refusal) (h : g ≡ (stop_refusal 8 p f t then Ok (count_of 8 p f t))) where
      pub by_stop : (e : Refusal) → g ≡ Err e → ys ≡ xs → Left (Err e)
      by_stop e z u = refused e (let s = stopped_at f a t b p whose g h e z in unfold walk_refusal in rw (← d, o, s)) u

      module _ (c : ℕ) (z : g ≡ Ok c) where
        by_room : walk_refusal (length xs) f a t b p ≡ room_refusal (length (segments 8 p f a t b)) (length xs)
        unfolding walk_refusal
        by_room = rw (← d, o, has_arrived f a t b p whose g h c z)

        pub by_short : (e : Refusal) → Err e ≡ (unless leb (c * 40) (length xs) refuse ShortBuffer else done) → ys ≡ xs → Left (Err e)
        by_short e q u =
            let (l, s) = short _ _ e q in
            let few : length xs / 40 < length (segments 8 p f a t b) = omega (arith, count_is f a t b p whose g h c z) in
            refused e (rw s (by_room ∙ room_short _ _ few)) u

        pub by_done : c * 40 ≤ length xs → (bs : List ℕ) → bs ≡ records_of whose (segments 8 p f a t b) → ys ≡ bs ++ drop (c * 40) xs → Left (Ok c)
        unfolding walk_or_refusal buffer_after
        by_done l bs k u =
            let few : length (segments 8 p f a t b) ≤ length xs / 40 = omega (arith, count_is f a t b p whose g h c z) in
            let long = so_long f a t b p whose g h c z in
            rw (by_room ∙ room_enough _ _ few) (ap Ok (count_is f a t b p whose g h c z), (rw (long, ← k) u))
