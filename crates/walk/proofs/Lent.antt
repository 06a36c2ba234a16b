-- What the walk leaves in the lent buffer, whatever its trace number.
use Prim.Native.Nat.{ℕ, ◌*◌, ◌/◌, ◌≤◌}
use native.Mathlib.Omega.{arith}
use mathlib.Core.Path.{◌≡◌, refl}
use mathlib.Core.Bool.{Bool, true, false}
use mathlib.Core.List.{List}
use lib.Dec.{leb}
use lib.ListN.{length}
use borrow.Author.Tests.{leb-true}
use Rattle.std.specs.Prelude.{if◌then◌else◌, Err}
use Rattle.answer.specs.Refusal.{◌then◌, done}
use Rattle.answer.specs.declared.Refusal.TheVariants.{ShortBuffer}
use Rattle.cube.specs.declared.vector.Vector.{Vector}
use Rattle.cube.specs.declared.compute.Uv.{Uv}
use Rattle.record.proofs.Numbered as numbers
use Rattle.walk.specs.Walk.{Segment, segments, segment_ends}
use Rattle.walk.specs.Refuse.{room_refusal, walk_refusal}
use Rattle.walk.specs.Answers.{walk_or_refusal, buffer_after}
use Rattle.walk.specs.Promises.{Lent}
use Rattle.walk.proofs.Entry.{first}

-- where nothing is refused there is room
has_room : (count bytes : ℕ) → room_refusal count bytes ≡ done → count * 40 ≤ bytes
unfolding room_refusal
has_room count bytes e = let h : count ≤ bytes / 40 = leb-true _ _ (go (leb count (bytes / 40)) e) in omega arith
  where
    go : (b : Bool) → (if b then done else Err ShortBuffer) ≡ done → b ≡ true
    go true e = refl
    go false e = absurd (cc)

module _ (xs : List ℕ) (f : ℕ) (a : Uv) (t : ℕ) (b : Uv) (p : Vector) where
  abbrev found : List Segment
  found = segments 8 p f a t b

  done_fits : walk_refusal (length xs) f a t b p ≡ done → length found * 40 ≤ length xs
  unfolding walk_refusal
  done_fits e =
      let (i, r) = first _ _ done (λ q. refl) e in
      let (d, z) = first _ _ done (λ q. refl) r in
      has_room _ _ z

  pub lent : Lent xs f a t b p
  unfolding buffer_after walk_or_refusal
  lent =
      let r = walk_refusal (length xs) f a t b p in
      let face = λ (s : Segment). s.face in
      record {
        as_long = numbers.as_long face segment_ends r found xs done_fits;
        numbered = numbers.numbered face segment_ends r found xs;
        of_none = numbers.of_none face segment_ends r found xs;
      }
