-- What is promised of the numbers. A statement only; proofs/Promises.antt has the proof.
use Rattle.std.specs.Prelude.{◌≡◌, [], ◌∷◌, map}
use Rattle.answer.specs.Refusal.{number_of}
use Rattle.answer.specs.declared.Refusal.TheVariants.{Missed, NotFinite, BadWindow, BadFace, Zero, OffFace, Unfinished, ShortBuffer, Torn, BadTrace}

pub record Promises : Type 0 where
  -- document 01's numbers, 1 to 10
  pub numbers : map number_of (Missed ∷ NotFinite ∷ BadWindow ∷ BadFace ∷ Zero ∷ OffFace ∷ Unfinished ∷ ShortBuffer ∷ Torn ∷ BadTrace ∷ [])
      ≡ 1 ∷ 2 ∷ 3 ∷ 4 ∷ 5 ∷ 6 ∷ 7 ∷ 8 ∷ 9 ∷ 10 ∷ []
