-- What stands beside the number of an answer: its value beside 0, and zeros beside any other.
use mathlib.Core.Path.{◌≡◌, refl}
use native.Mathlib.Omega.{arith}
use Rattle.std.specs.Prelude.{Result, Ok, Err}
use Rattle.answer.specs.Refusal.{number_of, number, value_or}
use Rattle.answer.specs.declared.Refusal.{Refusal}
use Rattle.answer.specs.declared.Refusal.TheVariants.{Missed, NotFinite, BadWindow, BadFace, Zero, OffFace, Unfinished, ShortBuffer, Torn, BadTrace}

never_zero : (e : Refusal) → number_of e ≡ 0 → ⊥
never_zero Missed h = omega arith
never_zero NotFinite h = omega arith
never_zero BadWindow h = omega arith
never_zero BadFace h = omega arith
never_zero Zero h = omega arith
never_zero OffFace h = omega arith
never_zero Unfinished h = omega arith
never_zero ShortBuffer h = omega arith
never_zero Torn h = omega arith
never_zero BadTrace h = omega arith

module _ {A : Type 0} (zero : A) where
  pub beside_done : (a : Result A Refusal) → number a ≡ 0 → a ≡ Ok (value_or zero a)
  beside_done (Ok x) h = refl
  beside_done (Err e) h = absurd (never_zero e h)

  pub beside_other : (a : Result A Refusal) → (number a ≡ 0 → ⊥) → value_or zero a ≡ zero
  beside_other (Ok x) h = absurd (h refl)
  beside_other (Err e) h = refl
