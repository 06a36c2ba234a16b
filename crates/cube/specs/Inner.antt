-- What only the functions inside ask for: what a rule gives for one of the six faces, and the refusal for the rest.
use Rattle.std.specs.Prelude.{ℕ, Result, Ok}
use Rattle.answer.specs.Refusal.{unless◌refuse◌else◌}
use Rattle.answer.specs.declared.Refusal.{Refusal}
use Rattle.answer.specs.declared.Refusal.TheVariants.{BadFace}
use Rattle.cube.specs.Refuse.{is_face}

abbrev pub on_face : {A : Type 0} → ℕ → A → Result A Refusal
on_face f x = unless is_face f refuse BadFace else Ok x
