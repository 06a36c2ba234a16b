-- A choice by a test, as every definition writes it. It stays shut until a proof opens it, so that a goal shows the choice and not its cases. std's `if` and `&&` open by themselves: with them in its place laws of plane and cube did not find their arguments.
use Rattle.std.specs.Prelude.{Bool, true, false}

infixr 3 when◌then◌else◌
infixr 5 ◌and◌
unfoldable pub when◌then◌else◌ : {A : Type 0} → Bool → A → A → A
when true then x else y = x
when false then x else y = y

-- both tests hold; the second is not looked at where the first fails
abbrev pub ◌and◌ : Bool → Bool → Bool
p and q = when p then q else false
