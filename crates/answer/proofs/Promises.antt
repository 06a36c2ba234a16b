-- What specs/Promises.antt promises, proved: each number is computed.
use mathlib.Core.Path.{refl}
use Rattle.answer.specs.Promises.{Promises}

pub promises : Promises
promises = record { numbers = refl }
