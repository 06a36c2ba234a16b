use mathlib.Core.Path.{◌≡◌, refl, sym, ◌∙◌}
use mathlib.Core.Bool.{true, false, false≢true}
use lib.Ieee.{Float, nan, inf, fin, is_nan}
use Rattle.float.specs.Float.{sign_bit}
use Rattle.float.proofs.sign_bit.Goals as goal

-- the NaN has no sign
nan_sign : (x : Float) → is_nan x ≡ true → sign_bit x ≡ false
unfolding is_nan sign_bit
nan_sign nan e = refl
nan_sign (inf s) e = absurd (false≢true e)
nan_sign (fin s m d) e = absurd (false≢true e)

pub returns-else-not-is_nan : goal.returns-else-not-is_nan
returns-else-not-is_nan c = cc (nan_sign _ (sym c.is_nan.ensures.value ∙ c.if-not-is_nan.false))
