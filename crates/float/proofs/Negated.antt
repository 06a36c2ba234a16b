-- The sign changed: twice it is as it was; magnitude and being finite do not see it; a quotient has it on either side.
use mathlib.Core.Path.{◌≡◌, refl}
use mathlib.Core.Bool.{Bool, true, false, not, not-not}
use lib.Ieee.{Float, nan, inf, fin, Format, unlike, neg, div}
use Rattle.float.specs.Float.{finite, magnitude_of}

pub neg_neg : (x : Float) → neg (neg x) ≡ x
unfolding neg
neg_neg nan = refl
neg_neg (inf s) = rw not-not
neg_neg (fin s m e) = rw not-not

pub neg_size : (x : Float) → magnitude_of (neg x) ≡ magnitude_of x
unfolding neg magnitude_of
neg_size nan = refl
neg_size (inf s) = refl
neg_size (fin s m e) = refl

pub neg_finite : (x : Float) → finite (neg x) ≡ finite x
unfolding neg finite
neg_finite nan = refl
neg_finite (inf s) = refl
neg_finite (fin s m e) = refl

unlike_turn : (s t : Bool) → unlike s (not t) ≡ unlike (not s) t
unlike_turn true true = refl
unlike_turn true false = refl
unlike_turn false true = refl
unlike_turn false false = refl

pub div_turn : (f : Format) (x y : Float) → div f x (neg y) ≡ div f (neg x) y
unfolding div neg
div_turn f nan y = refl
div_turn f (inf s) nan = refl
div_turn f (inf s) (inf t) = refl
div_turn f (inf s) (fin t n d) = rw unlike_turn
div_turn f (fin s m e) nan = refl
div_turn f (fin s m e) (inf t) = rw unlike_turn
div_turn f (fin s m e) (fin t n d) = rw unlike_turn
