-- The order of signed whole numbers as arithmetic of natural ones: each is what it has above zero, less what it has below. And that of finite floats over their denominators.
use mathlib.Core.Path.{◌≡◌, refl, sym, ◌∙◌}
use mathlib.Core.Bool.{Bool, true, false, not, false≢true}
use Prim.Native.Nat.{ℕ, zero, suc, ◌+◌, ◌*◌, ◌≤◌}
use native.Mathlib.Omega.{arith}
use borrow.Author.Tests.{leb-true, le-leb}
use lib.IntN.{ℤ}
use lib.Signed.{le_z}
use lib.Ieee.{Float, nan, inf, fin, up, down, lt, le, eq}
use Rattle.float.specs.Exact.{signed}
use Rattle.float.proofs.Order.{Num, least, most}
use Rattle.float.proofs.Signed.{leq_z}
use Rattle.float.proofs.Monotone.{both_zero, turned_le}

-- ---- ±n as what it has above zero, less what it has below
unfoldable pub over : Bool → ℕ → ℕ
over false n = n
over true n = 0

unfoldable pub under : Bool → ℕ → ℕ
under s n = over (not s) n

pub over_times : (s : Bool) (n k : ℕ) → over s (n * k) ≡ over s n * k
unfolding over
over_times false n k = refl
over_times true n k = omega arith

-- ±a ≤ ±b
unfoldable pub AtMost : Bool → ℕ → Bool → ℕ → Type 0
AtMost s a t b = over s a + under t b ≤ over t b + under s a

signed_most : (s t : Bool) (a b : ℕ) → le_z (signed s a) (signed t b) ≡ true → AtMost s a t b
unfolding AtMost under over
signed_most false false a b h = omega (arith, leb-true a b h)
signed_most false true a b h = let (p, q) = both_zero a b h in omega arith
signed_most true false a b h = omega arith
signed_most true true a b h = omega (arith, leb-true b a (sym (turned_le a b) ∙ h))

pub most_signed : (s t : Bool) (a b : ℕ) → AtMost s a t b → le_z (signed s a) (signed t b) ≡ true
unfolding AtMost under over
most_signed false false a b h = le-leb a b (omega arith)
most_signed false true zero zero h = refl
most_signed false true zero (suc b) h = absurd (omega arith)
most_signed false true (suc a) b h = absurd (omega arith)
most_signed true false zero b h = le-leb 0 b (omega arith)
most_signed true false (suc a) b h = refl
most_signed true true a b h = turned_le a b ∙ le-leb b a (omega arith)

-- ---- finite floats, over their denominators
pub le_fin : (s t : Bool) (m n : ℕ) (e d : ℤ) → le (fin s m e) (fin t n d) ≡ true → AtMost s (m * up e * down d) t (n * up d * down e)
unfolding le lt eq
le_fin s t m n e d h = signed_most s t _ _ (sym (leq_z s t (m * up e * down d) (n * up d * down e)) ∙ h)

-- ---- the infinities
pub at_most : (x : Float) → le (inf false) x ≡ true → x ≡ inf false
unfolding le
at_most nan h = absurd (false≢true h)
at_most (inf true) h = absurd (false≢true h)
at_most (inf false) h = refl
at_most (fin s m e) h = absurd (false≢true h)

module _ (x y : Float) where
  pub from_least : x ≡ inf true → Num y → le x y ≡ true
  from_least e h = rw e (least y h)

  pub to_most : y ≡ inf false → Num x → le x y ≡ true
  to_most e h = rw e (most x h)
