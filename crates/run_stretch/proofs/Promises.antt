-- The promises, proved: a trace that is too long is refused whatever its samples are, and digits are no line ends.
use Prim.Native.Nat.{ℕ, zero, suc, ◌+◌, ◌/◌, ◌%◌, ◌≤◌}
use native.Mathlib.Nat.{zero-add}
use native.Mathlib.Omega.{arith}
use mathlib.Core.Path.{◌≡◌, refl, sym, ap, ◌∙◌}
use mathlib.Core.Logic.{inl, inr}
use mathlib.Core.Bool.{Bool, true, false}
use mathlib.Core.List.{List, [], ◌∷◌, ◌++◌}
use lib.Ieee.{Float}
use lib.ListN.{length, take}
use lib.Seq.{take_all, length-take-le}
use borrow.Author.Tests.{lt-leb}
use Rattle.float.specs.Choice.{when◌then◌else◌, ◌and◌}
use Rattle.float.proofs.Whole.{le_or_lt}
use Rattle.std.proofs.Common.{Result, Err}
use Rattle.std.specs.Result.{result_unwrap_or}
use Rattle.answer.specs.Refusal.{number}
use Rattle.answer.specs.declared.Refusal.{Refusal}
use Rattle.answer.specs.declared.Refusal.TheVariants.{BadTrace}
use Rattle.buffer.specs.Text.{line_ends}
use Rattle.buffer.proofs.Ends.{ends_append, no_end}
use Rattle.plane.specs.declared.rect.Rect.{Rect}
use Rattle.trace.specs.Refuse.{trace_fine, in_order}
use Rattle.reading.specs.Samples.{floats_in, floats_of}
use Rattle.reading.proofs.Floats.{length_floats}
use Rattle.stretch.specs.Answers.{stretch_of, no_stretch}
use Rattle.stretch.specs.declared.Stretch.{Stretch}
use Rattle.run_stretch.specs.Line.{digits_in, decimal, ended, line_of}
use Rattle.run_stretch.specs.Promises.{Promises}
use Rattle.run_stretch.proofs.Decimal.{in_one, in_more}

-- ---- too many samples
not_second : (p q : Bool) → q ≡ false → (p and q) ≡ false
unfolding when◌then◌else◌
not_second true q e = e
not_second false q e = refl

too_many : (floats : ℕ) → 8194 ≤ floats → trace_fine floats ≡ false
too_many floats h = not_second _ _ (lt-leb (floats / 2) 4096 (omega arith))

long_refused : (fs : List Float) (w : Rect) → 8194 ≤ length fs → stretch_of fs w ≡ Err BadTrace
unfolding in_order
long_refused fs w h = rw (too_many (length fs) h)

rest_unread : (s : List ℕ) (w : Rect) → stretch_of (floats_of (take 65552 s)) w ≡ stretch_of (floats_of s) w
rest_unread s w =
    elim (le_or_lt (length s) 65552) [
      | inl h ↦ ap (λ (t : List ℕ). stretch_of (floats_of t) w) (take_all 65552 s h)
      | inr h ↦
          let l : length (take 65552 s) ≡ 65552 = length-take-le 65552 s (omega arith) in
          let m = length_floats (take 65552 s) 0 (floats_in (take 65552 s)) in
          let n = length_floats s 0 (floats_in s) in
          long_refused (floats_of (take 65552 s)) w (omega arith) ∙ sym (long_refused (floats_of s) w (omega arith))
    ]

-- ---- line ends
no_ends_lem : (k n : ℕ) → line_ends (digits_in k n) ≡ 0
unfolding digits_in line_ends
no_ends_lem zero n = refl
no_ends_lem (suc k) n =
    let rest = no_ends_lem k (n / 10) in
    elim (le_or_lt n 9) [
      | inl h ↦ ap line_ends (sym (in_one k n h)) ∙ no_end (48 + n) [] (λ e. omega arith)
      | inr h ↦
          omega (
            arith,
            ap line_ends (in_more k n h),
            ends_append (digits_in k (n / 10)) ((48 + n % 10) ∷ []),
            no_end (48 + n % 10) [] (λ e. omega arith),
          )
    ]

ends_ended : (n b : ℕ) → line_ends (ended n b) ≡ line_ends (b ∷ [])
unfolding ended decimal
ends_ended n b = ends_append (digits_in (suc n) n) (b ∷ []) ∙ ap (◌+ line_ends (b ∷ [])) (no_ends_lem (suc n) n) ∙ zero-add _

one_line : (a : Result Stretch Refusal) → line_ends (line_of a) ≡ 1
unfolding line_of line_ends when◌then◌else◌
one_line a =
    let run = result_unwrap_or a no_stretch in
    omega (
      arith,
      ends_append (ended (number a) 32) (ended run.first 32 ++ ended run.count 10),
      ends_append (ended run.first 32) (ended run.count 10),
      ends_ended (number a) 32,
      ends_ended run.first 32,
      ends_ended run.count 10,
    )

pub promises : Promises
promises = record { rest_unread = rest_unread; one_line = one_line }
