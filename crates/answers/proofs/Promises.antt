-- What specs/Promises.antt promises, proved.
use Prim.Native.Nat.{ℕ, ◌+◌, ◌/◌, ◌%◌}
use native.Mathlib.Omega.{arith}
use mathlib.Core.Path.{◌≡◌, refl, ◌∙◌}
use mathlib.Core.Bool.{Bool, true, false}
use mathlib.Core.List.{List, [], ◌∷◌}
use lib.Dec.{eqb, leb}
use lib.Ieee.{Float}
use Rattle.std.specs.Prelude.{Result}
use Rattle.answer.specs.declared.Refusal.{Refusal}
use Rattle.float.specs.Choice.{when◌then◌else◌}
use Rattle.float.proofs.Choice.{cases}
use Rattle.buffer.specs.Digits.{digit_of}
use Rattle.buffer.specs.Text.{line_ends}
use Rattle.buffer.proofs.Text.{joins_blocks}
use Rattle.buffer.proofs.Ends.{ends_append, no_end, digit_no_end, ends_group, one_line_each}
use Rattle.pages.specs.declared.Found.{Found}
use Rattle.answers.specs.Request.{word_of}
use Rattle.answers.specs.Number.{number_text, groups, float_groups}
use Rattle.answers.specs.Reply.{Reply, reply_line}
use Rattle.answers.specs.Lent.{two_digits, bytes_text, spaced_bytes}
use Rattle.answers.specs.Walked.{walk_line_on, walk_line}
use Rattle.answers.specs.Traced.{trace_line_on, trace_line}
use Rattle.answers.specs.Paged.{kept_line, built_line, pages_line_on, pages_line, first_kept_line}
use Rattle.answers.specs.Line.{line_of, torn_line}
use Rattle.answers.specs.Promises.{Promises}

-- ---- a line has one line end, at its end
abbrev Ended : List ℕ → Type 0
Ended l = line_ends l ≡ 1

abbrev Endless : List ℕ → Type 0
Endless l = line_ends l ≡ 0

ends_255 : Endless (50 ∷ 53 ∷ 53 ∷ [])
unfolding line_ends when◌then◌else◌
ends_255 = refl

ends_number : (n : ℕ) → line_ends (number_text n) ≡ 0
unfolding number_text line_ends
ends_number n =
    cases Endless (leb n 9) _ _ (λ h. no_end (48 + n) [] (λ e. omega arith))
    (λ h. cases Endless (leb n 14) _ _ (λ k. no_end 49 ((38 + n) ∷ []) (λ e. omega arith) ∙ no_end (38 + n) [] (λ e. omega arith)) (λ k. ends_255))

ends_groups : (ws : List ℕ) → line_ends (groups ws) ≡ 0
unfolding line_ends
ends_groups [] = refl
ends_groups (w ∷ ws) = simp (ends_append, ends_group, ends_groups ws)

ends_floats : (fs : List Float) → line_ends (float_groups fs) ≡ 0
unfolding line_ends
ends_floats [] = refl
ends_floats (x ∷ fs) = simp (ends_append, ends_group, ends_floats fs)

ends_two : (b : ℕ) → line_ends (two_digits b) ≡ 0
unfolding line_ends
ends_two b = digit_no_end (b / 16) (digit_of (b % 16) ∷ []) ∙ digit_no_end (b % 16) []

ends_bytes : (bs : List ℕ) → line_ends (bytes_text bs) ≡ 0
unfolding line_ends
ends_bytes [] = refl
ends_bytes (b ∷ bs) = ends_append (two_digits b) (bytes_text bs) ∙ omega (arith, ends_two b, ends_bytes bs)

ends_spaced : (bs : List ℕ) → line_ends (spaced_bytes bs) ≡ 0
unfolding line_ends
ends_spaced [] = refl
ends_spaced (b ∷ bs) = no_end 32 (bytes_text (b ∷ bs)) (λ e. omega arith) ∙ ends_bytes (b ∷ bs)

ends_reply : (r : Reply) → line_ends (reply_line r) ≡ 1
unfolding reply_line line_ends when◌then◌else◌
ends_reply r = simp (ends_append, ends_number, ends_groups)

ends_walk : (s : List ℕ) → line_ends (walk_line s) ≡ 1
unfolding walk_line walk_line_on line_ends when◌then◌else◌
ends_walk s = simp (ends_append, ends_number, ends_group, ends_spaced)

ends_trace : (touches : Bool) (s : List ℕ) → line_ends (trace_line touches s) ≡ 1
unfolding trace_line trace_line_on line_ends when◌then◌else◌
ends_trace touches s = simp (ends_append, ends_number, ends_group, ends_spaced)

ends_kept : (a : Result Found Refusal) (fs : List Float) → line_ends (kept_line a fs) ≡ 1
unfolding kept_line line_ends when◌then◌else◌
ends_kept a fs = simp (ends_append, ends_number, ends_group, ends_floats)

ends_pages : (s : List ℕ) → line_ends (pages_line s) ≡ 1
unfolding pages_line pages_line_on built_line line_ends when◌then◌else◌
ends_pages s = simp (ends_append, ends_number, ends_group, ends_kept)

ends_first_kept : (s : List ℕ) → line_ends (first_kept_line s) ≡ 1
unfolding first_kept_line
ends_first_kept s = ends_kept _ _

ends_line : (s : List ℕ) → line_ends (line_of s) ≡ 1
unfolding line_of
ends_line s =
    cases Ended (eqb (word_of s 0) 60) _ _ (λ h. ends_walk s)
    (λ h. cases Ended (eqb (word_of s 0) 61) _ _ (λ k. ends_trace false s)
    (λ k. cases Ended (eqb (word_of s 0) 62) _ _ (λ l. ends_trace true s)
    (λ l. cases Ended (eqb (word_of s 0) 64) _ _ (λ m. ends_pages s)
    (λ m. cases Ended (eqb (word_of s 0) 65) _ _ (λ n. ends_first_kept s) (λ n. ends_reply _)))))

ends_torn : line_ends torn_line ≡ 1
unfolding number_text line_ends when◌then◌else◌
ends_torn = refl

pub promises : Promises
promises = record {
  blocks = joins_blocks 192 line_of torn_line (omega arith);
  lines = one_line_each 192 line_of torn_line ends_line ends_torn;
}
