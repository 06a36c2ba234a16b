-- What specs/Promises.antt promises, proved.
use Rattle.std.specs.Prelude.{Result, Ok, Err}
use Prim.Native.Nat.{ℕ, ◌+◌}
use native.Mathlib.Omega.{arith}
use mathlib.Core.Path.{◌≡◌}
use mathlib.Core.List.{[], ◌∷◌}
use Rattle.float.specs.Choice.{when◌then◌else◌}
use Rattle.answer.specs.Refusal.{number_of}
use Rattle.answer.specs.declared.Refusal.{Refusal}
use Rattle.answer.specs.declared.Refusal.TheVariants.{Torn}
use Rattle.buffer.specs.Text.{line_ends}
use Rattle.buffer.proofs.Text.{joins_blocks}
use Rattle.buffer.proofs.Ends.{ends_append, no_end, ends_group, one_line_each}
use Rattle.clip.specs.declared.Segment.{Segment}
use Rattle.cut.specs.Record.{answer_of}
use Rattle.cut.specs.Line.{number_line, kept_line, line_of, record_line, torn_line}
use Rattle.cut.specs.Promises.{Promises}

-- ---- a line has one line end, at its end
ends_number : (n : ℕ) → line_ends (number_line n) ≡ 1
unfolding number_line line_ends when◌then◌else◌
ends_number n = no_end (48 + n) (10 ∷ []) (λ e. omega arith)

ends_kept : (s : Segment) → line_ends (kept_line s) ≡ 1
unfolding kept_line line_ends when◌then◌else◌
ends_kept s = simp (ends_append, ends_group)

ends_line : (r : Result Segment Refusal) → line_ends (line_of r) ≡ 1
unfolding line_of
ends_line (Ok s) = ends_kept s
ends_line (Err e) = ends_number (number_of e)

pub promises : Promises
promises = record {
  blocks = joins_blocks 64 record_line torn_line (omega arith);
  lines = one_line_each 64 record_line torn_line (λ s. ends_line (answer_of s)) (ends_number (number_of Torn));
}
