-- Line ends are counted as std counts what passes a test.
use Rattle.std.proofs.Common.{◌≡◌, ℕ, ◌+◌, List, eqb, cond, Bool, true, false, refl, sym, arith}
use Rattle.std.specs.List.{count_by}
use Rattle.std.proofs.lemmas.List.Recursion.{is_count_by}
use Rattle.float.specs.Choice.{when◌then◌else◌}
use Rattle.buffer.specs.Text.{line_ends}

pub ends_counted : (s : List ℕ) → count_by (λ b. eqb b 10) s ≡ line_ends s
unfolding line_ends when◌then◌else◌
ends_counted s = sym (is_count_by line_ends (λ b. eqb b 10) refl (λ b bs. one_or_none (eqb b 10) (line_ends bs)) s)
  where
    one_or_none : (t : Bool) (n : ℕ) → (when t then 1 else 0) + n ≡ cond t (1 + n) n
    one_or_none true n = refl
    one_or_none false n = omega arith
