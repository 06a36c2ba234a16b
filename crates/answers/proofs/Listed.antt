-- The line of a reply that is listed under a number, and of one that is not under this.
use Rattle.std.proofs.Common.{◌≡◌, ℕ, List, ◌≤◌, ◌<◌}
use Rattle.std.specs.Prelude.{eqb, leb}
use borrow.Author.Tests.{eq-eqb, ne_eqb, le-leb, lt-leb}
use Rattle.float.specs.Choice.{when◌then◌else◌}
use Rattle.answers.specs.Reply.{Reply, reply_line}

module _ (m n : ℕ) (w : List ℕ) (x y : Reply) where
  pub is_listed : m ≡ n → w ≡ reply_line x → w ≡ reply_line (when eqb m n then x else y)
  unfolding when◌then◌else◌
  is_listed e h = rw (eq-eqb m n e) h

  pub not_listed : (m ≡ n → ⊥) → w ≡ reply_line y → w ≡ reply_line (when eqb m n then x else y)
  unfolding when◌then◌else◌
  not_listed e h = rw (ne_eqb m n e) h

  pub within : m ≤ n → w ≡ reply_line x → w ≡ reply_line (when leb m n then x else y)
  unfolding when◌then◌else◌
  within e h = rw (le-leb m n e) h

  pub beyond : n < m → w ≡ reply_line y → w ≡ reply_line (when leb m n then x else y)
  unfolding when◌then◌else◌
  beyond e h = rw (lt-leb m n e) h

pub ruleset listed = (is_listed, not_listed, within, beyond)
