-- `is_open` asks the mark, then x, then y.
use mathlib.Core.Path.{refl, ◌∙◌}
use Rattle.pages.proofs.Opening.{no_mark, x_misses, x_meets}
use Rattle.pages.proofs.search.is_open.Goals as goal
use Rattle.pages.proofs.search.is_open.Goals.{then-mark, else-mark}

pub returns-then-shares : goal.returns-then-shares
returns-then-shares c =
    elim c.if-mark.branch [
      | then-mark w ↦ x_meets c.args.boxes.now _ c.args.place _ refl w.if-mark.true (cc) _ c.shares-then-shares.ensures
      | else-mark w ↦ cc
    ]

pub returns-else-shares : goal.returns-else-shares
returns-else-shares c =
    elim c.if-mark.branch [
      | then-mark w ↦ c.if-shares.false ∙ x_misses c.args.boxes.now _ c.args.place _ refl w.if-mark.true (cc)
      | else-mark w ↦ c.if-shares.false ∙ no_mark c.args.boxes.now _ c.args.place _ refl w.if-mark.false
    ]
