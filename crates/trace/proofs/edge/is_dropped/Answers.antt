-- `is_dropped` asks the kept points, then the edge's own ends.
use mathlib.Core.Path.{sym, ◌∙◌}
use Rattle.trace.proofs.Touch.{wide, high, ends_wide, ends_high}
use Rattle.trace.proofs.edge.is_dropped.Goals as goal

pub returns-then-differ : goal.returns-then-differ
returns-then-differ c = wide _ _ _ _ (sym c.differ.ensures ∙ c.if-differ.true)

pub returns-then-differ-2 : goal.returns-then-differ-2
returns-then-differ-2 c = high _ _ _ _ (sym c.differ.ensures ∙ c.if-differ.false) (sym c.differ-2.ensures ∙ c.if-differ-2.true)

pub returns-then-differ-3 : goal.returns-then-differ-3
returns-then-differ-3 c =
    ends_wide _ _ _ _
    (sym c.differ.ensures ∙ c.if-differ.false)
    (sym c.differ-2.ensures ∙ c.if-differ-2.false)
    (sym c.differ-3.ensures ∙ c.if-differ-3.true)

pub returns : goal.returns
returns c =
    ends_high _ _ _ _
    (sym c.differ.ensures ∙ c.if-differ.false)
    (sym c.differ-2.ensures ∙ c.if-differ-2.false)
    (sym c.differ-3.ensures ∙ c.if-differ-3.false)
    _ c.differ-4.ensures
