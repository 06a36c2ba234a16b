-- `put_edge` writes the record of the edge and counts it.
use mathlib.Core.Path.{sym, ◌∙◌}
use Rattle.answer.specs.declared.Refusal.TheVariants.{Missed}
use Rattle.trace.proofs.OneEdge.{kept_numbers, live_ends, put_kept, put_refused}
use Rattle.trace.proofs.Touch.{of_drawn, of_dropped, of_refused}
use Rattle.trace.proofs.Chart.put_edge.Goals as goal

pub is_dropped-requires : goal.is_dropped-requires
is_dropped-requires c =
    let a = c.args in
    (kept_numbers a.a a.b a.self.window _ (sym c.cut.ensures ∙ c.in-Ok.is), live_ends a.a a.b a.self.window c.requires.0)

pub returns-then-is_dropped : goal.returns-then-is_dropped
returns-then-is_dropped c =
    let e = sym c.cut.ensures ∙ c.in-Ok.is in
    let d = sym c.is_dropped.ensures ∙ c.if-is_dropped.true in
    let (n, b) = put_refused _ _ _ _ Missed (of_dropped _ _ _ _ c.in-Ok.s e d) c.put_zeros.ensures in record { count = n; bytes = b }

pub put_kept-requires : goal.put_kept-requires
put_kept-requires c =
    let a = c.args in
    (kept_numbers a.a a.b a.self.window _ (sym c.cut.ensures ∙ c.in-Ok.is), c.requires.2)

pub returns-else-is_dropped : goal.returns-else-is_dropped
returns-else-is_dropped c =
    let e = sym c.cut.ensures ∙ c.in-Ok.is in
    let d = sym c.is_dropped.ensures ∙ c.if-is_dropped.false in
    let (n, b) = put_kept _ _ _ _ c.in-Ok.s (of_drawn _ _ _ _ c.in-Ok.s e d) c.put_kept.ensures in record { count = n; bytes = b }

pub returns-in-Err : goal.returns-in-Err
returns-in-Err c =
    let e = sym c.cut.ensures ∙ c.in-Err.is in
    let (n, b) = put_refused _ _ _ _ c.in-Err.refusal (of_refused _ _ _ _ c.in-Err.refusal e) c.put_zeros-in-Err.ensures in record { count = n; bytes = b }
