-- `written` is the piece's counts, or those of the samples whose edges were written.
use Rattle.std.proofs.Common.{◌≡◌, ℕ, ◌/◌, take, ap, ◌∙◌}
use Rattle.std.proofs.lemmas.List.{take_min}
use Rattle.float.proofs.Choice.{when_gt}
use Rattle.run_trace.specs.Pieces.{bytes_for}
use Rattle.run_trace.proofs.piece.written.Goals as goal

pub returns : goal.returns
returns c =
    let a = c.args in
    let part : take c.min-n.result a.bytes.now ≡ take (bytes_for a.before (a.taken / 40)) a.bytes.now =
    rw c.min-n.ensures (take_min _ _) ∙ ap (λ (n : ℕ). take n a.bytes.now) c.bytes_for.ensures in
    when_gt _ _ _ _ _ c.if-all-edges.false (rw (c.counts.ensures, c.cut_piece.ensures.answer, part))
