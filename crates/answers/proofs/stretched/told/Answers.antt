-- `told` joins what the three entries say.
use Rattle.std.proofs.Common.{ap, ◌∙◌}
use Rattle.std.specs.Result.{result_unwrap_or}
use Rattle.answer.specs.Refusal.{number}
use Rattle.stretch.specs.Answers.{no_stretch}
use Rattle.answers.specs.Reply.{reply_line}
use Rattle.answers.proofs.ThreeEntries.{all_say}
use Rattle.answers.proofs.stretched.told.Goals as goal

pub returns : goal.returns
returns c =
    let n = c.number.ensures.is ∙ ap number c.longest_clean_refusal-refusal.ensures in
    let run = c.unwrap_or-first.ensures ∙ ap (λ r. result_unwrap_or r no_stretch) c.longest_clean_run-run.ensures in
    c.ended.ensures ∙ ap reply_line (all_say _ _ _ _ _ n run c.longest_clean-part.ensures.floats)
