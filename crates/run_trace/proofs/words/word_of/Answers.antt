use Rattle.std.proofs.Common.{refl, ◌∙◌}
use Rattle.float.proofs.Choice.{ask_yes, ask_no}
use Rattle.run_trace.specs.Words.{word_of}
use Rattle.run_trace.proofs.Letters.{same_is}
use Rattle.run_trace.proofs.words.word_of.Goals as goal

pub returns-then-eq : goal.returns-then-eq
unfolding word_of
returns-then-eq c = ask_yes _ _ _ _ _ (c.eq.ensures ∙ same_is _ _) c.if-eq.true refl

pub returns-else-eq : goal.returns-else-eq
unfolding word_of
returns-else-eq c = ask_no _ _ _ _ _ (c.eq.ensures ∙ same_is _ _) c.if-eq.false c.number_in.ensures
