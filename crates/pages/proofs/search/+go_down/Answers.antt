-- `go_down` calls itself for each half, so its measure is how many edges there are.
use mathlib.Core.Path.{refl, sym, ◌∙◌}
use Rattle.trace.specs.Trace.{samples_of}
use Rattle.pages.specs.Search.{none}
use Rattle.pages.proofs.Going.{one_kept, one_not, all_shut, in_first_lem, in_second_lem}
use Rattle.pages.proofs.search.+go_down.Goals as goal
use Rattle.pages.proofs.search.+go_down.Goals.{then-is_open+else-is_some, else-is_open}

pub returns-then-is_kept-clause-is : goal.returns-then-is_kept-clause-is
returns-then-is_kept-clause-is t c = one_kept _ _ _ _ _ _ c.requires.1 c.if-edges-eq1.true (sym c.is_kept.ensures ∙ c.if-is_kept.true)

pub returns-then-edges-eq1-clause-is : goal.returns-then-edges-eq1-clause-is
returns-then-edges-eq1-clause-is t c = one_not _ _ _ _ _ _ c.requires.1 c.if-edges-eq1.true (sym c.is_kept.ensures ∙ c.if-is_kept.false)

pub returns-then-is_some-clause-is : goal.returns-then-is_some-clause-is
returns-then-is_some-clause-is t c =
    in_first_lem _ _ _ _ _ _ c.requires.1 c.requires.0.some c.if-edges-eq1.false _ c.go_down-a.ensures.is (cc)

pub returns-then-is_open-2-clause-is : goal.returns-then-is_open-2-clause-is
returns-then-is_open-2-clause-is t c =
    let found = in_second_lem c.args.boxes.now c.args.window.rect (samples_of c.args.samples.now) _ c.args.edge _ c.requires.1 c.requires.0.some c.if-edges-eq1.false in
    elim c.if-is_open.branch [
      | then-is_open+else-is_some w ↦ found _ w.go_down-a.ensures.is (cc) _ w.opened-is _ c.go_down-b.ensures.is
      | else-is_open w ↦ found (none 1) (all_shut _ _ _ _ _ _ (sym c.is_open.ensures ∙ w.if-is_open.false)) refl _ w.opened-is _ c.go_down-b.ensures.is
    ]

pub returns-clause-is : goal.returns-clause-is
returns-clause-is t c =
    let found = in_second_lem c.args.boxes.now c.args.window.rect (samples_of c.args.samples.now) _ c.args.edge _ c.requires.1 c.requires.0.some c.if-edges-eq1.false in
    let shut = all_shut c.args.boxes.now c.args.window.rect (samples_of c.args.samples.now) _ _ _ (sym c.is_open-2.ensures ∙ c.if-is_open-2.false) in
    elim c.if-is_open.branch [
      | then-is_open+else-is_some w ↦ found _ w.go_down-a.ensures.is (cc) _ w.opened-is (none 1) shut
      | else-is_open w ↦ found (none 1) (all_shut _ _ _ _ _ _ (sym c.is_open.ensures ∙ w.if-is_open.false)) refl _ w.opened-is (none 1) shut
    ]
