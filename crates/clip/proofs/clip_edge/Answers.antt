-- The entry `clip_edge`: the refusal, an early answer, or what is left of the box of A and B.
use mathlib.Core.Path.{sym, ap, ◌∙◌}
use mathlib.Core.Bool.{true, false}
use Rattle.std.specs.Prelude.{Ok}
use Rattle.clip.proofs.Early.{inside_early, apart_early}
use Rattle.clip.proofs.AtOnce.{AllFit, all_fit}
use Rattle.clip.proofs.OwnBox.{own_answer}
use borrow.Author.Rules.{rules}
use Rattle.clip.proofs.clip_edge.Goals as goal

pub returns-then-is_inside : goal.returns-then-is_inside
returns-then-is_inside c = ap Ok c.whole.ensures ∙ inside_early _ _ _ (sym c.edge.ensures ∙ c.in_ok-edge.was) (cc)

pub returns-then-is_apart : goal.returns-then-is_apart
returns-then-is_apart c = apart_early _ _ _ (sym c.edge.ensures ∙ c.in_ok-edge.was) _ c.from_points-first.ensures _ c.is_apart.ensures c.if-is_apart.true

pub returns-then-slope_is_negative : goal.returns-then-slope_is_negative
returns-then-slope_is_negative c =
    let handed : AllFit c.args.a c.args.b c.args.window = search (rules, all_fit) in
    let n = sym c.if-slope_is_negative.true ∙ c.slope_is_negative.ensures in
    own_answer _ _ _ handed (sym c.edge.ensures ∙ c.in_ok-edge.was) true n _ c.from_points-first.ensures _ c.cut_sides.ensures _ c.edge_answer.ensures

pub returns : goal.returns
returns c =
    let handed : AllFit c.args.a c.args.b c.args.window = search (rules, all_fit) in
    let n = sym c.if-slope_is_negative.false ∙ c.slope_is_negative.ensures in
    own_answer _ _ _ handed (sym c.edge.ensures ∙ c.in_ok-edge.was) false n _ c.from_points-first.ensures _ c.cut_sides-2.ensures _ c.edge_answer-2.ensures
