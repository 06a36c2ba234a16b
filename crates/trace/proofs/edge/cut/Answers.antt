-- `cut` is the cut of the edge, whichever way it runs, and its early answer that of a box past y.
use mathlib.Core.Path.{refl}
use mathlib.Core.Bool.{true, false}
use Rattle.clip.proofs.AtOnce.{all_fit}
use Rattle.clip.proofs.Early.{past_early}
use Rattle.trace.proofs.OneEdge.{runs}
use borrow.Author.Rules.{rules}
use Rattle.trace.proofs.edge.cut.Goals as goal

pub returns-then-is_past_y : goal.returns-then-is_past_y
returns-then-is_past_y c = past_early _ _ _ c.requires _ refl _ c.is_past_y.ensures c.if-is_past_y.true

pub returns-then-b-a-2 : goal.returns-then-b-a-2
returns-then-b-a-2 c = runs _ _ _ (search (rules, all_fit)) c.requires true true _ refl c.if-b-a-2.true c.if-b-a.true _ c.own_box-first.ensures _ c.cut_sides.ensures _ c.edge_answer.ensures

pub returns-then-b-a : goal.returns-then-b-a
returns-then-b-a c = runs _ _ _ (search (rules, all_fit)) c.requires false true _ refl c.if-b-a-2.false c.if-b-a.true _ c.own_box-first-then-b-a.ensures _ c.cut_sides-then-b-a.ensures _ c.edge_answer-then-b-a.ensures

pub returns-then-is_past_y-2 : goal.returns-then-is_past_y-2
returns-then-is_past_y-2 c = past_early _ _ _ c.requires _ refl _ c.is_past_y-2.ensures c.if-is_past_y-2.true

pub returns-then-b-a-3 : goal.returns-then-b-a-3
returns-then-b-a-3 c = runs _ _ _ (search (rules, all_fit)) c.requires true false _ refl c.if-b-a-3.true c.if-b-a.false _ c.own_box-first-then-b-a-3.ensures _ c.cut_sides-then-b-a-3.ensures _ c.edge_answer-then-b-a-3.ensures

pub returns : goal.returns
returns c = runs _ _ _ (search (rules, all_fit)) c.requires false false _ refl c.if-b-a-3.false c.if-b-a.false _ c.own_box-first-2.ensures _ c.cut_sides-2.ensures _ c.edge_answer-2.ensures
