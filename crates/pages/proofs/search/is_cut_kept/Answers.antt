-- `is_cut_kept` asks whether the edge's own box is cut to nothing.
use Rattle.clip.proofs.AtOnce.{all_fit}
use Rattle.pages.proofs.Going.{live_is}
use mathlib.Core.Path.{◌∙◌}
use borrow.Author.Rules.{rules}
use Rattle.pages.proofs.search.is_cut_kept.Goals as goal
use Rattle.pages.proofs.search.is_cut_kept.Goals.{then-point_fine, else-point_fine}

pub returns : goal.returns
returns c =
    elim c.if-point_fine.branch [
      | then-point_fine w ↦
          c.is_some.ensures ∙ live_is _ _ _ (search (rules, all_fit)) c.args.window.fine (cc) (cc) _ c.slope_is_negative-slope.ensures _ c.from_points-first.ensures _ c.cut_sides.ensures
      | else-point_fine w ↦ cc
    ]
