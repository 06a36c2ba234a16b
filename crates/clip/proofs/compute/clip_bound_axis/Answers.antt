-- `clip_bound_axis` is `axis_cut`: the two sides of an axis.
use mathlib.Core.Path.{◌∙◌}
use Rattle.clip.proofs.Turns.{one_axis, axis_inside, axis_outside}
use Rattle.clip.proofs.compute.clip_bound_axis.Goals as goal

pub returns-in_err-r : goal.returns-in_err-r
returns-in_err-r c = c.from_residual.ensures ∙ axis_outside _ _ (c.cut_sides.ensures ∙ one_axis _ _ _) c.in_err-r.was

pub returns : goal.returns
returns c = axis_inside _ _ (c.cut_sides.ensures ∙ one_axis _ _ _) c.in_ok-r.r c.in_ok-r.was
