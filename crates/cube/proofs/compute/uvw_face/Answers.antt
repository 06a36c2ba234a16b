-- `uvw_face` is `neighbour`: no face, the direction minus, and plus.
use mathlib.Core.Path.{sym, ap, ◌∙◌}
use Rattle.float.proofs.Choice.{when_eq, when_ne}
use Rattle.cube.specs.ByAxes.{unit_toward, facing}
use Rattle.cube.specs.Faces.{neighbour}
use Rattle.cube.proofs.Six.{beyond_is}
use Rattle.cube.proofs.OnFace.{one, none}
use Rattle.cube.proofs.ByAxes.{by_axes}
use Rattle.cube.proofs.compute.uvw_face.Goals as goal

pub returns-in_default : goal.returns-in_default
unfolding neighbour
returns-in_default c = beyond_is _ _ _ _ _ _ _ _ (none _ _ _ (sym c.in_default.is ∙ c.uvw_axis.ensures))

pub returns-then-direction-eq0 : goal.returns-then-direction-eq0
unfolding unit_toward
returns-then-direction-eq0 c =
    let (F, e) = one _ _ _ (sym c.in-Ok.is ∙ c.uvw_axis.ensures) in
    c.facing.ensures ∙ ap facing (when_eq _ _ _ _ _ c.if-direction-eq0.true (rw e at c.neg.ensures)) ∙ by_axes _ _ _ F

pub returns-else-direction-eq0 : goal.returns-else-direction-eq0
unfolding unit_toward
returns-else-direction-eq0 c =
    let (F, e) = one _ _ _ (sym c.in-Ok.is ∙ c.uvw_axis.ensures) in
    c.facing-else-direction-eq0.ensures ∙ ap facing (when_ne _ _ _ _ _ c.if-direction-eq0.false e) ∙ by_axes _ _ _ F
