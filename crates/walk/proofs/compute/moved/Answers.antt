-- `moved` is `moved_to`: of a number that is no face the rules give zeros too.
use Rattle.cube.specs.Faces.{point_at, uvw_of}
use Rattle.cube.proofs.OnFace.{or_rest}
use Rattle.walk.proofs.compute.moved.Goals as goal

pub returns : goal.returns
unfolding point_at uvw_of
returns c = rw (c.unwrap_or-q.ensures, c.face_xyz_to_uvw.ensures, or_rest, c.unwrap_or-p.ensures, c.face_uv_to_xyz.ensures, or_rest) at c.new.ensures
