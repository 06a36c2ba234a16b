-- What specs/Promises.antt promises, proved.
use Rattle.cube.specs.Faces.{face_of}
use Rattle.cube.specs.Promises.{Promises}
use Rattle.cube.proofs.Directions.{point_uvw}
use Rattle.cube.proofs.Neighbours.{neighbours}
use Rattle.cube.proofs.ByAxes.{neighbours_by_axes, neighbours_along}
use Rattle.cube.proofs.Greatest.{face_greatest, face_only}
use Rattle.cube.proofs.Square.{square}
use Rattle.cube.proofs.ReadBack.{read_back}
use Rattle.cube.proofs.Axes.{axes, norms}

pub promises : Promises
promises =
    record {
      face = face_greatest;
      face_only = face_only;
      square = λ p fine some. square p fine some (face_of p) (face_greatest p fine);
      read_back = read_back;
      point_uvw = point_uvw;
      neighbours = neighbours;
      neighbours_by_axes = neighbours_by_axes;
      neighbours_along = neighbours_along;
      axes = axes;
      norms = norms;
    }
