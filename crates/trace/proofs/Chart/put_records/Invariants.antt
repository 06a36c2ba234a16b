use mathlib.Core.Path.{◌≡◌}
use Rattle.clip.specs.Refuse.{point_fine}
use Rattle.trace.specs.Trace.{samples_of}
use Rattle.trace.proofs.Writing.{Written}
use Rattle.trace.proofs.Chart.put_records.Given as goal

abbrev pub invariant-loop-k : goal.invariant-loop-k
invariant-loop-k l = record { live : l.live ≡ point_fine l.a; written : Written l.self (samples_of l.samples) l.initial.out l.k l.a l.out l.kept l.refused }
