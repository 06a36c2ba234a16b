-- What specs/Promises.antt promises, proved.
use Prim.Native.Nat.{◌+◌}
use mathlib.Core.Path.{◌≡◌, refl}
use mathlib.Core.List.{List}
use Rattle.float.specs.Choice.{when◌then◌else◌}
use Rattle.std.specs.Prelude.{Result, Ok, Err}
use Rattle.answer.specs.Refusal.{value_or, ◌then◌}
use Rattle.answer.specs.declared.Refusal.{Refusal}
use Rattle.trace.specs.Trace.{Clipped}
use Rattle.trace.specs.Answers.{no_edges, counts_of}
use Rattle.trace.specs.Promises.{Promises}
use Rattle.trace.proofs.Cuts.{length_trace, all_kinds}
use Rattle.trace.proofs.Own.{own_samples, two_at_most, dead}
use Rattle.trace.proofs.OwnEnd.{end_kept, own_asks, kept_near}
use Rattle.trace.proofs.Joins.{joins}
use Rattle.trace.proofs.Lent.{lent}
use Rattle.trace.proofs.Untouched.{untouched_record, fewer}

-- zeros add up too
counts : (r : Result (Unit {0}) Refusal) (cs : List Clipped) → let c = value_or no_edges (r then Ok (counts_of cs)) in c.kept + c.missed + c.refused ≡ c.edges
counts (Ok x) cs = all_kinds cs
counts (Err e) cs = refl

pub promises : Promises
promises =
    record {
      edges = length_trace;
      counts = λ touches fs w bytes. counts _ _;
      own_samples = own_samples;
      two_at_most = two_at_most;
      dead = dead;
      end_kept = λ touches whose w ps k l. end_kept w ps k l touches whose;
      own_asks = own_asks;
      kept_near = kept_near;
      joins = joins;
      lent = lent;
      untouched = untouched_record;
      fewer = fewer;
    }
