-- What specs/Promises.antt promises, proved: what C sees of a refusal is computed, and a call leaves as many bytes as it was lent.
use mathlib.Core.Path.{◌≡◌, refl}
use mathlib.Core.List.{List}
use Prim.Native.Nat.{ℕ}
use lib.ListN.{length}
use Rattle.buffer.proofs.Parts.{either_first}
use Rattle.line.specs.Line.{by_axis}
use Rattle.walk.proofs.Promises as walk
use Rattle.trace.proofs.Promises as trace
use Rattle.umblacet.specs.Calls.{Call, leaves}
use Rattle.umblacet.specs.Calls.Call.{Walk, Trace}
use Rattle.umblacet.specs.Promises.{Refused, Promises}
use Rattle.answer.specs.declared.Refusal.{Refusal}

as_long : (c : Call) (xs : List ℕ) → length (leaves c xs) ≡ length xs
unfolding leaves
as_long (Walk f a t b p whose) xs = ((walk.promises).lent xs f a t b p).as_long whose
as_long (Trace touches fs w whose) xs = ((trace.promises).lent touches xs fs w).as_long whose

refused : (e : Refusal) → Refused e
unfolding by_axis
refused e =
    record {
      real = refl;
      yes_no = refl;
      point = refl;
      interval = refl;
      rect = refl;
      corners = refl;
      axes = refl;
      cut = refl;
      face = refl;
      face_uv = refl;
      uv = refl;
      vector = refl;
      axis = refl;
      walk = refl;
      trace = refl;
      stretch = refl;
      pages = refl;
      kept = refl;
    }

pub promises : Promises
promises = record { refused = refused; none_found = λ n. refl; either_first = λ c d. either_first (leaves c) (leaves d) (as_long c) }
