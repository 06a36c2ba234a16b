-- What specs/Promises.antt promises, proved.
use Rattle.walk.specs.Promises.{Promises}
use Rattle.walk.proofs.Chain.{linked, never_off}
use Rattle.walk.proofs.Cycle.{never_arrives}
use Rattle.walk.proofs.Arrive.{arrives_when}
use Rattle.walk.proofs.Entry.{given_up, six, entry}
use Rattle.walk.proofs.Lent.{lent}

pub promises : Promises
promises =
    record {
      linked = λ k p f t h a b. linked p h.normal.finite h.normal.some t k f h.face h.meets a b;
      never_off = λ k p f t h e. never_off p h.normal.finite h.normal.some t k f h.face h.meets e;
      never_arrives = never_arrives;
      given_up = given_up;
      arrives = λ p f t h. arrives_when h.normal.finite h.normal.some t h.target f h.face h.meets;
      six = six;
      entry = entry;
      lent = lent;
    }
