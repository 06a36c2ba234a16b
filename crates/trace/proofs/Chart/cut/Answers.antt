-- What both entries do, with touches or without: a case for each way out.
use mathlib.Core.Path.{refl}
use Rattle.std.proofs.lemmas.Result.{err_from_is_err_and}
use Rattle.trace.proofs.Exits.{fits, refused, cut}
use Rattle.trace.proofs.Chart.cut.Goals as goal

pub returns-in_err-trace : goal.returns-in_err-trace
returns-in_err-trace c =
    let p = err_from_is_err_and c.from_residual.result c.from_residual.ensures.1 in
    let (r, b) = refused _ _ _ _ _ _ _ c.trace.ensures _ c.in_err-trace.was refl in
    record { answer = rw (p.1, p.2) r; bytes = b }

pub put_records-requires : goal.put_records-requires
put_records-requires c = fits _ _ _ _ c.trace.ensures c.in_ok-trace.was

pub returns : goal.returns
returns c =
    let p = c.put_records.ensures in
    let (r, b) = cut _ _ _ _ _ _ _ c.trace.ensures c.in_ok-trace.was _ p.counts p.bytes in
    record { answer = r; bytes = b }
