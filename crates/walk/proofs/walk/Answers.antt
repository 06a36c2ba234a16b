-- The entry `walk`: a case for each way out.
use mathlib.Core.Path.{refl, sym, ◌∙◌}
use native.Mathlib.Omega.{arith}
use borrow.Author.Rules.{rules}
use lib.Seq.{length-take-le}
use Rattle.std.proofs.lemmas.Result.{err_from_is_err_and}
use Rattle.cube.specs.Vector.{HandedIn}
use Rattle.walk.proofs.Admitted.{fine}
use Rattle.walk.proofs.Exits.{at_most_eight_lem, aside_holds, aside_taken, by_input, by_stop, by_short, by_done, enough}
use Rattle.walk.proofs.walk.Goals as goal

pub returns-in_err-input : goal.returns-in_err-input
returns-in_err-input c =
    let p = err_from_is_err_and c.from_residual.result c.from_residual.ensures.1 in
    let (r, b) = by_input _ _ _ _ _ _ _ _ _ c.input.ensures _ c.in_err-input.was refl in
    record { answer = rw (p.1, p.2) r; bytes = b }

pub put_segments-requires : goal.put_segments-requires
put_segments-requires c =
    let h = c.args in
    let handed : HandedIn h.normal = record { x = search rules; y = search rules; z = search rules } in
    let g = fine h.face h.a h.target h.b h.normal handed (sym c.input.ensures ∙ c.in_ok-input.was) in
    record { face = g.face; begins = g.begins; ends = g.ends; finite = g.normal.finite; some = g.normal.some; room = omega arith }

pub returns-in_err-count : goal.returns-in_err-count
returns-in_err-count c =
    let p = err_from_is_err_and c.from_residual-in_err-count.result c.from_residual-in_err-count.ensures.1 in
    let (r, b) = by_stop _ _ _ _ _ _ _ _ _ c.input.ensures c.in_ok-input.was _ c.put_segments.ensures.answer _ c.in_err-count.was refl in
    record { answer = rw (p.1, p.2) r; bytes = b }

pub overflow_mul-bytes : goal.overflow_mul-bytes
overflow_mul-bytes c =
    let h = c.args in
    omega (arith, at_most_eight_lem h.face h.a h.target h.b h.normal h.whose _ c.put_segments.ensures.answer _ c.in_ok-count.was)

pub returns-in_err-need : goal.returns-in_err-need
returns-in_err-need c =
    let p = err_from_is_err_and c.from_residual-in_err-need.result c.from_residual-in_err-need.ensures.1 in
    let (r, b) = by_short _ _ _ _ _ _ _ _ _ c.input.ensures c.in_ok-input.was _ c.put_segments.ensures.answer _ c.in_ok-count.was _ (sym c.in_err-need.was ∙ c.need.ensures) refl in
    record { answer = rw (p.1, p.2) r; bytes = b }

pub slice_bounds-aside-end : goal.slice_bounds-aside-end
slice_bounds-aside-end c = aside_holds _ _ _ _ _ _ _ c.put_segments.ensures.answer _ c.in_ok-count.was _ _ (omega arith) c.put_segments.ensures.bytes

pub slice_bounds-copy_from_slice-end-3 : goal.slice_bounds-copy_from_slice-end-3
slice_bounds-copy_from_slice-end-3 c = sym (length-take-le _ _ (aside_holds _ _ _ _ _ _ _ c.put_segments.ensures.answer _ c.in_ok-count.was _ _ (omega arith) c.put_segments.ensures.bytes))

pub copy_from_slice-requires : goal.copy_from_slice-requires
copy_from_slice-requires c = length-take-le _ _ (enough _ _ (sym c.in_ok-need.was ∙ c.need.ensures)) ∙ sym (length-take-le _ _ (aside_holds _ _ _ _ _ _ _ c.put_segments.ensures.answer _ c.in_ok-count.was _ _ (omega arith) c.put_segments.ensures.bytes))

pub returns : goal.returns
returns c =
    let g = c.put_segments.ensures.answer in
    let t = aside_taken _ _ _ _ _ _ _ g _ c.in_ok-count.was _ _ (omega arith) c.put_segments.ensures.bytes in
    let (answer, bytes) = by_done _ _ _ _ _ _ _ _ _ c.input.ensures c.in_ok-input.was _ g _ c.in_ok-count.was (enough _ _ (sym c.in_ok-need.was ∙ c.need.ensures)) _ (c.copy_from_slice.ensures.after ∙ t) refl in
    record { answer = answer; bytes = bytes }
