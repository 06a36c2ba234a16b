-- `cut_sides` is `sides_cut`. The loop's invariant: the sides that are left, cut from here, give what all of them would.
use mathlib.Core.Path.{◌≡◌, ◌∙◌}
use Prim.Native.Nat.{◌-◌, ◌<◌, ◌+◌}
use native.Mathlib.Omega.{arith}
use Rattle.clip.proofs.Turns.{side_gone, low_left, high_left, no_side}
use Rattle.clip.proofs.compute.cut_sides.Goals as goal
use Rattle.clip.proofs.compute.cut_sides.Goals.{then-high, else-high}

pub returns-in_err-s : goal.returns-in_err-s
returns-in_err-s c =
    let d = c in
    let l = d.loop-done in
    let a = d.args in
    c.from_residual.ensures
    ∙ side_gone a.own l.high l.this l.other a.neg_slope _ d.clip_side.ensures (a.sides - l._done) (omega arith) c.in_err-s.was
    ∙ l.invariant ∙ rw (d.of-this.ensures, d.of-other.ensures)

pub loop-done-preserved : goal.loop-done-preserved
loop-done-preserved c =
    let d = c in
    let l = d.loop-done in
    let a = d.args in
    let t : 0 < a.sides - l._done = omega arith in
    let n : a.sides - (l._done + 1) ≡ a.sides - l._done - 1 = omega arith in
    elim c.if-high.branch [
      | then-high w ↦ rw (w.this-is, w.other-is, n) (high_left a.own l.high l.this l.other a.neg_slope _ d.clip_side.ensures c.in_ok-s.s c.in_ok-s.was _ _ c.of-t.ensures c.of-u.ensures (a.sides - l._done) t w.if-high.true ∙ l.invariant)
      | else-high w ↦ rw (w.this-is, w.other-is, n) (low_left a.own l.high l.this l.other a.neg_slope _ d.clip_side.ensures c.in_ok-s.s c.in_ok-s.was _ _ c.of-t.ensures c.of-u.ensures (a.sides - l._done) t w.if-high.false ∙ l.invariant)
    ]

pub returns : goal.returns
returns c =
    let l = c.loop-done in
    let a = c.args in
    no_side a.own (a.sides - l._done) (omega arith) l.high l.this l.other a.neg_slope
    ∙ l.invariant ∙ rw (c.of-this.ensures, c.of-other.ensures)
