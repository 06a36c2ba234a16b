-- `stay_at` is `stayed`: the own end is not inward of an end that equals it, so moving the other end to it loses nothing.
use Rattle.float.proofs.Choice.{then_is, else_is, ask_yes, ask_no}
use mathlib.Core.Path.{refl}
use Rattle.clip.specs.Cut.{moved_end}
use Rattle.clip.specs.Turns.{stayed}
use Rattle.clip.proofs.Sides.{eq_not}
use Rattle.clip.proofs.compute.stay_at.Goals as goal

pub returns-then-is_inward : goal.returns-then-is_inward
unfolding stayed moved_end
returns-then-is_inward c =
    let e = rw c.at_end.ensures at c.if-at_end-own.true in
    then_is _ _ _ _ e (else_is _ _ _ _ (eq_not _ _ _ e) (ask_yes _ _ _ _ _ (rw c.at_end-then-at_end-own.ensures at c.is_inward.ensures) c.if-is_inward.true (rw c.with_end.ensures)))

pub returns-then-at_end-own : goal.returns-then-at_end-own
unfolding stayed moved_end
returns-then-at_end-own c =
    let e = rw c.at_end.ensures at c.if-at_end-own.true in
    then_is _ _ _ _ e (else_is _ _ _ _ (eq_not _ _ _ e) (ask_no _ _ _ _ _ (rw c.at_end-then-at_end-own.ensures at c.is_inward.ensures) c.if-is_inward.false refl))

pub returns : goal.returns
unfolding stayed
returns c = else_is _ _ _ _ (rw c.at_end.ensures at c.if-at_end-own.false) refl
