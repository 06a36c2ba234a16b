-- The digits left, stored from k + 1 on, give what all sixteen would have given.
use Rattle.std.proofs.Common.{◌≡◌, ◌+◌, ◌-◌, length}
use Rattle.buffer.specs.Bytes.{stored}
use Rattle.buffer.specs.Digits.{hex}
use Rattle.buffer.proofs.put_group.Given as goal

abbrev pub invariant-loop-k : goal.invariant-loop-k
invariant-loop-k l =
    record { long : length l.text ≡ 17; left : stored l.text (l.k + 1) (hex (16 - l.k) l.n) ≡ stored l.initial.text 1 (hex 16 l.n) }
