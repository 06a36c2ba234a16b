-- The digits of the bytes so far are written.
use Rattle.std.proofs.Common.{◌≡◌, ◌*◌, length, take}
use Rattle.answers.specs.Lent.{bytes_text}
use Rattle.answers.proofs.written.put_digits.Given as goal

abbrev pub invariant-loop-i : goal.invariant-loop-i
invariant-loop-i l = (length l.out ≡ 2 * length l.bytes) × (take (2 * l.i) l.out ≡ bytes_text (take l.i l.bytes))
