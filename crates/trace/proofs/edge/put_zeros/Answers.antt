-- `put_zeros` is the record of zeros beside a number.
use lib.Ieee.{to_bits, of_bits}
use Rattle.record.specs.Record.{end_bytes}
use Rattle.record.specs.Inner.{with_head, headed}
use Rattle.record.proofs.Words.{record_placed, length_record}
use Rattle.trace.proofs.Writing.{placed_whole}
use Rattle.trace.specs.Records.{no_ends}
use borrow.Author.Rules.{rules}
use Rattle.trace.proofs.edge.put_zeros.Goals as goal

pub returns : goal.returns
unfolding headed with_head end_bytes to_bits of_bits
returns c = rw c.number.ensures.is at (placed_whole _ _ _ c.requires (length_record _ _ _) (record_placed _ _ _ _ _ _ no_ends c.head.ensures (search rules) c.put_record.ensures))
