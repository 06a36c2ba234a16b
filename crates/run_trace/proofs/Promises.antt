-- The promises, proved.
use Rattle.run_trace.specs.Promises.{Promises}
use Rattle.run_trace.proofs.Pieces.{pieces}
use Rattle.run_trace.proofs.Blocks.{whole, first_edges}
use Rattle.run_trace.proofs.Letters.{either_order, touches_word}

pub promises : Promises
promises = record { pieces = pieces; whole = whole; first_edges = first_edges; either_order = either_order; touches_word = touches_word }
