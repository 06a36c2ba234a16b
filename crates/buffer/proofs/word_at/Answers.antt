-- `word_at` is the word of the slice's part from the place on, where that has 8 bytes.
use Rattle.std.proofs.Common.{arith}
use Rattle.buffer.proofs.Words.{word_here, word_not}
use Rattle.buffer.proofs.word_at.Goals as goal

pub returns-in_default : goal.returns-in_default
returns-in_default c = let h = c.in_default.ensures.lookup.0 in word_not _ _ (omega arith)

pub returns-in_default-first_chunk : goal.returns-in_default-first_chunk
returns-in_default-first_chunk c =
    let h = c.in-Some.ensures.lookup.0 in
    word_not _ _ (omega (arith, c.in_default-first_chunk.ensures.cases))

pub returns : goal.returns
returns c =
    let h = c.in-Some.ensures.lookup.0 in
    word_here _ _ _ _ _ h.0 h.2 c.in-Some-first_chunk.ensures.cases c.from_le_bytes.ensures
