-- What is promised of the text that an input gives. Statements only; proofs/Promises.antt has the proofs.
use Rattle.buffer.specs.Text.{JoinsBlocks, OneLineEach}
use Rattle.cut.specs.Line.{text_of}

pub record Promises : Type 0 where
  -- the text of an input is that of its blocks
  pub blocks : JoinsBlocks 64 text_of
  -- a line each, and one for a last part under 64 bytes
  pub lines : OneLineEach 64 text_of
