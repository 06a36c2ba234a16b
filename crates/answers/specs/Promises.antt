-- What is promised of the text that requests give. Statements only; proofs/Promises.antt has the proofs.
use Rattle.buffer.specs.Text.{JoinsBlocks, OneLineEach}
use Rattle.answers.specs.Line.{text_of}

pub record Promises : Type 0 where
  -- the text of an input is that of its blocks
  pub blocks : JoinsBlocks 192 text_of
  -- a line each, and one for a last part under 192 bytes
  pub lines : OneLineEach 192 text_of
