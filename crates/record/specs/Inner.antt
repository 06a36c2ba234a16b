-- What the functions here give: the first eight bytes of a record are a word, its head. No entry's contract and no promise cites it: a reader of those can pass it over.
use Rattle.std.specs.Prelude.{ℕ, ◌+◌, ◌*◌, List, ◌++◌}
use Rattle.buffer.specs.Bytes.{bytes_of}
use Rattle.record.specs.Record.{float_bytes, Ends, end_bytes}

-- the first byte is the lowest, and whose it is the high half
abbrev pub head_of : ℕ → ℕ → ℕ
head_of first whose = whose * 0x1_0000_0000 + first

-- a head, and the floats with these bits
unfoldable pub with_head : ℕ → ℕ → ℕ → ℕ → ℕ → List ℕ
with_head head au av bu bv = bytes_of 8 head ++ float_bytes au av bu bv

-- a head, and two points
unfoldable pub headed : ℕ → Ends → List ℕ
headed head e = bytes_of 8 head ++ end_bytes e
