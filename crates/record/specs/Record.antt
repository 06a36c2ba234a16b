-- The 40-byte record: byte 0 a face or a number, bytes 1 to 3 zero, bytes 4 to 7 the trace number, which says whose it is, then a.u, a.v, b.u, b.v, a float as its bits. All little-endian.
use Rattle.std.specs.Prelude.{ℕ, ◌*◌, List, [], ◌∷◌, ◌++◌, Float, take, drop}
use Rattle.std.specs.Float.{binary64}
use Rattle.std.specs.Float.Ieee.{to_bits}
use Rattle.buffer.specs.Bytes.{word, bytes_of}

-- the first eight bytes
unfoldable pub head_bytes : ℕ → ℕ → List ℕ
head_bytes first whose = first ∷ 0 ∷ 0 ∷ 0 ∷ bytes_of 4 whose

-- the other 32, with these bits for the floats
unfoldable pub float_bytes : ℕ → ℕ → ℕ → ℕ → List ℕ
float_bytes au av bu bv = bytes_of 8 au ++ (bytes_of 8 av ++ (bytes_of 8 bu ++ bytes_of 8 bv))

-- the two points of a record
pub record Ends : Type 0 where
  pub au : Float
  pub av : Float
  pub bu : Float
  pub bv : Float

unfoldable pub end_bytes : Ends → List ℕ
end_bytes e = float_bytes (to_bits binary64 e.au) (to_bits binary64 e.av) (to_bits binary64 e.bu) (to_bits binary64 e.bv)

unfoldable pub record_bytes : ℕ → ℕ → Ends → List ℕ
record_bytes first whose e = head_bytes first whose ++ end_bytes e

-- ---- records one after the other, with no header

module _ {A : Type 0} (bytes : A → List ℕ) where
  unfoldable pub joined : List A → List ℕ
  joined [] = []
  joined (x ∷ xs) = bytes x ++ joined xs

-- record k of some bytes
abbrev pub record_at : ℕ → List ℕ → List ℕ
record_at k bytes = take 40 (drop (k * 40) bytes)

-- whose a record is
abbrev pub whose_in : List ℕ → ℕ
whose_in bytes = word (take 4 (drop 4 bytes))
