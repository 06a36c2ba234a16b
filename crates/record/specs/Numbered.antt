-- What is promised of a trace number, whatever the records are of; the crates whose entries write records say it of those. Statements only.
use Rattle.std.specs.Prelude.{ℕ, ◌*◌, ◌^◌, ◌<◌, ◌≡◌, List, [], ◌∷◌, take, drop}
use Rattle.record.specs.Record.{Ends, end_bytes, record_at, whose_in}

-- a record as it was before there were trace numbers: a face or a number, seven zero bytes, then the floats
unfoldable pub unnumbered : ℕ → Ends → List ℕ
unnumbered first e = first ∷ 0 ∷ 0 ∷ 0 ∷ 0 ∷ 0 ∷ 0 ∷ 0 ∷ end_bytes e

-- of the buffer that a call leaves, for each trace number that it may be handed, with so many records at the front
pub record Numbered (after : ℕ → List ℕ) (count : ℕ) : Type 0 where
  -- each record says whose it is
  pub says : (whose k : ℕ) → whose < 2 ^ 32 → k < count → whose_in (record_at k (after whose)) ≡ whose
  -- its bytes 1 to 3 are zero
  pub zeros : (whose k : ℕ) → k < count → take 3 (drop 1 (record_at k (after whose))) ≡ 0 ∷ 0 ∷ 0 ∷ []
  -- with another number it has the same first byte and the same floats
  pub same_first : (v w k : ℕ) → k < count → take 1 (record_at k (after v)) ≡ take 1 (record_at k (after w))
  pub same_floats : (v w k : ℕ) → k < count → drop 8 (record_at k (after v)) ≡ drop 8 (record_at k (after w))
  -- and all that follows the records is the same: where there are none, all of the buffer
  pub same_rest : (v w : ℕ) → drop (count * 40) (after v) ≡ drop (count * 40) (after w)
