-- What is promised of an input that is worked through in pieces, with touches or without, for every trace number; and of the words. Statements only; proofs/Promises.antt has the proofs.
use Rattle.std.specs.Prelude.{◌≡◌, ℕ, ◌*◌, ◌%◌, ◌≤◌, Bool, ◌↔◌, List, [], ◌∷◌, ◌++◌, length, take, Option, None}
use Rattle.plane.specs.declared.point.Point.{Point}
use Rattle.plane.specs.declared.rect.Rect.{Rect}
use Rattle.trace.specs.Trace.{Clipped, trace_cuts}
use Rattle.trace.specs.Records.{records_of, how_many}
use Rattle.trace.specs.Promises.{Joined}
use Rattle.reading.specs.Samples.{floats_of}
use Rattle.run_trace.specs.declared.words.Word.TheVariants.{Touches}
use Rattle.run_trace.specs.Words.{touches_letters, word_of, asked}
use Rattle.run_trace.specs.Pieces.{piece_floats, last_after, bytes_for, Blocks, joined_blocks, records_of_blocks, count_of_blocks}

-- the edges of a piece
abbrev pub piece_cuts : Bool → Rect → Option Point → List ℕ → List Clipped
piece_cuts touches w before s = trace_cuts touches w (piece_floats before s)

pub record Promises : Type 0 where
  -- What is left of an input after a piece of whole samples, t, gives, after the last sample of the piece, the records and
  -- the counts that are lacking.
  pub pieces : (touches : Bool) (w : Rect) (before : Option Point) (s t : List ℕ) → length s % 16 ≡ 0 → 16 ≤ length s
      → Joined (piece_cuts touches w before (s ++ t)) (piece_cuts touches w before s) (piece_cuts touches w (last_after before s) t)
  -- so an input in blocks has the records and the counts of the whole
  pub whole : (touches : Bool) (whose : ℕ) (w : Rect) (blocks : List (List ℕ)) → Blocks blocks
      → (records_of_blocks touches whose w None blocks ≡ records_of whose (trace_cuts touches w (floats_of (joined_blocks blocks))))
      × ((is : Clipped → Bool) → count_of_blocks touches is w None blocks ≡ how_many is (trace_cuts touches w (floats_of (joined_blocks blocks))))
  -- the samples that the first k edges of a piece join have k edges, with the first k records
  pub first_edges : (touches : Bool) (whose : ℕ) (w : Rect) (before : Option Point) (s : List ℕ) (k : ℕ) → k ≤ length (piece_cuts touches w before s)
      → let first = piece_cuts touches w before (take (bytes_for before k) s) in
      (length first ≡ k) × (records_of whose first ≡ take (k * 40) (records_of whose (piece_cuts touches w before s)))
  -- of two words either may be first
  pub either_order : (s t : List ℕ) → asked (s ∷ t ∷ []) ≡ asked (t ∷ s ∷ [])
  -- the word for touches is one word, letter for letter
  pub touches_word : (s : List ℕ) → word_of s ≡ Touches ↔ (s ≡ touches_letters)
