-- A little-endian word out of a slice.
use Prim.Native.Nat.{ℕ, ◌+◌, ◌*◌, ◌≤◌, ◌<◌}
use native.Mathlib.Omega.{arith}
use mathlib.Core.Path.{◌≡◌, refl, ap, ◌∙◌}
use mathlib.Core.List.{List, []}
use native.Mathlib.Numerals.{add-one}
use lib.ListN.{length, take, drop, get_or, length-drop}
use lib.Seq.{drop-cons, length-take-le}
use Rattle.std.proofs.Common.{w64, drop_of_length-le, le_refl}
use Rattle.std.proofs.lemmas.Slice.{between_to_end}
use Rattle.std.specs.Int.{from_le_bytes}
use Rattle.std.specs.Array.{IsFirstChunk}
use Rattle.std.specs.List.{slice_range}
use Rattle.float.proofs.Choice.{when_le, when_gt}
use Rattle.buffer.specs.Bytes.{word, word_at}

-- the byte at a place, below those after it
word_drop : (s : List ℕ) (i : ℕ) → i < length s → word (drop i s) ≡ word (drop (i + 1) s) * 256 + get_or s i 0
unfolding word
word_drop s i h = rw (add-one, drop-cons s i 0 h)

-- as std has it
le_word : (s : List ℕ) → length s ≡ 8 → from_le_bytes w64 s ≡ word s
unfolding word
le_word s l =
    let h : length s ≤ 8 = omega arith in
    let e : drop 8 s ≡ [] = drop_of_length-le s h in
    let d = λ (i : ℕ) (h : i < 8). word_drop s i (omega arith) in
    omega (arith, ap word e, d 0, d 1, d 2, d 3, d 4, d 5, d 6, d 7)

module _ (s : List ℕ) (at : ℕ) where
  pub word_here : (rest bytes : List ℕ) (w : ℕ) → at ≤ length s → rest ≡ slice_range s at (length s) → IsFirstChunk rest bytes 8 → w ≡ from_le_bytes w64 bytes → w ≡ word_at s at
  unfolding word_at
  word_here rest bytes w h e f g =
      let d : rest ≡ drop at s = e ∙ between_to_end s at (length s) (le_refl _) in
      let b : bytes ≡ take 8 (drop at s) = f.same ∙ ap (take 8) d in
      let l : length bytes ≡ 8 = ap length f.same ∙ length-take-le 8 rest f.enough in
      when_le (at + 8) (length s) _ _ _ (omega (arith, f.enough, ap length d, length-drop at s)) (g ∙ le_word bytes l ∙ ap word b)

  pub word_not : length s < at + 8 → 0 ≡ word_at s at
  unfolding word_at
  word_not h = when_gt (at + 8) (length s) _ _ _ h refl
