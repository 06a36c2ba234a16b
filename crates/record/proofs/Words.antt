-- Five words, one after the other, are a record.
use Prim.Native.Nat.{ℕ, ◌+◌, ◌*◌, ◌/◌, ◌%◌, ◌≤◌, ◌<◌}
use native.Mathlib.Omega.{arith}
use mathlib.Core.Path.{◌≡◌, sym, ap, ◌∙◌}
use mathlib.Core.List.{List, [], ◌++◌, append-nil}
use lib.ListN.{length, drop, length-append, drop_of_length-le}
use Rattle.buffer.specs.Bytes.{bytes_of, stored, placed, followed_by}
use Rattle.buffer.proofs.Stored.{stored_front, placed_fits, placed_length, placed_then, length_bytes}
use Rattle.record.specs.Record.{head_bytes, float_bytes, Ends, end_bytes, record_bytes}
use Rattle.record.specs.Inner.{head_of, with_head, headed}

-- the word of the head: its low byte is the first, its high half whose the record is
head_is : (first whose : ℕ) → first < 256 → bytes_of 8 (head_of first whose) ≡ head_bytes first whose
unfolding bytes_of head_bytes
head_is first whose h =
    let a : head_of first whose % 256 ≡ first = omega arith in
    let b : head_of first whose / 256 ≡ whose * 0x100_0000 = omega arith in
    let c : whose * 0x100_0000 % 256 ≡ 0 = omega arith in
    let d : whose * 0x100_0000 / 256 ≡ whose * 0x1_0000 = omega arith in
    let e : whose * 0x1_0000 % 256 ≡ 0 = omega arith in
    let f : whose * 0x1_0000 / 256 ≡ whose * 0x100 = omega arith in
    let g : whose * 0x100 % 256 ≡ 0 = omega arith in
    let i : whose * 0x100 / 256 ≡ whose = omega arith in
    simp (a, b, c, d, e, f, g, i)

-- a word that fits, then the rest
word_then : (xs ys : List ℕ) (p q n : ℕ) (rest : List ℕ) → ys ≡ placed xs p (bytes_of 8 n) → p + 8 ≤ length xs → q ≡ p + 8 → stored ys q rest ≡ stored xs p (bytes_of 8 n ++ rest)
word_then xs ys p q n rest = placed_then xs ys p q 8 (bytes_of 8 n) rest (length_bytes 8 n)

-- the record is at a place, where its head and its points are
pub record_placed : (xs ys : List ℕ) (p head first whose : ℕ) (e : Ends) → head ≡ head_of first whose → first < 256 → ys ≡ placed xs p (headed head e) → ys ≡ placed xs p (record_bytes first whose e)
unfolding headed record_bytes
record_placed xs ys p head first whose e h f w = w ∙ ap (λ (bs : List ℕ). placed xs p (bs ++ end_bytes e)) (ap (bytes_of 8) h ∙ head_is first whose f)

length_with : (head au av bu bv : ℕ) → length (with_head head au av bu bv) ≡ 40
unfolding with_head float_bytes
length_with head au av bu bv = simp (length-append, length_bytes)

pub length_record : (first whose : ℕ) (e : Ends) → length (record_bytes first whose e) ≡ 40
unfolding record_bytes head_bytes end_bytes float_bytes
length_record first whose e = simp (length-append, length_bytes)

-- ---- a record's five words at a place where they all fit, one after the other
module _ (xs : List ℕ) (p h i j k l : ℕ) where
  pub words_are : (a b c d e : List ℕ) → p + 40 ≤ length xs
      → a ≡ placed xs p (bytes_of 8 h)
      → b ≡ placed a (p + 8) (bytes_of 8 i)
      → c ≡ placed b (p + 16) (bytes_of 8 j)
      → d ≡ placed c (p + 24) (bytes_of 8 k)
      → e ≡ placed d (p + 32) (bytes_of 8 l)
      → e ≡ placed xs p (with_head h i j k l)
  unfolding with_head float_bytes
  words_are a b c d e r ea eb ec ed ee =
      let la = placed_length _ a _ _ ea in
      let lb = placed_length _ b _ _ eb in
      let lc = placed_length _ c _ _ ec in
      let ld = placed_length _ d _ _ ed in
      let w : e ≡ stored d (p + 32) (bytes_of 8 l) = ee ∙ sym (placed_fits d (p + 32) (bytes_of 8 l) (omega (arith, length_bytes 8 l))) in
      let t : stored d (p + 32) (bytes_of 8 l) ≡ stored xs p (with_head h i j k l) =
      word_then c d (p + 24) (p + 32) k _ ed (omega arith) (omega arith)
      ∙ word_then b c (p + 16) (p + 24) j _ ec (omega arith) (omega arith)
      ∙ word_then a b (p + 8) (p + 16) i _ eb (omega arith) (omega arith)
      ∙ word_then xs a p (p + 8) h _ ea (omega arith) (omega arith) in
      w ∙ t ∙ placed_fits xs p (with_head h i j k l) (omega (arith, length_with h i j k l))

-- in as many bytes, they are the record
module _ (xs : List ℕ) (h i j k l : ℕ) where
  pub words_alone : length xs ≡ 40 → (a b c d e : List ℕ)
      → a ≡ placed xs 0 (bytes_of 8 h)
      → b ≡ placed a 8 (bytes_of 8 i)
      → c ≡ placed b 16 (bytes_of 8 j)
      → d ≡ placed c 24 (bytes_of 8 k)
      → e ≡ placed d 32 (bytes_of 8 l)
      → e ≡ with_head h i j k l
  words_alone r a b c d e ea eb ec ed ee =
      let w = words_are xs 0 h i j k l a b c d e (omega arith) ea eb ec ed ee in
      let t : stored xs 0 (with_head h i j k l) ≡ placed xs 0 (with_head h i j k l) = placed_fits xs 0 (with_head h i j k l) (omega (arith, length_with h i j k l)) in
      let f : stored xs 0 (with_head h i j k l) ≡ followed_by (with_head h i j k l) xs = stored_front xs (with_head h i j k l) (omega (arith, length_with h i j k l)) in
      let n : drop (length (with_head h i j k l)) xs ≡ [] = drop_of_length-le xs (omega (arith, length_with h i j k l)) in
      w ∙ sym t ∙ f ∙ ap (with_head h i j k l ++◌) n ∙ append-nil _
