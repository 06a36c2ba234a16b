-- Bytes stored one after the other.
use Prim.Native.Nat.{ℕ, zero, suc, ◌+◌, ◌-◌, ◌*◌, ◌/◌, ◌%◌, ◌^◌, ◌≤◌, ◌<◌}
use native.Mathlib.Nat.{add-zero}
use native.Mathlib.Numerals.{add-one}
use native.Mathlib.Omega.{arith}
use mathlib.Core.Path.{◌≡◌, refl, sym, ap, ◌∙◌}
use mathlib.Core.List.{List, [], ◌∷◌, ◌++◌, append_assoc, append-nil}
use lib.ListN.{length, set, length-set, take, drop, get_or}
use lib.Dec.{leb}
use lib.Seq.{sets, drop-drop}
use borrow.Rule.Slice.PartMut.{put_mid}
use Rattle.std.proofs.Common.{w64, drop_of_length-le}
use Rattle.std.proofs.lemmas.List.Edits.{sets-eq}
use Rattle.std.specs.Int.{to_le_bytes}
use Rattle.float.proofs.Choice.{cases, when_le, when_gt}
use Rattle.buffer.specs.Bytes.{bytes_of, stored, placed, followed_by}
use Rattle.buffer.specs.Digits.{digit_of, hex, group}

pub length_stored : (xs : List ℕ) (p : ℕ) (bs : List ℕ) → length (stored xs p bs) ≡ length xs
unfolding stored
length_stored xs p [] = refl
length_stored xs p (b ∷ bs) = length_stored (set xs p b) (p + 1) bs ∙ simp length-set

-- one run after another is one run
pub stored_join : (xs : List ℕ) (p : ℕ) (cs bs : List ℕ) → stored (stored xs p cs) (p + length cs) bs ≡ stored xs p (cs ++ bs)
unfolding stored
stored_join xs p [] bs = rw add-zero
stored_join xs p (a ∷ cs) bs =
    let e : p + suc (length cs) ≡ p + 1 + length cs = omega arith in
    rw e (stored_join (set xs p a) (p + 1) cs bs)

-- from the first byte on
stored_ahead : (x : ℕ) (xs : List ℕ) (p : ℕ) (bs : List ℕ) → stored (x ∷ xs) (suc p) bs ≡ x ∷ stored xs p bs
unfolding stored
stored_ahead x xs p [] = refl
stored_ahead x xs p (b ∷ bs) = let e : suc p + 1 ≡ suc (p + 1) = omega arith in rw e (stored_ahead x (set xs p b) (p + 1) bs)

pub stored_front : (xs bs : List ℕ) → length bs ≤ length xs → stored xs 0 bs ≡ followed_by bs xs
unfolding stored
stored_front xs [] h = refl
stored_front [] (b ∷ bs) h = absurd (omega arith)
stored_front (x ∷ xs) (b ∷ bs) h = stored_ahead b xs 0 bs ∙ ap (λ (l : List ℕ). b ∷ l) (stored_front xs bs (omega arith))

-- as std has them
stored_sets : (xs : List ℕ) (p : ℕ) (bs : List ℕ) → stored xs p bs ≡ sets xs p bs
unfolding stored
stored_sets xs p [] = refl
stored_sets xs p (b ∷ bs) = rw add-one (stored_sets (set xs p b) (suc p) bs)

-- what is before the run, the run, and what is after it
stored_part : (xs : List ℕ) (p : ℕ) (bs : List ℕ) → p + length bs ≤ length xs → stored xs p bs ≡ take p xs ++ (bs ++ drop (length bs) (drop p xs))
stored_part xs p bs h = stored_sets xs p bs ∙ sets-eq bs xs p h ∙ rw (drop-drop, append_assoc)

module _ (xs : List ℕ) (p : ℕ) (bs : List ℕ) where
  pub placed_fits : p + length bs ≤ length xs → stored xs p bs ≡ placed xs p bs
  unfolding placed
  placed_fits h = when_le _ _ _ _ _ h refl

  pub placed_not : length xs < p + length bs → xs ≡ placed xs p bs
  unfolding placed
  placed_not h = when_gt _ _ _ _ _ h refl

-- a part that was overwritten
pub placed_part : (xs ys bs : List ℕ) (p n : ℕ) → p + length bs ≤ length xs → n ≡ length bs → ys ≡ bs → put_mid p n xs ys ≡ placed xs p bs
placed_part xs ys bs p n h k e =
    rw (k, e) (sym (stored_part xs p bs h)) ∙ placed_fits xs p bs h

pub placed_length : (xs ys : List ℕ) (p : ℕ) (bs : List ℕ) → ys ≡ placed xs p bs → length ys ≡ length xs
unfolding placed
placed_length xs ys p bs e = rw e (cases (λ (zs : List ℕ). length zs ≡ length xs) (leb (p + length bs) (length xs)) (stored xs p bs) xs (λ h. length_stored xs p bs) (λ h. refl))

-- a run of n bytes that fits, then the rest
pub placed_then : (xs ys : List ℕ) (p q n : ℕ) (bs rest : List ℕ) → length bs ≡ n → ys ≡ placed xs p bs → p + n ≤ length xs → q ≡ p + n → stored ys q rest ≡ stored xs p (bs ++ rest)
placed_then xs ys p q n bs rest l e h k =
    let f : ys ≡ stored xs p bs = e ∙ sym (placed_fits xs p bs (omega arith)) in
    let g : q ≡ p + length bs = omega arith in
    rw (f, g) (stored_join xs p bs rest)

-- ---- digits
pub length_hex : (k n : ℕ) → length (hex k n) ≡ k
unfolding hex
length_hex zero n = refl
length_hex (suc k) n = ap suc (length_hex k n)

pub length_group : (n : ℕ) → length (group n) ≡ 17
unfolding group
length_group n = ap suc (length_hex 16 n)

-- the highest of k digits, stored, leaves the others
pub hex_step : (xs : List ℕ) (p k n : ℕ) → 0 < k → stored xs p (hex k n) ≡ stored (set xs p (digit_of (n / 2 ^ (4 * (k - 1)) % 16))) (p + 1) (hex (k - 1) n)
unfolding stored hex
hex_step xs p zero n h = absurd (omega arith)
hex_step xs p (suc k) n h = let e : suc k - 1 ≡ k = omega arith in rw e

-- of the 16 - k that are left of sixteen
pub hex_next : (xs : List ℕ) (p k n : ℕ) → k < 16 → stored xs p (hex (16 - k) n) ≡ stored (set xs p (digit_of (n / 2 ^ (60 - 4 * k) % 16))) (p + 1) (hex (16 - (k + 1)) n)
hex_next xs p k n h =
    let a : 16 - (k + 1) ≡ 16 - k - 1 = omega arith in
    let b : 60 - 4 * k ≡ 4 * (16 - k - 1) = omega arith in
    rw (a, b) (hex_step xs p (16 - k) n (omega arith))

-- none is left
pub hex_done : (xs : List ℕ) (p k n : ℕ) → 16 ≤ k → xs ≡ stored xs p (hex (16 - k) n)
unfolding stored hex
hex_done xs p k n h = let e : 16 - k ≡ 0 = omega arith in rw e

-- sixteen, stored behind a space, are a group
pub group_is : (xs : List ℕ) (n : ℕ) → length xs ≡ 17 → get_or xs 0 0 ≡ 32 → stored xs 1 (hex 16 n) ≡ group n
unfolding group
group_is [] n l e = absurd (omega arith)
group_is (x ∷ xs) n l e =
    let f = stored_front xs (hex 16 n) (omega (arith, length_hex 16 n)) in
    let d : drop (length (hex 16 n)) xs ≡ [] = drop_of_length-le xs (omega (arith, length_hex 16 n)) in
    stored_ahead x xs 0 (hex 16 n) ∙ rw (e, f) (rw (d, append-nil))

-- ---- bytes of a word
pub length_bytes : (k n : ℕ) → length (bytes_of k n) ≡ k
unfolding bytes_of
length_bytes zero n = refl
length_bytes (suc k) n = ap suc (length_bytes k (n / 256))

-- as std has them
pub le_bytes : (n : ℕ) → to_le_bytes w64 n ≡ bytes_of 8 n
unfolding bytes_of
le_bytes n =
    let a : n / 0x100 / 256 ≡ n / 0x1_0000 = omega arith in
    let b : n / 0x1_0000 / 256 ≡ n / 0x100_0000 = omega arith in
    let c : n / 0x100_0000 / 256 ≡ n / 0x1_0000_0000 = omega arith in
    let d : n / 0x1_0000_0000 / 256 ≡ n / 0x100_0000_0000 = omega arith in
    let e : n / 0x100_0000_0000 / 256 ≡ n / 0x1_0000_0000_0000 = omega arith in
    let f : n / 0x1_0000_0000_0000 / 256 ≡ n / 0x100_0000_0000_0000 = omega arith in
    simp (a, b, c, d, e, f)
