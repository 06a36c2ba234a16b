-- A text of records: it is written line by line, and it is the texts of its blocks, joined.
use Prim.Native.Nat.{ℕ, zero, suc, ◌+◌, ◌-◌, ◌*◌, ◌/◌, ◌%◌, ◌≤◌, ◌<◌}
use native.Mathlib.Nat.{zero-add, suc-add, add-sub_cancel_left, zero-mul, one-mul, suc-mul, add-mul}
use native.Mathlib.Nat.{mod-eq-sub-div-mul, div-add-mod', mul-add-div_right}
use native.Mathlib.Omega.{arith}
use mathlib.Core.Path.{◌≡◌, refl, sym, ap, ◌∙◌}
use mathlib.Core.List.{List, [], ◌∷◌, ◌++◌, append_assoc}
use lib.ListN.{length, take, drop, length-append, length-drop}
use lib.Seq.{take-append-le, drop-append-le, drop-drop}
use Rattle.float.proofs.Choice.{when_le, when_gt}
use Rattle.buffer.specs.Bytes.{stored}
use Rattle.buffer.specs.Text.{lines_of, text_of, room_for, written, count_written, JoinsBlocks}
use Rattle.buffer.proofs.Stored.{stored_join, length_stored}

-- of a text so many bytes are written, and leave ys
abbrev pub WrittenIn : ℕ → List ℕ → List ℕ → List ℕ → ℕ → Type 0
WrittenIn room text xs ys count = (count ≡ count_written room text xs) × ((ys ≡ written room text xs) × (count ≤ length ys))

-- without room nothing is written
pub none_written : (room : ℕ) (text xs : List ℕ) → length xs < room → WrittenIn room text xs xs 0
none_written room text xs h = (when_gt _ _ _ _ _ h refl, (when_gt _ _ _ _ _ h refl, omega arith))

-- ---- what follows the whole records
abbrev pub last_part : ℕ → List ℕ → List ℕ
last_part size s = drop (length s / size * size) s

length_last : (size : ℕ) (s : List ℕ) → length (last_part size s) ≡ length s % size
length_last size s = length-drop _ s ∙ sym (mod-eq-sub-div-mul (length s) size)

module _ (size : ℕ) (line : List ℕ → List ℕ) (torn : List ℕ) where
  no_part : (p : List ℕ) → length p ≡ 0 → lines_of size line torn 0 p ≡ []
  unfolding lines_of
  no_part [] h = refl
  no_part (b ∷ bs) h = absurd (omega arith)

  some_part : (p : List ℕ) → (length p ≡ 0 → ⊥) → lines_of size line torn 0 p ≡ torn
  unfolding lines_of
  some_part [] h = absurd (h refl)
  some_part (b ∷ bs) h = refl

  pub torn_no : (s : List ℕ) → length s % size ≡ 0 → lines_of size line torn 0 (last_part size s) ≡ []
  torn_no s h = no_part _ (length_last size s ∙ h)

  pub torn_yes : (s : List ℕ) → (length s % size ≡ 0 → ⊥) → lines_of size line torn 0 (last_part size s) ≡ torn
  torn_yes s h = some_part _ (λ e. h (sym (length_last size s) ∙ e))

  -- ---- blocks
  lines_join : (n m : ℕ) (a b : List ℕ) → length a ≡ n * size
      → lines_of size line torn (n + m) (a ++ b) ≡ lines_of size line torn n a ++ lines_of size line torn m b
  unfolding lines_of
  lines_join zero m [] b e = rw zero-add
  lines_join zero m (x ∷ a) b e = absurd (omega (arith, zero-mul size))
  lines_join (suc n) m a b e =
      let l = suc-mul n size in
      let h : size ≤ length a = omega arith in
      let d : length (drop size a) ≡ n * size = length-drop size a ∙ omega arith in
      rw (suc-add, take-append-le, drop-append-le, append_assoc, lines_join n m (drop size a) b d)

  pub joins_blocks : 0 < size → JoinsBlocks size (text_of size line torn)
  unfolding text_of
  joins_blocks z a b h =
      let e : length a ≡ length a / size * size = omega (arith, div-add-mod' (length a) size) in
      let l : length (a ++ b) ≡ length a / size * size + length b = length-append a b ∙ ap (◌+ length b) e in
      let f : length (a ++ b) / size ≡ length a / size + length b / size = ap (◌/ size) l ∙ mul-add-div_right z _ _ in
      rw f (lines_join (length a / size) (length b / size) a b e)

  lines_step : (s : List ℕ) (k : ℕ) → 0 < k
      → lines_of size line torn k s ≡ line (take size s) ++ lines_of size line torn (k - 1) (drop size s)
  unfolding lines_of
  lines_step s zero h = elim h [ ]
  lines_step s (suc k) h = let e : suc k - 1 ≡ k = omega arith in rw e

  -- ---- writing: of n records the lines of i are stored, up to the place `to`. The lines left, stored there, give what the
  -- whole text would have given, and end where it ends.
  abbrev pub lines_left : ℕ → ℕ → List ℕ → List ℕ
  lines_left n i s = lines_of size line torn (n - i) (drop (i * size) s)

  pub record Writing (longest : ℕ) (s out₀ : List ℕ) (n : ℕ) (out : List ℕ) (i to : ℕ) : Type 0 where
    pub within : i ≤ n
    pub all : n ≡ length s / size
    pub room : room_for size longest s ≤ length out₀
    pub same : length out ≡ length out₀
    pub near : to ≤ i * longest
    pub bytes : stored out to (lines_left n i s) ≡ stored out₀ 0 (text_of size line torn s)
    pub ends : to + length (lines_left n i s) ≡ length (text_of size line torn s)

module _ {size : ℕ} {line : List ℕ → List ℕ} {torn : List ℕ} {longest : ℕ} {s out₀ : List ℕ} where
  pub writing_starts : room_for size longest s ≤ length out₀ → Writing size line torn longest s out₀ (length s / size) out₀ 0 0
  unfolding text_of
  writing_starts h =
      let e : length s / size - 0 ≡ length s / size = omega arith in
      let f : 0 * size ≡ 0 = zero-mul size in
      record {
        within = omega arith;
        all = refl;
        room = h;
        same = refl;
        near = omega arith;
        bytes = rw (e, f);
        ends = rw (e, f) (omega arith);
      }

  module _ {n i to : ℕ} {xs : List ℕ} (w : Writing size line torn longest s out₀ n xs i to) where
    -- one more line, l, of the record that was lent
    pub line_written : {ys l : List ℕ} {next : ℕ} → i < n → l ≡ line (take (i * size + size - i * size) (drop (i * size) s))
        → next ≡ to + length l → ys ≡ stored xs to l → next ≤ to + longest
        → Writing size line torn longest s out₀ n ys (i + 1) next
    line_written {ys} {l} {next} h e f k g =
        let a : (i + 1) * size ≡ i * size + size = add-mul i 1 size ∙ ap (i * size +◌) (one-mul size) in
        let b : (i + 1) * longest ≡ i * longest + longest = add-mul i 1 longest ∙ ap (i * longest +◌) (one-mul longest) in
        let c : n - (i + 1) ≡ n - i - 1 = omega arith in
        let m : l ≡ line (take size (drop (i * size) s)) = e ∙ rw add-sub_cancel_left in
        let rest = lines_left size line torn n (i + 1) s in
        let p = lines_step size line torn (drop (i * size) s) (n - i) (omega arith) in
        let q : lines_left size line torn n i s ≡ l ++ rest = p ∙ rw (a, c, m, drop-drop) in
        let t = ap length q ∙ length-append l rest in
        record {
          within = omega arith;
          all = w.all;
          room = w.room;
          same = rw (k, length_stored) w.same;
          near = omega arith;
          bytes = rw (k, f) (stored_join xs to l rest ∙ ap (stored xs to) (sym q) ∙ w.bytes);
          ends = omega arith;
        }

    -- no line is left: that of the last part, e, ends the text
    ended : {ys e : List ℕ} {next : ℕ} → n ≤ i → lines_of size line torn 0 (last_part size s) ≡ e
        → next ≡ to + length e → ys ≡ stored xs to e → length e ≤ 2
        → WrittenIn (room_for size longest s) (text_of size line torn s) out₀ ys next
    ended {e = e} h t f k l =
        let j : i ≡ length s / size = omega arith in
        let o : n - i ≡ 0 = omega arith in
        let m : lines_left size line torn n i s ≡ e = rw (o, j) t in
        let b : i * longest ≡ length s / size * longest = rw j in (
          when_le _ _ _ _ _ w.room (f ∙ ap (λ (r : List ℕ). to + length r) (sym m) ∙ w.ends),
          (when_le _ _ _ _ _ w.room (k ∙ ap (stored xs to) (sym m) ∙ w.bytes), rw (k, length_stored) (omega arith)),
        )

    pub whole_written : n ≤ i → length s % size ≡ 0 → WrittenIn (room_for size longest s) (text_of size line torn s) out₀ xs to
    unfolding stored
    whole_written h t = ended h (torn_no size line torn s t) (omega arith) refl (omega arith)

    pub torn_written : {ys : List ℕ} → n ≤ i → (length s % size ≡ 0 → ⊥) → ys ≡ stored xs to torn → length torn ≡ 2
        → WrittenIn (room_for size longest s) (text_of size line torn s) out₀ ys (to + 2)
    torn_written h t k l = ended h (torn_yes size line torn s t) (omega arith) k (omega arith)
