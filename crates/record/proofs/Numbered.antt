-- What a trace number changes of a record, and of the records that a call leaves at the front of a buffer.
use Prim.Native.Nat.{ℕ, ◌*◌, ◌^◌, ◌≤◌, ◌<◌}
use native.Mathlib.Omega.{arith}
use mathlib.Core.Path.{◌≡◌, refl, sym, ap, ◌∙◌}
use mathlib.Core.List.{List, [], ◌∷◌, ◌++◌}
use lib.ListN.{length, take, drop, length-append, length-drop}
use lib.Seq.{drop_at}
use Rattle.std.specs.Prelude.{Result, Ok, Err}
use Rattle.answer.specs.Refusal.{value_or, done, ◌then◌}
use Rattle.answer.specs.declared.Refusal.{Refusal}
use Rattle.buffer.specs.Bytes.{word, bytes_of, followed_by}
use Rattle.record.specs.Record.{head_bytes, Ends, record_bytes, joined, record_at, whose_in}
use Rattle.record.specs.Numbered.{unnumbered, Numbered}
use Rattle.record.proofs.Words.{length_record}
use Rattle.record.proofs.Joined.{joined_same, length_joined, at_record}

-- ---- of one record
four_bytes : (n : ℕ) → n < 2 ^ 32 → word (bytes_of 4 n) ≡ n
unfolding word bytes_of
four_bytes n h = omega arith

module _ (first : ℕ) (e : Ends) where
  pub none_is : record_bytes first 0 e ≡ unnumbered first e
  unfolding record_bytes head_bytes bytes_of unnumbered
  none_is = refl

  says_whose : (whose : ℕ) → whose < 2 ^ 32 → whose_in (record_bytes first whose e) ≡ whose
  unfolding record_bytes head_bytes bytes_of
  says_whose whose h = four_bytes whose h

  three_zeros : (whose : ℕ) → take 3 (drop 1 (record_bytes first whose e)) ≡ 0 ∷ 0 ∷ 0 ∷ []
  unfolding record_bytes head_bytes
  three_zeros whose = refl

  any_first : (v w : ℕ) → take 1 (record_bytes first v e) ≡ take 1 (record_bytes first w e)
  unfolding record_bytes head_bytes
  any_first v w = refl

  any_floats : (v w : ℕ) → drop 8 (record_bytes first v e) ≡ drop 8 (record_bytes first w e)
  unfolding record_bytes head_bytes bytes_of
  any_floats v w = refl

-- ---- of the records of some items, each with its first byte and its ends
module _ {A : Type 0} (first : A → ℕ) (ends : A → Ends) where
  abbrev of : ℕ → A → List ℕ
  of whose x = record_bytes (first x) whose (ends x)

  forty : (whose : ℕ) (x : A) → length (of whose x) ≡ 40
  forty whose x = length_record (first x) whose (ends x)

  -- they stand in front of bytes that no number changes
  in_front : (xs : List A) (rest : ℕ → List ℕ) → ((v w : ℕ) → rest v ≡ rest w) → Numbered (λ whose. joined (of whose) xs ++ rest whose) (length xs)
  in_front xs rest same =
      record {
        says = λ whose k b. one whose (λ bs. whose_in bs ≡ whose) (λ x. says_whose (first x) (ends x) whose b) k;
        zeros = λ whose. one whose (λ bs. take 3 (drop 1 bs) ≡ 0 ∷ 0 ∷ 0 ∷ []) (λ x. three_zeros (first x) (ends x) whose);
        same_first = λ v w. both v w (λ bs cs. take 1 bs ≡ take 1 cs) (λ x. any_first (first x) (ends x) v w);
        same_floats = λ v w. both v w (λ bs cs. drop 8 bs ≡ drop 8 cs) (λ x. any_floats (first x) (ends x) v w);
        same_rest = λ v w. after v ∙ same v w ∙ sym (after w);
      }
    where
      both : (v w : ℕ) (P : List ℕ → List ℕ → Type 0) → ((x : A) → P (of v x) (of w x)) → (k : ℕ) → k < length xs
          → P (record_at k (joined (of v) xs ++ rest v)) (record_at k (joined (of w) xs ++ rest w))
      both v w P each k h = at_record (of v) (of w) (forty v) (forty w) (rest v) (rest w) P each xs k h

      one : (whose : ℕ) (P : List ℕ → Type 0) → ((x : A) → P (of whose x)) → (k : ℕ) → k < length xs → P (record_at k (joined (of whose) xs ++ rest whose))
      one whose P = both whose whose (λ bs cs. P bs)

      after : (whose : ℕ) → drop (length xs * 40) (joined (of whose) xs ++ rest whose) ≡ rest whose
      after whose = drop_at (joined (of whose) xs) (rest whose) (length xs * 40) (length_joined (of whose) (forty whose) xs)

  -- ---- what a call leaves of the bytes old, by what it refuses, if anything
  abbrev left : Result (Unit {0}) Refusal → List A → List ℕ → ℕ → List ℕ
  left r xs old whose = value_or old (r then Ok (followed_by (joined (of whose) xs) old))

  pub numbered : (r : Result (Unit {0}) Refusal) (xs : List A) (old : List ℕ) → Numbered (left r xs old) (value_or 0 (r then Ok (length xs)))
  numbered (Ok x) xs old = in_front xs (λ whose. drop (length (joined (of whose) xs)) old) (λ v w. rw (length_joined (of v) (forty v) xs, length_joined (of w) (forty w) xs))
  numbered (Err e) xs old =
      record {
        says = λ whose k b h. absurd (omega arith);
        zeros = λ whose k h. absurd (omega arith);
        same_first = λ v w k h. absurd (omega arith);
        same_floats = λ v w k h. absurd (omega arith);
        same_rest = λ v w. refl;
      }

  pub of_none : (r : Result (Unit {0}) Refusal) (xs : List A) (old : List ℕ)
      → left r xs old 0 ≡ value_or old (r then Ok (followed_by (joined (λ x. unnumbered (first x) (ends x)) xs) old))
  of_none (Ok x) xs old = ap (λ (bs : List ℕ). followed_by bs old) (joined_same (of 0) (λ x. unnumbered (first x) (ends x)) (λ x. none_is (first x) (ends x)) xs)
  of_none (Err e) xs old = refl

  -- as many bytes as before, where the records are known to fit
  pub as_long : (r : Result (Unit {0}) Refusal) (xs : List A) (old : List ℕ) → (r ≡ done → length xs * 40 ≤ length old) → (whose : ℕ) → length (left r xs old whose) ≡ length old
  as_long (Ok tt) xs old fits whose =
      let h : length xs * 40 ≤ length old = fits refl in
      let bs = joined (of whose) xs in
      omega (arith, length-append bs (drop (length bs) old), length-drop (length bs) old, length_joined (of whose) (forty whose) xs)
  as_long (Err e) xs old fits whose = refl
