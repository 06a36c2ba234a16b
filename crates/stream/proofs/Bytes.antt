-- What was read or written, with what one more call moved.
use Rattle.std.proofs.Common.{◌≡◌, ℕ, ◌+◌, ◌-◌, ◌≤◌, List, ◌++◌, arith, length, take, drop, sym, ap, ◌∙◌, subst, le_refl, drop_at, length-take-le, take_all, length-drop}
use Rattle.std.proofs.lemmas.Slice.{take-put_mid_below}
use Rattle.std.specs.Io.KnownBytes.{Appends, Consumes}
use Rattle.std.proofs.KnownBytes.{Appends-trans, Consumes-trans}
use Rattle.std.specs.declared.option.Option.{Option}
use borrow.Rule.Slice.PartMut.{put_mid, post_of}
use lib.Seq.{take-add, take-append-le}

-- a part of the buffer that the reader filled, and what stands in front of it
filled : (a n : ℕ) (xs ys : List ℕ) → a ≤ length xs → n ≤ length ys → take a xs ++ take n ys ≡ take (a + n) (put_mid a (length xs - a) xs ys)
filled a n xs ys h k =
    let front : take a (put_mid a (length xs - a) xs ys) ≡ take a xs = take-put_mid_below _ _ _ _ _ (le_refl _) h in
    let part : take n (drop a (put_mid a (length xs - a) xs ys)) ≡ take n ys =
    ap (take n) (drop_at (take a xs) (ys ++ post_of a (length xs - a) xs) a (length-take-le a xs h)) ∙ take-append-le n ys _ k in
    sym (take-add a n _ ∙ ap (◌++ take n (drop a (put_mid a (length xs - a) xs ys))) front ∙ ap (take a xs ++◌) part)

pub read_more : (r s t : Option (List ℕ)) (a n : ℕ) (xs ys : List ℕ) → a ≤ length xs → n ≤ length ys
    → Consumes r s (take a xs) → Consumes s t (take n ys) → Consumes r t (take (a + n) (put_mid a (length xs - a) xs ys))
read_more r s t a n xs ys h k p q = subst (Consumes r t) (filled a n xs ys h k) (Consumes-trans r s t _ _ p q)

-- what is left of the buffer was lent to the writer
pub written_more : (r s t : Option (List ℕ)) (a n : ℕ) (xs : List ℕ)
    → Appends r s (take a xs) → Appends s t (take n (take (length xs - a) (drop a xs))) → Appends r t (take (a + n) xs)
written_more r s t a n xs p q =
    let rest : take (length xs - a) (drop a xs) ≡ drop a xs = take_all (length xs - a) (drop a xs) (omega (arith, length-drop a xs)) in
    subst (Appends r t) (sym (take-add a n xs)) (Appends-trans r s t _ _ p (rw rest at q))
