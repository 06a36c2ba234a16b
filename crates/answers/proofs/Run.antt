-- A group that is put behind what is written follows it.
use Rattle.std.proofs.Common.{◌≡◌, ℕ, suc, ◌+◌, ◌≤◌, List, [], ◌∷◌, ◌++◌, length, take, ◌∙◌, append_assoc, append-nil, arith}
use native.Mathlib.Nat.{add-zero}
use Rattle.std.proofs.Math.ListN.{set, length-set}
use Rattle.std.proofs.lemmas.List.{take_more_set}
use Rattle.buffer.specs.Bytes.{stored, placed}
use Rattle.buffer.specs.Digits.{group}
use Rattle.buffer.proofs.Stored.{placed_fits, length_group}

take_stored : (xs : List ℕ) (p : ℕ) (bs : List ℕ) → p + length bs ≤ length xs → take (p + length bs) (stored xs p bs) ≡ take p xs ++ bs
unfolding stored
take_stored xs p [] h = simp (add-zero, append-nil)
take_stored xs p (b ∷ bs) h =
    let e : p + suc (length bs) ≡ p + 1 + length bs = omega arith in
    rw e (take_stored (set xs p b) (p + 1) bs (omega (arith, length-set xs p b)) ∙ simp (take_more_set xs p b (omega arith), append_assoc))

pub take_group : (xs ys : List ℕ) (p w : ℕ) → p + 17 ≤ length xs → ys ≡ placed xs p (group w) → take (p + 17) ys ≡ take p xs ++ group w
take_group xs ys p w h e =
    let l = length_group w in
    let f : p + length (group w) ≡ p + 17 = omega (arith, l) in
    rw (e, ← placed_fits xs p (group w) (omega (arith, l)), ← f) (take_stored xs p (group w) (omega (arith, l)))
