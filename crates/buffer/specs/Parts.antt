-- A part of a buffer, lent to a call; and two calls, each with a part of its own.
use Rattle.std.specs.Prelude.{ℕ, ◌+◌, ◌-◌, ◌≡◌, List, ◌++◌, take, drop}

-- the n bytes of xs from the place p on
abbrev pub part : ℕ → ℕ → List ℕ → List ℕ
part p n xs = take n (drop p xs)

-- xs after a call that was lent them and leaves `call` of them: all other bytes are as they were
abbrev pub in_part : (List ℕ → List ℕ) → ℕ → ℕ → List ℕ → List ℕ
in_part call p n xs = take p xs ++ (call (part p n xs) ++ drop (p + n) xs)

-- xs with one part as a call leaves it, and a later one as another does: the bytes before, between and after them are as they were
abbrev pub in_parts : (List ℕ → List ℕ) → ℕ → ℕ → (List ℕ → List ℕ) → ℕ → ℕ → List ℕ → List ℕ
in_parts one p m other q n xs = take p xs ++ (one (part p m xs) ++ (part (p + m) (q - (p + m)) xs ++ (other (part q n xs) ++ drop (q + n) xs)))

-- the m bytes from p on are lent to one call, and the n from q on, which is no earlier than their end, to another: where q is their end, the parts are neighbours
pub record EitherFirst (one other : List ℕ → List ℕ) (xs : List ℕ) (p m q n : ℕ) : Type 0 where
  -- each is lent the same bytes after the other as before it, and so answers the same
  pub one_lent : part p m (in_part other q n xs) ≡ part p m xs
  pub other_lent : part q n (in_part one p m xs) ≡ part q n xs
  -- whichever is first, in the end each part is as its own call leaves it, and all else is as it was
  pub one_first : in_part other q n (in_part one p m xs) ≡ in_parts one p m other q n xs
  pub other_first : in_part one p m (in_part other q n xs) ≡ in_parts one p m other q n xs
