-- Digits stored one after the other make a number, and numbers a line.
use Prim.Native.Nat.{ℕ, ◌+◌, ◌/◌, ◌%◌, ◌≤◌, ◌<◌}
use native.Mathlib.Omega.{arith}
use mathlib.Core.Path.{◌≡◌, refl, ap, ◌∙◌}
use mathlib.Core.List.{List, [], ◌∷◌, ◌++◌}
use lib.ListN.{length, set, length-append}
use Rattle.buffer.specs.Bytes.{stored, followed_by}
use Rattle.buffer.proofs.Stored.{stored_join, stored_front, length_stored}
use Rattle.std.proofs.Common.{Result}
use Rattle.std.specs.Result.{result_unwrap_or}
use Rattle.answer.specs.Refusal.{number}
use Rattle.answer.specs.declared.Refusal.{Refusal}
use Rattle.stretch.specs.Answers.{no_stretch}
use Rattle.stretch.specs.declared.Stretch.{Stretch}
use Rattle.run_stretch.specs.Line.{decimal, ended, line_of}
use Rattle.run_stretch.proofs.Decimal.{one_digit, more_digits}

-- bs was stored in xs from `to` on, and left ys; `at` is the place after it
abbrev pub Stored : List ℕ → ℕ → List ℕ → List ℕ → ℕ → Type 0
Stored xs to bs ys at = (at ≡ to + length bs) × (ys ≡ stored xs to bs)

-- one byte more
then_byte : (xs ys bs cs : List ℕ) (to at b : ℕ) → bs ++ (b ∷ []) ≡ cs → Stored xs to bs ys at → Stored xs to cs (set ys at b) (at + 1)
unfolding stored
then_byte xs ys bs cs to at b e (p, q) = (rw (← e) (omega (arith, length-append bs (b ∷ []))), rw (q, p) (stored_join xs to bs (b ∷ []) ∙ ap (stored xs to) e))

module _ (xs : List ℕ) (to n : ℕ) where
  pub one_stored : n ≤ 9 → Stored xs to (decimal n) (set xs to (48 + n)) (to + 1)
  unfolding stored
  one_stored h = (ap (λ (bs : List ℕ). to + length bs) (one_digit n h), ap (stored xs to) (one_digit n h))

  pub more_stored : (ys : List ℕ) (at : ℕ) → 9 < n → Stored xs to (decimal (n / 10)) ys at → Stored xs to (decimal n) (set ys at (48 + n % 10)) (at + 1)
  more_stored ys at h = then_byte xs ys (decimal (n / 10)) (decimal n) to at (48 + n % 10) (more_digits n h)

  pub ended_stored : (ys : List ℕ) (at b : ℕ) → Stored xs to (decimal n) ys at → Stored xs to (ended n b) (set ys at b) (at + 1)
  unfolding ended
  ended_stored ys at b = then_byte xs ys (decimal n) (decimal n ++ (b ∷ [])) to at b refl

-- three of them, from the first byte on
pub line_stored : (a : Result Stretch Refusal) (n : ℕ) (run : Stretch) (xs ys zs us : List ℕ) (p q r : ℕ) → n ≡ number a → run ≡ result_unwrap_or a no_stretch → 63 ≤ length xs
    → Stored xs 0 (ended n 32) ys p → Stored ys p (ended run.first 32) zs q → Stored zs q (ended run.count 10) us r → r ≤ 63
    → (r ≡ length (line_of a)) × ((us ≡ followed_by (line_of a) xs) × (r ≤ length us))
unfolding line_of
line_stored a n run xs ys zs us p q r en erun h (ep, ey) (eq, ez) (er, eu) m =
    let b = ended n 32 in
    let f = ended run.first 32 in
    let c = ended run.count 10 in
    let line : line_of a ≡ b ++ (f ++ c) = rw (en, erun) refl in
    let l : r ≡ length (b ++ (f ++ c)) = simp length-append (omega arith) in
    let s : us ≡ stored ys p (f ++ c) = eu ∙ rw (ez, eq) (stored_join ys p f c) in
    let t : us ≡ stored xs 0 (b ++ (f ++ c)) = s ∙ rw (ey, ep) (stored_join xs 0 b (f ++ c)) in
    rw line (l, (t ∙ stored_front xs (b ++ (f ++ c)) (omega arith), omega (arith, ap length t, length_stored xs 0 (b ++ (f ++ c)))))
