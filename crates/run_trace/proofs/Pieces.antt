-- An input cut between samples: its floats are those of its parts, and the join law does the rest.
use Rattle.std.proofs.Common.{◌≡◌, ℕ, zero, suc, ◌+◌, ◌-◌, ◌*◌, ◌%◌, ◌≤◌, Bool, List, [], ◌∷◌, ◌++◌, length, get_or, take, drop, sym, refl, ap, ◌∙◌, subst, append_assoc, arith, length-append, length-drop, take-append-drop, drop_of_length-le, length-take-le, drop-cons, Option, Some, None}
use lib.Ieee.{Float, nan, binary64, of_bits}
use lib.Seq.{take-append-le, drop-append-le, drop-append-add}
use Rattle.float.proofs.Choice.{when_le}
use Rattle.buffer.specs.Bytes.{word, word_at}
use Rattle.plane.specs.Point.{at}
use Rattle.plane.specs.declared.point.Point.{Point}
use Rattle.plane.specs.declared.rect.Rect.{Rect}
use Rattle.trace.specs.Trace.{trace_cuts}
use Rattle.trace.specs.Promises.{Joined}
use Rattle.trace.proofs.Joins.{joins}
use Rattle.reading.specs.Samples.{float_at, floats_in, floats_from, floats_of}
use Rattle.reading.proofs.Floats.{length_floats}
use Rattle.run_trace.specs.Pieces.{carried, piece_floats, last_after}
use Rattle.run_trace.specs.Promises.{piece_cuts}
use Rattle.run_trace.proofs.Cutting.{last_is}

-- ---- floats of joined bytes
module _ (s t : List ℕ) where
  word_left : (p : ℕ) → p + 8 ≤ length s → word_at (s ++ t) p ≡ word_at s p
  unfolding word_at
  word_left p h =
      let d : drop p (s ++ t) ≡ drop p s ++ t = drop-append-le p s t (omega arith) in
      let e : take 8 (drop p s ++ t) ≡ take 8 (drop p s) = take-append-le 8 (drop p s) t (omega (arith, length-drop p s)) in
      sym (when_le (p + 8) (length (s ++ t)) _ _ _ (omega (arith, length-append s t)) (ap word (sym e ∙ ap (take 8) (sym d))))
      ∙ when_le (p + 8) (length s) _ _ _ h refl

  word_right : (p : ℕ) → p + 8 ≤ length t → word_at (s ++ t) (length s + p) ≡ word_at t p
  unfolding word_at
  word_right p h =
      sym (when_le (length s + p + 8) (length (s ++ t)) _ _ _ (omega (arith, length-append s t)) (ap (λ (l : List ℕ). word (take 8 l)) (sym (drop-append-add s t p))))
      ∙ when_le (p + 8) (length t) _ _ _ h refl

  floats_left : (i k : ℕ) → 8 * (i + k) ≤ length s → floats_from (s ++ t) i k ≡ floats_from s i k
  unfolding floats_from
  floats_left i zero h = refl
  floats_left i (suc k) h =
      let e = ap (of_bits binary64) (word_left (8 * i) (omega arith)) in
      let f = floats_left (i + 1) k (omega arith) in
      cc

  floats_right : (n i k : ℕ) → length s ≡ 8 * n → 8 * (i + k) ≤ length t → floats_from (s ++ t) (n + i) k ≡ floats_from t i k
  unfolding floats_from
  floats_right n i zero l h = refl
  floats_right n i (suc k) l h =
      let p : 8 * (n + i) ≡ length s + 8 * i = omega arith in
      let e = ap (λ (q : ℕ). float_at (s ++ t) q) p ∙ ap (of_bits binary64) (word_right (8 * i) (omega arith)) in
      let q : n + i + 1 ≡ n + (i + 1) = omega arith in
      let f = ap (λ (j : ℕ). floats_from (s ++ t) j k) q ∙ floats_right n (i + 1) k l (omega arith) in
      cc

floats_split : (s : List ℕ) (i n m : ℕ) → floats_from s i (n + m) ≡ floats_from s i n ++ floats_from s (i + n) m
unfolding floats_from
floats_split s i zero m =
    let z : zero + m ≡ m = omega arith in
    let j : i + zero ≡ i = omega arith in
    rw (z, j)
floats_split s i (suc n) m =
    let z : suc n + m ≡ suc (n + m) = omega arith in
    let j : i + suc n ≡ i + 1 + n = omega arith in
    rw (z, j) (ap (λ (l : List Float). float_at s (8 * i) ∷ l) (floats_split s (i + 1) n m))

floats_join : (s t : List ℕ) → length s % 16 ≡ 0 → floats_of (s ++ t) ≡ floats_of s ++ floats_of t
floats_join s t e =
    let n = floats_in s in
    let m = floats_in t in
    let k : floats_in (s ++ t) ≡ n + m = omega (arith, length-append s t) in
    let z : 0 + n ≡ n + 0 = omega arith in
    let l = floats_left s t 0 n (omega arith) in
    let r = ap (λ (j : ℕ). floats_from (s ++ t) j m) z ∙ floats_right s t n 0 m (omega arith) (omega arith) in
    ap (floats_from (s ++ t) 0) k ∙ floats_split (s ++ t) 0 n m ∙ cc

-- ---- the last sample
abbrev pub last_two : List Float → Point
last_two fs = at (get_or fs (length fs - 2) nan) (get_or fs (length fs - 1) nan)

last_split : (fs : List Float) → 2 ≤ length fs → take (length fs - 2) fs ++ ((last_two fs).x ∷ (last_two fs).y ∷ []) ≡ fs
last_split fs h =
    let n = length fs - 2 in
    let k : suc n ≡ length fs - 1 = omega arith in
    let l : length fs ≤ suc (suc n) = omega arith in
    let none : drop (suc (suc n)) fs ≡ [] = drop_of_length-le fs l in
    let a : drop n fs ≡ get_or fs n nan ∷ drop (suc n) fs = drop-cons fs n nan (omega arith) in
    let b : drop (suc n) fs ≡ get_or fs (suc n) nan ∷ drop (suc (suc n)) fs = drop-cons fs (suc n) nan (omega arith) in
    let y : (last_two fs).y ≡ get_or fs (suc n) nan = ap (λ (j : ℕ). get_or fs j nan) (sym k) in
    let c : (last_two fs).x ∷ (last_two fs).y ∷ [] ≡ drop n fs = cc in
    ap (take n fs ++◌) c ∙ take-append-drop n fs

joins_at : (touches : Bool) (w : Rect) (fs gs : List Float) → length fs % 2 ≡ 0 → 2 ≤ length fs
    → Joined (trace_cuts touches w (fs ++ gs)) (trace_cuts touches w fs) (trace_cuts touches w ((last_two fs).x ∷ (last_two fs).y ∷ gs))
joins_at touches w fs gs e h =
    let p = last_two fs in
    let front = take (length fs - 2) fs in
    let all : front ++ (p.x ∷ p.y ∷ []) ≡ fs = last_split fs h in
    let more : front ++ (p.x ∷ p.y ∷ gs) ≡ fs ++ gs = sym (append_assoc front (p.x ∷ p.y ∷ []) gs) ∙ ap (◌++ gs) all in
    let rest = trace_cuts touches w (p.x ∷ p.y ∷ gs) in
    let j = joins touches w front gs p.x p.y (omega (arith, length-take-le (length fs - 2) fs (omega arith))) in
    subst (λ (l : List Float). Joined (trace_cuts touches w l) (trace_cuts touches w fs) rest) more
    (subst (λ (l : List Float). Joined (trace_cuts touches w (front ++ (p.x ∷ p.y ∷ gs))) (trace_cuts touches w l) rest) all j)

even : (before : Option Point) → length (carried before) % 2 ≡ 0
even None = refl
even (Some p) = refl

-- after any samples
pub pieces_after : (touches : Bool) (w : Rect) (before : List Float) (s t : List ℕ) → length before % 2 ≡ 0 → length s % 16 ≡ 0 → 16 ≤ length s
    → Joined (trace_cuts touches w (before ++ floats_of (s ++ t)))
    (trace_cuts touches w (before ++ floats_of s))
    (trace_cuts touches w ((last_two (before ++ floats_of s)).x ∷ (last_two (before ++ floats_of s)).y ∷ floats_of t))
pieces_after touches w before s t b e h =
    let fs = before ++ floats_of s in
    let l = length-append before (floats_of s) in
    let n = length_floats s 0 (floats_in s) in
    let all : fs ++ floats_of t ≡ before ++ floats_of (s ++ t) = append_assoc before (floats_of s) (floats_of t) ∙ ap (before ++◌) (sym (floats_join s t e)) in
    subst (λ (gs : List Float). Joined (trace_cuts touches w gs) (trace_cuts touches w fs) (trace_cuts touches w ((last_two fs).x ∷ (last_two fs).y ∷ floats_of t))) all
    (joins_at touches w fs (floats_of t) (omega (arith, l, n)) (omega (arith, l, n)))

-- after the sample that is carried over, where one is
pub pieces : (touches : Bool) (w : Rect) (before : Option Point) (s t : List ℕ) → length s % 16 ≡ 0 → 16 ≤ length s
    → Joined (piece_cuts touches w before (s ++ t)) (piece_cuts touches w before s) (piece_cuts touches w (last_after before s) t)
unfolding piece_floats
pieces touches w before s t e h =
    let fs = carried before ++ floats_of s in
    let l = length-append (carried before) (floats_of s) in
    let n = length_floats s 0 (floats_in s) in
    let long : 2 ≤ length fs = omega (arith, l, n) in
    subst (λ (o : Option Point). Joined (trace_cuts touches w (carried before ++ floats_of (s ++ t))) (trace_cuts touches w fs) (trace_cuts touches w (carried o ++ floats_of t))) (last_is fs long)
    (pieces_after touches w (carried before) s t (even before) e h)
