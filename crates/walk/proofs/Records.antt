-- Records one after the other: how long they are, and one stored before the rest.
use Prim.Native.Nat.{ℕ, zero, suc, ◌+◌, ◌-◌, ◌*◌, ◌≤◌, ◌<◌}
use native.Mathlib.Omega.{arith}
use mathlib.Core.Path.{◌≡◌, refl, sym, ap}
use mathlib.Core.List.{List, [], ◌∷◌, ◌++◌}
use mathlib.Core.Bool.{Bool, true, false}
use lib.Dec.{eqb}
use lib.ListN.{length}
use Rattle.float.specs.Choice.{when◌then◌else◌}
use Rattle.float.proofs.Choice.{cases, when_eq, when_ne}
use Rattle.buffer.specs.Bytes.{stored, placed}
use Rattle.cube.specs.declared.vector.Vector.{Vector}
use Rattle.cube.specs.declared.compute.Uv.{Uv}
use Rattle.line.specs.Line.{left_at, onward}
use Rattle.record.specs.Record.{record_bytes, joined}
use Rattle.record.proofs.Words.{length_record}
use Rattle.record.proofs.Ahead.{Ahead, ahead}
use Rattle.record.proofs.Joined.{length_joined}
use Rattle.walk.specs.Walk.{moved_to, Segment, segment, segments, count_of, ends_of, segment_ends, segment_bytes, records_of}

-- ---- how long
pub length_records : (whose : ℕ) (ss : List Segment) → length (records_of whose ss) ≡ length ss * 40
length_records whose ss = length_joined (segment_bytes whose) (λ s. length_record s.face whose (segment_ends s)) ss

either : (c : Bool) (s r : Segment) (ss : List Segment) (n : ℕ) → length ss ≡ n → length (when c then s ∷ [] else r ∷ ss) ≡ (when c then 1 else suc n)
unfolding when◌then◌else◌
either true s r ss n e = refl
either false s r ss n e = ap suc e

pub length_segments : (k : ℕ) (p : Vector) (f : ℕ) (a : Uv) (t : ℕ) (b : Uv) → length (segments k p f a t b) ≡ count_of k p f t
unfolding segments count_of
length_segments zero p f a t b = refl
length_segments (suc k) p f a t b = either (eqb f t) _ _ _ _ (length_segments k p (onward p f t) _ t b)

count_within : (k : ℕ) (p : Vector) (f t : ℕ) → count_of k p f t ≤ k
unfolding count_of
count_within zero p f t = omega arith
count_within (suc k) p f t = cases (λ (n : ℕ). n ≤ suc k) (eqb f t) _ _ (λ e. omega arith) (λ e. omega (arith, count_within k p (onward p f t) t))

-- k faces have at most k records
pub records_within : (whose k : ℕ) (p : Vector) (f : ℕ) (a : Uv) (t : ℕ) (b : Uv) → length (records_of whose (segments k p f a t b)) ≤ k * 40
records_within whose k p f a t b = omega (arith, length_records whose (segments k p f a t b), length_segments k p f a t b, count_within k p f t)

-- ---- a record, then the rest
module _ (whose : ℕ) (p : Vector) (f : ℕ) (a : Uv) (t : ℕ) (b : Uv) where
  records_last : (k : ℕ) → 0 < k → f ≡ t → records_of whose (segments k p f a t b) ≡ record_bytes f whose (ends_of a b) ++ []
  unfolding segments joined
  records_last zero h e = absurd (omega arith)
  records_last (suc k) h e = sym (ap (records_of whose) (when_eq f t (segment f a b ∷ []) (segment f a b ∷ []) _ e refl))

  records_onward : (k : ℕ) (e c : Uv) (g : ℕ) → 0 < k → (f ≡ t → ⊥) → e ≡ left_at p f → g ≡ onward p f t → c ≡ moved_to f e g
      → records_of whose (segments k p f a t b) ≡ record_bytes f whose (ends_of a e) ++ records_of whose (segments (k - 1) p g c t b)
  unfolding segments joined
  records_onward zero e c g h n ee eg ec = absurd (omega arith)
  records_onward (suc k) e c g h n ee eg ec = let d : suc k - 1 ≡ k = omega arith in rw (ec, eg, ee, d) (sym (ap (records_of whose) (when_ne f t _ _ _ n refl)))

-- ---- one record that fits at a place, then the rest at the next
module _ (xs ys : List ℕ) (to whose : ℕ) (p : Vector) (f : ℕ) (a : Uv) (t : ℕ) (b : Uv) (k : ℕ) (h : 0 < k) (r : to + length (records_of whose (segments k p f a t b)) ≤ length xs) where
  -- at the target it is the last
  pub last_stored : f ≡ t → ys ≡ placed xs to (record_bytes f whose (ends_of a b)) → ys ≡ stored xs to (records_of whose (segments k p f a t b))
  unfolding stored
  last_stored e w = (ahead xs ys to f whose (ends_of a b) [] _ (records_last whose p f a t b k h e) r w).same

  -- and else the walk goes on from there
  pub goes_on : (e c : Uv) (g : ℕ) → (f ≡ t → ⊥) → ys ≡ placed xs to (record_bytes f whose (ends_of a e)) → e ≡ left_at p f → g ≡ onward p f t → c ≡ moved_to f e g
      → Ahead xs ys to (records_of whose (segments (k - 1) p g c t b)) (records_of whose (segments k p f a t b))
  goes_on e c g n w ee eg ec = ahead xs ys to f whose (ends_of a e) _ _ (records_onward whose p f a t b k e c g h n ee eg ec) r w
