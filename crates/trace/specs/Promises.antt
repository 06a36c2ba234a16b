-- What is promised of a trace, whether touches are kept or not, and for every trace number. Statements only; proofs/Promises.antt has their proofs.
use Rattle.std.specs.Prelude.{ℕ, ◌+◌, ◌-◌, ◌/◌, ◌%◌, ◌≤◌, ◌<◌, ◌≡◌, ◌↔◌, ◌⊎◌, Bool, true, false, List, [], ◌∷◌, ◌++◌, Float, length, get_or, set, Result, Ok, Err}
use Rattle.float.specs.Choice.{when◌then◌else◌, ◌and◌}
use Rattle.answer.specs.Refusal.{number, value_or, ◌then◌}
use Rattle.answer.specs.declared.Refusal.{Refusal}
use Rattle.answer.specs.declared.Refusal.TheVariants.{Missed}
use Rattle.buffer.specs.Bytes.{followed_by}
use Rattle.record.specs.Record.{joined, record_at}
use Rattle.record.specs.Numbered.{unnumbered, Numbered}
use Rattle.plane.specs.Point.{origin}
use Rattle.plane.specs.Rect.{box_of}
use Rattle.plane.specs.Within.{InRect}
use Rattle.plane.specs.declared.point.Point.{Point}
use Rattle.plane.specs.declared.rect.Rect.{Rect}
use Rattle.clip.specs.Refuse.{point_fine, window_fine}
use Rattle.clip.specs.Answers.{clipped, whole, first_of, second_of}
use Rattle.clip.specs.Values.{every, HandedIn, floats_of, OwnAsks}
use Rattle.clip.specs.Near.{within, KeptFrom}
use Rattle.clip.specs.declared.Segment.{Segment}
use Rattle.trace.specs.Trace.{Clipped, samples_of, same_point, is_touch, edge_cut, cuts_of, trace_cuts}
use Rattle.trace.specs.Records.{cut_ends, cut_bytes, records_of, how_many}
use Rattle.trace.specs.Refuse.{trace_refusal}
use Rattle.trace.specs.Answers.{no_edges, answer_of, buffer_after}
use Rattle.trace.specs.declared.Counts.{Counts}

-- sample k
abbrev pub sample_at : ℕ → List Point → Point
sample_at k ps = get_or ps k origin

-- the records and the counts of the whole are those of its two parts, joined and added
pub record Joined (whole first second : List Clipped) : Type 0 where
  pub records : (whose : ℕ) → records_of whose whole ≡ records_of whose first ++ records_of whose second
  pub counts : (is : Clipped → Bool) → how_many is whole ≡ how_many is first + how_many is second
  pub edges : length whole ≡ length first + length second

-- samples k and k + 1 are there and live, the window is fine, and all their floats can be handed in
pub record LiveEdge (w : Rect) (ps : List Point) (k : ℕ) : Type 0 where
  pub there : k + 1 < length ps
  pub samples : (point_fine (sample_at k ps) and point_fine (sample_at (k + 1) ps)) ≡ true
  pub window : window_fine w ≡ true
  pub floats : HandedIn (floats_of (sample_at k ps) (sample_at (k + 1) ps) w)

-- the bytes are a kept edge's; and a or b, where it lies in the window, is in them as it was: a as a, b as b but for a coordinate that compares equal to a's
pub record KeptEnds (whose : ℕ) (w : Rect) (a b : Point) (bytes : List ℕ) : Type 0 where
  pub points : Segment
  pub kept : bytes ≡ cut_bytes whose (Ok points)
  pub first : InRect w a → first_of points ≡ a
  pub second : InRect w b → second_of points ≡ second_of (whole a b)

-- the bytes are a kept edge's, and each of its two points is the own sample as it was, or was cut at sides of the window and is within 2 ^ (k - 50) of the line
pub record KeptNear (whose k : ℕ) (w : Rect) (a b : Point) (bytes : List ℕ) : Type 0 where
  pub points : Segment
  pub kept : bytes ≡ cut_bytes whose (Ok points)
  pub first : KeptFrom k a b w a (first_of points)
  pub second : KeptFrom k a b w (second_of (whole a b)) (second_of points)

-- what an entry leaves in the buffer xs
pub record Lent (touches : Bool) (xs : List ℕ) (fs : List Float) (w : Rect) : Type 0 where
  -- as many bytes as there were
  pub as_long : (whose : ℕ) → length (buffer_after touches xs fs w whose) ≡ length xs
  -- record k, of those that the answer counts, is that of edge k
  pub records : (whose k : ℕ) → k < (value_or no_edges (answer_of touches fs w (length xs))).edges
      → record_at k (buffer_after touches xs fs w whose) ≡ record_at k (records_of whose (trace_cuts touches w fs))
  -- the trace number is in each of the records that the answer counts, and changes no other byte
  pub numbered : Numbered (buffer_after touches xs fs w) (value_or no_edges (answer_of touches fs w (length xs))).edges
  -- with number 0 the records are as they were before there was one
  pub of_none : buffer_after touches xs fs w 0
      ≡ value_or xs (trace_refusal fs w (length xs) then Ok (followed_by (joined (λ c. unnumbered (number c) (cut_ends c)) (trace_cuts touches w fs)) xs))

-- ---- without touches, beside with them

-- the edge from a to b only touches the window
abbrev pub only_touches : Rect → Point → Point → Bool
only_touches w a b = is_touch a b (clipped a b w)

-- how many edges only touch it
unfoldable pub touches_from : Rect → Point → List Point → ℕ
touches_from w a [] = 0
touches_from w a (b ∷ ps) = (when only_touches w a b then 1 else 0) + touches_from w b ps

unfoldable pub touches_of : Rect → List Point → ℕ
touches_of w [] = 0
touches_of w (a ∷ ps) = touches_from w a ps

-- two answers, the first without touches, of which there are n; their numbers, and the counts beside them
pub record Fewer (n : ℕ) (without with_them : Result Counts Refusal) : Type 0 where
  pub number : number without ≡ number with_them
  pub kept : (value_or no_edges without).kept + n ≡ (value_or no_edges with_them).kept
  pub missed : (value_or no_edges without).missed ≡ (value_or no_edges with_them).missed + n
  pub refused : (value_or no_edges without).refused ≡ (value_or no_edges with_them).refused
  pub edges : (value_or no_edges without).edges ≡ (value_or no_edges with_them).edges

-- the bytes are a kept edge's; and it shows a single point only where both a and b are that point
pub record NoDot (whose : ℕ) (a b : Point) (bytes : List ℕ) : Type 0 where
  pub points : Segment
  pub kept : bytes ≡ cut_bytes whose (Ok points)
  pub single : same_point (first_of points) (second_of points) ≡ true
      → (same_point a (first_of points) ≡ true) × (same_point b (first_of points) ≡ true)

-- record k of the trace, and its edge from a to b
pub record Untouched (whose : ℕ) (w : Rect) (ps : List Point) (k : ℕ) (a b : Point) : Type 0 where
  -- it is another than with touches exactly where the edge only touches the window, and there it is a miss's
  pub same : record_at k (records_of whose (cuts_of false w ps)) ≡ record_at k (records_of whose (cuts_of true w ps)) ↔ (only_touches w a b ≡ false)
  pub missed : only_touches w a b ≡ true → record_at k (records_of whose (cuts_of false w ps)) ≡ cut_bytes whose (Err Missed)
  -- kept, it shows no single point unless both samples are that point
  pub no_dot : get_or (record_at k (records_of whose (cuts_of false w ps))) 0 0 ≡ 0 → NoDot whose a b (record_at k (records_of whose (cuts_of false w ps)))
  -- an edge that is longer than a point within the window is never dropped
  pub longer : (s : Segment) → clipped a b w ≡ Ok s → same_point (first_of s) (second_of s) ≡ false
      → record_at k (records_of whose (cuts_of false w ps)) ≡ cut_bytes whose (Ok s)

pub record Promises : Type 0 where
  -- one edge fewer than samples, and none of no sample
  pub edges : (touches : Bool) (w : Rect) (fs : List Float) → length (trace_cuts touches w fs) ≡ length fs / 2 - 1
  -- each is kept, missed or refused, in every answer
  pub counts : (touches : Bool) (fs : List Float) (w : Rect) (bytes : ℕ)
      → let r = value_or no_edges (answer_of touches fs w bytes) in r.kept + r.missed + r.refused ≡ r.edges
  -- record k is the one record of the trace of samples k and k + 1
  pub own_samples : (touches : Bool) (whose : ℕ) (w : Rect) (ps : List Point) (k : ℕ) → k + 1 < length ps
      → record_at k (records_of whose (cuts_of touches w ps))
      ≡ records_of whose (cuts_of touches w (sample_at k ps ∷ sample_at (k + 1) ps ∷ []))
  -- so another sample at i changes at most the records i - 1 and i
  pub two_at_most : (touches : Bool) (whose : ℕ) (w : Rect) (ps : List Point) (i : ℕ) (p : Point) (k : ℕ)
      → (k ≡ i → ⊥) → (k + 1 ≡ i → ⊥)
      → record_at k (records_of whose (cuts_of touches w (set ps i p))) ≡ record_at k (records_of whose (cuts_of touches w ps))
  -- byte 0 of record k is 2 exactly when sample k or k + 1 is dead
  pub dead : (touches : Bool) (whose : ℕ) (w : Rect) (ps : List Point) (k : ℕ) → k + 1 < length ps
      → (get_or (record_at k (records_of whose (cuts_of touches w ps))) 0 0 ≡ 2)
      ↔ ((point_fine (sample_at k ps) and point_fine (sample_at (k + 1) ps)) ≡ false)
  -- a live edge of which sample k or k + 1 lies in the window is kept, with that sample as it was, where touches are kept or it does not only touch
  pub end_kept : (touches : Bool) (whose : ℕ) (w : Rect) (ps : List Point) (k : ℕ) → LiveEdge w ps k → InRect w (sample_at k ps) ⊎ InRect w (sample_at (k + 1) ps)
      → (touches ≡ true) ⊎ (only_touches w (sample_at k ps) (sample_at (k + 1) ps) ≡ false)
      → KeptEnds whose w (sample_at k ps) (sample_at (k + 1) ps) (record_at k (records_of whose (cuts_of touches w ps)))
  -- record k is that of its edge's own cut, and each value that this asks for lies between the two samples' own coordinates
  pub own_asks : (touches : Bool) (whose : ℕ) (w : Rect) (ps : List Point) (k : ℕ) → LiveEdge w ps k
      → let a = sample_at k ps in let b = sample_at (k + 1) ps in
      (record_at k (records_of whose (cuts_of touches w ps)) ≡ cut_bytes whose (edge_cut touches w a b)) × OwnAsks a b w (box_of a b)
  -- where samples i and i + 1 are at most 2 ^ k, so for k = 0 in -1..1, and record i is kept, its points are near the line
  pub kept_near : (touches : Bool) (whose : ℕ) (w : Rect) (ps : List Point) (i : ℕ) → LiveEdge w ps i → (k : ℕ) → k ≤ 500
      → let a = sample_at i ps in let b = sample_at (i + 1) ps in
      every (within k) (a.x ∷ a.y ∷ b.x ∷ b.y ∷ []) ≡ true → get_or (record_at i (records_of whose (cuts_of touches w ps))) 0 0 ≡ 0
      → KeptNear whose k w a b (record_at i (records_of whose (cuts_of touches w ps)))
  -- a trace cut at the sample x, y, which is sent in both halves
  pub joins : (touches : Bool) (w : Rect) (fs gs : List Float) (x y : Float) → length fs % 2 ≡ 0
      → Joined (trace_cuts touches w (fs ++ (x ∷ y ∷ gs)))
      (trace_cuts touches w (fs ++ (x ∷ y ∷ [])))
      (trace_cuts touches w (x ∷ y ∷ gs))
  -- of the bytes, whatever an entry is handed
  pub lent : (touches : Bool) (xs : List ℕ) (fs : List Float) (w : Rect) → Lent touches xs fs w
  -- without touches beside with them: the records
  pub untouched : (whose : ℕ) (w : Rect) (ps : List Point) (k : ℕ) → k + 1 < length ps → Untouched whose w ps k (sample_at k ps) (sample_at (k + 1) ps)
  -- and the answers, refusals too: their counts differ by the number of edges that only touch
  pub fewer : (fs : List Float) (w : Rect) (bytes : ℕ)
      → Fewer (value_or 0 (trace_refusal fs w bytes then Ok (touches_of w (samples_of fs)))) (answer_of false fs w bytes) (answer_of true fs w bytes)
