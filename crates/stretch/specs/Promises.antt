-- What is promised of the longest clean stretch, over what the entries answer. Statements only; proofs/Promises.antt has the proofs.
use Rattle.std.specs.Prelude.{ℕ, ◌+◌, ◌*◌, ◌≤◌, ◌<◌, ◌≡◌, ◌↔◌, Bool, true, false, List, [], ◌∷◌, ◌++◌, Float, length, get_or, Ok, Err}
use Rattle.answer.specs.Refusal.{done}
use Rattle.answer.specs.declared.Refusal.{Refusal}
use Rattle.plane.specs.Point.{at}
use Rattle.plane.specs.Within.{InRect}
use Rattle.plane.specs.declared.point.Point.{Point}
use Rattle.plane.specs.declared.rect.Rect.{Rect}
use Rattle.record.specs.Record.{record_at}
use Rattle.clip.specs.Answers.{whole}
use Rattle.clip.specs.Refuse.{point_fine}
use Rattle.trace.specs.Trace.{samples_of, cuts_of}
use Rattle.trace.specs.Records.{cut_bytes, records_of}
use Rattle.trace.specs.Promises.{sample_at}
use Rattle.stretch.specs.Longest.{clean}
use Rattle.stretch.specs.Answers.{stretch_refusal, stretch_of, no_stretch, stretch_or_none, part_of}
use Rattle.stretch.specs.declared.Stretch.{Stretch}

-- the n samples from sample i on are there, and each of them is clean
pub record AllClean (w : Rect) (ps : List Point) (i n : ℕ) : Type 0 where
  pub there : i + n ≤ length ps
  pub each : (j : ℕ) → i ≤ j → j < i + n → clean w (sample_at j ps) ≡ true

-- s is the longest clean stretch of the floats fs
pub record LongestClean (w : Rect) (fs : List Float) (s : Stretch) : Type 0 where
  -- every sample of it is clean
  pub all_clean_lem : AllClean w (samples_of fs) s.first s.count
  -- no clean run is longer, and none as long begins earlier
  pub no_longer : (i n : ℕ) → AllClean w (samples_of fs) i n → n ≤ s.count
  pub none_earlier : (i : ℕ) → AllClean w (samples_of fs) i s.count → s.first ≤ i
  -- an empty one is at the start
  pub empty_at_start : s.count ≡ 0 → s.first ≡ 0

-- the part of the floats fs that is handed back for the stretch s: those from 2 * first up to 2 * (first + count)
pub record Part (fs : List Float) (s : Stretch) : Type 0 where
  pub within : 2 * (s.first + s.count) ≤ length fs
  -- whole pairs
  pub pairs : length (part_of fs s) ≡ 2 * s.count
  -- float j of it is the caller's own at its place
  pub own : (j : ℕ) (otherwise : Float) → j < 2 * s.count → get_or (part_of fs s) j otherwise ≡ get_or fs (2 * s.first + j) otherwise

pub record Promises : Type 0 where
  -- clean: admitted, and in the closed window
  pub clean_is : (w : Rect) (p : Point) → clean w p ≡ true ↔ ((point_fine p ≡ true) × InRect w p)
  pub stretch : (w : Rect) (fs : List Float) (s : Stretch) → stretch_of fs w ≡ Ok s → LongestClean w fs s
  -- what is refused has no stretch, and is handed back as no sample at the start
  pub refused_empty : (w : Rect) (fs : List Float) (e : Refusal) → stretch_refusal (length fs) w ≡ Err e → (stretch_of fs w ≡ Err e) × (stretch_or_none fs w ≡ no_stretch)
  pub part : (w : Rect) (fs : List Float) → Part fs (stretch_or_none fs w)
  -- no other run is the earliest of the longest: what is clean, and no shorter and no later than any, is the answer
  pub only : (w : Rect) (fs : List Float) (s : Stretch) → stretch_refusal (length fs) w ≡ done → LongestClean w fs s → stretch_of fs w ≡ Ok s
  -- every edge within it is drawn as it stands, with touches or without: its record is kept, with both samples as they were, the second but for a coordinate that compares equal to the first's
  pub drawn : (w : Rect) (fs : List Float) (s : Stretch) → stretch_of fs w ≡ Ok s → (touches : Bool) (whose k : ℕ) → s.first ≤ k → k + 1 < s.first + s.count
      → let ps = samples_of fs in
      record_at k (records_of whose (cuts_of touches w ps)) ≡ cut_bytes whose (Ok (whole (sample_at k ps) (sample_at (k + 1) ps)))
  -- a sample that is not clean, added at the end within the limit, changes nothing; a dead one is none that is clean
  pub not_clean_last : (w : Rect) (fs : List Float) (x y : Float) → length fs + 2 ≤ 2 * 4096 → clean w (at x y) ≡ false
      → stretch_of (fs ++ (x ∷ y ∷ [])) w ≡ stretch_of fs w
  pub dead_not_clean : (w : Rect) (p : Point) → point_fine p ≡ false → clean w p ≡ false
