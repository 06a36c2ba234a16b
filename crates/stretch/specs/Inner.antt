-- What the functions inside ask for and leave. No entry's contract and no promise cites it: a reader of those can pass it over.
use Rattle.std.specs.Prelude.{ℕ, ◌+◌, ◌*◌, ◌/◌, ◌%◌, ◌≤◌, ◌<◌, ◌≡◌, Bool, not, if◌then◌else◌, List, ltb, Float, length}
use Rattle.plane.specs.declared.rect.Rect.{Rect}
use Rattle.trace.specs.Trace.{samples_of}
use Rattle.trace.specs.Promises.{sample_at}
use Rattle.stretch.specs.Longest.{clean, earliest, longest}
use Rattle.stretch.specs.declared.Part.{Part}

-- the longer of two, the first if they are as long
abbrev pub longer : Part → Part → Part
longer a b = if ltb a.length b.length then b else a

-- of a trace that is not refused
pub record Admitted (fs : List Float) : Type 0 where
  pub even : length fs % 2 ≡ 0
  pub few : length fs ≤ 8192

-- a place of a sample, or up to one sample past the last
pub record From (fs : List Float) (from : ℕ) : Type 0 where
  pub trace : Admitted fs
  pub even : from % 2 ≡ 0
  pub few : from ≤ length fs + 2

-- from a place on up to k: each sample passed is not as wanted
pub record Skipped (wanted : Bool) (fs : List Float) (w : Rect) (from k : ℕ) : Type 0 where
  pub begun : From fs from
  pub even : k % 2 ≡ 0
  pub further : from ≤ k
  pub within : from ≤ length fs → k ≤ length fs
  pub few : k ≤ length fs + 2
  pub passed : (j : ℕ) → from ≤ 2 * j → 2 * j < k → clean w (sample_at j (samples_of fs)) ≡ not wanted

-- and the one at k is as wanted, or k is the end
pub record Until (wanted : Bool) (fs : List Float) (w : Rect) (from k : ℕ) : Type 0 where
  pub skipped : Skipped wanted fs w from k
  pub found : k < length fs → clean w (sample_at (k / 2) (samples_of fs)) ≡ wanted

-- the part is the earliest of the longest clean runs
pub record IsLongest (fs : List Float) (w : Rect) (p : Part) : Type 0 where
  pub from : p.from ≡ 2 * earliest w (samples_of fs) (longest w (samples_of fs))
  pub length : p.length ≡ 2 * longest w (samples_of fs)
