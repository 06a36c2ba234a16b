-- What is promised of the boxes and of the search, over what the entries answer. Statements only; proofs/Promises.antt has the proofs.
use Rattle.std.specs.Prelude.{ℕ, suc, ◌+◌, ◌-◌, ◌*◌, ◌/◌, ◌≤◌, ◌<◌, max, ◌≡◌, ◌↔◌, ◌⊎◌, true, false, List, [], ◌∷◌, Float, length, get_or, drop, Option, None, Some, Ok}
use Rattle.std.specs.Float.{nan}
use Rattle.float.specs.Choice.{when◌then◌else◌}
use Rattle.float.specs.Float.{zero_f, one_f}
use Rattle.answer.specs.Refusal.{done, value_or}
use Rattle.plane.specs.Rect.{empty_rect, box_of, contains_rect, intersects_rect}
use Rattle.plane.specs.Within.{InRect}
use Rattle.plane.specs.declared.point.Point.{Point}
use Rattle.plane.specs.declared.rect.Rect.{Rect}
use Rattle.record.specs.Record.{record_at}
use Rattle.clip.specs.Refuse.{point_fine, window_fine}
use Rattle.trace.specs.Trace.{Clipped, samples_of, trace_cuts}
use Rattle.trace.specs.Records.{is_kept}
use Rattle.trace.specs.Answers as trace
use Rattle.trace.specs.declared.Counts.{Counts}
use Rattle.trace.specs.Promises.{sample_at}
use Rattle.pages.specs.Halves.{Halves, single, halved, edges_in, halves_of}
use Rattle.pages.specs.Boxes.{live_edge, five_floats, extent_of}
use Rattle.pages.specs.Search.{box_at, opens, kept_at, none}
use Rattle.pages.specs.Answers.{edge_count, pages_refusal, kept_refusal, pages_answer, buffer_after, kept_answer}
use Rattle.pages.specs.declared.Found.{Found}

-- ---- the boxes

-- how deep halves lie in halves: so deep the functions call themselves
unfoldable pub levels : Halves → ℕ
levels single = 1
levels (halved f s) = suc (max (levels f) (levels s))

-- from the box at place i, of the n edges from edge k on, down to one that is below it: its place, how many edges, and from which on
pub data Below (n i k : ℕ) : ℕ → ℕ → ℕ → Type 0 where
  itself : Below n i k n i k
  first : {m j l : ℕ} → Below n i k m j l → 2 ≤ m → Below n i k (m - m / 2) (j + 1) l
  second : {m j l : ℕ} → Below n i k m j l → 2 ≤ m → Below n i k (m / 2) (j + 2 * (m - m / 2)) (l + (m - m / 2))

-- edge j is one of the n edges from edge k on, and neither of its samples is refused
pub record Live (ps : List Point) (n k j : ℕ) : Type 0 where
  pub from : k ≤ j
  pub to : j < k + n
  pub live : live_edge (sample_at j ps) (sample_at (j + 1) ps) ≡ true

abbrev pub mark_at : List Float → ℕ → Float
mark_at bs i = get_or bs (5 * i + 4) nan

-- the box at place i, of the n edges from edge k on
pub record OwnBox (bs : List Float) (ps : List Point) (n i k : ℕ) : Type 0 where
  -- its five floats, each as the definition has it
  pub floats : (j : ℕ) → j < 5 → get_or bs (5 * i + j) nan ≡ get_or (five_floats (extent_of ps (halves_of n) k)) j nan
  -- it holds every point of the box of each live edge below it
  pub covers : (j : ℕ) (p : Point) → Live ps n k j → InRect (box_of (sample_at j ps) (sample_at (j + 1) ps)) p → InRect (box_at bs i) p
  -- and lies within every rectangle that contains all of these
  pub least : (r : Rect) → ((j : ℕ) → Live ps n k j → contains_rect r (box_of (sample_at j ps) (sample_at (j + 1) ps)) ≡ true) → contains_rect r (box_at bs i) ≡ true
  -- the mark is 1 where there is one; where there is none it is 0, and the rectangle empty
  pub marked : (j : ℕ) → Live ps n k j → mark_at bs i ≡ one_f
  pub unmarked : ((j : ℕ) → Live ps n k j → ⊥) → (mark_at bs i ≡ zero_f) × (box_at bs i ≡ empty_rect)

-- what `build_pages` leaves in the buffer xs
pub record Built (xs fs : List Float) : Type 0 where
  pub as_long : length (buffer_after xs fs) ≡ length xs
  -- past the floats that it says were written all stay; where something is refused, every one
  pub rest_stays : (i : ℕ) → value_or 0 (pages_answer (length fs) (length xs)) ≤ i → drop i (buffer_after xs fs) ≡ drop i xs
  -- where nothing is, every box of the trace's, and that it contains those below it
  pub own : pages_refusal (length fs) (length xs) ≡ done → (n i k : ℕ) → Below (edge_count (length fs)) 0 0 n i k → 1 ≤ n → OwnBox (buffer_after xs fs) (samples_of fs) n i k
  pub holds : pages_refusal (length fs) (length xs) ≡ done → (n i k m j l : ℕ) → Below (edge_count (length fs)) 0 0 n i k → 1 ≤ n → Below n i k m j l
      → contains_rect (box_at (buffer_after xs fs) i) (box_at (buffer_after xs fs) j) ≡ true

-- the same sample, or both dead
abbrev pub SameOrDead : Point → Point → Type 0
SameOrDead p q = (p ≡ q) ⊎ ((point_fine p ≡ false) × (point_fine q ≡ false))

-- ---- the search

-- a full scan of a trace's cuts, numbered from k on: the first that is kept
unfoldable pub first_kept : ℕ → List Clipped → Option ℕ
first_kept k [] = None
first_kept k (c ∷ cs) = when is_kept c then Some k else first_kept (suc k) cs

-- the edge found, beside the counts n that `cut_trace_with_touches` answers and what it leaves in a buffer ys that it fits in
pub record Scanned (fs : List Float) (w : Rect) (whose : ℕ) (ys : List ℕ) (n : Counts) (found : Option ℕ) : Type 0 where
  -- none exactly when it keeps no edge
  pub none_kept : found ≡ None ↔ (n.kept ≡ 0)
  -- one that is found is one of the trace, and its record says kept; no record before it does
  pub there : (k : ℕ) → found ≡ Some k → k < edge_count (length fs)
  pub kept : (k : ℕ) → found ≡ Some k → get_or (record_at k (trace.buffer_after true ys fs w whose)) 0 0 ≡ 0
  pub lowest : (k : ℕ) → found ≡ Some k → (j : ℕ) → j < k → get_or (record_at j (trace.buffer_after true ys fs w whose)) 0 0 ≡ 0 → ⊥

pub record Promises : Type 0 where
  -- no edge is lost; more than one are two halves, of an odd number the first the longer; 13 levels hold 4,096
  pub all_edges : (n : ℕ) → 1 ≤ n → edges_in (halves_of n) ≡ n
  pub two_halves : (n : ℕ) → 2 ≤ n → halves_of n ≡ halved (halves_of (n - n / 2)) (halves_of (n / 2))
  pub few_levels : (n : ℕ) → n ≤ 4096 → levels (halves_of n) ≤ 13
  pub built : (xs fs : List Float) → Built xs fs
  -- another dead value in place of a dead one changes nothing: neither what is built, nor what is found
  pub dead_alike : (fs gs : List Float) → length fs ≡ length gs → ((k : ℕ) → SameOrDead (sample_at k (samples_of fs)) (sample_at k (samples_of gs)))
      → ((xs : List Float) → buffer_after xs fs ≡ buffer_after xs gs) × ((w : Rect) (bs : List Float) → kept_answer fs w bs ≡ kept_answer gs w bs)
  -- on the buffer that this trace filled, whatever was in it, `first_kept` refuses nothing and finds what a full scan finds, touches kept
  pub scan : (fs xs : List Float) (w : Rect) → pages_refusal (length fs) (length xs) ≡ done → window_fine w ≡ true
      → (r : Found) × (kept_answer fs w (buffer_after xs fs) ≡ Ok r) × (r.edge ≡ first_kept 0 (trace_cuts true w fs))
  -- which is what `cut_trace_with_touches` keeps
  pub scanned : (fs xs : List Float) (w : Rect) (whose : ℕ) (ys : List ℕ) (n : Counts) → pages_refusal (length fs) (length xs) ≡ done
      → trace.answer_of true fs w (length ys) ≡ Ok n
      → (r : Found) × (kept_answer fs w (buffer_after xs fs) ≡ Ok r) × Scanned fs w whose ys n r.edge
  -- on any buffer, and whatever is refused: of m edges at most 2m - 1 boxes are opened, so none of no edge
  pub at_most : (fs bs : List Float) (w : Rect) → (value_or (none 0) (kept_answer fs w bs)).opened ≤ 2 * edge_count (length fs) - 1
  -- an edge that is found is one of the trace, and kept
  pub found_kept : (fs bs : List Float) (w : Rect) (r : Found) (k : ℕ) → kept_answer fs w bs ≡ Ok r → r.edge ≡ Some k
      → (k < edge_count (length fs)) × (kept_at w (samples_of fs) k ≡ true)
  -- one box where the outermost does not open, and no edge
  pub outermost : (fs bs : List Float) (w : Rect) → kept_refusal (length fs) w (length bs) ≡ done → 0 < edge_count (length fs) → opens bs w 0 ≡ false
      → kept_answer fs w bs ≡ Ok (none 1)
  -- on the buffer that this trace filled that is where it has no live edge, or its box misses the window
  pub off_page : (fs xs : List Float) (w : Rect) → pages_refusal (length fs) (length xs) ≡ done → window_fine w ≡ true → 0 < edge_count (length fs)
      → ((j : ℕ) → Live (samples_of fs) (edge_count (length fs)) 0 j → ⊥) ⊎ (intersects_rect (box_at (buffer_after xs fs) 0) w ≡ false)
      → kept_answer fs w (buffer_after xs fs) ≡ Ok (none 1)
  -- a box with a NaN among its five floats does not open
  pub nan_shut : (bs : List Float) (w : Rect) (i j : ℕ) → window_fine w ≡ true → j < 5 → get_or bs (5 * i + j) nan ≡ nan → opens bs w i ≡ false
