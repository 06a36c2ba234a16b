-- A trace is samples, x and y in turn. An edge goes from each sample to the next, and is cut to the window by itself.
use Rattle.std.specs.Prelude.{Bool, false, not, List, [], ◌∷◌, Float, Result, Ok, Err}
use Rattle.std.specs.Float.Ieee.{eq}
use Rattle.float.specs.Choice.{when◌then◌else◌, ◌and◌}
use Rattle.answer.specs.declared.Refusal.{Refusal}
use Rattle.answer.specs.declared.Refusal.TheVariants.{Missed}
use Rattle.plane.specs.Point.{at}
use Rattle.plane.specs.declared.point.Point.{Point}
use Rattle.plane.specs.declared.rect.Rect.{Rect}
use Rattle.clip.specs.Answers.{clipped, first_of, second_of}
use Rattle.clip.specs.declared.Segment.{Segment}

unfoldable pub samples_of : List Float → List Point
samples_of [] = []
samples_of (x ∷ []) = []
samples_of (x ∷ y ∷ fs) = at x y ∷ samples_of fs

-- ---- one edge

-- what the cut of an edge gives: the kept points, or why there are none
abbrev pub Clipped : Type 0
Clipped = Result Segment Refusal

-- a and b are the same point: their coordinates compare equal
abbrev pub same_point : Point → Point → Bool
same_point a b = eq a.x b.x and eq a.y b.y

-- the two kept points are the same point, though the edge's own ends differ
unfoldable pub touching : Point → Point → Segment → Bool
touching a b s = same_point (first_of s) (second_of s) and not (same_point a b)

-- of an edge's cut: the edge only touches the window
unfoldable pub is_touch : Point → Point → Clipped → Bool
is_touch a b (Ok s) = touching a b s
is_touch a b (Err e) = false

-- an edge that only touches the window counts as missed
unfoldable pub untouched : Point → Point → Clipped → Clipped
untouched a b c = when is_touch a b c then Err Missed else c

-- touches are kept, or not
unfoldable pub edge_cut : Bool → Rect → Point → Point → Clipped
edge_cut touches w a b = when touches then clipped a b w else untouched a b (clipped a b w)

-- ---- the edges, in order; no sample or one gives none

unfoldable pub cuts_from : Bool → Rect → Point → List Point → List Clipped
cuts_from touches w a [] = []
cuts_from touches w a (b ∷ ps) = edge_cut touches w a b ∷ cuts_from touches w b ps

unfoldable pub cuts_of : Bool → Rect → List Point → List Clipped
cuts_of touches w [] = []
cuts_of touches w (a ∷ ps) = cuts_from touches w a ps

abbrev pub trace_cuts : Bool → Rect → List Float → List Clipped
trace_cuts touches w fs = cuts_of touches w (samples_of fs)
