-- Document 01's instances marked P, as the change requests have them, and the limits of what is admitted, one table under a single statement, over the entries' own definitions, which their contracts cite.
use Rattle.std.specs.Prelude.{◌≡◌, ℕ, Bool, true, false, List, [], ◌∷◌, ◌++◌, replicate, Float, Some, None, Result, Ok, Err}
use Rattle.answer.specs.Refusal.{number}
use Rattle.answer.specs.declared.Refusal.{Refusal}
use Rattle.answer.specs.declared.Refusal.TheVariants.{Missed, NotFinite, BadWindow, BadFace, Zero, OffFace, Unfinished, ShortBuffer, BadTrace}
use Rattle.plane.specs.Point.{at}
use Rattle.plane.specs.declared.rect.Rect.{Rect}
use Rattle.clip.specs.declared.Segment.{Segment}
use Rattle.clip.specs.Answers.{clipped, meets_or_refusal}
use Rattle.cube.specs.Vector.{vec, zero_vector}
use Rattle.cube.specs.Faces.{uv}
use Rattle.cube.specs.Entries.{face_or_refusal, face_uv_or_refusal}
use Rattle.cube.specs.declared.vector.Vector.{Vector}
use Rattle.cube.specs.declared.compute.Uv.{Uv}
use Rattle.line.specs.Entries.{sum_equal_or_refusal, meets_face_or_refusal, opposite_edges_or_refusal, exit_axis_or_refusal, exit_point_or_refusal}
use Rattle.line.specs.declared.compute.Axis.TheVariants.{«V»}
use Rattle.walk.specs.Answers.{walk_or_refusal, buffer_after}
use Rattle.trace.specs.Answers as trace
use Rattle.trace.specs.declared.Counts.{Counts}
use Rattle.stretch.specs.Answers.{stretch_of}
use Rattle.stretch.specs.declared.Stretch.{Stretch}
use Rattle.pages.specs.Answers as pages
use Rattle.pages.specs.declared.Found.{Found}
use Rattle.instances.specs.Numbers.{n0, -n1, tiny, n2+, n¼, n½, n¾, n1, n1½, n2, n3, n4, most, most+, huge, -huge, not_a_number, x◌to◌y◌to◌}

infix 4 ◌refused◌numbered◌
-- refused for a reason, and by which of document 01's numbers
abbrev pub ◌refused◌numbered◌ : {A : Type 0} → Result A Refusal → Refusal → ℕ → Type 0
a refused e numbered n = (a ≡ Err e) × (number a ≡ n)

-- kept from one point to another
abbrev pub kept_from : Float → Float → Float → Float → Result Segment Refusal
kept_from ax ay bx by = Ok (record { ax = ax; ay = ay; bx = bx; by = by })

-- the walk with a normal from (0,0) of a face to (0,0) of a target, with so many bytes lent
abbrev pub middle : Uv
middle = uv n0 n0

abbrev pub up : Vector
up = vec n0 n0 n1

abbrev pub walked : ℕ → Vector → ℕ → ℕ → Result ℕ Refusal
walked bytes n f t = walk_or_refusal bytes f middle t middle n

-- the trace of one edge in P3's window, with touches or without, room for its record lent
abbrev pub traced : Bool → Float → Float → Float → Float → Result Counts Refusal
traced touches ax ay bx by = trace.answer_of touches (ax ∷ ay ∷ bx ∷ by ∷ []) (x n1 to n2 y n1 to n2) 40

abbrev pub one_kept : Result Counts Refusal
one_kept = Ok (record { kept = 1; missed = 0; refused = 0; edges = 1 })

abbrev pub one_missed : Result Counts Refusal
one_missed = Ok (record { kept = 0; missed = 1; refused = 0; edges = 1 })

-- the longest clean stretch of samples in x 0..4, y 0..1
abbrev pub stretched : List Float → Result Stretch Refusal
stretched fs = stretch_of fs (x n0 to n4 y n0 to n1)

-- three edges, up and down and to a dead sample: their boxes, of all, of the first two, of each of these, and of the dead one, and then the rest
abbrev pub hill : List Float
hill = n0 ∷ n0 ∷ n1 ∷ n1 ∷ n2 ∷ n0 ∷ n3 ∷ not_a_number ∷ []

abbrev pub box : Float → Float → Float → Float → Float → List Float → List Float
box low_x low_y high_x high_y mark rest = low_x ∷ low_y ∷ high_x ∷ high_y ∷ mark ∷ rest

abbrev pub hill_boxes : List Float → List Float
hill_boxes rest =
    box n0 n0 n2 n1 n1 (box n0 n0 n2 n1 n1 (box n0 n0 n1 n1 n1 (box n1 n0 n2 n1 n1 (box n1 n1 n0 n0 n0 rest))))

abbrev pub at_edge : ℕ → ℕ → Result Found Refusal
at_edge k opened = Ok (record { edge = Some k; opened = opened })

abbrev pub no_edge : ℕ → Result Found Refusal
no_edge opened = Ok (record { edge = None; opened = opened })

abbrev pub paged : Rect → List Float → Result Found Refusal
paged window boxes = pages.kept_answer hill window boxes

-- P13's records: the faces 0, 1 and 3, each with three zero bytes after it and then whose it is; a float of 0, 1 or -1 is its last two bytes after six zeros
abbrev pub word : ℕ → ℕ → List ℕ → List ℕ
word low high rest = 0 ∷ 0 ∷ 0 ∷ 0 ∷ 0 ∷ 0 ∷ low ∷ high ∷ rest

abbrev pub three_records : (List ℕ → List ℕ) → List ℕ → List ℕ
three_records whose rest =
    0 ∷ 0 ∷ 0 ∷ 0 ∷ whose (word 0 0 (word 0 0 (word 240 63 (word 0 128 (
    1 ∷ 0 ∷ 0 ∷ 0 ∷ whose (word 240 191 (word 0 128 (word 240 63 (word 0 0 (
    3 ∷ 0 ∷ 0 ∷ 0 ∷ whose (word 0 128 (word 240 191 (word 0 0 (word 0 0 rest))))))))))))))

-- the trace numbers 0 and 4 * 2^24 + 3 * 2^16 + 2 * 2^8 + 1
abbrev pub none : List ℕ → List ℕ
none rest = 0 ∷ 0 ∷ 0 ∷ 0 ∷ rest

abbrev pub one_to_four : List ℕ → List ℕ
one_to_four rest = 1 ∷ 2 ∷ 3 ∷ 4 ∷ rest

pub record Instances : Type 0 where
  -- (0,0)-(4,2), window x 1..3, y 0..2
  pub p1 : clipped (at n0 n0) (at n4 n2) (x n1 to n3 y n0 to n2) ≡ kept_from n1 n½ n3 n1½
  -- (0,2)-(4,0), same
  pub p2 : clipped (at n0 n2) (at n4 n0) (x n1 to n3 y n0 to n2) ≡ kept_from n1 n1½ n3 n½
  -- (0,0)-(1,1), x 1..2, y 1..2
  pub p3 : clipped (at n0 n0) (at n1 n1) (x n1 to n2 y n1 to n2) ≡ kept_from n1 n1 n1 n1
  -- the same as a trace: it only touches, and its record is a miss's; with touches it is kept; and so is an edge of no length at the corner, by both
  pub p3_dropped : traced false n0 n0 n1 n1 ≡ one_missed
  pub p3_bytes : trace.buffer_after false (replicate 41 165) (n0 ∷ n0 ∷ n1 ∷ n1 ∷ []) (x n1 to n2 y n1 to n2) 0 ≡ 1 ∷ (replicate 39 0 ++ (165 ∷ []))
  pub p3_touches : traced true n0 n0 n1 n1 ≡ one_kept
  pub p3_no_length : traced false n1 n1 n1 n1 ≡ one_kept
  -- (0,0)-(1,1), x 0..0.25, y 0.75..1: missed, and edge_intersects_rect says no
  pub p4 : clipped (at n0 n0) (at n1 n1) (x n0 to n¼ y n¾ to n1) refused Missed numbered 1
  pub p4_meets : meets_or_refusal (at n0 n0) (at n1 n1) (x n0 to n¼ y n¾ to n1) ≡ Ok false
  -- b.y is NaN
  pub p5 : clipped (at n0 n0) (at n4 not_a_number) (x n1 to n3 y n0 to n2) refused NotFinite numbered 2
  -- (-2^1023,0)-(2^1023,1), x 0..1, y 0..1
  pub p6 : clipped (at -huge n0) (at huge n1) (x n0 to n1 y n0 to n1) refused NotFinite numbered 2
  -- a coordinate of 2^500, and of the next float above it: (0,0)-(2^500,0), x 0..1, y 0..1
  pub most_coordinate : clipped (at n0 n0) (at most n0) (x n0 to n1 y n0 to n1) ≡ kept_from n0 n0 n1 n0
  pub past_coordinate : clipped (at n0 n0) (at most+ n0) (x n0 to n1 y n0 to n1) refused NotFinite numbered 2
  -- the same two as a window's side: (0,0)-(1,1), x 0..2^500, y 0..1
  pub most_side : clipped (at n0 n0) (at n1 n1) (x n0 to most y n0 to n1) ≡ kept_from n0 n0 n1 n1
  pub past_side : clipped (at n0 n0) (at n1 n1) (x n0 to most+ y n0 to n1) refused BadWindow numbered 3
  -- face of (1,1,1), and of (-1,1,1): 0 at (1,1), 3 at (-1,-1)
  pub p7 : face_uv_or_refusal (vec n1 n1 n1) ≡ Ok (record { face = 0; at = uv n1 n1 })
  pub p7_minus : face_uv_or_refusal (vec -n1 n1 n1) ≡ Ok (record { face = 3; at = uv -n1 -n1 })
  -- face of the zero vector
  pub p8 : face_or_refusal zero_vector refused Zero numbered 5
  -- N (1,1,2), and (1,1,2+2^-51), meets face: yes, no
  pub p9 : meets_face_or_refusal (vec n1 n1 n2) ≡ Ok true
  pub p9_more : meets_face_or_refusal (vec n1 n1 n2+) ≡ Ok false
  -- N (3,1,2) passes opposite edges
  pub p10 : opposite_edges_or_refusal (vec n3 n1 n2) ≡ Ok true
  -- sum_equal 1, 2^-53, 1
  pub p11 : sum_equal_or_refusal n1 tiny n1 ≡ Ok false
  -- N (1,1,1) exit: V, (0,-1)
  pub p12 : exit_axis_or_refusal (vec n1 n1 n1) ≡ Ok «V»
  pub p12_point : exit_point_or_refusal (vec n1 n1 n1) «V» ≡ Ok (uv n0 -n1)
  -- normal (0,0,1), face 0 (0,0) to face 3 (0,0): 0: (0,0)-(1,0); 1: (-1,0)-(1,0); 3: (0,-1)-(0,0). By IEEE 754 three of its zeros are -0
  pub p13 : walked 120 up 0 3 ≡ Ok 3
  -- the 120 bytes of its records, and then the old bytes
  pub p13_bytes : buffer_after (replicate 122 165) 0 middle 3 middle up 0 ≡ three_records none (165 ∷ 165 ∷ [])
  pub p13_exact : buffer_after (replicate 120 165) 0 middle 3 middle up 0 ≡ three_records none []
  -- and with a trace number
  pub p13_numbered : buffer_after (replicate 122 165) 0 middle 3 middle up 0x04030201 ≡ three_records one_to_four (165 ∷ 165 ∷ [])
  -- with a byte less, nothing, and no number either
  pub p13_short : walked 119 up 0 3 refused ShortBuffer numbered 8
  pub p13_unchanged : buffer_after (replicate 119 165) 0 middle 3 middle up 0x04030201 ≡ replicate 119 165
  -- same, target 2
  pub p14 : walked 400 up 0 2 refused Unfinished numbered 7
  -- normal (1,0,0), face 0 to 1
  pub off_face_lem : walked 400 (vec n1 n0 n0) 0 1 refused OffFace numbered 6
  -- 5 is admitted and 6 refused, as the face and as the target
  pub face_five : walked 40 up 5 5 ≡ Ok 1
  pub face_six : walked 400 up 6 5 refused BadFace numbered 4
  pub target_five : walked 400 up 0 5 refused Unfinished numbered 7
  pub target_six : walked 400 up 0 6 refused BadFace numbered 4
  -- of W4: a dead sample in the middle parts the trace, and one on a side is in
  pub stretch_dead : stretched (n0 ∷ n1 ∷ n1 ∷ not_a_number ∷ n2 ∷ n1 ∷ n3 ∷ n½ ∷ []) ≡ Ok (record { first = 2; count = 2 })
  -- the earlier of two that are as long
  pub stretch_equal : stretched (n0 ∷ n1 ∷ n1 ∷ n2 ∷ n2 ∷ n1 ∷ []) ≡ Ok (record { first = 0; count = 1 })
  -- no clean sample; an odd count of floats
  pub stretch_none : stretched (n1 ∷ n2 ∷ not_a_number ∷ n1 ∷ []) ≡ Ok (record { first = 0; count = 0 })
  pub stretch_odd : stretched (n0 ∷ n1 ∷ n1 ∷ []) refused BadTrace numbered 10
  -- of W6: the boxes, and the float after them; a float less is too few, and nothing is written
  pub pages_built : pages.buffer_after (replicate 26 -n1) hill ≡ hill_boxes (-n1 ∷ [])
  pub pages_count : pages.pages_answer 8 26 ≡ Ok 25
  pub pages_short : pages.buffer_after (replicate 24 -n1) hill ≡ replicate 24 -n1
  pub pages_refused : pages.pages_answer 8 24 refused ShortBuffer numbered 8
  -- the second edge: the boxes of all, of both, of the first, which is shut, and of the second
  pub page_second : paged (x n1½ to n2 y n0 to n1) (hill_boxes []) ≡ at_edge 1 4
  -- P3: the first edge touches the window, and with touches it is kept
  pub page_touch : paged (x n1 to n2 y n1 to n2) (hill_boxes []) ≡ at_edge 0 3
  -- a window past the trace: one box. One in the box of the first edge, which passes it by: all five
  pub page_missed : paged (x n3 to n4 y n0 to n1) (hill_boxes []) ≡ no_edge 1
  pub page_beside : paged (x n0 to n¼ y n¾ to n1) (hill_boxes []) ≡ no_edge 5
  -- a buffer of NaN opens nothing; one sample has no edge, and no box
  pub page_nan : paged (x n0 to n4 y n0 to n1) (replicate 25 not_a_number) ≡ no_edge 1
  pub page_no_edge : pages.kept_answer (n1 ∷ n1 ∷ []) (x n0 to n4 y n0 to n1) [] ≡ no_edge 0
