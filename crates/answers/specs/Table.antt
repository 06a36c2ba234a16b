-- The operations, in the order of their numbers: the entry that each asks, and the places of its arguments. 255 for a number that is none.
use Rattle.std.specs.Prelude.{ℕ, List, Result, Ok, Err, eqb, leb}
use Rattle.float.specs.Choice.{when◌then◌else◌}
use Rattle.answer.specs.declared.Refusal.{Refusal}
use Rattle.plane.specs.Rect.{empty_rect}
use Rattle.plane.specs.Entries.{sum_or_refusal, difference_or_refusal, scaled_or_refusal, ortho_or_refusal, dot_or_refusal, cross_or_refusal, new_or_refusal, is_empty_or_refusal, holds_or_refusal, contains_or_refusal, intersects_or_refusal, union_or_refusal, intersection_or_refusal, between_or_refusal, box_or_refusal, vertices_or_refusal, vertex_or_refusal, is_empty_rect_or_refusal, contains_point_or_refusal, contains_rect_or_refusal, intersects_rect_or_refusal, union_rect_or_refusal, intersection_rect_or_refusal, lo_or_refusal, hi_or_refusal}
use Rattle.plane.specs.declared.point.Point.{Point}
use Rattle.plane.specs.declared.rect.Rect.{Rect}
use Rattle.clip.specs.Answers.{clipped, value_or_refusal, end_or_refusal, axis_or_refusal, bound_or_refusal, meets_or_refusal}
use Rattle.cube.specs.Entries.{face_or_refusal, face_uv_or_refusal, uv_or_refusal, xyz_or_refusal, uvw_or_refusal, neighbour_or_refusal, u_axis_or_refusal, v_axis_or_refusal, u_norm_or_refusal, v_norm_or_refusal}
use Rattle.line.specs.Entries.{sum_equal_or_refusal, meets_face_or_refusal, opposite_edges_or_refusal, exit_axis_or_refusal, exit_point_or_refusal, next_face_or_refusal}
use Rattle.stretch.specs.Answers.{stretch_of, no_stretch}
use Rattle.answers.specs.Request.{word_of, float_at, point_at, interval_at, rect_at, uv_at, vector_at, samples_at, number_at, yes_at, axis_at}
use Rattle.answers.specs.Reply.{Reply, reply, only_reply, reply_or, stretch_words, yes_words, face_words, axis_words, float_words, point_words, points_words, corners_words, segment_words, interval_words, both_words, rect_words, uv_words, face_uv_words, vector_words}

-- an operation that is not listed
abbrev pub unlisted : Reply
unlisted = only_reply 255

-- both values, or the first refusal
abbrev pub both_of : {A B : Type 0} → Result A Refusal → Result B Refusal → Result (A × B) Refusal
both_of (Ok x) (Ok y) = Ok (x, y)
both_of (Ok x) (Err e) = Err e
both_of (Err e) b = Err e

-- the low corner and the high one
abbrev pub two_corners : Rect → Result (Point × Point) Refusal
two_corners r = both_of (lo_or_refusal r) (hi_or_refusal r)

unfoldable pub point_op : ℕ → List ℕ → Reply
point_op op s =
    when eqb op 1 then reply point_words (sum_or_refusal (point_at s 1) (point_at s 3))
    else when eqb op 2 then reply point_words (difference_or_refusal (point_at s 1) (point_at s 3))
    else when eqb op 3 then reply point_words (scaled_or_refusal (point_at s 1) (float_at s 3))
    else when eqb op 4 then reply point_words (ortho_or_refusal (point_at s 1))
    else when eqb op 5 then reply float_words (dot_or_refusal (point_at s 1) (point_at s 3))
    else when eqb op 6 then reply float_words (cross_or_refusal (point_at s 1) (point_at s 3))
    else when eqb op 7 then reply point_words (new_or_refusal (float_at s 1) (float_at s 2))
    else unlisted

unfoldable pub interval_op : ℕ → List ℕ → Reply
interval_op op s =
    when eqb op 10 then reply yes_words (is_empty_or_refusal (interval_at s 1))
    else when eqb op 11 then reply yes_words (holds_or_refusal (interval_at s 1) (float_at s 3))
    else when eqb op 12 then reply yes_words (contains_or_refusal (interval_at s 1) (interval_at s 3))
    else when eqb op 13 then reply yes_words (intersects_or_refusal (interval_at s 1) (interval_at s 3))
    else when eqb op 14 then reply interval_words (union_or_refusal (interval_at s 1) (interval_at s 3))
    else when eqb op 15 then reply interval_words (intersection_or_refusal (interval_at s 1) (interval_at s 3))
    else when eqb op 17 then reply interval_words (between_or_refusal (float_at s 1) (float_at s 2))
    else unlisted

unfoldable pub rect_op : ℕ → List ℕ → Reply
rect_op op s =
    when eqb op 19 then reply rect_words (Ok empty_rect)
    else when eqb op 20 then reply rect_words (box_or_refusal (point_at s 1) (point_at s 3))
    else when eqb op 21 then reply corners_words (vertices_or_refusal (rect_at s 1))
    else when eqb op 22 then reply point_words (vertex_or_refusal (rect_at s 1) (word_of s 5) (word_of s 6))
    else when eqb op 23 then reply points_words (two_corners (rect_at s 1))
    else when eqb op 24 then reply yes_words (is_empty_rect_or_refusal (rect_at s 1))
    else when eqb op 25 then reply yes_words (contains_point_or_refusal (rect_at s 1) (point_at s 5))
    else unlisted

unfoldable pub pair_op : ℕ → List ℕ → Reply
pair_op op s =
    when eqb op 26 then reply yes_words (contains_rect_or_refusal (rect_at s 1) (rect_at s 5))
    else when eqb op 27 then reply yes_words (intersects_rect_or_refusal (rect_at s 1) (rect_at s 5))
    else when eqb op 28 then reply rect_words (union_rect_or_refusal (rect_at s 1) (rect_at s 5))
    else when eqb op 29 then reply rect_words (intersection_rect_or_refusal (rect_at s 1) (rect_at s 5))
    else unlisted

unfoldable pub cut_op : ℕ → List ℕ → Reply
cut_op op s =
    when eqb op 30 then reply float_words (value_or_refusal (float_at s 1) (float_at s 2) (float_at s 3) (float_at s 4) (float_at s 5))
    else when eqb op 31 then reply interval_words (end_or_refusal (interval_at s 1) (yes_at s 3) (float_at s 4))
    else when eqb op 32 then reply both_words (axis_or_refusal (float_at s 1) (float_at s 2) (interval_at s 3) (float_at s 5) (float_at s 6) (interval_at s 7) (yes_at s 9) (interval_at s 10))
    else when eqb op 33 then reply rect_words (bound_or_refusal (point_at s 1) (point_at s 3) (rect_at s 5) (rect_at s 9))
    else when eqb op 34 then reply segment_words (clipped (point_at s 1) (point_at s 3) (rect_at s 5))
    else when eqb op 35 then reply yes_words (meets_or_refusal (point_at s 1) (point_at s 3) (rect_at s 5))
    else unlisted

unfoldable pub face_op : ℕ → List ℕ → Reply
face_op op s =
    when eqb op 40 then reply face_words (face_or_refusal (vector_at s 1))
    else when eqb op 41 then reply face_uv_words (face_uv_or_refusal (vector_at s 1))
    else when eqb op 42 then reply uv_words (uv_or_refusal (number_at s 1) (vector_at s 2))
    else when eqb op 43 then reply vector_words (xyz_or_refusal (number_at s 1) (float_at s 2) (float_at s 3))
    else when eqb op 44 then reply vector_words (uvw_or_refusal (number_at s 1) (vector_at s 2))
    else unlisted

unfoldable pub axis_op : ℕ → List ℕ → Reply
axis_op op s =
    when eqb op 45 then reply face_words (neighbour_or_refusal (number_at s 1) (number_at s 2) (number_at s 3))
    else when eqb op 46 then reply vector_words (u_axis_or_refusal (number_at s 1))
    else when eqb op 47 then reply vector_words (v_axis_or_refusal (number_at s 1))
    else when eqb op 48 then reply vector_words (u_norm_or_refusal (number_at s 1) (float_at s 2))
    else when eqb op 49 then reply vector_words (v_norm_or_refusal (number_at s 1) (float_at s 2))
    else unlisted

unfoldable pub line_op : ℕ → List ℕ → Reply
line_op op s =
    when eqb op 50 then reply yes_words (sum_equal_or_refusal (float_at s 1) (float_at s 2) (float_at s 3))
    else when eqb op 51 then reply yes_words (meets_face_or_refusal (vector_at s 1))
    else when eqb op 52 then reply yes_words (opposite_edges_or_refusal (vector_at s 1))
    else when eqb op 53 then reply axis_words (exit_axis_or_refusal (vector_at s 1))
    else when eqb op 54 then reply uv_words (exit_point_or_refusal (vector_at s 1) (axis_at s 4))
    else when eqb op 55 then reply face_words (next_face_or_refusal (number_at s 1) (uv_at s 2) (axis_at s 4) (vector_at s 5) (number_at s 8))
    else unlisted

-- the first sample and the count of samples, beside every number
unfoldable pub stretch_op : ℕ → List ℕ → Reply
stretch_op op s =
    when eqb op 63 then reply_or stretch_words (stretch_of (samples_at s 6) (rect_at s 2)) no_stretch
    else unlisted

-- the reply to a request, for every operation but 60, 61, 62, 64 and 65
unfoldable pub reply_of : List ℕ → Reply
reply_of s =
    let op = word_of s 0 in
    when leb op 9 then point_op op s
    else when leb op 18 then interval_op op s
    else when leb op 25 then rect_op op s
    else when leb op 29 then pair_op op s
    else when leb op 39 then cut_op op s
    else when leb op 44 then face_op op s
    else when leb op 49 then axis_op op s
    else when leb op 59 then line_op op s
    else when leb op 63 then stretch_op op s
    else unlisted
