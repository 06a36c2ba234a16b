-- antt computes each instance from the definitions.
use mathlib.Core.Path.{refl}
use lib.Ieee.{of_bits, to_bits, add, sub, mul, div, neg, lt, le, eq}
use Rattle.float.specs.Choice.{when◌then◌else◌}
use Rattle.float.specs.Float.{finite, magnitude_of, sign_bit}
use Rattle.plane.specs.Interval.{is_empty, holds, lesser, greater as greater_of, union_of, between, end_of, intersects}
use Rattle.plane.specs.Rect.{intersects_rect, contains_point}
use Rattle.clip.specs.Cut.{negative_slope, on_line, held_in, value_at, inward, with_end, moved_end, other_moved, side_cut, then_high, axis_cut, after_y, after_x, then_y, box_cut, crossed, edge_meets}
use Rattle.clip.specs.Refuse.{coordinate, side, plane_refusal, sides_fine, window_fine}
use Rattle.clip.specs.Answers.{ends, edge_answer, clipped}
use Rattle.cube.specs.Vector.{finite_vector, is_zero}
use Rattle.cube.specs.Faces.{by_face, along, greater, face_of, uv_of}
use Rattle.line.specs.Line.{meets_face, passes_opposite_edges, sum_equal, by_axis, axis_of, exit_axis, one_if, exit_point}
use Rattle.cube.specs.Faces.{point_at, uvw_of, minus_or_plus, row_at, neighbour}
use Rattle.line.specs.Line.{direction_of, at_corner, next_face}
use Rattle.buffer.specs.Bytes.{bytes_of}
use Rattle.record.specs.Record.{head_bytes, float_bytes, end_bytes, record_bytes, joined}
use Rattle.walk.specs.Walk.{stop_refusal, segments}
use Rattle.walk.specs.Refuse.{room_refusal, walk_refusal}
use Rattle.walk.specs.Answers.{walk_or_refusal, buffer_after}
use Rattle.trace.specs.Trace.{samples_of, touching, is_touch, untouched, edge_cut, cuts_from, cuts_of}
use Rattle.trace.specs.Records.{is_kept, is_missed, is_refused, how_many}
use Rattle.trace.specs.Refuse.{in_order}
use Rattle.trace.specs.Answers.{buffer_after as trace_buffer}
use Rattle.stretch.specs.Longest.{clean, all_clean, clean_run, least, greatest}
use Rattle.pages.specs.Halves.{edges_in, halved_to, halves_of}
use Rattle.pages.specs.Boxes.{edge_extent, extent_of, boxes_of}
use Rattle.pages.specs.Search.{opens, kept_at, first_of, search}
use Rattle.pages.specs.Answers.{trace_boxes, buffer_after as pages_buffer, search_all}
use Rattle.instances.specs.Instances.{Instances}

pub instances : Instances
unfolding finite sign_bit walk_refusal stop_refusal of_bits add sub mul div neg lt le eq when◌then◌else◌ magnitude_of holds lesser greater_of between end_of intersects intersects_rect negative_slope on_line held_in value_at inward with_end moved_end other_moved side_cut then_high axis_cut after_y after_x then_y box_cut crossed edge_meets coordinate side plane_refusal sides_fine window_fine ends edge_answer clipped finite_vector is_zero by_face along greater face_of uv_of meets_face passes_opposite_edges sum_equal by_axis axis_of exit_axis one_if exit_point point_at uvw_of minus_or_plus row_at neighbour direction_of at_corner next_face segments room_refusal walk_or_refusal buffer_after samples_of touching is_touch untouched edge_cut cuts_from cuts_of is_kept is_missed is_refused how_many in_order trace_buffer bytes_of head_bytes float_bytes end_bytes record_bytes joined to_bits contains_point clean all_clean clean_run least greatest is_empty union_of edges_in halved_to halves_of edge_extent extent_of boxes_of opens kept_at first_of search trace_boxes pages_buffer search_all
instances = record { p1 = refl; p2 = refl; p3 = refl; p3_dropped = refl; p3_bytes = refl; p3_touches = refl; p3_no_length = refl; p4 = (refl, refl); p4_meets = refl; p5 = (refl, refl); p6 = (refl, refl); most_coordinate = refl; past_coordinate = (refl, refl); most_side = refl; past_side = (refl, refl); p7 = refl; p7_minus = refl; p8 = (refl, refl); p9 = refl; p9_more = refl; p10 = refl; p11 = refl; p12 = refl; p12_point = refl; p13 = refl; p13_bytes = refl; p13_exact = refl; p13_numbered = refl; p13_short = (refl, refl); p13_unchanged = refl; p14 = (refl, refl); off_face_lem = (refl, refl); face_five = refl; face_six = (refl, refl); target_five = (refl, refl); target_six = (refl, refl); stretch_dead = refl; stretch_equal = refl; stretch_none = refl; stretch_odd = (refl, refl); pages_built = refl; pages_count = refl; pages_short = refl; pages_refused = (refl, refl); page_second = refl; page_touch = refl; page_missed = refl; page_beside = refl; page_nan = refl; page_no_edge = refl }
