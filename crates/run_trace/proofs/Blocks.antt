-- An input in blocks: what a piece is followed by, its first edges, and all of the blocks.
use Rattle.std.proofs.Common.{◌≡◌, ℕ, ◌+◌, ◌-◌, ◌*◌, ◌/◌, ◌%◌, ◌<◌, ◌≤◌, Bool, List, [], ◌∷◌, ◌++◌, length, take, drop, sym, refl, ap, ◌∙◌, ⊎_elim, append-nil, add-zero, eq-zero-or-pos, arith, take-append-drop, length-take, length-take-le, take_at, length-append, Option, Some, None}
use native.Mathlib.Nat.{min-le_left}
use Rattle.plane.specs.declared.point.Point.{Point}
use Rattle.plane.specs.declared.rect.Rect.{Rect}
use Rattle.record.specs.Record.{joined}
use Rattle.trace.specs.Trace.{Clipped, trace_cuts}
use Rattle.trace.specs.Records.{records_of, how_many}
use Rattle.trace.proofs.Cuts.{length_trace, no_edge, length_records}
use Rattle.reading.specs.Samples.{floats_in, floats_of, floats_from}
use Rattle.reading.proofs.Floats.{length_floats}
use Rattle.run_trace.specs.Pieces.{carried, piece_floats, last_after, bytes_for, Blocks, joined_blocks, records_of_blocks, count_of_blocks}
use Rattle.run_trace.specs.Promises.{piece_cuts}
use Rattle.run_trace.proofs.Pieces.{pieces}

-- ---- the first edges of a piece
module _ (touches : Bool) (whose : ℕ) (w : Rect) (before : Option Point) (s : List ℕ) where
  no_edges : (n : ℕ) → length (piece_floats before (take n s)) < 4
      → (length (piece_cuts touches w before (take n s)) ≡ 0) × (records_of whose (piece_cuts touches w before (take n s)) ≡ [])
  unfolding joined
  no_edges n h = let none = no_edge touches w (piece_floats before (take n s)) h in (ap length none, ap (records_of whose) none)

  some_edges : (n k : ℕ) → n % 16 ≡ 0 → 16 ≤ n → n ≤ length s → length (piece_floats before (take n s)) / 2 - 1 ≡ k
      → (length (piece_cuts touches w before (take n s)) ≡ k)
      × (records_of whose (piece_cuts touches w before (take n s)) ≡ take (k * 40) (records_of whose (piece_cuts touches w before s)))
  some_edges n k e h l f =
      let a = take n s in
      let b = drop n s in
      let first = piece_cuts touches w before a in
      let rest = piece_cuts touches w (last_after before a) b in
      let size : length a ≡ n = length-take-le n s l in
      let j = pieces touches w before a b (omega arith) (omega arith) in
      let all : records_of whose (piece_cuts touches w before s) ≡ records_of whose first ++ records_of whose rest
      = ap (λ (l : List ℕ). records_of whose (piece_cuts touches w before l)) (sym (take-append-drop n s)) ∙ j.records whose in
      let count : length first ≡ k = length_trace touches w (piece_floats before a) ∙ f in
      let long : length (records_of whose first) ≡ k * 40 = length_records whose first ∙ ap (◌* 40) count in
      (count, sym (ap (take (k * 40)) all ∙ take_at (records_of whose first) (records_of whose rest) (k * 40) long))

floats_long : (before : Option Point) (s : List ℕ) → length (piece_floats before s) ≡ length (carried before) + floats_in s
unfolding piece_floats
floats_long before s = omega (arith, length-append (carried before) (floats_of s), length_floats s 0 (floats_in s))

-- d floats before the bytes, and n bytes for k edges: 2k + 2 floats
edges_of : (touches : Bool) (whose : ℕ) (w : Rect) (before : Option Point) (s : List ℕ) (d n k : ℕ)
    → d ≡ length (carried before) → d ≤ 2 → n % 16 ≡ 0 → d + n / 8 ≡ 2 * k + 2 → k ≤ length (piece_cuts touches w before s)
    → (length (piece_cuts touches w before (take n s)) ≡ k)
    × (records_of whose (piece_cuts touches w before (take n s)) ≡ take (k * 40) (records_of whose (piece_cuts touches w before s)))
edges_of touches whose w before s d n k first few even f h =
    let all = floats_long before s in
    let part = floats_long before (take n s) in
    let edges = length_trace touches w (piece_floats before s) in
    let short : length (take n s) ≤ n = rw length-take (min-le_left n (length s)) in
    ⊎_elim
    (λ z.
    let none = no_edges touches whose w before s n (omega arith) in
    (none.0 ∙ sym z, none.1 ∙ sym (ap (λ (j : ℕ). take (j * 40) (records_of whose (piece_cuts touches w before s))) z)))
    (λ z.
    let there : n ≤ length s = omega arith in
    let size : length (take n s) ≡ n = length-take-le n s there in
    some_edges touches whose w before s n k even (omega arith) there (omega arith))
    (eq-zero-or-pos k)

pub first_edges : (touches : Bool) (whose : ℕ) (w : Rect) (before : Option Point) (s : List ℕ) (k : ℕ) → k ≤ length (piece_cuts touches w before s)
    → let first = piece_cuts touches w before (take (bytes_for before k) s) in
    (length first ≡ k) × (records_of whose first ≡ take (k * 40) (records_of whose (piece_cuts touches w before s)))
unfolding bytes_for
first_edges touches whose w (Some p) s k h = edges_of touches whose w (Some p) s 2 (16 * k) k refl (omega arith) (omega arith) (omega arith) h
first_edges touches whose w None s k h = edges_of touches whose w None s 0 (16 * k + 16) k refl (omega arith) (omega arith) (omega arith) h

-- ---- all of the blocks
no_floats : (before : Option Point) → length (piece_floats before []) < 4
unfolding piece_floats floats_from
no_floats (Some p) = omega arith
no_floats None = omega arith

all_blocks : (touches : Bool) (whose : ℕ) (w : Rect) (before : Option Point) (ss : List (List ℕ)) → Blocks ss
    → (records_of_blocks touches whose w before ss ≡ records_of whose (piece_cuts touches w before (joined_blocks ss)))
    × ((is : Clipped → Bool) → count_of_blocks touches is w before ss ≡ how_many is (piece_cuts touches w before (joined_blocks ss)))
unfolding Blocks joined_blocks records_of_blocks count_of_blocks joined how_many
all_blocks touches whose w before [] b =
    let none = no_edge touches w (piece_floats before []) (no_floats before) in
    (sym (ap (records_of whose) none), λ is. sym (ap (how_many is) none))
all_blocks touches whose w before (s ∷ []) b =
    let same = sym (append-nil s) in (
      append-nil _ ∙ ap (λ (l : List ℕ). records_of whose (piece_cuts touches w before l)) same,
      λ is. add-zero _ ∙ ap (λ (l : List ℕ). how_many is (piece_cuts touches w before l)) same,
    )
all_blocks touches whose w before (s ∷ t ∷ ss) (e, (h, b)) =
    let j = pieces touches w before s (joined_blocks (t ∷ ss)) e h in
    let rest = all_blocks touches whose w (last_after before s) (t ∷ ss) b in (
      ap (records_of whose (piece_cuts touches w before s) ++◌) rest.0 ∙ sym (j.records whose),
      λ is. ap (how_many is (piece_cuts touches w before s) +◌) (rest.1 is) ∙ sym (j.counts is),
    )

pub whole : (touches : Bool) (whose : ℕ) (w : Rect) (blocks : List (List ℕ)) → Blocks blocks
    → (records_of_blocks touches whose w None blocks ≡ records_of whose (trace_cuts touches w (floats_of (joined_blocks blocks))))
    × ((is : Clipped → Bool) → count_of_blocks touches is w None blocks ≡ how_many is (trace_cuts touches w (floats_of (joined_blocks blocks))))
unfolding piece_floats
whole touches whose w blocks b = all_blocks touches whose w None blocks b
