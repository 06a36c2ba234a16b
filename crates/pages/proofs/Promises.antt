-- What specs/Promises.antt promises, proved.
use Prim.Native.Nat.{ℕ, ◌+◌, ◌-◌, ◌*◌, ◌≤◌, ◌<◌}
use native.Mathlib.Omega.{arith}
use mathlib.Core.Path.{◌≡◌, refl, sym, ap, ap₂, subst, ◌∙◌}
use mathlib.Core.Logic.{◌⊎◌, inl, inr}
use mathlib.Core.Bool.{Bool, true, false}
use mathlib.Core.List.{List, [], ◌++◌}
use lib.Dec.{eqb}
use lib.Ieee.{Float, nan}
use lib.ListN.{length, drop, get_or-append}
use lib.Seq.{drop-append-add, drop-drop}
use borrow.Author.Tests.{eqb-true, eqb-false}
use Rattle.float.specs.Choice.{when◌then◌else◌, ◌and◌}
use Rattle.float.specs.Float.{one_f, zero_f}
use Rattle.float.proofs.Choice.{cases, else_is, then_is, when_eq, when_ne}
use Rattle.std.specs.Prelude.{Option, None, Some, Result, Ok, Err}
use Rattle.std.specs.Option.{is_some}
use Rattle.answer.specs.Refusal.{done, value_or, ◌then◌}
use Rattle.answer.specs.declared.Refusal.{Refusal}
use Rattle.plane.specs.Rect.{empty_rect, box_of, contains_rect, intersects_rect}
use Rattle.plane.specs.Within.{InRect}
use Rattle.plane.specs.declared.point.Point.{Point}
use Rattle.plane.specs.declared.rect.Rect.{Rect}
use Rattle.clip.specs.Refuse.{window_fine}
use Rattle.trace.specs.Trace.{samples_of, trace_cuts}
use Rattle.trace.specs.Refuse.{trace_fine, room_for, in_order, trace_refusal}
use Rattle.trace.specs.Answers.{counts_of, answer_of}
use Rattle.trace.specs.declared.Counts.{Counts}
use Rattle.trace.specs.Promises.{sample_at}
use Rattle.trace.proofs.Cuts.{length_samples}
use Rattle.trace.proofs.Exits.{admitted}
use Rattle.pages.specs.Halves.{edges_in, halves_of}
use Rattle.pages.specs.Boxes.{live_edge, extent_of, rect_of, five_floats, boxes_of}
use Rattle.pages.specs.Search.{box_at, opens, kept_at, none, search}
use Rattle.pages.specs.Answers.{edge_count, floats_for, boxes_fit, pages_refusal, kept_refusal, pages_answer, trace_boxes, buffer_after, search_all, kept_answer}
use Rattle.pages.specs.Promises.{Below, itself, first, second, Live, mark_at, OwnBox, Built, SameOrDead, first_kept, Scanned, Promises}
use Rattle.pages.specs.declared.Found.{Found}
use Rattle.pages.proofs.Halving.{two_halves, edges_are}
use Rattle.pages.proofs.Exits.{some_boxes, boxes_length, taken, refused_stays, after_is, after_length, searched, outermost_shut}
use Rattle.pages.proofs.Covers.{covered, holds_own, least, none_live, contains_below}
use Rattle.pages.proofs.Held.{Holds, own_box, held_below, rect_held, mark_held, opens_is}
use Rattle.pages.proofs.Going.{opened_most, Held, found_held}
use Rattle.pages.proofs.Opening.{misses, nan_shut}
use Rattle.pages.proofs.Scan.{first_from, none_from, scans, scan_is}
use Rattle.pages.proofs.Lowest.{scanned}
use Rattle.pages.proofs.Levels.{few_levels}
use Rattle.pages.proofs.Alike.{boxes_alike, search_alike}

-- ---- a box of the trace's own
module _ (bs : List Float) (ps : List Point) (n i k : ℕ) (some : 1 ≤ n) (held : Holds bs (5 * i) (boxes_of ps (halves_of n) k)) where
  abbrev own : Option Rect
  own = extent_of ps (halves_of n) k

  five : Holds bs (5 * i) (five_floats own)
  five = own_box bs ps (halves_of n) i k held

  within : {j : ℕ} → j < k + n → j < k + edges_in (halves_of n)
  within h = omega (arith, h, edges_are n some)

  without : {j : ℕ} → j < k + edges_in (halves_of n) → j < k + n
  without h = omega (arith, h, edges_are n some)

  covers : (j : ℕ) (p : Point) → Live ps n k j → InRect (box_of (sample_at j ps) (sample_at (j + 1) ps)) p → InRect (box_at bs i) p
  covers j p l h =
      subst (λ (r : Rect). InRect r p) (sym (rect_held bs i own five)) (covered ps p j l.live h (halves_of n) k l.from (within l.to)).inside

  no_wider : (r : Rect) → ((j : ℕ) → Live ps n k j → contains_rect r (box_of (sample_at j ps) (sample_at (j + 1) ps)) ≡ true) → contains_rect r (box_at bs i) ≡ true
  no_wider r f =
      ap (contains_rect r) (rect_held bs i own five)
      ∙ least ps r (halves_of n) k (λ j l u v. f j (record { from = l; to = without u; live = v }))

  marked : (j : ℕ) → Live ps n k j → mark_at bs i ≡ one_f
  marked j l =
      let m = covered ps (sample_at j ps) j l.live (holds_own _ _ l.live) (halves_of n) k l.from (within l.to) in
      mark_held bs i own five ∙ sym (then_is _ _ _ _ m.live refl)

  dead : ((j : ℕ) → Live ps n k j → ⊥) → own ≡ None
  dead f = none_live ps (halves_of n) k (λ j l u. go j l u (live_edge (sample_at j ps) (sample_at (j + 1) ps)) refl)
    where
      go : (j : ℕ) → k ≤ j → j < k + edges_in (halves_of n) → (t : Bool) → live_edge (sample_at j ps) (sample_at (j + 1) ps) ≡ t → t ≡ false
      go j l u true e = absurd (f j (record { from = l; to = without u; live = e }))
      go j l u false e = refl

  unmarked : ((j : ℕ) → Live ps n k j → ⊥) → (mark_at bs i ≡ zero_f) × (box_at bs i ≡ empty_rect)
  unmarked f =
      let e = dead f in
      (mark_held bs i own five ∙ ap (λ (x : Option Rect). when is_some x then one_f else zero_f) e ∙ sym (else_is _ _ _ _ refl refl), rect_held bs i own five ∙ ap rect_of e)

  own_is : OwnBox bs ps n i k
  own_is = record { floats = λ j h. five j (omega arith); covers = covers; least = no_wider; marked = marked; unmarked = unmarked }

-- ---- the buffer that `build_pages` leaves
some_above : {n i k m j l : ℕ} → Below n i k m j l → 1 ≤ m → 1 ≤ n
some_above itself h = h
some_above (first b two) h = some_above b (omega arith)
some_above (second b two) h = some_above b (omega arith)

module _ (xs fs : List Float) where
  abbrev after : List Float
  after = buffer_after xs fs

  abbrev ps : List Point
  ps = samples_of fs

  abbrev edges : ℕ
  edges = edge_count (length fs)

  rest_stays : (i : ℕ) → value_or 0 (pages_answer (length fs) (length xs)) ≤ i → drop i after ≡ drop i xs
  rest_stays i h = go (pages_refusal (length fs) (length xs)) refl h
    where
      boxes : List Float
      boxes = trace_boxes fs

      past : (j : ℕ) → i ≡ length boxes + j → drop i (boxes ++ drop (length boxes) xs) ≡ drop i xs
      past j e = rw e (drop-append-add boxes (drop (length boxes) xs) j ∙ drop-drop j (length boxes) xs)

      go : (r : Result (Unit {0}) Refusal) → pages_refusal (length fs) (length xs) ≡ r → value_or 0 (r then Ok (floats_for edges)) ≤ i → drop i after ≡ drop i xs
      go (Ok x) d h = ap (drop i) (sym (after_is xs fs d)) ∙ past (i - length boxes) (omega (arith, boxes_length fs))
      go (Err e) d h = ap (drop i) (sym (refused_stays xs fs e d))

  module _ (d : pages_refusal (length fs) (length xs) ≡ done) where
    held : 1 ≤ edges → Holds after (5 * 0) (boxes_of ps (halves_of edges) 0)
    held h = subst (Holds after 0) (some_boxes fs edges refl (λ z. omega arith)) all
      where
        all : Holds after 0 (trace_boxes fs)
        all j h = let z : 0 + j ≡ j = omega arith in rw (z, ← after_is xs fs d) (get_or-append (trace_boxes fs) _ nan j h)

    held_at : {n i k : ℕ} → Below edges 0 0 n i k → 1 ≤ n → Holds after (5 * i) (boxes_of ps (halves_of n) k)
    held_at b h = held_below after ps b (held (some_above b h))

    box_is : (n i k : ℕ) → Holds after (5 * i) (boxes_of ps (halves_of n) k) → box_at after i ≡ rect_of (extent_of ps (halves_of n) k)
    box_is n i k h = rect_held after i (extent_of ps (halves_of n) k) (own_box after ps (halves_of n) i k h)

    holds : (n i k m j l : ℕ) → Below edges 0 0 n i k → 1 ≤ n → Below n i k m j l → contains_rect (box_at after i) (box_at after j) ≡ true
    holds n i k m j l b h c =
        let top = held_at b h in
        ap₂ contains_rect (box_is n i k top) (box_is m j l (held_below after ps c top)) ∙ contains_below ps c

  built : Built xs fs
  built =
      record {
        as_long = after_length xs fs;
        rest_stays = rest_stays;
        own = λ d n i k b h. own_is after ps n i k h (held_at d b h);
        holds = holds;
      }

-- ---- dead values
module _ (fs gs : List Float) (long : length fs ≡ length gs) (alike : (k : ℕ) → SameOrDead (sample_at k (samples_of fs)) (sample_at k (samples_of gs))) where
  boxes_same : trace_boxes fs ≡ trace_boxes gs
  unfolding trace_boxes
  boxes_same = rw long (ap (λ (bs : List Float). when eqb (edge_count (length gs)) 0 then [] else bs) (boxes_alike (samples_of fs) (samples_of gs) alike (halves_of (edge_count (length gs))) 0))

  buffer_same : (xs : List Float) → buffer_after xs fs ≡ buffer_after xs gs
  unfolding buffer_after
  buffer_same xs = rw (long, boxes_same) refl

  kept_same : (w : Rect) (bs : List Float) → kept_answer fs w bs ≡ kept_answer gs w bs
  unfolding search_all
  kept_same w bs =
      let m = edge_count (length gs) in
      rw long (ap (λ (r : Found). kept_refusal (length gs) w (length bs) then Ok (when eqb m 0 then none 0 else r)) (search_alike (samples_of fs) (samples_of gs) alike bs w (halves_of m) 0 0))

-- ---- the answer is the search's
module _ (fs bs : List Float) (w : Rect) where
  answered : (r : Found) → kept_answer fs w bs ≡ Ok r → search_all fs w bs ≡ r
  answered r e = (taken (kept_refusal (length fs) w (length bs)) (search_all fs w bs) r e).1

  -- how many boxes are opened
  few : (search_all fs w bs).opened ≤ 2 * edge_count (length fs) - 1
  unfolding search_all
  few =
      let m = edge_count (length fs) in
      cases (λ (r : Found). r.opened ≤ 2 * m - 1) (eqb m 0) _ _ (λ e. omega arith)
      (λ e. let z = eqb-false m 0 e in omega (arith, opened_most bs w (samples_of fs) (halves_of m) 0 0, edges_are m (omega arith)))

  at_most : (value_or (none 0) (kept_answer fs w bs)).opened ≤ 2 * edge_count (length fs) - 1
  at_most = go (kept_refusal (length fs) w (length bs))
    where
      go : (r : Result (Unit {0}) Refusal) → (value_or (none 0) (r then Ok (search_all fs w bs))).opened ≤ 2 * edge_count (length fs) - 1
      go (Ok x) = few
      go (Err e) = omega arith

  -- what is found
  all_held : Held bs w (samples_of fs) 0 (edge_count (length fs)) (search_all fs w bs)
  unfolding search_all
  all_held =
      let m = edge_count (length fs) in
      let ps = samples_of fs in
      cases (Held bs w ps 0 m) (eqb m 0) (none 0) (search bs w ps (halves_of m) 0 0) (λ e j z. cc)
      (λ e.
      let y = eqb-false m 0 e in
      subst (λ (n : ℕ). Held bs w ps 0 n (search bs w ps (halves_of m) 0 0)) (edges_are m (omega arith)) (found_held bs w ps (halves_of m) 0 0))

  found_kept : (r : Found) (k : ℕ) → kept_answer fs w bs ≡ Ok r → r.edge ≡ Some k → (k < edge_count (length fs)) × (kept_at w (samples_of fs) k ≡ true)
  found_kept r k e z = let (u, v) = all_held k (ap (λ (s : Found). s.edge) (answered r e) ∙ z) in (omega arith, v)

  outermost : kept_refusal (length fs) w (length bs) ≡ done → 0 < edge_count (length fs) → opens bs w 0 ≡ false → kept_answer fs w bs ≡ Ok (none 1)
  outermost d h o = sym (outermost_shut fs w bs d _ refl (λ z. omega arith) o)

-- ---- on the buffer that this trace filled
module _ (fs xs : List Float) (w : Rect) (d : pages_refusal (length fs) (length xs) ≡ done) (v : window_fine w ≡ true) where
  kept_done : kept_refusal (length fs) w (length (buffer_after xs fs)) ≡ done
  unfolding in_order
  kept_done =
      let (t, _, r) = admitted (trace_fine (length fs)) true (boxes_fit (edge_count (length fs)) (length xs)) d in
      rw (after_length xs fs, t, v, r) refl

  scan : (r : Found) × (kept_answer fs w (buffer_after xs fs) ≡ Ok r) × (r.edge ≡ first_kept 0 (trace_cuts true w fs))
  unfolding search_all
  scan = (search_all fs w (buffer_after xs fs), sym (searched fs w (buffer_after xs fs) kept_done), go (edge_count (length fs)) refl (eqb (edge_count (length fs)) 0) refl ∙ scan_is w (samples_of fs))
    where
      all : Found
      all = search_all fs w (buffer_after xs fs)

      go : (m : ℕ) → m ≡ edge_count (length fs) → (t : Bool) → eqb m 0 ≡ t → all.edge ≡ first_from w (samples_of fs) 0 (length (samples_of fs) - 1)
      go m e true z =
          let y = eqb-true m 0 z in
          let none_left : 0 ≡ length (samples_of fs) - 1 = omega (arith, y, e, length_samples fs) in
          sym (ap (λ (r : Found). r.edge) (when_eq _ _ (none 0) _ _ (sym e ∙ y) refl)) ∙ none_from w (samples_of fs) 0 ∙ ap (first_from w (samples_of fs) 0) none_left
      go m e false z =
          let y = eqb-false m 0 z in
          let many : edges_in (halves_of m) ≡ length (samples_of fs) - 1 = omega (arith, edges_are m (omega arith), e, length_samples fs) in
          sym (ap (λ (r : Found). r.edge) (when_ne _ _ (search (buffer_after xs fs) w (samples_of fs) (halves_of m) 0 0) _ _ (λ k. y (e ∙ k)) (ap (λ (k : ℕ). search (buffer_after xs fs) w (samples_of fs) (halves_of k) 0 0) e)))
          ∙ scans (buffer_after xs fs) w (samples_of fs) (halves_of m) 0 0 (subst (λ (n : ℕ). Holds (buffer_after xs fs) (5 * 0) (boxes_of (samples_of fs) (halves_of n) 0)) (sym e) (held xs fs d (omega (arith, e))))
          ∙ ap (first_from w (samples_of fs) 0) many

  off_page : 0 < edge_count (length fs)
      → ((j : ℕ) → Live (samples_of fs) (edge_count (length fs)) 0 j → ⊥) ⊎ (intersects_rect (box_at (buffer_after xs fs) 0) w ≡ false)
      → kept_answer fs w (buffer_after xs fs) ≡ Ok (none 1)
  off_page h c = outermost fs (buffer_after xs fs) w kept_done h (elim c [ inl f ↦ no_live f | inr m ↦ misses _ _ _ m ])
    where
      no_live : ((j : ℕ) → Live (samples_of fs) (edge_count (length fs)) 0 j → ⊥) → opens (buffer_after xs fs) w 0 ≡ false
      no_live f =
          let m = edge_count (length fs) in
          let own = held xs fs d h in
          opens_is (buffer_after xs fs) 0 (extent_of (samples_of fs) (halves_of m) 0) (own_box (buffer_after xs fs) (samples_of fs) (halves_of m) 0 0 own) w
          ∙ ap (λ (e : Option Rect). is_some e and intersects_rect (rect_of e) w) (dead (buffer_after xs fs) (samples_of fs) m 0 0 h own f)
          ∙ sym (else_is _ _ _ _ refl refl)

-- beside what `cut_trace_with_touches` answers, which refuses no window then
with_trace : (fs xs : List Float) (w : Rect) (whose : ℕ) (ys : List ℕ) (n : Counts) → pages_refusal (length fs) (length xs) ≡ done → answer_of true fs w (length ys) ≡ Ok n
    → (r : Found) × (kept_answer fs w (buffer_after xs fs) ≡ Ok r) × Scanned fs w whose ys n r.edge
with_trace fs xs w whose ys n d e =
    let (t, v, _) = admitted (trace_fine (length fs)) (window_fine w) (room_for (length (samples_of fs) - 1) (length ys)) (taken (trace_refusal fs w (length ys)) (counts_of (trace_cuts true w fs)) n e).0 in
    let (r, is, found) = scan fs xs w d v in
    (r, is, scanned fs w whose ys n r.edge found e)

pub promises : Promises
promises =
    record {
      all_edges = edges_are;
      two_halves = two_halves;
      few_levels = few_levels;
      built = built;
      dead_alike = λ fs gs l a. (buffer_same fs gs l a, kept_same fs gs l a);
      scan = scan;
      scanned = with_trace;
      at_most = at_most;
      found_kept = found_kept;
      outermost = outermost;
      off_page = off_page;
      nan_shut = nan_shut;
    }
