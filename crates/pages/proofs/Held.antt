-- The trace's own boxes among lent floats: where each stands, and when it opens.
use Prim.Native.Nat.{ℕ, ◌+◌, ◌-◌, ◌*◌, ◌/◌, ◌<◌}
use native.Mathlib.Nat.{add-zero}
use native.Mathlib.Omega.{arith}
use mathlib.Core.Path.{◌≡◌, refl, sym, ap, subst, ◌∙◌}
use mathlib.Core.Bool.{Bool, true, false}
use mathlib.Core.List.{List, ◌++◌}
use lib.Ieee.{Float, nan, eq, of_bits}
use lib.ListN.{length, get_or, get_or-append, length-append}
use lib.Seq.{get_or-append-add}
use Rattle.std.specs.Prelude.{Option}
use Rattle.std.specs.Option.{is_some}
use Rattle.float.specs.Choice.{when◌then◌else◌, ◌and◌}
use Rattle.float.specs.Float.{one_f, zero_f}
use Rattle.plane.specs.Rect.{intersects_rect}
use Rattle.plane.specs.declared.point.Point.{Point}
use Rattle.plane.specs.declared.rect.Rect.{Rect}
use Rattle.pages.specs.Halves.{Halves, single, halved, edges_in, halves_of}
use Rattle.pages.specs.Boxes.{extent_of, rect_of, five_floats, boxes_of}
use Rattle.pages.specs.Search.{box_at, opens}
use Rattle.pages.specs.Promises.{Below, itself, first, second, mark_at}
use Rattle.pages.proofs.Halving.{two_halves, edges_are}
use Rattle.pages.proofs.Filling.{length_boxes}

-- the lent floats hold some from a place on
abbrev pub Holds : List Float → ℕ → List Float → Type 0
Holds bs p vs = (j : ℕ) → j < length vs → get_or bs (p + j) nan ≡ get_or vs j nan

module _ (bs : List Float) (p : ℕ) (xs ys : List Float) (h : Holds bs p (xs ++ ys)) where
  holds_first : Holds bs p xs
  holds_first j k = h j (omega (arith, length-append xs ys)) ∙ get_or-append xs ys nan j k

  holds_second : (q : ℕ) → q ≡ p + length xs → Holds bs q ys
  holds_second q e j k =
      let f : q + j ≡ p + (length xs + j) = omega arith in
      rw f (h (length xs + j) (omega (arith, length-append xs ys)) ∙ get_or-append-add xs ys j nan)

-- ---- the box of all comes first, then the boxes of the halves
module _ (bs : List Float) (ps : List Point) where
  pub own_box : (h : Halves) (i k : ℕ) → Holds bs (5 * i) (boxes_of ps h k) → Holds bs (5 * i) (five_floats (extent_of ps h k))
  unfolding boxes_of
  own_box single i k held = held
  own_box (halved f s) i k held = holds_first bs (5 * i) (five_floats (extent_of ps (halved f s) k)) (boxes_of ps f k ++ boxes_of ps s (k + edges_in f)) held

  module _ (f s : Halves) (i k : ℕ) (held : Holds bs (5 * i) (boxes_of ps (halved f s) k)) where
    below_it : Holds bs (5 * (i + 1)) (boxes_of ps f k ++ boxes_of ps s (k + edges_in f))
    unfolding boxes_of
    below_it = holds_second bs (5 * i) (five_floats (extent_of ps (halved f s) k)) (boxes_of ps f k ++ boxes_of ps s (k + edges_in f)) held (5 * (i + 1)) (omega arith)

    pub of_first : Holds bs (5 * (i + 1)) (boxes_of ps f k)
    of_first = holds_first bs (5 * (i + 1)) (boxes_of ps f k) (boxes_of ps s (k + edges_in f)) below_it

    pub of_second : Holds bs (5 * (i + 2 * edges_in f)) (boxes_of ps s (k + edges_in f))
    of_second =
        holds_second bs (5 * (i + 1)) (boxes_of ps f k) (boxes_of ps s (k + edges_in f)) below_it (5 * (i + 2 * edges_in f)) (omega (arith, length_boxes ps f k))

  -- so each box below one is held at its place
  pub held_below : {n i k m j l : ℕ} → Below n i k m j l → Holds bs (5 * i) (boxes_of ps (halves_of n) k) → Holds bs (5 * j) (boxes_of ps (halves_of m) l)
  held_below itself held = held
  held_below (first {m} {j} {l} b two) held =
      of_first (halves_of (m - m / 2)) (halves_of (m / 2)) j l (subst (λ (h : Halves). Holds bs (5 * j) (boxes_of ps h l)) (two_halves m two) (held_below b held))
  held_below (second {m} {j} {l} b two) held =
      let many : edges_in (halves_of (m - m / 2)) ≡ m - m / 2 = edges_are (m - m / 2) (omega arith) in
      subst (λ (n : ℕ). Holds bs (5 * (j + 2 * n)) (boxes_of ps (halves_of (m / 2)) (l + n))) many
      (of_second (halves_of (m - m / 2)) (halves_of (m / 2)) j l (subst (λ (h : Halves). Holds bs (5 * j) (boxes_of ps h l)) (two_halves m two) (held_below b held)))

-- ---- a box that is held
mark : (t : Bool) → eq (when t then one_f else zero_f) one_f ≡ t
mark true = unfold when◌then◌else◌ eq of_bits in refl
mark false = unfold when◌then◌else◌ eq of_bits in refl

module _ (bs : List Float) (i : ℕ) (e : Option Rect) (h : Holds bs (5 * i) (five_floats e)) where
  pub rect_held : box_at bs i ≡ rect_of e
  rect_held =
      let a : get_or bs (5 * i) nan ≡ (rect_of e).x.lo = ap (λ (n : ℕ). get_or bs n nan) (sym (add-zero (5 * i))) ∙ h 0 (omega arith) in
      let b : get_or bs (5 * i + 1) nan ≡ (rect_of e).y.lo = h 1 (omega arith) in
      let c : get_or bs (5 * i + 2) nan ≡ (rect_of e).x.hi = h 2 (omega arith) in
      let d : get_or bs (5 * i + 3) nan ≡ (rect_of e).y.hi = h 3 (omega arith) in
      rw (a, b, c, d) refl

  pub mark_held : mark_at bs i ≡ (when is_some e then one_f else zero_f)
  mark_held = h 4 (omega arith)

  -- opens where it is marked and shares a point
  pub opens_is : (w : Rect) → opens bs w i ≡ (is_some e and intersects_rect (rect_of e) w)
  unfolding opens
  opens_is w =
      ap (λ (r : Rect). eq (mark_at bs i) one_f and intersects_rect r w) rect_held
      ∙ ap (◌and intersects_rect (rect_of e) w) (ap (λ (m : Float). eq m one_f) mark_held ∙ mark (is_some e))
