-- The boxes of some edges, from those of their halves.
use Prim.Native.Nat.{ℕ, ◌+◌, ◌-◌, ◌*◌, ◌/◌, ◌≤◌}
use native.Mathlib.Omega.{arith}
use mathlib.Core.Path.{◌≡◌, refl, sym, ap, ◌∙◌}
use mathlib.Core.Bool.{true, false}
use mathlib.Core.List.{List, ◌++◌}
use lib.Ieee.{Float}
use lib.ListN.{length, length-append}
use lib.Seq.{sets}
use Rattle.std.specs.Prelude.{Option, None, Some}
use Rattle.float.proofs.Choice.{then_is, else_is, and_both}
use Rattle.plane.specs.Rect.{box_of}
use Rattle.plane.specs.declared.point.Point.{Point}
use Rattle.plane.specs.declared.rect.Rect.{Rect}
use Rattle.clip.specs.Refuse.{point_fine}
use Rattle.trace.specs.Promises.{sample_at}
use Rattle.pages.specs.Halves.{Halves, single, halved, edges_in, halves_of}
use Rattle.pages.specs.Boxes.{edge_extent, joined, extent_of, five_floats, boxes_of}
use Rattle.pages.specs.Inner.{Room}
use Rattle.pages.proofs.Halving.{one_edge, two_halves, edges_are}
use Rattle.pages.proofs.Storing.{three_runs}

-- ---- room for the halves
module _ {f r p k n : ℕ} (g : Room f r p k n) where
  pub first_room : (n ≡ 1 → ⊥) → Room f r (p + 1) k (n - n / 2)
  first_room h = record { some = omega (arith, g.some); few = g.few; within = omega (arith, g.within); before = omega (arith, g.before); fits = omega (arith, g.fits) }

  pub second_room : {q : ℕ} → q ≡ r → (n ≡ 1 → ⊥) → Room f q (p + 2 * (n - n / 2)) (k + (n - n / 2)) (n / 2)
  second_room e h = rw e (record { some = omega (arith, g.some); few = g.few; within = omega (arith, g.within); before = omega (arith, g.before); fits = omega (arith, g.fits) })

  -- the box of all of them
  pub first_fits : {q : ℕ} → q ≡ r → (5 * p + 5 ≤ q) × (p ≤ 8192)
  first_fits e = (omega (arith, g.fits, g.some), omega (arith, g.before))

  -- the first of them
  pub first_there : (2 * k + 4 ≤ f) × (k ≤ 4096)
  first_there = (omega (arith, g.within, g.some), omega (arith, g.within, g.few))

pub ruleset rooms = (first_room, second_room, first_fits, first_there)

-- ---- one edge
module _ (a b : Point) where
  pub both_live : point_fine a ≡ true → point_fine b ≡ true → Some (box_of a b) ≡ edge_extent a b
  unfolding edge_extent
  both_live e f = then_is _ _ _ _ (and_both _ _ e f) refl

  pub first_dead : point_fine a ≡ false → None ≡ edge_extent a b
  unfolding edge_extent
  first_dead e = else_is _ _ _ _ (sym (else_is _ _ _ _ e refl)) refl

  pub second_dead : point_fine a ≡ true → point_fine b ≡ false → None ≡ edge_extent a b
  unfolding edge_extent
  second_dead e f = else_is _ _ _ _ (sym (then_is _ _ _ _ e (sym f))) refl

pub ruleset edge_ways = (both_live, first_dead, second_dead)

-- ---- the boxes
module _ (ps : List Point) where
  -- five floats for each of 2m - 1 boxes
  pub length_boxes : (h : Halves) (k : ℕ) → length (boxes_of ps h k) + 5 ≡ 10 * edges_in h
  unfolding boxes_of edges_in
  length_boxes single k = omega arith
  length_boxes (halved f s) k =
      let a = length-append (boxes_of ps f k) (boxes_of ps s (k + edges_in f)) in
      omega (arith, a, length_boxes f k, length_boxes s (k + edges_in f))

  abbrev Filled : List Float → List Float → ℕ → ℕ → ℕ → Option Rect → Type 0
  Filled xs ys place k n e = (e ≡ extent_of ps (halves_of n) k) × (ys ≡ sets xs (5 * place) (boxes_of ps (halves_of n) k))

  pub fill_one : (xs ys : List Float) (place k n : ℕ) (e : Option Rect) → n ≡ 1
      → e ≡ edge_extent (sample_at k ps) (sample_at (k + 1) ps) → ys ≡ sets xs (5 * place) (five_floats e) → Filled xs ys place k n e
  unfolding extent_of boxes_of
  fill_one xs ys place k n e one is stored = rw (one_edge n one) (is, stored ∙ ap (λ (x : Option Rect). sets xs (5 * place) (five_floats x)) is)

  pub fill_both : (xs ys zs us : List Float) (place k n : ℕ) (x y e : Option Rect) → 1 ≤ n → (n ≡ 1 → ⊥)
      → Filled xs ys (place + 1) k (n - n / 2) x → Filled ys zs (place + 2 * (n - n / 2)) (k + (n - n / 2)) (n / 2) y
      → e ≡ joined x y → us ≡ sets zs (5 * place) (five_floats e) → Filled xs us place k n e
  unfolding extent_of boxes_of
  fill_both xs ys zs us place k n x y e some more (x_is, ys_is) (y_is, zs_is) e_is us_is =
      let f = halves_of (n - n / 2) in
      let s = halves_of (n / 2) in
      let many : edges_in f ≡ n - n / 2 = edges_are (n - n / 2) (omega arith) in
      let all : e ≡ joined (extent_of ps f k) (extent_of ps s (k + edges_in f)) = e_is ∙ rw (many, x_is, y_is) refl in
      let runs : us ≡ sets xs (5 * place) (five_floats e ++ (boxes_of ps f k ++ boxes_of ps s (k + (n - n / 2)))) =
      us_is ∙ rw (zs_is, ys_is) (three_runs xs (5 * place) (5 * (place + 1)) (5 * (place + 2 * (n - n / 2))) (five_floats e) (boxes_of ps f k) (boxes_of ps s (k + (n - n / 2))) (omega arith) (omega (arith, length_boxes f k, many))) in
      rw (two_halves n (omega arith)) (all, runs ∙ rw (all, many) refl)
