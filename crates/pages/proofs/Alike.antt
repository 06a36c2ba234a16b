-- Another dead value in place of a dead one: the same boxes, and the same edge found.
use Prim.Native.Nat.{ℕ, ◌+◌, ◌*◌}
use mathlib.Core.Path.{◌≡◌, refl, sym, ap, ap₂, ◌∙◌}
use mathlib.Core.Logic.{inl, inr}
use mathlib.Core.Bool.{Bool, true, false}
use mathlib.Core.List.{List, ◌++◌}
use lib.Ieee.{Float}
use Rattle.float.specs.Choice.{when◌then◌else◌, ◌and◌}
use Rattle.float.proofs.Choice.{cases, else_is}
use Rattle.plane.specs.declared.point.Point.{Point}
use Rattle.plane.specs.declared.rect.Rect.{Rect}
use Rattle.clip.specs.Refuse.{point_fine}
use Rattle.trace.specs.Trace.{edge_cut}
use Rattle.trace.specs.Records.{is_kept}
use Rattle.trace.specs.Promises.{sample_at}
use Rattle.trace.proofs.Touch.{dead_edge}
use Rattle.pages.specs.Halves.{Halves, single, halved, edges_in}
use Rattle.pages.specs.Boxes.{live_edge, edge_extent, joined, extent_of, five_floats, boxes_of}
use Rattle.pages.specs.Search.{opens, kept_at, found, none, first_of, search}
use Rattle.pages.specs.Promises.{SameOrDead}
use Rattle.pages.specs.declared.Found.{Found}

-- ---- an edge: the same, or both dead
dead_first : (p q : Point) → point_fine p ≡ false → live_edge p q ≡ false
dead_first p q e = ap (◌and point_fine q) e ∙ sym (else_is _ _ _ _ refl refl)

dead_second : (p q : Point) → point_fine q ≡ false → live_edge p q ≡ false
dead_second p q e = cases (λ (t : Bool). t ≡ false) (point_fine p) _ _ (λ f. e) (λ f. refl)

-- what is one thing for every dead edge is the same for both
module _ {A : Type 0} (f : Point → Point → A) (dead : A) (of_dead : (p q : Point) → live_edge p q ≡ false → f p q ≡ dead) where
  edge_alike : (a b c d : Point) → SameOrDead a c → SameOrDead b d → f a b ≡ f c d
  edge_alike a b c d (inl e) (inl g) = ap₂ f e g
  edge_alike a b c d (inr (x, y)) s = of_dead a b (dead_first a b x) ∙ sym (of_dead c d (dead_first c d y))
  edge_alike a b c d (inl e) (inr (x, y)) = of_dead a b (dead_second a b x) ∙ sym (of_dead c d (dead_second c d y))

module _ (ps qs : List Point) (alike : (k : ℕ) → SameOrDead (sample_at k ps) (sample_at k qs)) where
  -- ---- the boxes
  extent_alike : (h : Halves) (k : ℕ) → extent_of ps h k ≡ extent_of qs h k
  unfolding extent_of edge_extent
  extent_alike single k = edge_alike edge_extent _ (λ p q e. sym (else_is _ _ _ _ e refl)) _ _ _ _ (alike k) (alike (k + 1))
  extent_alike (halved f s) k = ap₂ joined (extent_alike f k) (extent_alike s (k + edges_in f))

  pub boxes_alike : (h : Halves) (k : ℕ) → boxes_of ps h k ≡ boxes_of qs h k
  unfolding boxes_of
  boxes_alike single k = ap five_floats (extent_alike single k)
  boxes_alike (halved f s) k =
      ap₂ ◌++◌ (ap five_floats (extent_alike (halved f s) k)) (ap₂ ◌++◌ (boxes_alike f k) (boxes_alike s (k + edges_in f)))

  -- ---- the search
  module _ (bs : List Float) (w : Rect) where
    kept_alike : (k : ℕ) → kept_at w ps k ≡ kept_at w qs k
    unfolding kept_at
    kept_alike k = ap is_kept (edge_alike (edge_cut true w) _ (λ p q e. sym (dead_edge true p q w e)) _ _ _ _ (alike k) (alike (k + 1)))

    pub search_alike : (h : Halves) (i k : ℕ) → search bs w ps h i k ≡ search bs w qs h i k
    unfolding search
    search_alike single i k = ap (λ (t : Bool). when opens bs w i and t then found k 1 else none 1) (kept_alike k)
    search_alike (halved f s) i k =
        ap₂ (λ (a b : Found). when opens bs w i then first_of a b else none 1) (search_alike f (i + 1) k) (search_alike s (i + 2 * edges_in f) (k + edges_in f))
