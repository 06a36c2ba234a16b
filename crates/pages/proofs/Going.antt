-- The search by its cases, as the code goes through them; and how many boxes it opens at most.
use Prim.Native.Nat.{ℕ, ◌+◌, ◌-◌, ◌*◌, ◌/◌, ◌≤◌, ◌<◌}
use native.Mathlib.Omega.{arith}
use mathlib.Core.Path.{◌≡◌, refl, sym, ap, ap₂, subst, ◌∙◌}
use mathlib.Core.Bool.{Bool, true, false}
use mathlib.Core.List.{List}
use lib.Ieee.{Float}
use Rattle.float.specs.Choice.{when◌then◌else◌, ◌and◌}
use Rattle.float.proofs.Choice.{cases, and_parts, and_both, then_is, else_is}
use Rattle.std.specs.Prelude.{Option, None, Some}
use Rattle.std.specs.Option.{is_some}
use Rattle.plane.specs.declared.point.Point.{Point}
use Rattle.plane.specs.declared.rect.Rect.{Rect}
use Rattle.plane.specs.Rect.{box_of}
use Rattle.clip.specs.Cut.{negative_slope}
use Rattle.clip.specs.Turns.{axis_x, axis_y, sides_cut}
use Rattle.clip.specs.Refuse.{point_fine, window_fine}
use Rattle.clip.specs.Answers.{edge_answer, clipped}
use Rattle.clip.proofs.AtOnce.{AllFit}
use Rattle.clip.proofs.OwnBox.{own_answer}
use Rattle.trace.specs.Trace.{edge_cut}
use Rattle.trace.specs.Records.{is_kept}
use Rattle.trace.specs.Promises.{sample_at}
use Rattle.trace.proofs.OneEdge.{fine_edge}
use Rattle.trace.proofs.Touch.{dead_edge}
use Rattle.pages.specs.Halves.{Halves, single, halved, edges_in, halves_of}
use Rattle.pages.specs.Search.{opens, kept_at, found, none, first_of, search}
use Rattle.pages.specs.declared.Found.{Found}
use Rattle.pages.proofs.Halving.{one_edge, two_halves, edges_are, some_edge}

-- with touches the cut is `clip_edge`'s
pub with_touches : (w : Rect) (a b : Point) → edge_cut true w a b ≡ clipped a b w
unfolding edge_cut when◌then◌else◌
with_touches w a b = refl

-- ---- at most 2m - 1 boxes
first_opened : (f s : Found) → (first_of f s).opened ≤ f.opened + s.opened + 1
unfolding first_of
first_opened f s = cases (λ (r : Found). r.opened ≤ f.opened + s.opened + 1) _ _ _ (λ e. omega arith) (λ e. omega arith)

module _ (bs : List Float) (w : Rect) (ps : List Point) where
  pub opened_most : (h : Halves) (i k : ℕ) → (search bs w ps h i k).opened + 1 ≤ 2 * edges_in h
  unfolding search edges_in
  opened_most single i k = cases (λ (r : Found). r.opened + 1 ≤ 2 * 1) _ _ _ (λ e. omega arith) (λ e. omega arith)
  opened_most (halved f s) i k =
      let a = search bs w ps f (i + 1) k in
      let b = search bs w ps s (i + 2 * edges_in f) (k + edges_in f) in
      cases (λ (r : Found). r.opened + 1 ≤ 2 * (edges_in f + edges_in s)) _ _ _
      (λ e. omega (arith, first_opened a b, opened_most f (i + 1) k, opened_most s (i + 2 * edges_in f) (k + edges_in f)))
      (λ e. omega (arith, some_edge f))

  -- ---- what is found is among them, and kept
  abbrev pub Held : (k n : ℕ) → Found → Type 0
  Held k n r = (j : ℕ) → r.edge ≡ Some j → (j < k + n) × (kept_at w ps j ≡ true)

  of_either : (k m n : ℕ) (a b : Found) → Held k m a → Held (k + m) n b → Held k (m + n) (first_of a b)
  unfolding first_of
  of_either k m n a b f g =
      cases (Held k (m + n)) _ _ _ (λ e j z. let (u, v) = f j z in (omega arith, v)) (λ e j z. let (u, v) = g j z in (omega arith, v))

  one_held : (k : ℕ) → kept_at w ps k ≡ true → Held k 1 (found k 1)
  one_held k e j z = let q : k ≡ j = cc in (omega arith, subst (λ (i : ℕ). kept_at w ps i ≡ true) q e)

  none_held : (k n : ℕ) → Held k n (none 1)
  none_held k n j z = cc

  pub found_held : (h : Halves) (i k : ℕ) → Held k (edges_in h) (search bs w ps h i k)
  unfolding search edges_in
  found_held single i k = cases (Held k 1) _ _ _ (λ e. one_held k (and_parts _ _ e).1) (λ e. none_held k 1)
  found_held (halved f s) i k =
      let a = found_held f (i + 1) k in
      let b = found_held s (i + 2 * edges_in f) (k + edges_in f) in
      cases (Held k (edges_in f + edges_in s)) _ _ _ (λ e. of_either k (edges_in f) (edges_in s) _ _ a b) (λ e. none_held k (edges_in f + edges_in s))

  -- ---- by cases
  pub shut : (h : Halves) (i k : ℕ) → opens bs w i ≡ false → none 1 ≡ search bs w ps h i k
  unfolding search
  shut single i k e = else_is _ _ _ _ (rw e (no_and (kept_at w ps k))) refl
    where
      no_and : (b : Bool) → (false and b) ≡ false
      no_and b = unfold when◌then◌else◌ in refl
  shut (halved f s) i k e = else_is _ _ _ _ e refl

  -- ---- of n edges from edge k on, whose boxes lie from place i on
  abbrev of_edges : ℕ → ℕ → ℕ → Found
  of_edges i k n = search bs w ps (halves_of n) i k

  pub all_shut : (i k n : ℕ) → opens bs w i ≡ false → none 1 ≡ of_edges i k n
  all_shut i k n e = shut (halves_of n) i k e

  module _ (i k n : ℕ) (o : opens bs w i ≡ true) where
    one_is : n ≡ 1 → of_edges i k n ≡ (when kept_at w ps k then found k 1 else none 1)
    unfolding search when◌then◌else◌
    one_is e = rw (one_edge n e, o) refl

    pub one_kept : n ≡ 1 → kept_at w ps k ≡ true → found k 1 ≡ of_edges i k n
    one_kept e h = then_is _ _ _ _ h refl ∙ sym (one_is e)

    pub one_not : n ≡ 1 → kept_at w ps k ≡ false → none 1 ≡ of_edges i k n
    one_not e h = else_is _ _ _ _ h refl ∙ sym (one_is e)

    module _ (some : 1 ≤ n) (more : n ≡ 1 → ⊥) where
      abbrev in_first : Found
      in_first = of_edges (i + 1) k (n - n / 2)

      abbrev in_second : Found
      in_second = of_edges (i + 2 * (n - n / 2)) (k + (n - n / 2)) (n / 2)

      both_is : first_of in_first in_second ≡ of_edges i k n
      unfolding search
      both_is =
          let many : edges_in (halves_of (n - n / 2)) ≡ n - n / 2 = edges_are (n - n / 2) (omega arith) in
          rw (two_halves n (omega arith)) (then_is _ _ _ _ o (rw many refl))

      module _ (a : Found) (is : a ≡ in_first) where
        pub in_first_lem : is_some a.edge ≡ true → record { edge = a.edge; opened = a.opened + 1 } ≡ of_edges i k n
        unfolding first_of
        in_first_lem z = then_is _ _ _ _ z refl ∙ ap (λ (r : Found). first_of r in_second) is ∙ both_is

        pub in_second_lem : is_some a.edge ≡ false → (opened : ℕ) → opened ≡ a.opened + 1 → (c : Found) → c ≡ in_second → record { edge = c.edge; opened = opened + c.opened } ≡ of_edges i k n
        unfolding first_of
        in_second_lem z opened e c f =
            let h : opened + c.opened ≡ a.opened + c.opened + 1 = omega (arith, e) in
            ap (λ (m : ℕ). record { edge = c.edge; opened = m }) h
            ∙ else_is _ _ _ _ z refl ∙ ap₂ first_of is f ∙ both_is

-- ---- one edge is kept or not
module _ (a b : Point) (w : Rect) where
  dead_is : (point_fine a and point_fine b) ≡ false → false ≡ is_kept (edge_cut true w a b)
  unfolding is_kept
  dead_is e = ap is_kept (dead_edge true a b w e)

  pub first_dead : point_fine a ≡ false → false ≡ is_kept (edge_cut true w a b)
  first_dead e = dead_is (sym (else_is _ _ _ _ e refl))

  pub second_dead : point_fine a ≡ true → point_fine b ≡ false → false ≡ is_kept (edge_cut true w a b)
  second_dead e f = dead_is (sym (then_is _ _ _ _ e (sym f)))

  some_kept : (c : Option Rect) → is_some c ≡ is_kept (edge_answer a b c)
  unfolding is_kept edge_answer
  some_kept None = refl
  some_kept (Some r) = refl

  -- of a live edge, by what the calls gave
  pub live_is : AllFit a b w → window_fine w ≡ true → point_fine a ≡ true → point_fine b ≡ true
      → (n : Bool) → n ≡ negative_slope a b → (first : Rect) → first ≡ box_of a b
      → (m : Option Rect) → m ≡ sides_cut true 4 false (axis_x a b w first) (axis_y a b w first) n → is_some m ≡ is_kept (edge_cut true w a b)
  live_is fits v x y n en first ef m em =
      some_kept m ∙ ap is_kept (own_answer a b w fits (fine_edge a b w v (and_both _ _ x y)) n en first ef m em (edge_answer a b m) refl ∙ sym (with_touches w a b))

pub ruleset dead_ways = (first_dead, second_dead)

-- of the samples of an edge
pub kept_at_lem : (t : Bool) (a b : Point) (w : Rect) (ps : List Point) (k : ℕ) → t ≡ is_kept (edge_cut true w a b) → a ≡ sample_at k ps → b ≡ sample_at (k + 1) ps
    → t ≡ kept_at w ps k
unfolding kept_at
kept_at_lem t a b w ps k e f g = e ∙ ap₂ (λ (c d : Point). is_kept (edge_cut true w c d)) f g
