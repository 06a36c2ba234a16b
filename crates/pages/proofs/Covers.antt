-- The box of some edges: it holds that of each live edge, lies within whatever contains these, and is marked exactly where there is one.
use Prim.Native.Nat.{ℕ, ◌+◌, ◌-◌, ◌/◌, ◌≤◌, ◌<◌}
use native.Mathlib.Omega.{arith}
use mathlib.Core.Path.{◌≡◌, refl, sym, ap, ap₂, subst, ◌∙◌}
use mathlib.Core.Logic.{◌⊎◌, inl, inr}
use mathlib.Core.Bool.{Bool, true, false, false≢true}
use mathlib.Core.List.{List}
use lib.Ieee.{Float, lt, of_bits}
use Rattle.std.specs.Prelude.{Option, None, Some}
use Rattle.std.specs.Option.{is_some}
use Rattle.float.specs.Choice.{when◌then◌else◌}
use Rattle.float.specs.Float.{finite}
use Rattle.float.proofs.Choice.{cases, split, then_is, else_is, and_parts, and_both}
use Rattle.float.proofs.UpTo.{test_finite}
use Rattle.float.proofs.Whole.{le_or_lt}
use Rattle.plane.specs.Point.{finite_point}
use Rattle.plane.specs.Interval.{empty_interval, is_empty, holds, lesser, greater, union_of, between, finite_interval}
use Rattle.plane.specs.Rect.{◌by◌, empty_rect, box_of, contains_rect, union_rect, finite_rect}
use Rattle.plane.specs.Within.{In, InRect}
use Rattle.plane.specs.declared.point.Point.{Point}
use Rattle.plane.specs.declared.interval.Interval.{Interval}
use Rattle.plane.specs.declared.rect.Rect.{Rect}
use Rattle.plane.proofs.Between.{between_ends}
use Rattle.plane.proofs.Promises.{promises}
use Rattle.clip.specs.Refuse.{coordinate}
use Rattle.trace.specs.Promises.{sample_at}
use Rattle.pages.specs.Halves.{Halves, single, halved, edges_in, halves_of}
use Rattle.pages.specs.Boxes.{live_edge, edge_extent, joined, extent_of, rect_of}
use Rattle.pages.specs.Promises.{Below, itself, first, second}
use Rattle.pages.proofs.Halving.{two_halves, edges_are}

-- ---- every box is finite
finite_lesser : (x y : Float) → finite x ≡ true → finite y ≡ true → finite (lesser x y) ≡ true
unfolding lesser
finite_lesser x y f g = cases (λ (z : Float). finite z ≡ true) _ _ _ (λ e. g) (λ e. f)

finite_greater : (x y : Float) → finite x ≡ true → finite y ≡ true → finite (greater x y) ≡ true
unfolding greater
finite_greater x y f g = cases (λ (z : Float). finite z ≡ true) _ _ _ (λ e. g) (λ e. f)

finite_union : (i j : Interval) → finite_interval i ≡ true → finite_interval j ≡ true → finite_interval (union_of i j) ≡ true
unfolding union_of finite_interval
finite_union i j f g =
    let (a, b) = and_parts _ _ f in
    let (c, d) = and_parts _ _ g in
    cases (λ (k : Interval). finite_interval k ≡ true) _ _ _ (λ e. g)
    (λ e. cases (λ (k : Interval). finite_interval k ≡ true) _ _ _ (λ e. f)
    (λ e. and_both _ _ (finite_lesser _ _ a c) (finite_greater _ _ b d)))

finite_coordinate : (x : Float) → coordinate x ≡ true → finite x ≡ true
unfolding coordinate
finite_coordinate x f = test_finite x _ f

finite_between : (x y : Float) → coordinate x ≡ true → coordinate y ≡ true → finite_interval (between x y) ≡ true
unfolding finite_interval
finite_between x y f g =
    let (a, b) = between_ends (λ (z : Float). finite z ≡ true) x y (finite_coordinate x f) (finite_coordinate y g) in
    and_both _ _ a b

finite_edge : (a b : Point) → finite_rect (rect_of (edge_extent a b)) ≡ true
unfolding edge_extent finite_rect
finite_edge a b =
    cases (λ (e : Option Rect). finite_rect (rect_of e) ≡ true) _ _ _
    (λ f.
    let (p, q) = and_parts _ _ f in
    let (ax, ay) = and_parts _ _ p in
    let (bx, bz) = and_parts _ _ q in
    and_both _ _ (finite_between _ _ ax bx) (finite_between _ _ ay bz))
    (λ f. empty)
  where
    empty : finite_rect empty_rect ≡ true
    empty = unfold finite_rect finite_interval finite of_bits when◌then◌else◌ in refl

finite_joined : (e g : Option Rect) → finite_rect (rect_of e) ≡ true → finite_rect (rect_of g) ≡ true → finite_rect (rect_of (joined e g)) ≡ true
unfolding finite_rect
finite_joined None g x y = y
finite_joined (Some r) None x y = x
finite_joined (Some r) (Some q) x y =
    let (a, b) = and_parts _ _ x in
    let (c, d) = and_parts _ _ y in
    and_both _ _ (finite_union _ _ a c) (finite_union _ _ b d)

pub finite_extent : (ps : List Point) (h : Halves) (k : ℕ) → finite_rect (rect_of (extent_of ps h k)) ≡ true
unfolding extent_of
finite_extent ps single k = finite_edge _ _
finite_extent ps (halved f s) k = finite_joined (extent_of ps f k) (extent_of ps s (k + edges_in f)) (finite_extent ps f k) (finite_extent ps s (k + edges_in f))

-- ---- a live edge marks the boxes above it, which hold each point of its own
pub record Marked (e : Option Rect) (p : Point) : Type 0 where
  pub live : is_some e ≡ true
  pub inside : InRect (rect_of e) p

edge_marked : (a b p : Point) → live_edge a b ≡ true → InRect (box_of a b) p → Marked (edge_extent a b) p
unfolding edge_extent
edge_marked a b p f i = subst (λ (e : Option Rect). Marked e p) (then_is _ _ _ _ f refl) (record { live = refl; inside = i })

either_marked : (p : Point) (e g : Option Rect) → finite_rect (rect_of e) ≡ true → finite_rect (rect_of g) ≡ true → Marked e p ⊎ Marked g p → Marked (joined e g) p
either_marked p None g x y (inl m) = absurd (false≢true m.live)
either_marked p None g x y (inr m) = m
either_marked p (Some r) None x y (inl m) = m
either_marked p (Some r) None x y (inr m) = absurd (false≢true m.live)
either_marked p (Some r) (Some q) x y s =
    let both = (promises.of_two_rects r q x y).points_either p in
    record { live = refl; inside = both (elim s [ inl m ↦ inl m.inside | inr m ↦ inr m.inside ]) }

module _ (ps : List Point) (p : Point) (j : ℕ) (f : live_edge (sample_at j ps) (sample_at (j + 1) ps) ≡ true)
    (i : InRect (box_of (sample_at j ps) (sample_at (j + 1) ps)) p) where
  pub covered : (h : Halves) (k : ℕ) → k ≤ j → j < k + edges_in h → Marked (extent_of ps h k) p
  unfolding extent_of edges_in
  covered single k l u =
      let e : j ≡ k = omega arith in
      subst (λ (n : ℕ). Marked (edge_extent (sample_at n ps) (sample_at (n + 1) ps)) p) e (edge_marked _ _ p f i)
  covered (halved a b) k l u =
      either_marked p (extent_of ps a k) (extent_of ps b (k + edges_in a)) (finite_extent ps a k) (finite_extent ps b (k + edges_in a))
      (elim (le_or_lt (k + edges_in a) j) [ inl v ↦ inr (covered b (k + edges_in a) v (omega arith)) | inr v ↦ inl (covered a k l v) ])

-- the box of a live edge holds its first sample, so it has a point
pub holds_own : (a b : Point) → live_edge a b ≡ true → InRect (box_of a b) a
holds_own a b f =
    let (p, q) = and_parts _ _ f in
    let (ax, ay) = and_parts _ _ p in
    let (bx, bz) = and_parts _ _ q in
    (promises.box_holds a b (finite_point_lem a ax ay) (finite_point_lem b bx bz)).0
  where
    finite_point_lem : (p : Point) → coordinate p.x ≡ true → coordinate p.y ≡ true → finite_point p ≡ true
    finite_point_lem p x y = unfold finite_point in and_both _ _ (finite_coordinate _ x) (finite_coordinate _ y)

-- ---- it lies within every rectangle that contains them
empty_is : is_empty empty_interval ≡ true
unfolding is_empty lt of_bits
empty_is = refl

in_any : (r : Rect) → contains_rect r empty_rect ≡ true
unfolding contains_rect
in_any r = and_both _ _ (promises.empty_contained _ _ empty_is) (promises.empty_contained _ _ empty_is)

module _ (ps : List Point) (r : Rect) where
  least_joined : (e g : Option Rect) → contains_rect r (rect_of e) ≡ true → contains_rect r (rect_of g) ≡ true → contains_rect r (rect_of (joined e g)) ≡ true
  least_joined None g x y = y
  least_joined (Some q) None x y = x
  least_joined (Some q) (Some s) x y = promises.union_least_rect q s r x y

  pub least : (h : Halves) (k : ℕ)
      → ((j : ℕ) → k ≤ j → j < k + edges_in h → live_edge (sample_at j ps) (sample_at (j + 1) ps) ≡ true → contains_rect r (box_of (sample_at j ps) (sample_at (j + 1) ps)) ≡ true)
      → contains_rect r (rect_of (extent_of ps h k)) ≡ true
  unfolding extent_of edges_in edge_extent
  least single k f = cases (λ (e : Option Rect). contains_rect r (rect_of e) ≡ true) _ _ _ (λ l. f k (omega arith) (omega arith) l) (λ l. in_any r)
  least (halved a b) k f =
      least_joined (extent_of ps a k) (extent_of ps b (k + edges_in a)) (least a k (λ j l u v. f j l (omega arith) v)) (least b (k + edges_in a) (λ j l u v. f j (omega arith) (omega arith) v))

-- ---- without a live edge there is none
module _ (ps : List Point) where
  pub none_live : (h : Halves) (k : ℕ) → ((j : ℕ) → k ≤ j → j < k + edges_in h → live_edge (sample_at j ps) (sample_at (j + 1) ps) ≡ false) → extent_of ps h k ≡ None
  unfolding extent_of edges_in edge_extent
  none_live single k f = sym (else_is _ _ _ _ (f k (omega arith) (omega arith)) refl)
  none_live (halved a b) k f =
      ap₂ joined (none_live a k (λ j l u. f j l (omega arith))) (none_live b (k + edges_in a) (λ j l u. f j (omega arith) (omega arith)))

-- ---- it contains the boxes below it
contains_refl : (r : Rect) → finite_rect r ≡ true → contains_rect r r ≡ true
contains_refl r f = (promises.of_two_rects r r f f).contains_axes.1 (λ x h. h, λ y h. h)

contains_trans : (r q s : Rect) → finite_rect r ≡ true → finite_rect q ≡ true → finite_rect s ≡ true → contains_rect r q ≡ true → contains_rect q s ≡ true → contains_rect r s ≡ true
contains_trans r q s f g h a b =
    let (ax, ay) = (promises.of_two_rects r q f g).contains_axes.0 a in
    let (bx, bz) = (promises.of_two_rects q s g h).contains_axes.0 b in
    (promises.of_two_rects r s f h).contains_axes.1 (λ x i. ax x (bx x i), λ y i. ay y (bz y i))

-- a box that is there has a point, so that it is not empty
Pointed : Option Rect → Type 0
Pointed e = (r : Rect) → e ≡ Some r → (p : Point) × InRect r p

pointed_edge : (a b : Point) → Pointed (edge_extent a b)
unfolding Pointed edge_extent
pointed_edge a b r e = split (live_edge a b) (Some (box_of a b)) None (Some r) e (λ l k. (a, subst (λ (q : Rect). InRect q a) (cc) (holds_own a b l))) (λ l k. cc)

pointed_joined : (e g : Option Rect) → finite_rect (rect_of e) ≡ true → finite_rect (rect_of g) ≡ true → Pointed e → Pointed g → Pointed (joined e g)
unfolding Pointed
pointed_joined None g x y a b r e = b r e
pointed_joined (Some q) None x y a b r e = a r e
pointed_joined (Some q) (Some s) x y a b r e =
    let (p, i) = a q refl in
    (p, subst (λ (t : Rect). InRect t p) (cc) ((promises.of_two_rects q s x y).points_either p (inl i)))

pointed : (ps : List Point) (h : Halves) (k : ℕ) → Pointed (extent_of ps h k)
unfolding extent_of
pointed ps single k = pointed_edge _ _
pointed ps (halved f s) k =
    pointed_joined (extent_of ps f k) (extent_of ps s (k + edges_in f)) (finite_extent ps f k) (finite_extent ps s (k + edges_in f)) (pointed ps f k) (pointed ps s (k + edges_in f))

not_empty : (i : Interval) (x : Float) → In i x → is_empty i ≡ false
not_empty i x h = go (is_empty i) refl
  where
    go : (b : Bool) → is_empty i ≡ b → b ≡ false
    go true e = absurd (false≢true (sym (promises.empty_holds i x e) ∙ unfold holds in and_both _ _ h.low h.high))
    go false e = refl

-- the rectangle of both is the union of theirs, also where one of them is not there
union_joined : (e g : Option Rect) → Pointed e → rect_of (joined e g) ≡ union_rect (rect_of e) (rect_of g)
unfolding Pointed
union_joined None g a = sym (ap₂ ◌by◌ (promises.empty_first empty_interval (rect_of g).x empty_is) (promises.empty_first empty_interval (rect_of g).y empty_is))
union_joined (Some r) None a =
    let (p, i) = a r refl in
    sym (ap₂ ◌by◌ (promises.empty_second r.x empty_interval (not_empty r.x p.x i.x) empty_is) (promises.empty_second r.y empty_interval (not_empty r.y p.y i.y) empty_is))
union_joined (Some r) (Some q) a = refl

both_joined : (e g : Option Rect) → finite_rect (rect_of e) ≡ true → finite_rect (rect_of g) ≡ true
    → (contains_rect (rect_of (joined e g)) (rect_of e) ≡ true) × (contains_rect (rect_of (joined e g)) (rect_of g) ≡ true)
both_joined None g x y = (in_any (rect_of g), contains_refl (rect_of g) y)
both_joined (Some r) None x y = (contains_refl r x, in_any r)
both_joined (Some r) (Some q) x y = (promises.of_two_rects r q x y).union_both

module _ (ps : List Point) where
  abbrev box_of_all : ℕ → ℕ → Rect
  box_of_all n k = rect_of (extent_of ps (halves_of n) k)

  fine : (n k : ℕ) → finite_rect (box_of_all n k) ≡ true
  fine n k = finite_extent ps (halves_of n) k

  -- it is that of its halves
  joined_is : (n k : ℕ) → 2 ≤ n → extent_of ps (halves_of n) k ≡ joined (extent_of ps (halves_of (n - n / 2)) k) (extent_of ps (halves_of (n / 2)) (k + (n - n / 2)))
  unfolding extent_of
  joined_is n k two =
      ap (λ (h : Halves). extent_of ps h k) (two_halves n two)
      ∙ ap (λ (m : ℕ). joined (extent_of ps (halves_of (n - n / 2)) k) (extent_of ps (halves_of (n / 2)) (k + m))) (edges_are (n - n / 2) (omega arith))

  -- and its rectangle the union of theirs, whatever is dead
  pub union_is : (n k : ℕ) → 2 ≤ n → box_of_all n k ≡ union_rect (box_of_all (n - n / 2) k) (box_of_all (n / 2) (k + (n - n / 2)))
  union_is n k two =
      let f = halves_of (n - n / 2) in
      ap rect_of (joined_is n k two) ∙ union_joined (extent_of ps f k) (extent_of ps (halves_of (n / 2)) (k + (n - n / 2))) (pointed ps f k)

  both_halves : (n k : ℕ) → 2 ≤ n → (contains_rect (box_of_all n k) (box_of_all (n - n / 2) k) ≡ true) × (contains_rect (box_of_all n k) (box_of_all (n / 2) (k + (n - n / 2))) ≡ true)
  both_halves n k two =
      rw (joined_is n k two) (both_joined (extent_of ps (halves_of (n - n / 2)) k) (extent_of ps (halves_of (n / 2)) (k + (n - n / 2))) (fine (n - n / 2) k) (fine (n / 2) (k + (n - n / 2))))

  pub contains_below : {n i k m j l : ℕ} → Below n i k m j l → contains_rect (box_of_all n k) (box_of_all m l) ≡ true
  contains_below {n} {i} {k} itself = contains_refl (box_of_all n k) (fine n k)
  contains_below {n} {i} {k} (first {m} {j} {l} b two) =
      contains_trans _ (box_of_all m l) _ (fine n k) (fine m l) (fine (m - m / 2) l) (contains_below b) (both_halves m l two).0
  contains_below {n} {i} {k} (second {m} {j} {l} b two) =
      contains_trans _ (box_of_all m l) _ (fine n k) (fine m l) (fine (m / 2) (l + (m - m / 2))) (contains_below b) (both_halves m l two).1
