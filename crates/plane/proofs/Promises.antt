-- What specs/Promises.antt promises, proved.
use mathlib.Core.Path.{◌≡◌, refl, sym, ap, ◌∙◌}
use mathlib.Core.Logic.{◌↔◌, ◌⊎◌, inl, inr}
use mathlib.Core.Bool.{Bool, true, false}
use lib.Ieee.{Float, lt, le, of_bits}
use Rattle.float.specs.Choice.{when◌then◌else◌}
use Rattle.float.proofs.Choice.{then_is, else_is, split, cases, and_parts, and_both}
use Rattle.float.proofs.Order.{Num, finite_num, lt_le_trans, lt_not_le, not_lt, le_not_lt}
use Rattle.plane.specs.Point.{at, finite_point}
use Rattle.plane.specs.Interval.{from◌to◌, empty_interval, is_empty, holds, contains, lesser, greater, union_of, intersection_of, end_of, finite_interval}
use Rattle.plane.specs.Rect.{empty_rect, ◌by◌, box_of, contains_point, contains_rect, intersects_rect, union_rect, or_empty, intersection_rect, finite_rect}
use Rattle.plane.specs.Within.{In, Some, InRect, ShareRect}
use Rattle.plane.specs.Promises.{OfTwo, OfTwoRects, Promises}
use Rattle.plane.specs.declared.point.Point.{Point}
use Rattle.plane.specs.declared.interval.Interval.{Interval}
use Rattle.plane.specs.declared.rect.Rect.{Rect}
use Rattle.plane.proofs.Parts.{in_some, empty_in, wider_in, end_in, lesser_below, greater_above}
use Rattle.plane.proofs.Between.{between_in, between_least, between_equal}
use Rattle.plane.proofs.Shared.{intersects_share, share_intersects, intersects_share_rect, share_intersects_rect}

-- ---- one interval
holds_in : (i : Interval) (x : Float) → holds i x ≡ true ↔ In i x
unfolding holds
holds_in i x = (λ e. let (p, q) = and_parts _ _ e in record { low = p; high = q }, λ h. and_both _ _ h.low h.high)

empty_holds : (i : Interval) (x : Float) → is_empty i ≡ true → holds i x ≡ false
unfolding is_empty holds
empty_holds i x e = cases (λ (b : Bool). b ≡ false) _ _ _ (λ p. lt_not_le _ _ (lt_le_trans _ _ _ e p)) (λ p. refl)

-- ---- a union: what holds of each of its three cases holds of it
three : (P : Interval → Type 0) (i j : Interval) → (is_empty i ≡ true → P j) → (is_empty j ≡ true → P i)
    → (is_empty i ≡ false → is_empty j ≡ false → P (from lesser i.lo j.lo to greater i.hi j.hi)) → P (union_of i j)
unfolding union_of
three P i j f g h = cases P (is_empty i) j _ f (λ p. cases P (is_empty j) i _ g (λ q. h p q))

contained : (i j : Interval) → contains i j ≡ true → is_empty j ≡ false → (le i.lo j.lo ≡ true) × (le j.hi i.hi ≡ true)
unfolding contains
contained i j e f = and_parts _ _ (else_is (is_empty j) _ true _ f refl ∙ e)

union_least : (i j k : Interval) → contains k i ≡ true → contains k j ≡ true → contains k (union_of i j) ≡ true
unfolding contains lesser greater
union_least i j k p q =
    three (λ (o : Interval). contains k o ≡ true) i j (λ e. q) (λ e. p) (λ e f.
    let (l, u) = contained k i p e in
    let (m, v) = contained k j q f in
    cases (λ (b : Bool). b ≡ true) _ _ _ (λ h. refl) (λ h.
    and_both _ _ (cases (λ (c : Float). le k.lo c ≡ true) _ _ _ (λ g. m) (λ g. l)) (cases (λ (c : Float). le c k.hi ≡ true) _ _ _ (λ g. v) (λ g. u))))

-- ---- two intervals with finite ends
-- neither end is a NaN
nums : (i : Interval) → finite_interval i ≡ true → Num i.lo × Num i.hi
unfolding finite_interval
nums i e = let (p, q) = and_parts _ _ e in (finite_num _ p, finite_num _ q)

-- one that is not empty holds both its ends
not_empty : (j : Interval) → finite_interval j ≡ true → is_empty j ≡ false → Some j
unfolding is_empty
not_empty j n h = not_lt _ _ (nums j n).1 (nums j n).0 h

contained_all : (i j : Interval) → contains i j ≡ true → (x : Float) → In j x → In i x
unfolding contains
contained_all i j e x h = split _ _ _ _ e (λ p q. empty_in j x p h) (λ p q. let (l, u) = and_parts _ _ q in wider_in l u h)

all_contained : (i j : Interval) → finite_interval j ≡ true → ((x : Float) → In j x → In i x) → contains i j ≡ true
unfolding contains end_of when◌then◌else◌
all_contained i j n f =
    cases (λ (b : Bool). b ≡ true) _ _ _ (λ h. refl) (λ h.
    let s = not_empty j n h in
    and_both _ _ (f j.lo (end_in j false s)).low (f j.hi (end_in j true s)).high)

module _ (i j : Interval) (m : finite_interval i ≡ true) (n : finite_interval j ≡ true) where
  in_both : (x : Float) → In (intersection_of i j) x ↔ (In i x × In j x)
  unfolding intersection_of greater lesser
  in_both x =
      let (l, k) = greater_above _ _ (nums i m).0 (nums j n).0 in
      let (u, v) = lesser_below _ _ (nums i m).1 (nums j n).1 in (
        λ h. (wider_in l u h, wider_in k v h),
        λ (p, q).
            record {
              low = cases (λ (c : Float). le c x ≡ true) _ _ _ (λ h. q.low) (λ h. p.low);
              high = cases (λ (c : Float). le x c ≡ true) _ _ _ (λ h. q.high) (λ h. p.high);
            },
      )

  in_either : (x : Float) → In i x ⊎ In j x → In (union_of i j) x
  in_either x h =
      let (l, k) = lesser_below _ _ (nums i m).0 (nums j n).0 in
      let (u, v) = greater_above _ _ (nums i m).1 (nums j n).1 in
      three (λ (o : Interval). In o x) i j
      (λ e. elim h [ inl p ↦ empty_in i x e p | inr p ↦ p ])
      (λ e. elim h [ inl p ↦ p | inr p ↦ empty_in j x e p ])
      (λ e f. elim h [ inl p ↦ wider_in l u p | inr p ↦ wider_in k v p ])

  union_contains : (contains (union_of i j) i ≡ true) × (contains (union_of i j) j ≡ true)
  union_contains = (all_contained (union_of i j) i m (λ x h. in_either x (inl h)), all_contained (union_of i j) j n (λ x h. in_either x (inr h)))

  of_two : OfTwo i j
  of_two = record {
    intersects_share = (intersects_share i j (λ h. (nums j n).0), share_intersects i j);
    contains_all = (contained_all i j, all_contained i j n);
    in_both = in_both;
    in_either = in_either;
    union_contains = union_contains;
  }

-- ---- rectangles
empty_is : is_empty empty_interval ≡ true
unfolding is_empty lt of_bits
empty_is = refl

-- an interval that a number lies in is not empty
held_some : (i : Interval) (x : Float) → In i x → is_empty i ≡ false
unfolding is_empty
held_some i x h = le_not_lt _ _ (in_some i x h)

contains_in : (r : Rect) (p : Point) → contains_point r p ≡ true ↔ InRect r p
unfolding contains_point
contains_in r p =
    (λ e. let (h, k) = and_parts _ _ e in record { x = (holds_in _ _).0 h; y = (holds_in _ _).0 k }, λ h. and_both _ _ ((holds_in _ _).1 h.x) ((holds_in _ _).1 h.y))

-- ---- two rectangles with finite sides
-- an intersection holds what its two axes hold: where one of them is empty, nothing
or_empty_lem : (x y : Interval) (p : Point) → InRect (or_empty x y) p ↔ InRect (x by y) p
unfolding or_empty
or_empty_lem x y p = (
  λ h. cases (λ (r : Rect). InRect r p → InRect (x by y) p) _ _ _ (λ e k. none k) (λ e. cases (λ (r : Rect). InRect r p → InRect (x by y) p) _ _ _ (λ f k. none k) (λ f k. k)) h,
  λ h. cases (λ (r : Rect). InRect r p) _ _ _ (λ e. empty_in x _ e h.x) (λ e. cases (λ (r : Rect). InRect r p) _ _ _ (λ f. empty_in y _ f h.y) (λ f. h)),
)
  where
    none : {A : Type 0} → InRect empty_rect p → A
    none k = empty_in empty_interval _ empty_is k.x

-- where the second is empty on both axes or on neither, its points tell of each axis: of one that is not empty, there is a point over every number of either axis
axes_of_points : (r q : Rect) → finite_rect q ≡ true → is_empty q.x ≡ is_empty q.y → ((p : Point) → InRect q p → InRect r p)
    → ((x : Float) → In q.x x → In r.x x) × ((y : Float) → In q.y y → In r.y y)
unfolding finite_rect
axes_of_points r q n e f = (
  λ x h. let s = end_in q.y true (not_empty q.y (and_parts _ _ n).1 (sym e ∙ held_some q.x x h)) in (f (at x _) (record { x = h; y = s })).x,
  λ y h. let s = end_in q.x true (not_empty q.x (and_parts _ _ n).0 (e ∙ held_some q.y y h)) in (f (at _ y) (record { x = s; y = h })).y,
)

module _ (r q : Rect) (m : finite_rect r ≡ true) (n : finite_rect q ≡ true) where
  on_x : OfTwo r.x q.x
  unfolding finite_rect
  on_x = of_two r.x q.x (and_parts _ _ m).0 (and_parts _ _ n).0

  on_y : OfTwo r.y q.y
  unfolding finite_rect
  on_y = of_two r.y q.y (and_parts _ _ m).1 (and_parts _ _ n).1

  rects_share : intersects_rect r q ≡ true ↔ ShareRect r q
  unfolding finite_rect
  rects_share =
      let (x, y) = and_parts _ _ n in
      (λ h. intersects_share_rect r q (λ k. (nums q.x x).0) (λ k. (nums q.y y).0) h, share_intersects_rect r q)

  contains_axes : contains_rect r q ≡ true ↔ (((x : Float) → In q.x x → In r.x x) × ((y : Float) → In q.y y → In r.y y))
  unfolding contains_rect
  contains_axes = (
    λ e. let (x, y) = and_parts _ _ e in (on_x.contains_all.0 x, on_y.contains_all.0 y),
    λ (x, y). and_both _ _ (on_x.contains_all.1 x) (on_y.contains_all.1 y),
  )

  contains_points : is_empty q.x ≡ is_empty q.y → contains_rect r q ≡ true ↔ ((p : Point) → InRect q p → InRect r p)
  contains_points e = (
    λ c p h. let (x, y) = contains_axes.0 c in record { x = x _ h.x; y = y _ h.y },
    λ f. contains_axes.1 (axes_of_points r q n e f),
  )

  points_both : (p : Point) → InRect (intersection_rect r q) p ↔ (InRect r p × InRect q p)
  points_both p = (
    λ h.
        let k = (or_empty_lem _ _ p).0 h in
        let (a, b) = (on_x.in_both _).0 k.x in
        let (c, d) = (on_y.in_both _).0 k.y in
        (record { x = a; y = c }, record { x = b; y = d }),
    λ (h, k). (or_empty_lem _ _ p).1 (record { x = (on_x.in_both _).1 (h.x, k.x); y = (on_y.in_both _).1 (h.y, k.y) }),
  )

  points_either : (p : Point) → InRect r p ⊎ InRect q p → InRect (union_rect r q) p
  points_either p h = elim h [
    | inl k ↦ record { x = on_x.in_either _ (inl k.x); y = on_y.in_either _ (inl k.y) }
    | inr k ↦ record { x = on_x.in_either _ (inr k.x); y = on_y.in_either _ (inr k.y) }
  ]

  union_both : (contains_rect (union_rect r q) r ≡ true) × (contains_rect (union_rect r q) q ≡ true)
  unfolding contains_rect
  union_both =
      let (a, b) = on_x.union_contains in
      let (c, d) = on_y.union_contains in
      (and_both _ _ a c, and_both _ _ b d)

  of_two_rects : OfTwoRects r q
  of_two_rects = record {
    rects_share = rects_share;
    contains_axes = contains_axes;
    contains_points = contains_points;
    points_both = points_both;
    points_either = points_either;
    union_both = union_both;
  }

union_least_rect : (r q s : Rect) → contains_rect s r ≡ true → contains_rect s q ≡ true → contains_rect s (union_rect r q) ≡ true
unfolding contains_rect
union_least_rect r q s e f =
    let (a, c) = and_parts _ _ e in
    let (b, d) = and_parts _ _ f in
    and_both _ _ (union_least r.x q.x s.x a b) (union_least r.y q.y s.y c d)

-- the empty interval is empty, so a rectangle with no empty axis is not the empty one
empty_axis : (i j : Interval) → or_empty i j ≡ empty_rect ↔ ((is_empty i ≡ true) ⊎ (is_empty j ≡ true))
unfolding or_empty
empty_axis i j = (
  λ e. split _ _ _ _ e (λ p q. inl p) (λ p q. split _ _ _ _ q (λ s t. inr s) (λ s t. inl (ap (λ (r : Rect). is_empty r.x) t ∙ empty_is))),
  λ h. elim h [
    | inl p ↦ sym (then_is _ _ _ _ p refl)
    | inr p ↦ cases (λ (r : Rect). r ≡ empty_rect) _ _ _ (λ q. refl) (λ q. sym (then_is _ _ _ _ p refl))
  ],
)

box_holds : (a b : Point) → finite_point a ≡ true → finite_point b ≡ true → InRect (box_of a b) a × InRect (box_of a b) b
unfolding finite_point
box_holds a b e f =
    let (ax, ay) = and_parts _ _ e in
    let (bx, bz) = and_parts _ _ f in
    let (l, u) = between_in a.x b.x (finite_num _ ax) (finite_num _ bx) in
    let (m, v) = between_in a.y b.y (finite_num _ ay) (finite_num _ bz) in
    (record { x = l; y = m }, record { x = u; y = v })

pub promises : Promises
unfolding contains union_of
promises = record {
  holds_in = holds_in;
  empty_holds = empty_holds;
  empty_contained = λ i j e. sym (then_is _ _ _ _ e refl);
  empty_first = λ i j e. sym (then_is _ _ _ _ e refl);
  empty_second = λ i j e f. sym (else_is _ _ _ _ e (then_is _ _ _ _ f refl));
  union_least = union_least;
  of_two = of_two;
  contains_in = contains_in;
  of_two_rects = of_two_rects;
  union_least_rect = union_least_rect;
  empty_axis = λ r q. empty_axis _ _;
  box_holds = box_holds;
  box_least = λ a b r p q. record { x = between_least _ _ _ p.x q.x; y = between_least _ _ _ p.y q.y };
  box_first = between_equal;
}
