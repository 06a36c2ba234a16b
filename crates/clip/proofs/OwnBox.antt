-- In the edge's own box a value of the line needs no holding but where it would lose the edge. Past the end that it moves it moves nothing; past the end that stays, held or not,
-- it loses the edge, unless that end is still the edge's own: there the held value is that end. So the loop over the edge's own box is the cut of the definition.
use Rattle.std.specs.Prelude.{Option, Some, None, Result}
use Rattle.clip.specs.declared.Segment.{Segment}
use Rattle.answer.specs.declared.Refusal.{Refusal}
use Prim.Native.Nat.{ℕ, zero, suc}
use mathlib.Core.Path.{◌≡◌, refl, sym, ap, subst, ◌∙◌}
use mathlib.Core.Bool.{Bool, true, false, not, true≢false}
use lib.Ieee.{Float, lt, eq, unlike}
use Rattle.float.specs.Choice.{when◌then◌else◌, ◌and◌}
use Rattle.float.proofs.Choice.{then_is, else_is, cases, and_parts, and_both}
use Rattle.float.proofs.Order.{Num, finite_num, le_refl, le_trans, le_eq, lt_le_trans, le_lt_trans, le_not_lt, lt_le, eq_le}
use Rattle.plane.specs.Interval.{from◌to◌, between, end_of}
use Rattle.plane.specs.Rect.{box_of}
use Rattle.plane.specs.Within.{In, Part}
use Rattle.plane.specs.Within as within
use Rattle.plane.specs.declared.point.Point.{Point}
use Rattle.plane.specs.declared.interval.Interval.{Interval}
use Rattle.plane.specs.declared.rect.Rect.{Rect}
use Rattle.plane.proofs.Parts.{part_refl, part_trans, part_in}
use Rattle.plane.proofs.Between.{between_in, between_equal, a_end, second_end}
use Rattle.plane.proofs.Promises.{promises as plane}
use Rattle.clip.specs.declared.compute.Axis.{Axis}
use Rattle.clip.specs.declared.compute.Both.{Both}
use Rattle.clip.specs.Cut.{on_line, held_in, value_at, negative_slope, inward, moved_end, side_with, side_cut, box_cut}
use Rattle.clip.specs.Turns.{axis_x, axis_y, bounded_by, own_end, stayed, own_moved, line_moved, turn_cut, where_left, sides_cut}
use Rattle.clip.specs.Answers.{edge_answer, clipped}
use Rattle.clip.specs.Promises.{Fine}
use Rattle.clip.proofs.Sides.{up_to, inward_up, not_inward, up_not, end_num, in_up, in_from, reaches}
use Rattle.clip.proofs.Moves.{side_part}
use Rattle.clip.proofs.Asks.{Asked, asked_in}
use Rattle.clip.proofs.AtOnce.{AllFit, all_handed}
use Rattle.clip.proofs.Cases.{fine_clipped}
use Rattle.clip.proofs.Numbers.{fine_parts}
use Rattle.clip.proofs.Held.{Fit, line_num, held_within}
use Rattle.clip.proofs.Values.{along_both, first_some}
use Rattle.clip.proofs.Turns.{four_sides}
use Rattle.clip.proofs.OwnLine.{own_line_lem}

-- ---- the order as seen from either end
up_trans : (d : Bool) (x y z : Float) → up_to d x y ≡ true → up_to d y z ≡ true → up_to d x z ≡ true
up_trans true x y z p q = le_trans x y z p q
up_trans false x y z p q = le_trans z y x q p

inward_trans : (d : Bool) (x y z : Float) → inward d x y ≡ true → up_to d y z ≡ true → inward d x z ≡ true
unfolding inward when◌then◌else◌
inward_trans true x y z p q = lt_le_trans x y z p q
inward_trans false x y z p q = le_lt_trans z y x q p

up_eq : (d : Bool) (x y : Float) → up_to d x y ≡ true → up_to d y x ≡ true → eq y x ≡ true
up_eq true x y p q = le_eq y x q p
up_eq false x y p q = le_eq y x p q

eq_up : (d : Bool) (x y : Float) → eq x y ≡ true → up_to d x y ≡ true
eq_up true x y e = (eq_le x y e).0
eq_up false x y e = (eq_le x y e).1

never : {A : Type 0} {b : Bool} → b ≡ true → b ≡ false → A
never p q = absurd (true≢false (sym p ∙ q))

-- from the end that stays to the end that moves
across : (d : Bool) (i : Interval) → within.Some i → up_to d (end_of i (not d)) (end_of i d) ≡ true
unfolding end_of when◌then◌else◌
across true i s = s
across false i s = s

-- ---- a value held in j, as seen from the end d
held_past : (d : Bool) (j : Interval) (v : Float) → within.Some j → inward d v (end_of j (not d)) ≡ true → held_in j v ≡ end_of j (not d)
unfolding held_in inward end_of when◌then◌else◌
held_past true j v s p = rw p
held_past false j v s p = rw (le_not_lt _ _ (le_trans _ _ _ s (lt_le _ _ p)), p)

-- not past the end that stays it is as it was, or the end that moves, which it passed
held_else : (d : Bool) (j : Interval) (v : Float) (P : Float → Type 0) → inward d v (end_of j (not d)) ≡ false
    → (inward d (end_of j d) v ≡ true → P (end_of j d)) → P v → P (held_in j v)
unfolding held_in inward end_of when◌then◌else◌
held_else true j v P p f g = rw p (cases P _ _ _ f (λ k. g))
held_else false j v P p f g = cases P _ _ _ f (λ k. rw p g)

-- ---- an end of i, a part of j, moved
module _ (d : Bool) (i j : Interval) (part : Part i j) where
  some_j : within.Some j
  some_j = le_trans _ _ _ part.low (le_trans _ _ _ part.some part.high)

  -- the ends in their order: of j the one that stays, of i the one that stays and the one that moves, of j the one that moves
  stays_up : up_to d (end_of j (not d)) (end_of i (not d)) ≡ true
  stays_up = go d
    where
      go : (d : Bool) → up_to d (end_of j (not d)) (end_of i (not d)) ≡ true
      go true = unfold end_of when◌then◌else◌ in part.low
      go false = unfold end_of when◌then◌else◌ in part.high

  moves_up : up_to d (end_of i d) (end_of j d) ≡ true
  moves_up = reaches d i j part

  -- a value that is not inward of the end that moves moves nothing
  moved_none : (v : Float) → up_to d (end_of i d) v ≡ true → moved_end i d v ≡ Some i
  unfolding moved_end
  moved_none v p = sym (else_is _ _ _ _ (up_not d _ _ (up_trans d _ _ _ (across d i part.some) p)) (else_is _ _ _ _ (up_not d _ _ p) refl))

  -- holding changes nothing where the value is not past the end that stays
  held_same : (v : Float) → inward d v (end_of j (not d)) ≡ false → moved_end i d (held_in j v) ≡ moved_end i d v
  held_same v p =
      held_else d j v (λ (x : Float). moved_end i d x ≡ moved_end i d v) p
      (λ q. moved_none _ moves_up ∙ sym (moved_none v (up_trans d _ _ _ moves_up (inward_up d _ _ q)))) refl

  module _ (v own : Float) where
    -- where the value is past both ends of i, and where it is not
    own_cases : (P : Option Interval → Type 0) → (inward d v (end_of i d) ≡ true → inward d v (end_of i (not d)) ≡ true → P (stayed i d own))
        → ((inward d v (end_of i d) and inward d v (end_of i (not d))) ≡ false → P (moved_end i d v)) → P (own_moved i d v own)
    unfolding own_moved
    own_cases P f g = cases P _ _ _ (λ e. let (p, q) = and_parts _ _ e in f p q) g

    -- the own end is j's: the value is held there
    own_held : own ≡ end_of j (not d) → own_moved i d v own ≡ moved_end i d (held_in j v)
    own_held o = go (inward d v (end_of j (not d))) refl
      where
        Same : Option Interval → Type 0
        Same m = m ≡ moved_end i d (held_in j v)

        -- past it: lost exactly where i's own end was moved
        at_own : held_in j v ≡ end_of j (not d) → stayed i d own ≡ moved_end i d (held_in j v)
        at_own e =
            unfold stayed in cases Same _ _ _ (λ k. rw (e, o))
            (λ k. rw e (unfold moved_end in then_is _ _ _ _ (strictly k) refl))
          where
            strictly : eq (end_of i (not d)) own ≡ false → inward d (end_of j (not d)) (end_of i (not d)) ≡ true
            strictly k = test (inward d (end_of j (not d)) (end_of i (not d))) refl
              where
                test : (c : Bool) → inward d (end_of j (not d)) (end_of i (not d)) ≡ c → inward d (end_of j (not d)) (end_of i (not d)) ≡ true
                test true h = h
                test false h =
                    let back = not_inward d _ _ (end_num j (not d) some_j) (end_num i (not d) part.some) h in
                    never (up_eq d _ _ stays_up back) (subst (λ (x : Float). eq (end_of i (not d)) x ≡ false) o k)

        go : (c : Bool) → inward d v (end_of j (not d)) ≡ c → Same (own_moved i d v own)
        go true p =
            let s = inward_trans d _ _ _ p stays_up in
            own_cases Same (λ a b. at_own (held_past d j v some_j p)) (λ e. never (and_both _ _ (inward_trans d _ _ _ s (across d i part.some)) s) e)
        go false p = own_cases Same (λ a b. lost b ∙ sym (held_same v p)) (λ e. sym (held_same v p))
          where
            lost : inward d v (end_of i (not d)) ≡ true → stayed i d own ≡ moved_end i d v
            lost b =
                unfold stayed in cases (λ (m : Option Interval). m ≡ moved_end i d v) _ _ _
                (λ k. never (inward_trans d _ _ _ b (subst (λ (x : Float). up_to d (end_of i (not d)) x ≡ true) o (eq_up d _ _ k))) p)
                (λ k. unfold moved_end in then_is _ _ _ _ b refl)

    -- j is one number: nothing moves
    own_flat : up_to d (end_of j d) (end_of j (not d)) ≡ true → In j own → Num v → own_moved i d v own ≡ moved_end i d (held_in j v)
    own_flat flat o n = own_cases (λ (m : Option Interval). m ≡ moved_end i d (held_in j v)) (λ p q. stay ∙ sym held) (λ e. moved_none v (beyond e) ∙ sym held)
      where
        -- every number of j is up from the end that moves, and up to the end that stays
        up : (x : Float) → In j x → up_to d (end_of i d) x ≡ true
        up x h = up_trans d _ _ _ moves_up (up_trans d _ _ _ flat (in_from d j x h))

        down : (x : Float) → In j x → up_to d x (end_of i (not d)) ≡ true
        down x h = up_trans d _ _ _ (up_trans d _ _ _ (in_up d j x h) flat) stays_up

        held : moved_end i d (held_in j v) ≡ Some i
        held = moved_none _ (up _ (held_within j v some_j n))

        stay : stayed i d own ≡ Some i
        stay = unfold stayed in sym (then_is _ _ _ _ (up_eq d _ _ (down own o) (up_trans d _ _ _ (across d i part.some) (up own o))) (sym (moved_none own (up own o))))

        beyond : (inward d v (end_of i d) and inward d v (end_of i (not d))) ≡ false → up_to d (end_of i d) v ≡ true
        beyond e = test (inward d v (end_of i d)) refl
          where
            test : (c : Bool) → inward d v (end_of i d) ≡ c → up_to d (end_of i d) v ≡ true
            test true p = never (and_both _ _ p (inward_trans d _ _ _ p (up_trans d _ _ _ moves_up (up_trans d _ _ _ flat stays_up)))) e
            test false p = not_inward d _ _ n (end_num i d part.some) p

-- ---- two axes of the edge, and what is left of its box on each
pub record Axes (t u : Axis) (n : Bool) : Type 0 where
  pub slope : unlike (lt t.b t.a) (lt u.b u.a) ≡ n
  pub this : Part t.bound (between t.a t.b)
  pub other : Part u.bound (between u.a u.b)
  pub at_this : (d : Bool) → Fit (end_of t.clip d) t.a t.b u.a u.b
  pub at_other : (d : Bool) → Fit (end_of u.clip d) u.a u.b t.a t.b

-- where b is below a on this axis (below) or on the other (below1), the end of the other that stays at a side is A's or B's
stays_at : (high below below1 : Bool) → not (unlike high (unlike below below1)) ≡ (when unlike high below then below1 else not below1)
unfolding when◌then◌else◌
stays_at true true true = refl
stays_at true true false = refl
stays_at true false true = refl
stays_at true false false = refl
stays_at false true true = refl
stays_at false true false = refl
stays_at false false true = refl
stays_at false false false = refl

-- a box that is one number on an axis is cut at no side of it
flat_not_asked : (d : Bool) (i j w : Interval) → Part i j → up_to d (end_of j d) (end_of j (not d)) ≡ true → Asked d i w → ⊥
flat_not_asked d i j w part flat q =
    let low = in_from d i _ (asked_in d i w part.some q) in
    true≢false (sym q.0 ∙ up_not d _ _ (up_trans d _ _ _ (moves_up d i j part) (up_trans d _ _ _ flat (up_trans d _ _ _ (stays_up d i j part) low))))

-- the interval of two that compare equal
level_flat : (d : Bool) (a b : Float) → Num a → eq a b ≡ true → up_to d (end_of (between a b) d) (end_of (between a b) (not d)) ≡ true
level_flat d a b n e = rw (between_equal a b e) (go d)
  where
    go : (d : Bool) → up_to d (end_of (from a to a) d) (end_of (from a to a) (not d)) ≡ true
    go true = unfold end_of when◌then◌else◌ in le_refl a n
    go false = unfold end_of when◌then◌else◌ in le_refl a n

module _ (high : Bool) (t u : Axis) (n : Bool) (x : Axes t u n) where
  abbrev Heights : Interval
  Heights = between u.a u.b

  num_ua : Num u.a
  num_ua = finite_num _ (x.at_this high).height_a.value.is_finite

  num_ub : Num u.b
  num_ub = finite_num _ (x.at_this high).height_b.value.is_finite

  -- the own end is the one that stays, but for two heights that compare equal
  own_stays : eq u.a u.b ≡ false → own_end high t u ≡ end_of Heights (not (unlike high n))
  unfolding own_end
  own_stays e =
      cases (λ (v : Float). v ≡ end_of Heights (not (unlike high n))) _ _ _
      (λ h. sym (a_end _ _) ∙ ap (end_of Heights) (sym (place ∙ sym (then_is _ _ _ _ h refl))))
      (λ h. else_is _ _ _ _ e refl ∙ second_end _ _ num_ua num_ub ∙ ap (end_of Heights) (sym (place ∙ sym (else_is _ _ _ _ h refl))))
    where
      place : not (unlike high n) ≡ (when unlike high (lt t.b t.a) then lt u.b u.a else not (lt u.b u.a))
      place = ap (λ (k : Bool). not (unlike high k)) (sym x.slope) ∙ stays_at high _ _

  own_in : In Heights (own_end high t u)
  unfolding own_end
  own_in = let (p, q) = between_in _ _ num_ua num_ub in cases (In Heights) _ _ _ (λ h. p) (λ h. q)

  abbrev side : Float
  side = end_of t.clip high

  side_in : Asked high t.bound t.clip → In (between t.a t.b) side
  side_in q = part_in _ _ _ x.this (asked_in high t.bound t.clip x.this.some q)

  -- where a side cuts, the ends differ and the side lies between them: the value is the line's, held
  value_held : Asked high t.bound t.clip → (eq t.a t.b ≡ false) × (value_at side t.a t.b u.a u.b ≡ held_in Heights (on_line side t.a t.b u.a u.b))
  unfolding value_at
  value_held q = (apart, sym (else_is _ _ _ _ apart (then_is _ _ _ _ ((plane.holds_in _ _).1 (side_in q)) refl)))
    where
      apart : eq t.a t.b ≡ false
      apart = go (eq t.a t.b) refl
        where
          go : (c : Bool) → eq t.a t.b ≡ c → eq t.a t.b ≡ false
          go true e = absurd (flat_not_asked high t.bound _ t.clip x.this (level_flat high _ _ (finite_num _ (x.at_this high).at_a.value.is_finite) e) q)
          go false e = e

  moved_same : Asked high t.bound t.clip → line_moved true high t u (unlike high n) ≡ line_moved false high t u (unlike high n)
  unfolding line_moved when◌then◌else◌
  moved_same q =
      let (apart, held) = value_held q in
      rw (own_line_lem (x.at_this high) (side_in q)) (go (eq u.a u.b) refl (line_num (x.at_this high) apart) ∙ ap (moved_end u.bound (unlike high n)) (sym held))
    where
      v : Float
      v = on_line side t.a t.b u.a u.b

      go : (c : Bool) → eq u.a u.b ≡ c → Num v → own_moved u.bound (unlike high n) v (own_end high t u) ≡ moved_end u.bound (unlike high n) (held_in Heights v)
      go true e k = own_flat (unlike high n) u.bound Heights x.other v _ (level_flat (unlike high n) _ _ num_ua e) own_in k
      go false e k = own_held (unlike high n) u.bound Heights x.other v _ (own_stays e)

  turn_same : turn_cut true high t u n ≡ turn_cut false high t u n
  unfolding turn_cut
  turn_same = go (inward high side (end_of t.bound high)) (inward high side (end_of t.bound (not high))) refl refl
    where
      go : (p q : Bool) → inward high side (end_of t.bound high) ≡ p → inward high side (end_of t.bound (not high)) ≡ q
          → side_with high t.bound u.bound t.clip (line_moved true high t u (unlike high n)) ≡ side_with high t.bound u.bound t.clip (line_moved false high t u (unlike high n))
      go true true e f = unfold when◌then◌else◌ in rw (e, f)
      go true false e f = rw (moved_same (e, f))
      go false q e f = unfold when◌then◌else◌ in rw e

  -- what a side leaves is again of the edge's own box
  turn_axes : (s : Both) → turn_cut false high t u n ≡ Some s → Axes (bounded_by t s.this) (bounded_by u s.other) n
  unfolding turn_cut line_moved when◌then◌else◌
  turn_axes s e =
      let (p, q, r) = side_part high t.a t.b t.bound u.a u.b u.bound n t.clip s x.this.some (finite_num _ (x.at_this high).at_x.value.is_finite) (unfold side_cut in e) in
      record { slope = x.slope; this = part_trans _ _ _ p x.this; other = part_trans _ _ _ (q x.other.some) x.other; at_this = x.at_this; at_other = x.at_other }

unlike_swap : (c d : Bool) → unlike c d ≡ unlike d c
unlike_swap true true = refl
unlike_swap true false = refl
unlike_swap false true = refl
unlike_swap false false = refl

-- the axes change places
swapped : (t u : Axis) (n : Bool) → Axes t u n → Axes u t n
swapped t u n x = record { slope = unlike_swap (lt u.b u.a) (lt t.b t.a) ∙ x.slope; this = x.other; other = x.this; at_this = x.at_other; at_other = x.at_this }

sides_same : (k : ℕ) (high : Bool) (t u : Axis) (n : Bool) → Axes t u n → sides_cut true k high t u n ≡ sides_cut false k high t u n
unfolding sides_cut
sides_same zero high t u n x = refl
sides_same (suc k) high t u n x =
    ap (λ (m : Option Both). where_left m (rest true)) (turn_same high t u n x) ∙ go (λ h v w y. sides_same k h v w n y) (turn_cut false high t u n) refl
  where
    rest : Bool → Both → Option Rect
    rest own s =
        when high then sides_cut own k false (bounded_by u s.other) (bounded_by t s.this) n
        else sides_cut own k true (bounded_by t s.this) (bounded_by u s.other) n

    go : ((h : Bool) (v w : Axis) → Axes v w n → sides_cut true k h v w n ≡ sides_cut false k h v w n)
        → (m : Option Both) → turn_cut false high t u n ≡ m → where_left m (rest true) ≡ where_left m (rest false)
    go fewer (Some s) e =
        let y = turn_axes high t u n x s e in
        unfold where_left in rw (fewer false _ _ (swapped _ _ n y), fewer true _ _ y)
    go fewer None e = unfold where_left in refl

-- ---- the four sides, from the edge's own box
module _ (a b : Point) (w : Rect) (t : AllFit a b w) (f : Fine a b w) where
  own_cut : sides_cut true 4 false (axis_x a b w (box_of a b)) (axis_y a b w (box_of a b)) (negative_slope a b) ≡ box_cut a b w (box_of a b)
  unfolding negative_slope
  own_cut =
      let (p, q) = fine_parts _ _ f in
      let h = all_handed a b w t in
      let (x, y) = along_both a b w h p q in
      let s = first_some a b w h p q in
      sides_same 4 false _ _ _ (record { slope = refl; this = part_refl _ s.x; other = part_refl _ s.y; at_this = x; at_other = y }) ∙ four_sides a b w (box_of a b)

  -- where the slope, the box, the cut and the answer are what calls gave
  pub own_answer : (n : Bool) → n ≡ negative_slope a b → (first : Rect) → first ≡ box_of a b
      → (m : Option Rect) → m ≡ sides_cut true 4 false (axis_x a b w first) (axis_y a b w first) n
      → (r : Result Segment Refusal) → r ≡ edge_answer a b m → r ≡ clipped a b w
  own_answer n en first e m em r er =
      let c : m ≡ sides_cut true 4 false (axis_x a b w (box_of a b)) (axis_y a b w (box_of a b)) (negative_slope a b) = rw (en, e) at em in
      er ∙ ap (edge_answer a b) (c ∙ own_cut) ∙ sym (fine_clipped a b w f)
