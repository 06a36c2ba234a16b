-- The interval of two numbers: both lie in it, its ends are among them, and it is the least that has both.
use mathlib.Core.Path.{◌≡◌, refl, sym, ◌∙◌}
use mathlib.Core.Bool.{Bool, true, false, not, true≢false}
use lib.Ieee.{Float, lt, le, eq}
use Rattle.float.specs.Choice.{when◌then◌else◌}
use Rattle.float.proofs.Choice.{then_is, else_is}
use Rattle.float.proofs.Order.{Num, le_num, le_refl, lt_le, not_lt, lt_not_le, le_not_lt, le_eq, eq_both, eq_le}
use Rattle.plane.specs.Interval.{from◌to◌, lesser, greater, between, end_of}
use Rattle.plane.specs.Within.{In, Part}
use Rattle.plane.specs.declared.interval.Interval.{Interval}
use Rattle.plane.proofs.Parts.{in_some}

-- b < a, a < b, or neither; never both
order : (P : Bool → Bool → Type 0) (a b : Float) → (lt b a ≡ true → P true false) → (lt a b ≡ true → P false true) → (lt b a ≡ false → lt a b ≡ false → P false false) → P (lt b a) (lt a b)
order P a b f g h = go (lt b a) (lt a b) refl refl
  where
    go : (p q : Bool) → lt b a ≡ p → lt a b ≡ q → P p q
    go true true e k = absurd (true≢false (sym k ∙ le_not_lt b a (lt_le b a e)))
    go true false e k = f e
    go false true e k = g k
    go false false e k = h e k

-- what holds of each of the three cases of `between` holds of it
three : (P : Interval → Type 0) (a b : Float) → (lt b a ≡ true → P (from b to a)) → (lt a b ≡ true → P (from a to b)) → (lt b a ≡ false → lt a b ≡ false → P (from a to a)) → P (between a b)
unfolding between lesser greater when◌then◌else◌
three P a b f g h = order (λ p q. P (from (when p then b else a) to (when q then b else a))) a b f g h

pub between_in : (a b : Float) → Num a → Num b → In (between a b) a × In (between a b) b
between_in a b p q =
    let aa = le_refl a p in
    let bb = le_refl b q in
    three (λ (i : Interval). In i a × In i b) a b
    (λ h. (record { low = lt_le b a h; high = aa }, record { low = bb; high = lt_le b a h }))
    (λ h. (record { low = aa; high = lt_le a b h }, record { low = lt_le a b h; high = bb }))
    (λ h k. (record { low = aa; high = aa }, record { low = not_lt b a q p h; high = not_lt a b p q k }))

pub between_ends : (P : Float → Type 0) (a b : Float) → P a → P b → P (between a b).lo × P (between a b).hi
between_ends P a b p q = three (λ (i : Interval). P i.lo × P i.hi) a b (λ h. (q, p)) (λ h. (p, q)) (λ h k. (p, p))

pub between_least : (a b : Float) (j : Interval) → In j a → In j b → Part (between a b) j
between_least a b j p q =
    record {
      some = in_some _ a (between_in a b (le_num _ _ p.low).1 (le_num _ _ q.low).1).0;
      low = (between_ends (λ (x : Float). le j.lo x ≡ true) a b p.low q.low).0;
      high = (between_ends (λ (x : Float). le x j.hi ≡ true) a b p.high q.high).1;
    }

-- neither end alone is a NaN
pub between_num : (a b : Float) → Num (between a b).hi → Num (between a b).lo
between_num a b = three (λ (i : Interval). Num i.hi → Num i.lo) a b (λ h n. (le_num b a (lt_le b a h)).0) (λ h n. (le_num a b (lt_le a b h)).0) (λ h k n. n)

-- where they compare equal the first is both ends
pub between_equal : (a b : Float) → eq a b ≡ true → between a b ≡ from a to a
between_equal a b e = let (p, q) = eq_le a b e in three (λ (i : Interval). i ≡ from a to a) a b (none b a p) (none a b q) (λ h k. refl)
  where
    none : {A : Type 0} (x y : Float) → le y x ≡ true → lt x y ≡ true → A
    none x y p q = absurd (true≢false (sym q ∙ le_not_lt y x p))

-- where b is the lesser the two change places
pub between_down : (a b : Float) → lt b a ≡ true → between a b ≡ from b to a
unfolding between lesser greater when◌then◌else◌
between_down a b h = rw (h, le_not_lt b a (lt_le b a h))

-- ---- the ends that a and b take: a's is a itself; b's is b, or where they compare equal, a
pub a_end : (a b : Float) → end_of (between a b) (lt b a) ≡ a
unfolding between lesser greater end_of when◌then◌else◌
a_end a b = order (λ p q. (when p then (when q then b else a) else (when p then b else a)) ≡ a) a b (λ e. refl) (λ e. refl) (λ e f. refl)

pub second_end : (a b : Float) → Num a → Num b → (when eq a b then a else b) ≡ end_of (between a b) (not (lt b a))
unfolding between lesser greater end_of when◌then◌else◌
second_end a b m n =
    order (λ p q. (when eq a b then a else b) ≡ (when not p then (when q then b else a) else (when p then b else a))) a b
    (λ e. sym (else_is _ _ _ _ (eq_both a b ∙ (rw (lt_not_le b a e))) refl))
    (λ e. sym (else_is _ _ _ _ (eq_both a b ∙ (rw (lt_le a b e, lt_not_le a b e))) refl))
    (λ e f. sym (then_is _ _ _ _ (le_eq a b (not_lt b a n m e) (not_lt a b m n f)) refl))
