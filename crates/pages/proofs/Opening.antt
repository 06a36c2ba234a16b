-- When a box opens: the test in code, and that no box with a NaN in it does.
use Prim.Native.Nat.{ℕ, zero, suc, ◌+◌, ◌-◌, ◌*◌, ◌<◌}
use native.Mathlib.Nat.{add-zero}
use native.Mathlib.Omega.{arith}
use mathlib.Core.Path.{◌≡◌, refl, sym, ap, ◌∙◌}
use mathlib.Core.Logic.{inl, inr}
use mathlib.Core.Bool.{Bool, true, false, true≢false}
use mathlib.Core.List.{List}
use lib.Ieee.{Float, nan, is_nan, le, eq}
use lib.ListN.{take, drop, get_or}
use lib.Seq.{get_or-take, get_or-drop}
use Rattle.float.specs.Choice.{◌and◌}
use Rattle.float.specs.Float.{one_f}
use Rattle.float.proofs.Choice.{cases, and_parts, then_is, else_is, same}
use Rattle.float.proofs.Order.{Num, le_num, le_refl, le_trans, total, eq_le}
use Rattle.plane.specs.Interval.{from◌to◌, intersects}
use Rattle.plane.specs.Rect.{intersects_rect}
use Rattle.plane.specs.Within.{Some, Share, SomeRect}
use Rattle.plane.specs.declared.interval.Interval.{Interval}
use Rattle.plane.specs.declared.rect.Rect.{Rect}
use Rattle.plane.proofs.Shared.{intersects_share, share_intersects, intersects_share_rect}
use Rattle.clip.specs.Refuse.{sides_fine, window_fine}
use Rattle.pages.specs.Search.{box_at, opens}

-- ---- whether an interval shares a point with one that is not empty
module _ (i j : Interval) (some : Some j) where
  shared : intersects i j ≡ true → Share i j
  shared = intersects_share i j (λ n. (le_num _ _ some).0)

  not_shared : (intersects i j ≡ true → false ≡ true) → false ≡ intersects i j
  not_shared f = same _ _ (λ e. absurd (true≢false (sym e))) f

  pub above : le i.lo j.hi ≡ false → false ≡ intersects i j
  above d = not_shared λ e. let (x, p, q) = shared e in sym d ∙ le_trans _ _ _ p.low q.high

  pub below : le j.lo i.hi ≡ false → false ≡ intersects i j
  below d = not_shared λ e. let (x, p, q) = shared e in sym d ∙ le_trans _ _ _ q.low p.high

  -- the higher of the two low ends is shared
  pub over : le i.lo j.hi ≡ true → le j.lo i.hi ≡ true → le i.lo i.hi ≡ intersects i j
  over a b = same _ _ (λ e. share_intersects i j (point e)) (λ e. let (x, p, q) = shared e in le_trans _ _ _ p.low p.high)
    where
      point : le i.lo i.hi ≡ true → Share i j
      point e =
          let m = (le_num _ _ a).0 in
          let n = (le_num _ _ b).0 in
          elim (total i.lo j.lo m n) [
            | inl l ↦ (j.lo, record { low = l; high = b }, record { low = le_refl _ n; high = some })
            | inr l ↦ (i.lo, record { low = le_refl _ m; high = e }, record { low = l; high = a })
          ]

pub ruleset sides = (above, below, over)

-- ---- a box
module _ (bs : List Float) (w : Rect) (i : ℕ) where
  pub misses : intersects_rect (box_at bs i) w ≡ false → opens bs w i ≡ false
  unfolding opens
  misses d = cases (λ (t : Bool). t ≡ false) _ _ _ (λ e. d) (λ e. refl)

  -- by its five floats, as the code reads them
  module _ (five : List Float) (is : five ≡ take (5 * i + 5 - 5 * i) (drop (5 * i) bs)) where
    float_is : (j : ℕ) → j < 5 → get_or five j nan ≡ get_or bs (5 * i + j) nan
    float_is j h = rw is (get_or-take (5 * i + 5 - 5 * i) (drop (5 * i) bs) j nan (omega arith) ∙ get_or-drop (5 * i) bs j nan)

    abbrev x_side : Interval
    x_side = from get_or five 0 nan to get_or five 2 nan

    abbrev y_side : Interval
    y_side = from get_or five 1 nan to get_or five 3 nan

    opens_is : (eq (get_or five 4 nan) one_f and (intersects x_side w.x and intersects y_side w.y)) ≡ opens bs w i
    unfolding opens intersects_rect
    opens_is = rw (float_is 0 (omega arith), float_is 1 (omega arith), float_is 2 (omega arith), float_is 3 (omega arith), float_is 4 (omega arith), add-zero (5 * i)) refl

    pub no_mark : eq (get_or five 4 nan) one_f ≡ false → false ≡ opens bs w i
    no_mark d = else_is _ _ _ _ d refl ∙ opens_is

    module _ (m : eq (get_or five 4 nan) one_f ≡ true) where
      pub x_misses : intersects x_side w.x ≡ false → false ≡ opens bs w i
      x_misses d = then_is _ _ _ _ m (else_is _ _ _ _ d refl) ∙ opens_is

      pub x_meets : intersects x_side w.x ≡ true → (r : Bool) → r ≡ intersects y_side w.y → r ≡ opens bs w i
      x_meets d r e = then_is _ _ _ _ m (then_is _ _ _ _ d e) ∙ opens_is

-- ---- a window that is not refused
some_side : (i : Interval) → sides_fine i ≡ true → Some i
unfolding sides_fine
some_side i f = (and_parts _ _ f).1

pub some_window : (w : Rect) → window_fine w ≡ true → SomeRect w
unfolding window_fine
some_window w f = let (x, y) = and_parts _ _ f in record { x = some_side w.x x; y = some_side w.y y }

pub some_x : (w : Rect) → window_fine w ≡ true → le w.x.lo w.x.hi ≡ true
some_x w f = (some_window w f).x

pub some_y : (w : Rect) → window_fine w ≡ true → le w.y.lo w.y.hi ≡ true
some_y w f = (some_window w f).y

pub ruleset some_sides = (some_x, some_y)

-- ---- a box that opens has no NaN among its five floats
equal_num : (x y : Float) → eq x y ≡ true → Num x
equal_num x y e = (le_num x y (eq_le x y e).0).0

-- the float at place j of box i is a number
abbrev NumAt : List Float → ℕ → ℕ → Type 0
NumAt bs i j = Num (get_or bs (5 * i + j) nan)

module _ (bs : List Float) (w : Rect) (i : ℕ) (some : SomeRect w) (o : opens bs w i ≡ true) where
  all_numbers : (j : ℕ) → j < 5 → NumAt bs i j
  unfolding opens
  all_numbers j h =
      let (m, s) = and_parts _ _ o in
      let (p, in_box, in_window) = intersects_share_rect (box_at bs i) w (λ n. (le_num _ _ some.x).0) (λ n. (le_num _ _ some.y).0) s in
      go j h
      (le_num _ _ in_box.x.low).0
      (le_num _ _ in_box.y.low).0
      (le_num _ _ in_box.x.high).1
      (le_num _ _ in_box.y.high).1
      (equal_num _ _ m)
    where
      go : (j : ℕ) → j < 5 → Num (get_or bs (5 * i) nan) → NumAt bs i 1 → NumAt bs i 2 → NumAt bs i 3 → NumAt bs i 4 → NumAt bs i j
      go zero h a b c d e = rw (add-zero (5 * i)) a
      go (suc zero) h a b c d e = b
      go (suc (suc zero)) h a b c d e = c
      go (suc (suc (suc zero))) h a b c d e = d
      go (suc (suc (suc (suc zero)))) h a b c d e = e
      go (suc (suc (suc (suc (suc j))))) h a b c d e = absurd (omega arith)

pub nan_shut : (bs : List Float) (w : Rect) (i j : ℕ) → window_fine w ≡ true → j < 5 → get_or bs (5 * i + j) nan ≡ nan → opens bs w i ≡ false
nan_shut bs w i j v h e = go (opens bs w i) refl
  where
    go : (t : Bool) → opens bs w i ≡ t → t ≡ false
    go false o = refl
    go true o = absurd (true≢false (nan_is ∙ sym (ap is_nan e) ∙ all_numbers bs w i (some_window w v) o j h))
      where
        nan_is : true ≡ is_nan nan
        nan_is = unfold is_nan in refl
