-- Why the early answers are right: by the promises on a first box inside the window, and on one that shares no point with it.
use Rattle.std.specs.Prelude.{Ok, Err}
use Rattle.answer.specs.declared.Refusal.TheVariants.{Missed}
use mathlib.Core.Path.{◌≡◌, refl, sym, subst, ◌∙◌}
use mathlib.Core.Bool.{Bool, true, false, ◌||◌, true≢false}
use lib.Ieee.{Float}
use Rattle.float.proofs.Order.{le_lt_trans, lt_le_trans, lt_not_le}
use Rattle.plane.specs.Interval.{between}
use Rattle.plane.specs.Rect.{box_of}
use Rattle.plane.specs.Within.{Part, Share, PartRect}
use Rattle.plane.specs.declared.point.Point.{Point}
use Rattle.plane.specs.declared.interval.Interval.{Interval}
use Rattle.plane.specs.declared.rect.Rect.{Rect}
use Rattle.plane.proofs.Between.{between_least}
use Rattle.clip.specs.Inner.{both_in, inside_window, past, apart}
use Rattle.clip.specs.Answers.{whole, clipped}
use Rattle.clip.specs.Promises.{Fine}
use Rattle.clip.proofs.Numbers.{and_true}
use Rattle.clip.proofs.Promises.{inside_clipped, apart_clipped}

-- ---- tests joined
pub or_true : {A : Type 0} (p q : Bool) → (p || q) ≡ true → (p ≡ true → A) → (q ≡ true → A) → A
or_true true q e f g = f refl
or_true false q e f g = g e

-- ---- inside
both_part : (i : Interval) (a b : Float) → both_in i a b ≡ true → Part (between a b) i
both_part i a b e =
    let (abc, d) = and_true _ _ e in
    let (ab, c) = and_true _ _ abc in
    let (l, h) = and_true _ _ ab in
    between_least a b i (record { low = l; high = h }) (record { low = c; high = d })

pub inside_early : (a b : Point) (w : Rect) → Fine a b w → inside_window a b w ≡ true → Ok (whole a b) ≡ clipped a b w
inside_early a b w f e =
    let (x, y) = and_true _ _ e in
    let p : PartRect (box_of a b) w = record { x = both_part _ _ _ x; y = both_part _ _ _ y } in
    sym (inside_clipped a b w f p)

-- ---- apart
past_apart : (i j : Interval) → past i j ≡ true → Share i j → ⊥
past_apart i j e (x, p, q) =
    or_true _ _ e
    (λ h. true≢false (sym q.low ∙ lt_not_le x j.lo (le_lt_trans x i.hi j.lo p.high h)))
    (λ h. true≢false (sym q.high ∙ lt_not_le j.hi x (lt_le_trans j.hi i.lo x h p.low)))

apart_box : (a b : Point) (w : Rect) → Fine a b w → apart (box_of a b) w ≡ true → Err Missed ≡ clipped a b w
apart_box a b w f e =
    sym (apart_clipped a b w f (λ (p, q, r).
    or_true _ _ e (λ h. past_apart _ _ h (p.x, q.x, r.x)) (λ h. past_apart _ _ h (p.y, q.y, r.y))))

-- where the box and the test are what calls gave
pub apart_early : (a b : Point) (w : Rect) → Fine a b w → (first : Rect) → first ≡ box_of a b → (t : Bool) → t ≡ apart first w → t ≡ true → Err Missed ≡ clipped a b w
apart_early a b w f first e t d h = apart_box a b w f (subst (λ (r : Rect). apart r w ≡ true) e (sym d ∙ h))

-- the same where it is past on y alone
or_right : (p q : Bool) → q ≡ true → (p || q) ≡ true
or_right true q e = refl
or_right false q e = e

pub past_early : (a b : Point) (w : Rect) → Fine a b w → (first : Rect) → first ≡ box_of a b → (t : Bool) → t ≡ past first.y w.y → t ≡ true → Err Missed ≡ clipped a b w
past_early a b w f first e t d h = apart_early a b w f first e true (sym (or_right (past first.x w.x) _ (sym d ∙ h))) refl
