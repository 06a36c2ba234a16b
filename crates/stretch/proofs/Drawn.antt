-- Every edge within a clean run is drawn as it stands: its record is kept, with both samples as they were.
use Prim.Native.Nat.{ℕ, ◌+◌, ◌≤◌, ◌<◌}
use native.Mathlib.Omega.{arith}
use mathlib.Core.Path.{◌≡◌, refl, sym, ap, ap₂, ◌∙◌}
use mathlib.Core.Bool.{Bool, true, false, not}
use mathlib.Core.List.{List}
use lib.Ieee.{Float, eq}
use Rattle.std.specs.Prelude.{Ok}
use Rattle.float.specs.Choice.{when◌then◌else◌, ◌and◌}
use Rattle.float.proofs.Choice.{and_both, then_is, else_is}
use Rattle.float.proofs.Order.{eq_le, le_num, le_refl, le_eq}
use Rattle.plane.specs.declared.point.Point.{Point}
use Rattle.plane.specs.declared.rect.Rect.{Rect}
use Rattle.plane.proofs.Promises as plane
use Rattle.record.specs.Record.{record_at}
use Rattle.clip.specs.Answers.{whole, second, first_of, second_of}
use Rattle.clip.specs.Refuse.{window_fine}
use Rattle.clip.proofs.Numbers.{fine_from}
use Rattle.clip.proofs.Promises.{inside_clipped}
use Rattle.trace.specs.Trace.{same_point, touching, edge_cut, cuts_of}
use Rattle.trace.specs.Inner.{dropped}
use Rattle.trace.specs.Records.{cut_bytes, records_of}
use Rattle.trace.specs.Promises.{sample_at}
use Rattle.trace.proofs.Touch.{of_drawn}
use Rattle.trace.proofs.Own.{record_is}
use Rattle.stretch.specs.Longest.{clean}
use Rattle.stretch.specs.Promises.{AllClean}
use Rattle.stretch.proofs.Clean.{clean_is}

-- ---- an edge that is kept whole: its two points are the same point exactly where its own ends are
same_second : (x y : Float) → eq x (second x y) ≡ eq x y
unfolding second
same_second x y = go (eq x y) refl
  where
    go : (t : Bool) → eq x y ≡ t → eq x (when eq x y then x else y) ≡ eq x y
    go true e =
        let n = (le_num x y (eq_le x y e).0).0 in
        let r = le_refl x n in
        ap (eq x) (sym (then_is _ x x y e refl)) ∙ le_eq x x r r ∙ sym e
    go false e = ap (eq x) (sym (else_is _ y x y e refl))

never_both : (p : Bool) → (p and not p) ≡ false
unfolding when◌then◌else◌
never_both true = refl
never_both false = refl

not_dropped : (touches : Bool) (a b : Point) → dropped touches a b (whole a b) ≡ false
unfolding dropped touching
not_dropped touches a b =
    let s : same_point (first_of (whole a b)) (second_of (whole a b)) ≡ same_point a b = ap₂ ◌and◌ (same_second a.x b.x) (same_second a.y b.y) in
    ap (λ (t : Bool). t and not touches) (ap (λ (t : Bool). t and not (same_point a b)) s ∙ never_both (same_point a b)) ∙ sym (else_is _ _ _ _ refl refl)

module _ (w : Rect) (fine : window_fine w ≡ true) where
  both_clean : (touches : Bool) (a b : Point) → clean w a ≡ true → clean w b ≡ true → edge_cut touches w a b ≡ Ok (whole a b)
  both_clean touches a b ca cb =
      let (fa, ia) = (clean_is w a).0 ca in
      let (fb, ib) = (clean_is w b).0 cb in
      of_drawn touches a b w (whole a b) (inside_clipped a b w (fine_from _ _ (and_both _ _ fa fb) fine) ((plane.promises).box_least a b w ia ib)) (not_dropped touches a b)

  pub drawn : (ps : List Point) (i n : ℕ) → AllClean w ps i n → (touches : Bool) (whose k : ℕ) → i ≤ k → k + 1 < i + n
      → record_at k (records_of whose (cuts_of touches w ps)) ≡ cut_bytes whose (Ok (whole (sample_at k ps) (sample_at (k + 1) ps)))
  drawn ps i n a touches whose k l h =
      record_is touches whose w ps k (omega (arith, a.there))
      ∙ ap (cut_bytes whose) (both_clean touches (sample_at k ps) (sample_at (k + 1) ps) (a.each k l (omega arith)) (a.each (k + 1) (omega arith) h))
