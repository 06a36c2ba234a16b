-- Each segment but the last is followed by the next, on a face that the line also meets.
use Prim.Native.Nat.{ℕ, zero, suc, ◌≤◌}
use native.Mathlib.Omega.{arith}
use mathlib.Core.Path.{◌≡◌, ap}
use mathlib.Core.Bool.{true, false}
use lib.Dec.{eqb}
use lib.Ieee.{Float}
use Rattle.std.specs.Prelude.{Err}
use Rattle.answer.specs.declared.Refusal.TheVariants.{OffFace}
use Rattle.float.specs.Float.{one_f}
use Rattle.float.proofs.Choice.{cases, split}
use Rattle.cube.specs.Vector.{vec, is_zero}
use Rattle.cube.specs.Faces.{uvw_of}
use Rattle.cube.specs.declared.vector.Vector.{Vector}
use Rattle.cube.specs.declared.compute.Uv.{Uv}
use Rattle.line.specs.Line.{exit_axis, left_at, onward}
use Rattle.line.specs.Promises.{Finite}
use Rattle.line.proofs.Next.{finite_in, not_zero_in}
use Rattle.line.proofs.Promises as line
use Rattle.walk.specs.Walk.{met, entered_at, stop_refusal, Segment, segment, segments}
use Rattle.walk.specs.Promises.{Follows, FollowedBy, Linked}
use Rattle.walk.proofs.Over.{onward_beside, enters_one}
use Rattle.walk.proofs.Square.{moved_square}
use Rattle.walk.proofs.Points.{left_square}

-- a vector whose last coordinate is known
last_is : (r : Vector) (z : Float) → r.z ≡ z → r ≡ vec r.x r.y z
last_is r z e = ap (λ (w : Float). vec r.x r.y w) e

module _ (p : Vector) (v : Finite p) (nz : is_zero p ≡ false) (t : ℕ) where
  pub follows : (f : ℕ) → f ≤ 5 → met p f ≡ true → (a b : Uv) → Follows p (segment f a (left_at p f)) (segment (onward p f t) (entered_at p f t) b)
  follows f F m a b =
      let n = uvw_of f p in
      let l = (line.promises).exit n (finite_in v f F) (not_zero_in v nz f F) m in
      let i = (line.promises).next p v nz f t F m in
      record {
        leaves = record { axis = exit_axis n; one = record { plus = l.edge.0; one = l.edge.1 }; inside = l.inside };
        face = i.face;
        meets = i.met;
        begins = last_is _ one_f i.shared;
        enters = enters_one f (onward p f t) F (onward_beside v nz f t F m) (left_at p f);
        inside = moved_square f (onward p f t) F i.face (left_at p f) (left_square p v nz f F m);
      }

  -- the first of what is left
  followed : (k : ℕ) (s : Segment) (g : ℕ) (c b : Uv) → ((e : Uv) → Follows p s (segment g c e)) → FollowedBy p s (segments k p g c t b)
  unfolding segments FollowedBy
  followed zero s g c b h = tt
  followed (suc k) s g c b h = cases (FollowedBy p s) (eqb g t) _ _ (λ z. h b) (λ z. h (left_at p g))

  pub linked : (k f : ℕ) → f ≤ 5 → met p f ≡ true → (a b : Uv) → Linked p (segments k p f a t b)
  unfolding segments FollowedBy Linked
  linked zero f F m a b = tt
  linked (suc k) f F m a b =
      let i = (line.promises).next p v nz f t F m in
      cases (Linked p) (eqb f t) _ _ (λ z. (tt, tt)) (λ z. (followed k (segment f a (left_at p f)) (onward p f t) (entered_at p f t) b (follows f F m a), linked k (onward p f t) i.face i.met (entered_at p f t) b))

  pub never_off : (k f : ℕ) → f ≤ 5 → met p f ≡ true → stop_refusal k p f t ≡ Err OffFace → ⊥
  unfolding stop_refusal
  never_off zero f F m e = cc
  never_off (suc k) f F m e =
      let i = (line.promises).next p v nz f t F m in
      split (eqb f t) _ _ (Err OffFace) e (λ z w. cc)
      (λ z w. split (met p f) _ _ (Err OffFace) w (λ y x. never_off k (onward p f t) i.face i.met x) (λ y x. let o : ◌≡◌ {A = ℕ} 0 1 = cc in omega arith))
