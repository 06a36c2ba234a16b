-- The cuts of a trace: how many they are, of which kind, and how long their records.
use Prim.Native.Nat.{ℕ, suc, ◌+◌, ◌-◌, ◌*◌, ◌/◌, ◌≤◌, ◌<◌}
use native.Mathlib.Omega.{arith}
use mathlib.Core.Path.{◌≡◌, refl, ap, ◌∙◌}
use mathlib.Core.Bool.{Bool, true, false, not}
use mathlib.Core.List.{List, [], ◌∷◌}
use lib.Ieee.{Float}
use lib.Dec.{eqb}
use lib.ListN.{length}
use Rattle.float.specs.Choice.{when◌then◌else◌}
use Rattle.std.specs.Prelude.{Ok, Err}
use Rattle.answer.specs.Refusal.{number, number_of}
use Rattle.answer.specs.declared.Refusal.TheVariants.{Missed}
use Rattle.plane.specs.declared.point.Point.{Point}
use Rattle.plane.specs.declared.rect.Rect.{Rect}
use Rattle.record.proofs.Words.{length_record}
use Rattle.record.proofs.Joined.{length_joined}
use Rattle.trace.specs.Trace.{Clipped, samples_of, cuts_from, cuts_of, trace_cuts}
use Rattle.trace.specs.Records.{cut_ends, cut_bytes, records_of, is_kept, is_missed, is_refused, how_many}

-- ---- how many
pub length_samples : (fs : List Float) → length (samples_of fs) ≡ length fs / 2
unfolding samples_of
length_samples [] = refl
length_samples (x ∷ []) = refl
length_samples (x ∷ y ∷ fs) = omega (arith, length_samples fs)

module _ (touches : Bool) (w : Rect) where
  pub length_from : (a : Point) (ps : List Point) → length (cuts_from touches w a ps) ≡ length ps
  unfolding cuts_from
  length_from a [] = refl
  length_from a (b ∷ ps) = ap suc (length_from b ps)

  pub length_cuts : (ps : List Point) → length (cuts_of touches w ps) ≡ length ps - 1
  unfolding cuts_of
  length_cuts [] = refl
  length_cuts (a ∷ ps) = length_from a ps ∙ omega arith

  pub length_trace : (fs : List Float) → length (trace_cuts touches w fs) ≡ length fs / 2 - 1
  length_trace fs = length_cuts (samples_of fs) ∙ ap (◌- 1) (length_samples fs)

  -- fewer than two samples
  pub no_edge : (fs : List Float) → length fs < 4 → trace_cuts touches w fs ≡ []
  unfolding samples_of cuts_of cuts_from
  no_edge [] h = refl
  no_edge (x ∷ []) h = refl
  no_edge (x ∷ y ∷ []) h = refl
  no_edge (x ∷ y ∷ z ∷ []) h = refl
  no_edge (x ∷ y ∷ z ∷ v ∷ fs) h = absurd (omega arith)

pub length_cut : (whose : ℕ) (c : Clipped) → length (cut_bytes whose c) ≡ 40
length_cut whose c = length_record (number c) whose (cut_ends c)

pub length_records : (whose : ℕ) (cs : List Clipped) → length (records_of whose cs) ≡ length cs * 40
length_records whose = length_joined (cut_bytes whose) (length_cut whose)

-- ---- of which kind
one_kind : (c : Clipped) (k m r n : ℕ) → k + m + r ≡ n
    → ((when is_kept c then 1 else 0) + k) + ((when is_missed c then 1 else 0) + m) + ((when is_refused c then 1 else 0) + r) ≡ suc n
unfolding is_kept is_missed is_refused when◌then◌else◌
one_kind (Ok s) k m r n h = omega arith
one_kind (Err e) k m r n h = go (eqb (number_of e) (number_of Missed))
  where
    go : (t : Bool) → (0 + k) + ((when t then 1 else 0) + m) + ((when not t then 1 else 0) + r) ≡ suc n
    go true = omega arith
    go false = omega arith

pub all_kinds : (cs : List Clipped) → how_many is_kept cs + how_many is_missed cs + how_many is_refused cs ≡ length cs
unfolding how_many
all_kinds [] = refl
all_kinds (c ∷ cs) = one_kind c _ _ _ _ (all_kinds cs)

-- an edge is of one kind at most
pub one_kind_most : (c : Clipped) → (when is_kept c then 1 else 0) + (when is_refused c then 1 else 0) ≤ 1
unfolding is_kept is_refused when◌then◌else◌
one_kind_most (Ok s) = omega arith
one_kind_most (Err e) = go (not (eqb (number_of e) (number_of Missed)))
  where
    go : (t : Bool) → 0 + (when t then 1 else 0) ≤ 1
    go true = omega arith
    go false = omega arith
