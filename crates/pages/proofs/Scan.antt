-- The search by halves and the full scan find the same edge, where the lent floats are the trace's own boxes.
use Prim.Native.Nat.{ℕ, zero, suc, ◌+◌, ◌-◌, ◌*◌, ◌≤◌, ◌<◌}
use native.Mathlib.Nat.{add-zero, zero-add}
use native.Mathlib.Numerals.{add-one}
use native.Mathlib.Omega.{arith}
use mathlib.Core.Path.{◌≡◌, refl, sym, ap, ◌∙◌}
use mathlib.Core.Bool.{Bool, true, false, false≢true}
use mathlib.Core.List.{List, [], ◌∷◌}
use lib.Ieee.{Float}
use lib.ListN.{length, drop, drop_of_length-le}
use lib.Seq.{drop-cons}
use Rattle.std.specs.Prelude.{Option, None, Some, Ok, Err}
use Rattle.std.specs.Option.{is_some}
use Rattle.float.specs.Choice.{when◌then◌else◌, ◌and◌}
use Rattle.float.proofs.Choice.{cases, else_is, and_parts, and_both, same}
use Rattle.plane.specs.Point.{origin}
use Rattle.plane.specs.declared.point.Point.{Point}
use Rattle.plane.specs.declared.rect.Rect.{Rect}
use Rattle.plane.proofs.Shared.{share_intersects_rect}
use Rattle.clip.specs.Answers.{clipped, first_of}
use Rattle.clip.specs.declared.Segment.{Segment}
use Rattle.clip.proofs.Promises.{promises}
use Rattle.trace.specs.Trace.{Clipped, edge_cut, cuts_from, cuts_of}
use Rattle.trace.specs.Records.{is_kept}
use Rattle.trace.specs.Promises.{sample_at}
use Rattle.trace.proofs.OneEdge.{dead_refused}
use Rattle.pages.specs.Halves.{Halves, single, halved, edges_in}
use Rattle.pages.specs.Boxes.{live_edge, extent_of, boxes_of}
use Rattle.pages.specs.Search as search
use Rattle.pages.specs.Search.{opens, kept_at, found, none, search}
use Rattle.pages.specs.Promises.{first_kept}
use Rattle.pages.specs.declared.Found.{Found}
use Rattle.pages.proofs.Going.{with_touches}
use Rattle.pages.proofs.Covers.{covered}
use Rattle.pages.proofs.Held.{Holds, own_box, of_first, of_second, opens_is}

-- ---- a kept edge opens the boxes above it
pub kept_cut : (c : Clipped) → is_kept c ≡ true → (s : Segment) × (c ≡ Ok s)
unfolding is_kept
kept_cut (Ok s) e = (s, refl)
kept_cut (Err x) e = absurd (false≢true e)

kept_live : (a b : Point) (w : Rect) (s : Segment) → clipped a b w ≡ Ok s → live_edge a b ≡ true
kept_live a b w s e = go (live_edge a b) refl
  where
    go : (t : Bool) → live_edge a b ≡ t → t ≡ true
    go true f = refl
    go false f = let d = dead_refused a b w f in cc

module _ (bs : List Float) (w : Rect) (ps : List Point) (h : Halves) (i k : ℕ) (held : Holds bs (5 * i) (boxes_of ps h k)) where
  kept_opens : (j : ℕ) → k ≤ j → j < k + edges_in h → kept_at w ps j ≡ true → opens bs w i ≡ true
  unfolding kept_at
  kept_opens j l u e =
      let a = sample_at j ps in
      let b = sample_at (j + 1) ps in
      let (s, c) = kept_cut (clipped a b w) (ap is_kept (sym (with_touches w a b)) ∙ e) in
      let (in_window, in_box) = promises.kept_points a b w s c in
      let m = covered ps (first_of s) j (kept_live a b w s c) in_box.a h k l u in
      opens_is bs i (extent_of ps h k) (own_box bs ps h i k held) w
      ∙ and_both _ _ m.live (share_intersects_rect _ w (_, m.inside, in_window.a))

  shut_not_kept : opens bs w i ≡ false → (j : ℕ) → k ≤ j → j < k + edges_in h → kept_at w ps j ≡ false
  shut_not_kept o j l u = go (kept_at w ps j) refl
    where
      go : (t : Bool) → kept_at w ps j ≡ t → t ≡ false
      go true e = sym (kept_opens j l u e) ∙ o
      go false e = refl

-- ---- the scan by number: of n edges from edge k on
unfoldable pub first_from : Rect → List Point → ℕ → ℕ → Option ℕ
first_from w ps k zero = None
first_from w ps k (suc n) = when kept_at w ps k then Some k else first_from w ps (suc k) n

pub none_from : (w : Rect) (ps : List Point) (k : ℕ) → None ≡ first_from w ps k 0
unfolding first_from
none_from w ps k = refl

unfoldable or_else : Option ℕ → Option ℕ → Option ℕ
or_else a b = when is_some a then a else b

or_when : (t : Bool) (k : ℕ) (a b : Option ℕ) → or_else (when t then Some k else a) b ≡ (when t then Some k else or_else a b)
unfolding or_else when◌then◌else◌
or_when true k a b = refl
or_when false k a b = refl

module _ (w : Rect) (ps : List Point) where
  -- of m + n edges what the m give, or else what the n do
  scan_split : (k m n : ℕ) → or_else (first_from w ps k m) (first_from w ps (k + m) n) ≡ first_from w ps k (m + n)
  unfolding first_from
  scan_split k zero n = unfold or_else when◌then◌else◌ in simp (add-zero, zero-add)
  scan_split k (suc m) n =
      let e : k + suc m ≡ suc k + m = omega arith in
      let d : suc m + n ≡ suc (m + n) = omega arith in
      rw (e, d) (or_when _ k _ _ ∙ ap (λ (r : Option ℕ). when kept_at w ps k then Some k else r) (scan_split (suc k) m n))

  none_kept : (k n : ℕ) → ((j : ℕ) → k ≤ j → j < k + n → kept_at w ps j ≡ false) → None ≡ first_from w ps k n
  unfolding first_from
  none_kept k zero f = refl
  none_kept k (suc n) f = else_is _ _ _ _ (f k (omega arith) (omega arith)) (none_kept (suc k) n (λ j l u. f j (omega arith) (omega arith)))

-- ---- the search finds what the scan finds
first_hit : (f s : Found) → (search.first_of f s).edge ≡ or_else f.edge s.edge
unfolding search.first_of or_else
first_hit f s = go (is_some f.edge)
  where
    go : (t : Bool) → (when◌then◌else◌ {A = Found} t (record { edge = f.edge; opened = f.opened + 1 }) (record { edge = s.edge; opened = f.opened + s.opened + 1 })).edge ≡ (when t then f.edge else s.edge)
    go true = unfold when◌then◌else◌ in refl
    go false = unfold when◌then◌else◌ in refl

single_hit : (t : Bool) (k : ℕ) → (when t then found k 1 else none 1).edge ≡ (when t then Some k else None)
unfolding when◌then◌else◌
single_hit true k = refl
single_hit false k = refl

module _ (bs : List Float) (w : Rect) (ps : List Point) where
  pub scans : (h : Halves) (i k : ℕ) → Holds bs (5 * i) (boxes_of ps h k) → (search bs w ps h i k).edge ≡ first_from w ps k (edges_in h)
  unfolding search edges_in first_from
  scans single i k held =
      let o : (opens bs w i and kept_at w ps k) ≡ kept_at w ps k =
      same _ _ (λ e. (and_parts _ _ e).1) (λ e. and_both _ _ (kept_opens bs w ps single i k held k (omega arith) (unfold edges_in in omega arith) e) e) in
      rw o (single_hit (kept_at w ps k) k)
  scans (halved f s) i k held =
      let a = scans f (i + 1) k (of_first bs ps f s i k held) in
      let b = scans s (i + 2 * edges_in f) (k + edges_in f) (of_second bs ps f s i k held) in
      cases (λ (r : Found). r.edge ≡ first_from w ps k (edges_in f + edges_in s)) _ _ _
      (λ o. first_hit _ _ ∙ rw (a, b) (scan_split w ps k (edges_in f) (edges_in s)))
      (λ o. none_kept w ps k (edges_in f + edges_in s) (λ j l u. shut_not_kept bs w ps (halved f s) i k held o j l (unfold edges_in in u)))

-- ---- the scan by number is the scan of the cuts
module _ (w : Rect) (ps : List Point) where
  kept_is : (k : ℕ) → kept_at w ps k ≡ is_kept (edge_cut true w (sample_at k ps) (sample_at (suc k) ps))
  unfolding kept_at
  kept_is k = rw (add-one k) refl

  scan_from : (k n : ℕ) → n ≡ length ps - suc k → first_from w ps k n ≡ first_kept k (cuts_from true w (sample_at k ps) (drop (suc k) ps))
  unfolding first_from first_kept cuts_from
  scan_from k zero e = let l : length ps ≤ suc k = omega arith in rw (drop_of_length-le ps l) refl
  scan_from k (suc n) e =
      let l : suc k < length ps = omega arith in
      rw (drop-cons ps (suc k) origin l, kept_is k)
      (ap (λ (r : Option ℕ). when is_kept (edge_cut true w (sample_at k ps) (sample_at (suc k) ps)) then Some k else r) (scan_from (suc k) n (omega arith)))

pub scan_is : (w : Rect) (ps : List Point) → first_from w ps 0 (length ps - 1) ≡ first_kept 0 (cuts_of true w ps)
unfolding cuts_of
scan_is w [] = unfold first_from first_kept in refl
scan_is w (a ∷ ps) = scan_from w (a ∷ ps) 0 (length (a ∷ ps) - 1) refl
