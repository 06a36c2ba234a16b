-- A clean run, sample by sample; the earliest of the longest is clean, none is longer and none as long begins earlier, and no other run is so.
use Prim.Native.Nat.{ℕ, zero, suc, ◌+◌, ◌-◌, ◌≤◌, ◌<◌}
use native.Mathlib.Omega.{arith}
use mathlib.Core.Path.{◌≡◌, refl, sym, subst}
use mathlib.Core.Logic.{inl, inr}
use mathlib.Core.Bool.{true}
use mathlib.Core.List.{List, [], ◌∷◌}
use borrow.Author.Tests.{leb-true, le-leb}
use lib.ListN.{length, take, drop, get_or, length-drop}
use lib.Seq.{get_or-drop}
use Rattle.float.proofs.Choice.{and_parts, and_both}
use Rattle.float.proofs.Whole.{le_or_lt}
use Rattle.plane.specs.Point.{origin}
use Rattle.plane.specs.declared.point.Point.{Point}
use Rattle.plane.specs.declared.rect.Rect.{Rect}
use Rattle.trace.specs.Promises.{sample_at}
use Rattle.stretch.specs.Longest.{clean, all_clean, clean_run, earliest, longest}
use Rattle.stretch.specs.Promises.{AllClean}
use Rattle.stretch.proofs.Least.{least_to, least_is, greatest_is, greatest_most}

module _ (w : Rect) where
  -- ---- sample by sample
  each_first : (ps : List Point) (n j : ℕ) → all_clean w (take n ps) ≡ true → j < n → n ≤ length ps → clean w (get_or ps j origin) ≡ true
  unfolding all_clean
  each_first [] n j e h l = absurd (omega arith)
  each_first (p ∷ ps) zero j e h l = absurd (omega arith)
  each_first (p ∷ ps) (suc n) zero e h l = (and_parts _ _ e).0
  each_first (p ∷ ps) (suc n) (suc j) e h l = each_first ps n j (and_parts _ _ e).1 (omega arith) (omega arith)

  first_each : (ps : List Point) (n : ℕ) → n ≤ length ps → ((j : ℕ) → j < n → clean w (get_or ps j origin) ≡ true) → all_clean w (take n ps) ≡ true
  unfolding all_clean
  first_each ps zero l f = refl
  first_each [] (suc n) l f = absurd (omega arith)
  first_each (p ∷ ps) (suc n) l f = and_both _ _ (f 0 (omega arith)) (first_each ps n (omega arith) (λ j h. f (suc j) (omega arith)))

  module _ (ps : List Point) where
    run_clean : (i n : ℕ) → clean_run w ps i n ≡ true → AllClean w ps i n
    unfolding clean_run
    run_clean i n e =
        let (l, c) = and_parts _ _ e in
        let t : i + n ≤ length ps = leb-true _ _ l in
        record {
          there = t;
          each = λ j g h.
              let (k, d) = from i j g in
              let s = each_first (drop i ps) n k c (omega arith) (omega (arith, length-drop i ps)) in
              subst (λ (m : ℕ). clean w (sample_at m ps) ≡ true) d (rw (get_or-drop i ps k origin) at s);
        }
      where
        from : (i j : ℕ) → i ≤ j → (k : ℕ) × (i + k ≡ j)
        from i j g = (j - i, omega arith)

    clean_run_lem : (i n : ℕ) → AllClean w ps i n → clean_run w ps i n ≡ true
    unfolding clean_run
    clean_run_lem i n a =
        and_both _ _ (le-leb _ _ a.there)
        (first_each (drop i ps) n (omega (arith, a.there, length-drop i ps)) (λ j h. rw (get_or-drop i ps j origin) (a.each (i + j) (omega arith) (omega arith))))

    pub none_clean : AllClean w ps 0 0
    none_clean = record { there = omega arith; each = λ j g h. absurd (omega arith) }

    -- ---- the earliest of n samples, where there is a clean run of n
    earliest_none : earliest w ps 0 ≡ 0
    earliest_none =
        elim (le_or_lt (length ps) 0) [
          | inl h ↦ omega (arith, least_to (λ i. clean_run w ps i 0) 0 (length ps))
          | inr h ↦ omega (arith, (least_is (λ i. clean_run w ps i 0) 0 (length ps) 0 (omega arith) (omega arith) (clean_run_lem 0 0 none_clean)).1)
        ]

    earliest_is : (i n : ℕ) → AllClean w ps i n → AllClean w ps (earliest w ps n) n × (earliest w ps n ≤ i)
    earliest_is i zero a = rw earliest_none (none_clean, omega arith)
    earliest_is i (suc n) a =
        let (e, l) = least_is (λ i. clean_run w ps i (suc n)) 0 (length ps) i (omega arith) (omega (arith, a.there)) (clean_run_lem i (suc n) a) in
        (run_clean _ _ e, l)

    -- ---- the longest
    longest_some : clean_run w ps (earliest w ps (longest w ps)) (longest w ps) ≡ true
    longest_some = greatest_is (λ n. clean_run w ps (earliest w ps n) n) (length ps) (clean_run_lem _ 0 (earliest_is 0 0 none_clean).0)

    pub longest_clean : AllClean w ps (earliest w ps (longest w ps)) (longest w ps)
    longest_clean = run_clean _ _ longest_some

    pub longest_most : (i n : ℕ) → AllClean w ps i n → n ≤ longest w ps
    longest_most i n a =
        greatest_most (λ n. clean_run w ps (earliest w ps n) n) (length ps) n (omega (arith, a.there)) (clean_run_lem _ n (earliest_is i n a).0)

    pub earliest_least : (i : ℕ) → AllClean w ps i (longest w ps) → earliest w ps (longest w ps) ≤ i
    earliest_least i a = (earliest_is i _ a).1

    -- a run that is clean, and such that none is longer and none as long earlier
    pub the_longest : (i n : ℕ) → AllClean w ps i n → ((j m : ℕ) → AllClean w ps j m → m ≤ n) → ((j : ℕ) → AllClean w ps j n → i ≤ j)
        → (i ≡ earliest w ps (longest w ps)) × (n ≡ longest w ps)
    the_longest i n a most soonest =
        let e : n ≡ longest w ps = omega (arith, longest_most i n a, most _ _ longest_clean) in
        let l = earliest_least i (subst (AllClean w ps i) e a) in
        let g = soonest (earliest w ps (longest w ps)) (subst (AllClean w ps (earliest w ps (longest w ps))) (sym e) longest_clean) in
        (omega arith, e)
