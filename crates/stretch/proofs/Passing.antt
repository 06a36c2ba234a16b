-- One pass: the best of the runs that end among the samples passed so far, and what a run of clean samples makes of it.
use Prim.Native.Nat.{ℕ, ◌+◌, ◌-◌, ◌≤◌, ◌<◌}
use native.Mathlib.Omega.{arith}
use mathlib.Core.Path.{◌≡◌, sym, subst, ◌∙◌}
use mathlib.Core.Logic.{◌⊎◌, inl, inr}
use mathlib.Core.Bool.{true, false, true≢false}
use mathlib.Core.List.{List}
use lib.ListN.{length}
use Rattle.float.proofs.Whole.{le_or_lt}
use Rattle.plane.specs.declared.point.Point.{Point}
use Rattle.plane.specs.declared.rect.Rect.{Rect}
use Rattle.trace.specs.Promises.{sample_at}
use Rattle.stretch.specs.Longest.{clean, earliest, longest}
use Rattle.stretch.specs.Promises.{AllClean}
use Rattle.stretch.proofs.Runs.{none_clean, the_longest}

-- of the clean runs among the first `to` samples it is the earliest of the longest
pub record Best (w : Rect) (ps : List Point) (to first count : ℕ) : Type 0 where
  pub clean : AllClean w ps first count
  pub within : first + count ≤ to
  pub most : (i n : ℕ) → AllClean w ps i n → i + n ≤ to → n ≤ count
  pub soonest : (i : ℕ) → AllClean w ps i count → i + count ≤ to → first ≤ i

module _ (w : Rect) (ps : List Point) where
  -- sample j is not clean, or not there
  abbrev pub Stops : ℕ → Type 0
  Stops j = j < length ps → clean w (sample_at j ps) ≡ false

  -- none of the samples from i up to j is clean
  abbrev pub NoneClean : ℕ → ℕ → Type 0
  NoneClean i j = (k : ℕ) → i ≤ k → k < j → clean w (sample_at k ps) ≡ false

  pub starts : Best w ps 0 0 0
  starts = record { clean = none_clean w ps; within = omega arith; most = λ i n a h. omega arith; soonest = λ i a h. omega arith }

  -- a clean run has no sample that is not clean
  not_in : {i n : ℕ} (j : ℕ) → AllClean w ps i n → i ≤ j → j < i + n → clean w (sample_at j ps) ≡ false → ⊥
  not_in j a l h e = true≢false (sym (a.each j l h) ∙ e)

  -- ---- the last of the samples before `to` is not clean, nor are those from there up to f
  module _ (to f : ℕ) (stop : (j : ℕ) → j + 1 ≡ to → Stops j) (none : NoneClean to f) where
    -- so a clean run lies before them, or after
    apart : (i n : ℕ) → AllClean w ps i n → 0 < n → (i + n ≤ to) ⊎ (f ≤ i)
    apart i n a h =
        elim (le_or_lt (i + n) to)
        [ inl l ↦ inl l | inr g ↦ elim (le_or_lt f i) [ inl l ↦ inr l | inr k ↦ absurd (elim (le_or_lt to i) [ inl l ↦ among l k | inr l ↦ over l g ]) ] ]
      where
        among : to ≤ i → i < f → ⊥
        among l k = not_in i a (omega arith) (omega arith) (none i l k)

        over : i < to → to < i + n → ⊥
        over l g = not_in (to - 1) a (omega arith) (omega arith) (stop (to - 1) (omega arith) (omega (arith, a.there)))

    module _ {first count : ℕ} (b : Best w ps to first count) where
      -- where no sample is left the best is the longest of all
      pub all_passed : length ps ≤ f → (first ≡ earliest w ps (longest w ps)) × (count ≡ longest w ps)
      all_passed l = the_longest w ps first count b.clean most soonest
        where
          before : (i n : ℕ) → AllClean w ps i n → 0 < n → i + n ≤ to
          before i n a h = elim (apart i n a h) [ inl k ↦ k | inr k ↦ absurd (omega (arith, a.there)) ]

          most : (i n : ℕ) → AllClean w ps i n → n ≤ count
          most i n a = elim (le_or_lt n 0) [ inl z ↦ omega arith | inr h ↦ b.most i n a (before i n a h) ]

          soonest : (i : ℕ) → AllClean w ps i count → first ≤ i
          soonest i a =
              elim (le_or_lt count 0)
              [ inl z ↦ omega (arith, b.soonest 0 (subst (AllClean w ps 0) (omega arith) (none_clean w ps)) (omega arith)) | inr h ↦ b.soonest i a (before i count a h) ]

      -- ---- from f on the samples are clean, up to e
      module _ (e : ℕ) (some : f < e) (there : e ≤ length ps) (run : (j : ℕ) → f ≤ j → j < e → clean w (sample_at j ps) ≡ true) (end : Stops e) (on : to ≤ f) where
        own : AllClean w ps f (e - f)
        own = record { there = omega arith; each = λ j l h. run j l (omega arith) }

        -- a clean run that ends by then lies before `to`, or from f up to e
        two_kinds : (i n : ℕ) → AllClean w ps i n → 0 < n → i + n ≤ e + 1 → (i + n ≤ to) ⊎ ((f ≤ i) × (i + n ≤ e))
        two_kinds i n a h l =
            elim (apart i n a h)
            [ inl k ↦ inl k | inr k ↦ elim (le_or_lt (i + n) e) [ inl g ↦ inr (k, g) | inr g ↦ absurd (not_in e a (omega arith) (omega arith) (end (omega (arith, a.there)))) ] ]

        at_most : (m i n : ℕ) → count ≤ m → e - f ≤ m → AllClean w ps i n → i + n ≤ e + 1 → n ≤ m
        at_most m i n p q a l =
            elim (le_or_lt n 0)
            [ inl z ↦ omega arith | inr h ↦ elim (two_kinds i n a h l) [ inl k ↦ omega (arith, b.most i n a k) | inr (g, k) ↦ omega arith ] ]

        pub takes : count < e - f → Best w ps (e + 1) f (e - f)
        takes less =
            record {
              clean = own;
              within = omega arith;
              most = λ i n a l. at_most (e - f) i n (omega arith) (omega arith) a l;
              soonest = λ i a l. elim (two_kinds i (e - f) a (omega arith) l) [ inl k ↦ absurd (omega (arith, b.most i (e - f) a k)) | inr (g, k) ↦ g ];
            }

        pub keeps : e - f ≤ count → Best w ps (e + 1) first count
        keeps more =
            record {
              clean = b.clean;
              within = omega (arith, b.within);
              most = λ i n a l. at_most count i n (omega arith) more a l;
              soonest = λ i a l. elim (two_kinds i count a (omega arith) l) [ inl k ↦ b.soonest i a k | inr (g, k) ↦ omega (arith, b.within) ];
            }
