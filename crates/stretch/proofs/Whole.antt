-- The pass over a trace's floats: what is known past each run, and that the last best is the longest of all.
use Prim.Native.Nat.{ℕ, ◌+◌, ◌-◌, ◌*◌, ◌/◌, ◌≤◌, ◌<◌}
use native.Mathlib.Omega.{arith}
use mathlib.Core.Path.{◌≡◌, refl, sym, ap, subst, ◌∙◌}
use mathlib.Core.Logic.{inl, inr}
use mathlib.Core.Bool.{true, false}
use mathlib.Core.List.{List}
use borrow.Author.Tests.{lt-ltb, le-ltb}
use lib.Ieee.{Float}
use lib.ListN.{length}
use Rattle.float.proofs.Whole.{le_or_lt}
use Rattle.plane.specs.declared.rect.Rect.{Rect}
use Rattle.trace.specs.Trace.{samples_of}
use Rattle.trace.specs.Promises.{sample_at}
use Rattle.trace.proofs.Cuts.{length_samples}
use Rattle.stretch.specs.Longest.{clean}
use Rattle.stretch.specs.Inner.{longer, Admitted, From, Until, IsLongest}
use Rattle.stretch.specs.declared.Part.{Part}
use Rattle.stretch.proofs.Passing.{Best, Stops, NoneClean, starts, all_passed, takes, keeps}

abbrev part : ℕ → ℕ → Part
part from long = record { from = from; length = long }

-- past the samples before `to`
pub record Passing (fs : List Float) (w : Rect) (p : Part) (k : ℕ) : Type 0 where
  pub trace : Admitted fs
  pub to : ℕ
  pub first : ℕ
  pub count : ℕ
  pub place : k ≡ 2 * to
  pub few : k ≤ length fs + 2
  pub from : p.from ≡ 2 * first
  pub long : p.length ≡ 2 * count
  pub best : Best w (samples_of fs) to first count
  pub stop : (j : ℕ) → j + 1 ≡ to → Stops w (samples_of fs) j

pub begins : {fs : List Float} {w : Rect} → Admitted fs → Passing fs w (part 0 0) 0
begins {fs} {w} a =
    record {
      trace = a;
      to = 0;
      first = 0;
      count = 0;
      place = refl;
      few = omega arith;
      from = refl;
      long = refl;
      best = starts w (samples_of fs);
      stop = λ j e. absurd (omega arith);
    }

module _ {fs : List Float} {w : Rect} {p : Part} {k : ℕ} (v : Passing fs w p k) where
  pub asks : From fs k
  asks = record { trace = v.trace; even = omega (arith, v.place); few = v.few }

  -- where no sample is left
  longest_of : (f : ℕ) → NoneClean w (samples_of fs) v.to f → length (samples_of fs) ≤ f → IsLongest fs w p
  longest_of f none l =
      let (i, n) = all_passed w (samples_of fs) v.to f v.stop none v.best l in
      record { from = v.from ∙ ap (2 *◌) i; length = v.long ∙ ap (2 *◌) n }

  pub all_left : length fs ≤ k → IsLongest fs w p
  all_left h = longest_of v.to (λ j l g. absurd (omega arith)) (omega (arith, v.place, length_samples fs))

  -- ---- to the next clean sample, at f
  module _ {f : ℕ} (u : Until true fs w k f) where
    none : NoneClean w (samples_of fs) v.to (f / 2)
    none j l h = u.skipped.passed j (omega (arith, v.place)) (omega arith)

    pub none_left : length fs ≤ f → IsLongest fs w p
    none_left h = longest_of (f / 2) none (omega (arith, length_samples fs))

    module _ (more : f < length fs) where
      pub asks_on : From fs (f + 2)
      asks_on = record { trace = v.trace; even = omega (arith, u.skipped.even); few = omega arith }

      -- and from there up to e
      module _ {e : ℕ} (t : Until false fs w (f + 2) e) where
        pub end_within : e ≤ length fs
        end_within = t.skipped.within (omega (arith, u.skipped.even, v.trace.even))

        pub longer_than : f + 2 ≤ e
        longer_than = t.skipped.further

        run : (j : ℕ) → f / 2 ≤ j → j < e / 2 → clean w (sample_at j (samples_of fs)) ≡ true
        run j l h =
            elim (le_or_lt j (f / 2)) [
              | inl g ↦ let same : f / 2 ≡ j = omega arith in subst (λ (i : ℕ). clean w (sample_at i (samples_of fs)) ≡ true) same (u.found more)
              | inr g ↦ t.skipped.passed j (omega (arith, u.skipped.even)) (omega arith)
            ]

        end : Stops w (samples_of fs) (e / 2)
        end h = t.found (omega (arith, length_samples fs, t.skipped.even))

        evens : (2 * (f / 2) ≡ f) × (2 * (e / 2) ≡ e)
        evens = (omega (arith, u.skipped.even), omega (arith, t.skipped.even))

        on : v.to ≤ f / 2
        on = omega (arith, v.place, u.skipped.further)

        there : e / 2 ≤ length (samples_of fs)
        there = omega (arith, end_within, length_samples fs)

        some : f / 2 < e / 2
        some = omega (arith, longer_than)

        past : (first count : ℕ) (q : Part) → q.from ≡ 2 * first → q.length ≡ 2 * count → Best w (samples_of fs) (e / 2 + 1) first count → Passing fs w q (e + 2)
        past first count q from long b =
            record {
              trace = v.trace;
              to = e / 2 + 1;
              first = first;
              count = count;
              place = omega (arith, evens.1);
              few = omega (arith, end_within);
              from = from;
              long = long;
              best = b;
              stop = λ j h. let same : e / 2 ≡ j = omega arith in subst (Stops w (samples_of fs)) same end;
            }

        pub goes_on : (q : Part) → q ≡ longer p (part f (e - f)) → Passing fs w q (e + 2)
        goes_on q is =
            let (ef, ee) = evens in
            elim (le_or_lt (e - f) p.length) [
              | inl h ↦
                  rw (rw (le-ltb p.length (e - f) h) at is)
                  (past v.first v.count p v.from v.long (keeps w (samples_of fs) v.to (f / 2) v.stop none v.best (e / 2) some there run end on (omega (arith, v.long))))
              | inr h ↦
                  rw (rw (lt-ltb p.length (e - f) h) at is)
                  (past (f / 2) (e / 2 - f / 2) (part f (e - f)) (sym ef) (omega arith) (takes w (samples_of fs) v.to (f / 2) v.stop none v.best (e / 2) some there run end on (omega (arith, v.long))))
            ]

pub ruleset steps = (begins, asks, asks_on, end_within, longer_than)
