-- The longest clean stretch, as it is asked for: of all the runs of consecutive samples the clean ones, of these the longest, of these the earliest.
use Rattle.std.specs.Prelude.{ℕ, zero, suc, ◌+◌, Bool, true, List, [], ◌∷◌, leb, length, take, drop}
use Rattle.float.specs.Choice.{when◌then◌else◌, ◌and◌}
use Rattle.plane.specs.Rect.{contains_point}
use Rattle.plane.specs.declared.point.Point.{Point}
use Rattle.plane.specs.declared.rect.Rect.{Rect}
use Rattle.clip.specs.Refuse.{point_fine}

-- a sample that is admitted, and in the window
unfoldable pub clean : Rect → Point → Bool
clean w p = point_fine p and contains_point w p

unfoldable pub all_clean : Rect → List Point → Bool
all_clean w [] = true
all_clean w (p ∷ ps) = clean w p and all_clean w ps

-- the run of n samples from sample i on: they are there, and all clean
unfoldable pub clean_run : Rect → List Point → ℕ → ℕ → Bool
clean_run w ps i n = leb (i + n) (length ps) and all_clean w (take n (drop i ps))

-- ---- longest, and earliest

-- the least of the m numbers from k on of which `is` holds; k + m where there is none
unfoldable pub least : (ℕ → Bool) → ℕ → ℕ → ℕ
least is k zero = k
least is k (suc m) = when is k then k else least is (k + 1) m

-- the greatest number up to m of which `is` holds; 0 where there is none
unfoldable pub greatest : (ℕ → Bool) → ℕ → ℕ
greatest is zero = 0
greatest is (suc m) = when is (suc m) then suc m else greatest is m

-- where the earliest clean run of n samples begins; past the last sample where there is none
abbrev pub earliest : Rect → List Point → ℕ → ℕ
earliest w ps n = least (λ i. clean_run w ps i n) 0 (length ps)

-- how many samples the longest clean run has
abbrev pub longest : Rect → List Point → ℕ
longest w ps = greatest (λ n. clean_run w ps (earliest w ps n) n) (length ps)
