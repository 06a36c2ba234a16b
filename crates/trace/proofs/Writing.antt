-- The records of a trace, written edge by edge: whatever is written already, what will be there in the end stays the same.
use Prim.Native.Nat.{ℕ, suc, ◌+◌, ◌-◌, ◌*◌, ◌≤◌, ◌<◌}
use native.Mathlib.Omega.{arith}
use native.Mathlib.Numerals.{add-one}
use mathlib.Core.Path.{◌≡◌, refl, sym, ap, ◌∙◌}
use mathlib.Core.Bool.{Bool, true, false, ◌&&◌}
use mathlib.Core.List.{List, [], ◌∷◌, ◌++◌, append-nil}
use lib.ListN.{length, take, drop, length-drop, drop_of_length-le}
use lib.Seq.{drop-cons, length-take-le}
use borrow.Rule.Slice.PartMut.{put_mid}
use Rattle.std.specs.Prelude.{Err}
use Rattle.float.specs.Choice.{when◌then◌else◌, ◌and◌}
use Rattle.answer.specs.declared.Refusal.TheVariants.{NotFinite}
use Rattle.buffer.specs.Bytes.{stored, placed, followed_by}
use Rattle.buffer.proofs.Stored.{stored_front, placed_fits, placed_part}
use Rattle.record.specs.Record.{record_bytes, joined}
use Rattle.record.proofs.Ahead.{ahead}
use Rattle.plane.specs.Point.{origin}
use Rattle.plane.specs.declared.point.Point.{Point}
use Rattle.clip.specs.Promises.{Fine}
use Rattle.clip.specs.Refuse.{point_fine}
use Rattle.trace.specs.Inner.{kept_with}
use Rattle.trace.specs.declared.Counts.{Counts}
use Rattle.trace.specs.declared.Chart.{Chart}
use Rattle.trace.specs.Trace.{Clipped, edge_cut, cuts_from, cuts_of}
use Rattle.trace.specs.Records.{no_ends, cut_bytes, records_of, is_kept, is_missed, is_refused, how_many}
use Rattle.trace.specs.Answers.{no_edges, counts_of}
use Rattle.trace.specs.Promises.{sample_at}
use Rattle.trace.proofs.Cuts.{length_from, length_cuts, length_records, all_kinds, one_kind_most}
use Rattle.trace.proofs.Touch.{dead_edge, live_edge_lem}

abbrev cut_of : Chart → Point → Point → Clipped
cut_of chart = edge_cut chart.touches chart.window

abbrev all_cuts : Chart → List Point → List Clipped
all_cuts chart = cuts_of chart.touches chart.window

-- the cuts of the edges from the sample k on, which is a
abbrev left : Chart → List Point → ℕ → Point → List Clipped
left chart ps k a = cuts_from chart.touches chart.window a (drop (k + 1) ps)

pub zeros : (r : Counts) → (r.kept ≡ 0) × ((r.missed ≡ 0) × ((r.refused ≡ 0) × (r.edges ≡ 0))) → r ≡ no_edges
zeros r z = all z.0 z.1.0 z.1.1.0 z.1.1.1
  where
    all : {k m f e : ℕ} → k ≡ 0 → m ≡ 0 → f ≡ 0 → e ≡ 0 → ◌≡◌ {A = Counts} (record { kept = k; missed = m; refused = f; edges = e }) no_edges
    all k m f e = cc

-- both ends are live
and_is : (p q : Bool) → (p and q) ≡ (p && q)
unfolding when◌then◌else◌
and_is true q = refl
and_is false q = refl

pub both : (p q a b : Bool) → p ≡ a → q ≡ b → (a and b) ≡ (p && q)
both p q a b e f = rw (e, f) (and_is a b)

-- placed over as many bytes
pub placed_whole : (xs ys bs : List ℕ) → length xs ≡ 40 → length bs ≡ 40 → ys ≡ placed xs 0 bs → ys ≡ bs
placed_whole xs ys bs l m e =
    let f : stored xs 0 bs ≡ followed_by bs xs = stored_front xs bs (omega arith) in
    let n : drop (length bs) xs ≡ [] = drop_of_length-le xs (omega arith) in
    e ∙ sym (placed_fits xs 0 bs (omega arith)) ∙ f ∙ ap (bs ++◌) n ∙ append-nil bs

-- fewer than two samples: no record, and zeros
pub none_written : (chart : Chart) (ps : List Point) (out : List ℕ) → length ps - 1 ≡ 0
    → (no_edges ≡ counts_of (all_cuts chart ps)) × (out ≡ stored out 0 (records_of chart.whose (all_cuts chart ps)))
unfolding cuts_of cuts_from stored joined how_many
none_written chart [] out h = (refl, refl)
none_written chart (p ∷ []) out h = (refl, refl)
none_written chart (p ∷ q ∷ ps) out h = absurd (omega arith)

left_all : (chart : Chart) (ps : List Point) → 1 ≤ length ps → left chart ps 0 (sample_at 0 ps) ≡ all_cuts chart ps
unfolding cuts_of
left_all chart [] h = absurd (omega arith)
left_all chart (p ∷ ps) h = refl

left_step : (chart : Chart) (ps : List Point) (k : ℕ) (a b : Point) → k + 1 < length ps → b ≡ sample_at (k + 1) ps → left chart ps k a ≡ cut_of chart a b ∷ left chart ps (k + 1) b
unfolding cuts_from
left_step chart ps k a b h e =
    let d : drop (k + 1) ps ≡ sample_at (k + 1) ps ∷ drop (suc (k + 1)) ps = drop-cons ps (k + 1) origin h in
    rw (e, d, add-one (k + 1)) refl

left_length : (chart : Chart) (ps : List Point) (k : ℕ) (a : Point) → length (records_of chart.whose (left chart ps k a)) ≡ (length ps - (k + 1)) * 40
left_length chart ps k a =
    length_records chart.whose (left chart ps k a) ∙ ap (◌* 40) (length_from chart.touches chart.window a (drop (k + 1) ps) ∙ length-drop (k + 1) ps)

records_step : (whose : ℕ) {c : Clipped} {cs ds : List Clipped} → cs ≡ c ∷ ds → records_of whose cs ≡ cut_bytes whose c ++ records_of whose ds
unfolding joined
records_step whose e = ap (records_of whose) e

counts_on : (is : Clipped → Bool) {c : Clipped} {cs ds : List Clipped} (j : ℕ) → cs ≡ c ∷ ds
    → j + (when is c then 1 else 0) + how_many is ds ≡ j + how_many is cs
unfolding how_many
counts_on is j e = omega (arith, ap (how_many is) e)

-- ---- before the edge k, whose first end is a: with the records and the counts of those that are left, all are there
pub record Written (chart : Chart) (ps : List Point) (out₀ : List ℕ) (k : ℕ) (a : Point) (out : List ℕ) (kept refused : ℕ) : Type 0 where
  pub here : a ≡ sample_at k ps
  pub long : length out ≡ length out₀
  pub few : kept + refused ≤ k
  pub bytes : stored out (k * 40) (records_of chart.whose (left chart ps k a)) ≡ stored out₀ 0 (records_of chart.whose (all_cuts chart ps))
  pub kept_all : kept + how_many is_kept (left chart ps k a) ≡ how_many is_kept (all_cuts chart ps)
  pub refused_all : refused + how_many is_refused (left chart ps k a) ≡ how_many is_refused (all_cuts chart ps)

pub begins : (chart : Chart) (ps : List Point) (out : List ℕ) → 1 ≤ length ps → (a : Point) → a ≡ sample_at 0 ps → Written chart ps out 0 a out 0 0
begins chart ps out h a e =
    let l = ap (λ (p : Point). left chart ps 0 p) e ∙ left_all chart ps h in
    record {
      here = e;
      long = refl;
      few = omega arith;
      bytes = ap (λ (cs : List Clipped). stored out 0 (records_of chart.whose cs)) l;
      kept_all = omega (arith, ap (how_many is_kept) l);
      refused_all = omega (arith, ap (how_many is_refused) l);
    }

module _ {chart : Chart} {ps : List Point} {out₀ : List ℕ} {k : ℕ} {a : Point} {out : List ℕ} {kept refused : ℕ} (room : (length ps - 1) * 40 ≤ length out₀) (v : Written chart ps out₀ k a out kept refused) (more : k + 1 < length ps) where
  pub fits_here : k * 40 + 40 ≤ length out
  fits_here = omega (arith, v.long)

  -- the bytes of its record
  pub place_length : length (take (k * 40 + 40 - k * 40) (drop (k * 40) out)) ≡ 40
  place_length =
      let n : k * 40 + 40 - k * 40 ≡ 40 = omega arith in
      length-take-le _ (drop (k * 40) out) (omega (arith, fits_here, length-drop (k * 40) out)) ∙ n

  pub in_place : (ys bs : List ℕ) → length bs ≡ 40 → ys ≡ bs → put_mid (k * 40) (k * 40 + 40 - k * 40) out ys ≡ placed out (k * 40) bs
  in_place ys bs l e = placed_part out ys bs (k * 40) _ (omega (arith, fits_here)) (omega arith) e

-- ---- past the edge to b
module _ {chart : Chart} {ps : List Point} {out₀ : List ℕ} {k : ℕ} {a : Point} {out : List ℕ} {kept refused : ℕ} (room : (length ps - 1) * 40 ≤ length out₀) (v : Written chart ps out₀ k a out kept refused) (more : k + 1 < length ps) (b : Point) (eb : b ≡ sample_at (k + 1) ps) (ys : List ℕ) where
  goes_on : (m n : ℕ) → m ≡ kept_with kept (cut_of chart a b) → n ≡ refused + (when is_refused (cut_of chart a b) then 1 else 0)
      → ys ≡ placed out (k * 40) (cut_bytes chart.whose (cut_of chart a b)) → Written chart ps out₀ (k + 1) b ys m n
  goes_on m n em en ey =
      let c = cut_of chart a b in
      let rest = left chart ps (k + 1) b in
      let s = left_step chart ps k a b more eb in
      let fit : k * 40 + length (records_of chart.whose (left chart ps k a)) ≤ length out = omega (arith, left_length chart ps k a, v.long) in
      let h = ahead out ys (k * 40) _ chart.whose _ (records_of chart.whose rest) (records_of chart.whose (left chart ps k a)) (records_step chart.whose s) fit ey in
      let to : (k + 1) * 40 ≡ k * 40 + 40 = omega arith in
      record {
        here = eb;
        long = h.long ∙ v.long;
        few = omega (arith, one_kind_most c, v.few, em, en);
        bytes = ap (λ (p : ℕ). stored ys p (records_of chart.whose rest)) to ∙ h.same ∙ v.bytes;
        kept_all = ap (◌+ how_many is_kept rest) em ∙ counts_on is_kept kept s ∙ v.kept_all;
        refused_all = ap (◌+ how_many is_refused rest) en ∙ counts_on is_refused refused s ∙ v.refused_all;
      }

  -- a live edge is not refused
  pub past_live : Fine a b chart.window → (m : ℕ) → m ≡ kept_with kept (cut_of chart a b) → ys ≡ placed out (k * 40) (cut_bytes chart.whose (cut_of chart a b)) → Written chart ps out₀ (k + 1) b ys m refused
  past_live f m em ey = goes_on m refused em (none (cut_of chart a b) (live_edge_lem chart.touches a b chart.window f)) ey
    where
      none : (c : Clipped) → is_refused c ≡ false → refused ≡ refused + (when is_refused c then 1 else 0)
      none c e = unfold when◌then◌else◌ in rw e (omega arith)

  -- a dead one is, with 2
  pub past_dead : (point_fine a and point_fine b) ≡ false → ys ≡ placed out (k * 40) (record_bytes 2 chart.whose no_ends) → Written chart ps out₀ (k + 1) b ys kept (refused + 1)
  past_dead d ey = go (cut_of chart a b) (dead_edge chart.touches a b chart.window d) (goes_on kept (refused + 1))
    where
      go : (c : Clipped) → Err NotFinite ≡ c
          → (kept ≡ kept_with kept c → refused + 1 ≡ refused + (when is_refused c then 1 else 0) → ys ≡ placed out (k * 40) (cut_bytes chart.whose c) → Written chart ps out₀ (k + 1) b ys kept (refused + 1))
          → Written chart ps out₀ (k + 1) b ys kept (refused + 1)
      go c e f = unfold is_kept is_refused when◌then◌else◌ in (rw (sym e) at f) (omega arith) refl ey

-- ---- no edge is left
module _ {chart : Chart} {ps : List Point} {out₀ : List ℕ} {k : ℕ} {a : Point} {out : List ℕ} {kept refused : ℕ} (v : Written chart ps out₀ k a out kept refused) (over : length ps ≤ k + 1) where
  none_left : left chart ps k a ≡ []
  unfolding cuts_from
  none_left = rw (drop_of_length-le ps over) refl

  pub all_written : out ≡ stored out₀ 0 (records_of chart.whose (all_cuts chart ps))
  unfolding stored joined
  all_written = sym (ap (λ (cs : List Clipped). stored out (k * 40) (records_of chart.whose cs)) none_left) ∙ v.bytes

  kept_is : kept ≡ how_many is_kept (all_cuts chart ps)
  unfolding how_many
  kept_is = omega (arith, ap (how_many is_kept) none_left, v.kept_all)

  refused_is : refused ≡ how_many is_refused (all_cuts chart ps)
  unfolding how_many
  refused_is = omega (arith, ap (how_many is_refused) none_left, v.refused_all)

  pub all_counted : (edges : ℕ) → edges ≡ length ps - 1
      → record { kept = kept; missed = edges - kept - refused; refused = refused; edges = edges } ≡ counts_of (all_cuts chart ps)
  all_counted edges d =
      let cs = all_cuts chart ps in
      let l : edges ≡ length cs = d ∙ sym (length_cuts chart.touches chart.window ps) in
      let m : edges - kept - refused ≡ how_many is_missed cs = omega (arith, kept_is, refused_is, all_kinds cs, l) in
      cc (kept_is, m, refused_is, l)
