-- What each way out of the two entries leaves: what was found, and the lent floats.
use Prim.Native.Nat.{ℕ, ◌*◌, ◌/◌, ◌%◌, ◌≤◌}
use native.Mathlib.Omega.{arith}
use mathlib.Core.Path.{◌≡◌, refl, sym, ap, ◌∙◌}
use mathlib.Core.Bool.{Bool, true, false}
use mathlib.Core.List.{List, [], ◌++◌}
use lib.Dec.{eqb}
use lib.Ieee.{Float}
use lib.ListN.{length, drop, length-append, length-drop}
use lib.Seq.{sets}
use borrow.Author.Tests.{eqb-true, eqb-false, leb-true}
use Rattle.float.proofs.Choice.{and_parts, when_eq, when_ne}
use Rattle.std.specs.Prelude.{Result, Ok, Err}
use Rattle.answer.specs.Refusal.{done, ◌then◌}
use Rattle.answer.specs.declared.Refusal.{Refusal}
use Rattle.plane.specs.declared.rect.Rect.{Rect}
use Rattle.clip.specs.Refuse.{window_fine}
use Rattle.trace.specs.Trace.{samples_of}
use Rattle.trace.specs.Refuse.{trace_fine}
use Rattle.trace.proofs.Exits.{admitted}
use Rattle.pages.specs.Halves.{halves_of}
use Rattle.pages.specs.Boxes.{boxes_of}
use Rattle.pages.specs.Search.{none, opens, search}
use Rattle.pages.specs.Inner.{Room}
use Rattle.pages.specs.Answers.{edge_count, floats_for, boxes_fit, pages_refusal, kept_refusal, trace_boxes, buffer_after, search_all, kept_answer}
use Rattle.pages.specs.declared.Found.{Found}
use Rattle.pages.proofs.Halving.{edges_are}
use Rattle.pages.proofs.Storing.{sets_front}
use Rattle.pages.proofs.Filling.{length_boxes}
use Rattle.pages.proofs.Going.{shut}

-- a trace that is admitted, with an edge, and room for its boxes
has_room : (floats lent m : ℕ) → trace_fine floats ≡ true → boxes_fit (edge_count floats) lent ≡ true → m ≡ edge_count floats → (m ≡ 0 → ⊥)
    → Room floats lent 0 0 m
has_room floats lent m t b e z =
    let even : floats % 2 ≡ 0 = eqb-true _ _ (and_parts _ _ t).0 in
    let few : floats / 2 ≤ 4096 = leb-true _ _ (and_parts _ _ t).1 in
    let fit : floats_for (edge_count floats) ≤ lent = leb-true _ _ b in
    record { some = omega arith; few = omega (arith, even, few); within = omega (arith, even); before = omega (arith, even, few); fits = omega (arith, fit) }

-- ---- the boxes of a trace without an edge, and of one with m
pub no_boxes : (fs : List Float) → edge_count (length fs) ≡ 0 → trace_boxes fs ≡ []
unfolding trace_boxes
no_boxes fs e = sym (when_eq _ _ _ _ _ e refl)

pub some_boxes : (fs : List Float) (m : ℕ) → m ≡ edge_count (length fs) → (m ≡ 0 → ⊥) → trace_boxes fs ≡ boxes_of (samples_of fs) (halves_of m) 0
unfolding trace_boxes
some_boxes fs m e z = sym (when_ne _ _ _ _ _ (λ k. z (e ∙ k)) (ap (λ (n : ℕ). boxes_of (samples_of fs) (halves_of n) 0) e))

pub boxes_length : (fs : List Float) → length (trace_boxes fs) ≡ floats_for (edge_count (length fs))
boxes_length fs = go (edge_count (length fs)) refl (eqb (edge_count (length fs)) 0) refl
  where
    go : (m : ℕ) → m ≡ edge_count (length fs) → (t : Bool) → eqb m 0 ≡ t → length (trace_boxes fs) ≡ floats_for (edge_count (length fs))
    go m e true z = let y : m ≡ 0 = eqb-true m 0 z in omega (arith, e, ap length (no_boxes fs (sym e ∙ y)))
    go m e false z =
        let y = eqb-false m 0 z in
        omega (arith, e, ap length (some_boxes fs m e y), length_boxes (samples_of fs) (halves_of m) 0, edges_are m (omega arith))

-- what comes after the refusals is taken where there is none
pub taken : {A : Type 0} (r : Result (Unit {0}) Refusal) (a b : A) → (r then Ok a) ≡ Ok b → (r ≡ done) × (a ≡ b)
taken (Ok x) a b e = (refl, cc)
taken (Err x) a b e = cc

-- ---- `build_pages`
module _ (xs fs : List Float) where
  pub refused_stays : (e : Refusal) → pages_refusal (length fs) (length xs) ≡ Err e → xs ≡ buffer_after xs fs
  unfolding buffer_after
  refused_stays e d = rw d refl

  module _ (d : pages_refusal (length fs) (length xs) ≡ done) where
    pub after_is : trace_boxes fs ++ drop (length (trace_boxes fs)) xs ≡ buffer_after xs fs
    unfolding buffer_after
    after_is = rw d refl

    module _ (m : ℕ) (e : m ≡ edge_count (length fs)) where
      pub nothing : m ≡ 0 → xs ≡ buffer_after xs fs
      nothing y = ap (λ (l : List Float). l ++ drop (length l) xs) (sym (no_boxes fs (sym e ∙ y))) ∙ after_is

      pub room : (m ≡ 0 → ⊥) → Room (length fs) (length xs) 0 0 m
      room y = let (t, _, f) = admitted (trace_fine (length fs)) true (boxes_fit (edge_count (length fs)) (length xs)) d in has_room (length fs) (length xs) m t f e y

      pub filled : (m ≡ 0 → ⊥) → (ys : List Float) → ys ≡ sets xs (5 * 0) (boxes_of (samples_of fs) (halves_of m) 0) → ys ≡ buffer_after xs fs
      filled y ys u =
          let b = some_boxes fs m e y in
          let g = room y in
          let f : length (trace_boxes fs) ≤ length xs = omega (arith, boxes_length fs, e, g.fits, g.some) in
          u ∙ ap (sets xs 0) (sym b) ∙ sets_front xs (trace_boxes fs) f ∙ after_is

  -- the buffer is as long as it was
  pub after_length : length (buffer_after xs fs) ≡ length xs
  after_length = go (pages_refusal (length fs) (length xs)) refl
    where
      go : (r : Result (Unit {0}) Refusal) → pages_refusal (length fs) (length xs) ≡ r → length (buffer_after xs fs) ≡ length xs
      go (Err e) d = ap length (sym (refused_stays e d))
      go (Ok x) d =
          let bs = trace_boxes fs in
          let (_, _, f) = admitted (trace_fine (length fs)) true (boxes_fit (edge_count (length fs)) (length xs)) d in
          let fit : floats_for (edge_count (length fs)) ≤ length xs = leb-true _ _ f in
          ap length (sym (after_is d)) ∙ omega (arith, fit, boxes_length fs, length-append bs (drop (length bs) xs), length-drop (length bs) xs)

-- ---- `first_kept`
module _ (fs : List Float) (w : Rect) (bs : List Float) where
  module _ (d : kept_refusal (length fs) w (length bs) ≡ done) where
    pub searched : Ok (search_all fs w bs) ≡ kept_answer fs w bs
    searched = rw d refl

    pub fine_window : window_fine w ≡ true
    fine_window = (admitted (trace_fine (length fs)) (window_fine w) (boxes_fit (edge_count (length fs)) (length bs)) d).1

    module _ (m : ℕ) (e : m ≡ edge_count (length fs)) where
      pub no_edge : m ≡ 0 → Ok (none 0) ≡ kept_answer fs w bs
      unfolding search_all
      no_edge y = ap Ok (when_eq _ _ _ _ _ (sym e ∙ y) refl) ∙ searched

      module _ (y : m ≡ 0 → ⊥) where
        pub enough : Room (length fs) (length bs) 0 0 m
        enough = let (t, _, f) = admitted (trace_fine (length fs)) (window_fine w) (boxes_fit (edge_count (length fs)) (length bs)) d in has_room (length fs) (length bs) m t f e y

        pub found_so : (r : Found) → r ≡ search bs w (samples_of fs) (halves_of m) 0 0 → Ok r ≡ kept_answer fs w bs
        unfolding search_all
        found_so r h = ap Ok (when_ne _ _ _ _ _ (λ k. y (e ∙ k)) (h ∙ ap (λ (k : ℕ). search bs w (samples_of fs) (halves_of k) 0 0) e)) ∙ searched

        pub outermost_shut : opens bs w 0 ≡ false → Ok (none 1) ≡ kept_answer fs w bs
        outermost_shut o = found_so (none 1) (shut bs w (samples_of fs) (halves_of m) 0 0 o)

pub ruleset built = (refused_stays, nothing, room, filled)

pub ruleset found = (no_edge, fine_window, enough, found_so, outermost_shut)
