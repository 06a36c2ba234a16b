-- What the three entries for the longest clean stretch say is one answer.
use Rattle.std.proofs.Common.{◌≡◌, ◌/◌, ℕ, List, Float, Result, Ok, Err, length, refl, arith, ap, ◌∙◌}
use Rattle.std.specs.Result.{result_unwrap_or}
use Rattle.answer.specs.Refusal.{◌then◌, number}
use Rattle.answer.specs.declared.Refusal.{Refusal}
use Rattle.plane.specs.declared.rect.Rect.{Rect}
use Rattle.stretch.specs.Answers.{stretch_refusal, stretch_of, stretch_or_none, no_stretch, longest_stretch, part_of}
use Rattle.stretch.specs.declared.Stretch.{Stretch}
use Rattle.stretch.proofs.Promises.{promises}
use Rattle.answers.specs.Reply.{Reply, reply_or, stretch_words}

abbrev answer : ℕ → Stretch → Reply
answer n s = record { number = n; words = stretch_words s }

-- the stretch, or the one of no sample, beside the number of what is refused
beside : (r : Result (Unit {0}) Refusal) (s : Stretch) → answer (number r) (result_unwrap_or (r then Ok s) no_stretch) ≡ reply_or stretch_words (r then Ok s) no_stretch
beside (Ok x) s = refl
beside (Err e) s = refl

pub all_say : (fs : List Float) (w : Rect) (n : ℕ) (run : Stretch) (part : List Float) → n ≡ number (stretch_refusal (length fs) w) → run ≡ stretch_or_none fs w → part ≡ part_of fs (stretch_or_none fs w)
    → answer n (record { first = run.first; count = length part / 2 }) ≡ reply_or stretch_words (stretch_of fs w) no_stretch
all_say fs w n run part en er ep =
    let c : length part / 2 ≡ (stretch_or_none fs w).count = omega (arith, ap length ep, (promises.part w fs).pairs) in
    let b = beside (stretch_refusal (length fs) w) (longest_stretch fs w) in
    ap (λ (k : ℕ). answer k (record { first = run.first; count = length part / 2 })) en
    ∙ ap (λ (r : Stretch). answer (number (stretch_refusal (length fs) w)) (record { first = r.first; count = length part / 2 })) er
    ∙ ap (λ (k : ℕ). answer (number (stretch_refusal (length fs) w)) (record { first = (stretch_or_none fs w).first; count = k })) c ∙ b
