-- `put_record` places the record's five words.
use mathlib.Core.Path.{refl, ap, ◌∙◌}
use mathlib.Core.List.{List}
use Prim.Native.Nat.{ℕ}
use Rattle.buffer.specs.Bytes.{placed}
use Rattle.record.proofs.Words.{words_alone}
use Rattle.record.proofs.put_record.Goals as goal

pub returns : goal.returns
returns c =
    c.place.ensures
    ∙ ap (λ (bs : List ℕ). placed c.args.out.now c.args.at bs) (words_alone _ _ _ _ _ _ refl _ _ _ _ _ c.put_word.ensures c.put_word-2.ensures c.put_word-3.ensures c.put_word-4.ensures c.put_word-5.ensures)
