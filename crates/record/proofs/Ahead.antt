-- Records one after the other: one that fits at a place, then the rest at the next.
use Prim.Native.Nat.{ℕ, ◌+◌, ◌≤◌}
use native.Mathlib.Omega.{arith}
use mathlib.Core.Path.{◌≡◌, refl}
use mathlib.Core.List.{List, ◌++◌}
use lib.ListN.{length, length-append}
use Rattle.buffer.specs.Bytes.{stored, placed}
use Rattle.buffer.proofs.Stored.{placed_length, placed_then}
use Rattle.record.specs.Record.{Ends, record_bytes}
use Rattle.record.proofs.Words.{length_record}

pub record Ahead (xs ys : List ℕ) (to : ℕ) (rest all : List ℕ) : Type 0 where
  pub long : length ys ≡ length xs
  pub room : to + 40 + length rest ≤ length ys
  pub same : stored ys (to + 40) rest ≡ stored xs to all

pub ahead : (xs ys : List ℕ) (to first whose : ℕ) (s : Ends) (rest all : List ℕ) → all ≡ record_bytes first whose s ++ rest
    → to + length all ≤ length xs → ys ≡ placed xs to (record_bytes first whose s) → Ahead xs ys to rest all
ahead xs ys to first whose s rest all e r w =
    let b = record_bytes first whose s in
    let n : length all ≡ 40 + length rest = rw e (omega (arith, length-append b rest, length_record first whose s)) in
    let l = placed_length xs ys to b w in
    record {
      long = l;
      room = omega arith;
      same = rw e (placed_then xs ys to (to + 40) 40 b rest (length_record first whose s) w (omega arith) refl);
    }
