-- How a run goes from block to block, and the status that it ends with.
use Rattle.std.specs.Prelude.{ℕ, ◌+◌, ◌-◌, ◌%◌, ◌^◌, Bool, true, false, List, length, take, nat_le, Result, Ok, Err}
use Rattle.buffer.specs.Text.{line_ends}
use Rattle.float.specs.Choice.{when◌then◌else◌}
use Rattle.stream.specs.declared.Run.{Run}

-- how many bytes of a block are answered, with records of so many bytes: where a read failed, those of whole records
unfoldable pub answered_of : ℕ → Result ℕ ℕ → ℕ
answered_of size (Ok n) = n
answered_of size (Err n) = n - n % size

-- how many records of a text were written whole, where so many of its bytes were: all, or a line end for each
unfoldable pub whole_lines : List ℕ → ℕ → ℕ → ℕ
whole_lines text taken records = when nat_le (length text) taken then records else line_ends (take taken text)

-- nothing written yet, and nothing failed
abbrev pub begun : Run
begun = record { records = 0; unread = false; unwritten = false; more = true }

-- there may be more after a full block at which nothing failed
unfoldable pub goes_on : Bool → Bool → Bool → Bool
goes_on unread unwritten full = when unread then false else when unwritten then false else full

-- with a block more, of which so many records were written whole
unfoldable pub with_block : Run → ℕ → Bool → Bool → Bool → Run
with_block r n unread unwritten full =
    record {
      records = (r.records + n) % 2 ^ 64;
      unread = unread;
      unwritten = unwritten;
      more = goes_on unread unwritten full;
    }

-- 3 where something failed
unfoldable pub status_if : Bool → Bool → ℕ
status_if unread unwritten = when unread then 3 else when unwritten then 3 else 0

abbrev pub status_of : Run → ℕ
status_of r = status_if r.unread r.unwritten

-- 2 where a program is asked for what it does not do, and has said so; 3 where it could not
unfoldable pub refused_status : Bool → ℕ
refused_status said = when said then 2 else 3
