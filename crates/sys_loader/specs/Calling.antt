-- A JSL in memory that leads to an entry of a jump table, and the outcome of following it.
use Rattle.std.specs.Prelude.{◌≡◌, ◌⊎◌, ℕ, ◌+◌, true, false, Some, None, slice_get, Result, Ok, Err}
use Rattle.std.specs.FinMap.{get}
use Rattle.omf_format.specs.Header.{is_skipped}
use Rattle.omf_io.specs.Files.{FileMap}
use Rattle.load_meaning.specs.declared.table.Target.{Target}
use Rattle.load_meaning.specs.Cells.{Byte, cells}
use Rattle.load_meaning.specs.Table.{entry_place}
use Rattle.load_meaning.specs.LoadTable.{is_table, targets_of}
use Rattle.loader_machine.specs.declared.faults.LoaderFault.{LoaderFault}
use Rattle.loader_machine.specs.declared.faults.LoaderFault.TheVariants.{CannotRead, NoHandle, NoRoom, Memory}
use Rattle.loader_machine.specs.State.{Machine, held_at, outlines, named_by}
use Rattle.sys_loader.specs.declared.answers.Entered.{Entered}
use Rattle.sys_loader.specs.Naming.{HasAddress}

-- A JSL at an offset of an active segment of a user that runs: the byte $22, and then the three bytes of the code of an entry of the
-- user's jump table, which leads to this target. None of the four was written, and the segment isn't skipped.
pub record HasCall (held : FileMap) (state : Machine) (id number at : ℕ) (target : Target) : Type 0 where
  pub table : ℕ
  pub k : ℕ
  pub address : HasAddress held state id number (at + 1) table (entry_place k)
  pub loaded : is_skipped address.s.fields.kind ≡ false
  pub code : slice_get (cells address.s) at ≡ Some (Byte 0x22)
  pub unwritten : get (held_at address.sees.user number).pokes at ≡ None
  pub is_table : is_table address.t ≡ true
  pub entry : slice_get (targets_of address.t) k ≡ Some target

-- The target's segment, of the user that the target names, is entered at the target's offset; or its file can't be read, or there is no
-- handle or no room for it, or the call is out of memory.
abbrev pub EntersTarget : Machine → ℕ → Target → Result Entered LoaderFault → Type 0
EntersTarget state id target (Ok place) =
    (named_by (outlines state.users) id target.file ≡ Some place.user) × (place.segment ≡ target.segment) × (place.offset ≡ target.offset)
EntersTarget state id target (Err why) = (why ≡ CannotRead) ⊎ (why ≡ NoHandle) ⊎ (why ≡ NoRoom target.segment) ⊎ (why ≡ Memory)
