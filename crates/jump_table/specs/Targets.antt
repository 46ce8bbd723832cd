-- What the fields of a table keep. No public clause cites this module.
use Rattle.std.specs.Prelude.{◌<◌, ◌≤◌, ◌^◌, List, All, length}
use Rattle.load_meaning.specs.declared.table.Target.{Target}
use Rattle.load_meaning.specs.Table.{AreDistinct, most_entries}

-- the target's numbers fit into their fields
pub record FitsTarget (target : Target) : Type 0 where
  pub file : target.file < 2 ^ 16
  pub segment : target.segment < 2 ^ 16
  pub offset : target.offset < 2 ^ 32

-- few targets, none twice, whose numbers fit
pub record IsSound (targets : List Target) : Type 0 where
  pub few : length targets ≤ most_entries
  pub distinct : AreDistinct targets
  pub fit : All FitsTarget targets
