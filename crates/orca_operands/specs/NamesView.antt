-- How names and constants are seen.
use Rattle.std.specs.Prelude.{Option, Some, None, option_copied}
use Rattle.std.specs.Option.{option_or}
use Rattle.asm_meaning.specs.Constant as meaning
use Rattle.asm_meaning.specs.State as state
use Rattle.asm_meaning.specs.Statement.{value_in}
use Rattle.name_map.specs.Held.{value_of_name}
use Rattle.orca_operands.specs.declared.names.DefinedNames.{DefinedNames}
use Rattle.orca_operands.specs.declared.names.OutsideConstants.{OutsideConstants}
use Rattle.orca_operands.specs.declared.names.KnownConstants.{KnownConstants}

-- the names of a segment
abbrev pub names_of : DefinedNames → state.Names
names_of names name = value_of_name names.map name

-- the constants from outside segments
abbrev pub outside_of : OutsideConstants → meaning.Constants
outside_of outside name = value_of_name outside.map name

-- the constants among the names of a segment, if one is open
abbrev pub value_in_names : Option DefinedNames → meaning.Constants
value_in_names None name = None
value_in_names (Some names) name = value_in (names_of names name)

-- those of the segment, and else those from outside
abbrev pub constants : KnownConstants → meaning.Constants
constants known name = option_or (value_in_names (option_copied known.names) name) (outside_of known.outside.now name)
