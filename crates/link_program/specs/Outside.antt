-- What is kept of the names that run-time library files export.
use Rattle.std.specs.Prelude.{◌≡◌, ◌<◌, ◌+◌, ◌++◌, ℕ, List, None, map}
use Rattle.std.specs.List.{AllByRecursion}
use Rattle.link_meaning.specs.Member.{Member, setting_in}
use Rattle.object_meaning.specs.Defines.{ForAll}
use Rattle.link_meaning.specs.Search.{FoundDefinition, entries, outside}
use Rattle.link_tables.specs.declared.names.Matches.{Matches}
use Rattle.link_tables.specs.declared.names.Matches.TheVariants.{Nothing, One, Several}
use Rattle.link_program.specs.declared.outside.Far.{Far}
use Rattle.link_program.specs.declared.outside.OutsideNames.{OutsideNames}
use Rattle.link_tables.specs.Names.{Indexes}
use Rattle.link_tables.specs.Definitions.{numbered_rows}
use Rattle.omf_format.specs.declared.codes.TheConstants.{DIRECTIVE_LABEL}

-- all that a name can find: what the members of a list define, and then what the run-time library files export
abbrev pub all_found : List Member → List FoundDefinition
all_found list = entries list ++ outside (setting_in list)

-- the place of a name in a run-time library file
abbrev pub far_of : FoundDefinition → Far
far_of f = record { file = f.member.file; segment = f.member.number; offset = f.definition.place }

-- a name that a run-time library file exports: no member of the list has it, all see it, and it is a place
pub record IsFar (f : FoundDefinition) : Type 0 where
  pub place : f.place ≡ 0
  pub scope : f.definition.scope ≡ ForAll
  pub expr : f.definition.expr ≡ None
  pub size : f.definition.size ≡ 0
  pub form : f.definition.form ≡ DIRECTIVE_LABEL

-- these are the names of a table
pub record AreOutside (fs : List FoundDefinition) (table : OutsideNames) : Type 0 where
  pub names : Indexes (numbered_rows 0 fs) table.names
  pub places : table.places.items ≡ map far_of fs
  pub far : AllByRecursion IsFar fs

-- the table has some names
abbrev pub IsTable : OutsideNames → Type 0
IsTable table = (fs : List FoundDefinition) × AreOutside fs table

-- it has those of the run-time library files with which a list is linked
abbrev pub IsOutsideOf : List Member → OutsideNames → Type 0
IsOutsideOf list table = AreOutside (outside (setting_in list)) table

-- an answer reports a number below this one
abbrev pub IsBelow : ℕ → Matches → Type 0
IsBelow n Nothing = Unit {0}
IsBelow n (One number) = number < n
IsBelow n (Several number) = number < n

-- an answer with its number increased by n
abbrev pub with_number_after : ℕ → Matches → Matches
with_number_after n Nothing = Nothing
with_number_after n (One number) = One (n + number)
with_number_after n (Several number) = Several (n + number)
