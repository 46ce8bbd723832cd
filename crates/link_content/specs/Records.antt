-- Where a record is that is put, and what there is after it.
use Rattle.std.specs.Prelude.{◌≡◌, ◌++◌, true, List, length, map, Result, Ok}
use Rattle.omf_format.specs.Record.{Record, Equate, Formula}
use Rattle.omf_format.specs.Field.{is_count}
use Rattle.load_meaning.specs.Cells.{Cell}
use Rattle.load_meaning.specs.declared.table.Target.{Target}
use Rattle.link_meaning.specs.declared.fault.LinkCause.{LinkCause}
use Rattle.link_meaning.specs.Member.{Member, setting_in}
use Rattle.link_meaning.specs.Layout.{load_headers}
use Rattle.omf_format.specs.declared.value.Value.{Value}
use Rattle.omf_format.specs.declared.value.ValueFault.{ValueFault}
use Rattle.link_meaning.specs.LinkValues.{EquateAnswer, value_in}
use Rattle.link_meaning.specs.LinkedCells.{LinkState, Item, Made, table_number, cells_before}
use Rattle.link_content.specs.Holding.{Holding}
use Rattle.link_content.specs.declared.context.LinkContext.{LinkContext}
use Rattle.link_content.specs.declared.context.RecordPlace.{RecordPlace}
use Rattle.link_program.specs.MemberPlaces.{IsMemberPlace}
use Rattle.link_content.specs.Contents.{HoldsCells}
use Rattle.link_content.specs.Fits.{to_load_limits}

-- a count is 1 to 4
abbrev pub IsCounted : Record → Type 0
IsCounted (Formula code count n expr) = is_count count ≡ true
IsCounted _ = Unit {0}

-- this is the value, or the fault, of the record's expression, if it has one
abbrev pub IsWorth : List Member → List EquateAnswer → Item → Record → Result Value ValueFault → Type 0
IsWorth list reported i (Equate global name size form private expr) worth = value_in list reported i.place i.member i.here.location expr ≡ worth
IsWorth list reported i (Formula code count n expr) worth = value_in list reported i.place i.member i.here.location expr ≡ worth
IsWorth _ _ _ _ _ = Unit {0}

-- a record of the member is at this place, after what the records before it left: their targets, and the cells of the load segment, of which
-- `front` are those before the member
pub record StandsAt (list : List Member) (reported : List EquateAnswer) (state : LinkState) (i : Item) (context : LinkContext) (place : RecordPlace) (targets : List Target) (front : List Cell) (content : Holding) : Type 0 where
  pub setting' : setting_in list ≡ setting_in context.program.now
  pub loads' : context.loads.now ≡ map to_load_limits (load_headers list)
  pub table' : context.table ≡ table_number list
  pub member' : IsMemberPlace list i.member place.member
  pub place' : place.member.place ≡ i.place
  pub location' : i.here.location ≡ place.location
  pub targets' : state.targets ≡ targets
  pub front' : length front ≡ place.member.offset
  pub holds : HoldsCells (front ++ cells_before state i) content

-- these cells follow the others, and these are the targets then
pub record PutsMade (made : Result Made LinkCause) (before : List Cell) (targets : List Target) (content : Holding) : Type 0 where
  pub gives : Made
  pub is : made ≡ Ok gives
  pub targets' : targets ≡ gives.1
  pub holds : HoldsCells (before ++ gives.0) content
