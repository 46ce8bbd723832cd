-- The walk over the records of all members.
use Rattle.std.specs.List.{AllByRecursion}
use Rattle.std.specs.Prelude.{◌≡◌, ◌⊎◌, ◌+◌, ◌-◌, ◌≤◌, ℕ, List, [], ◌∷◌, ◌++◌, length, map, ◌==◌, if◌then◌else◌, None, Err}
use Rattle.omf_format.specs.Record.{Record}
use Rattle.omf_format.specs.File.{Segment}
use Rattle.omf_format.specs.Reading.{Reader}
use Rattle.load_meaning.specs.Cells.{Cell}
use Rattle.load_meaning.specs.declared.table.Target.{Target}
use Rattle.link_meaning.specs.declared.fault.LinkCause.{LinkCause}
use Rattle.link_meaning.specs.declared.fault.LinkCause.TheVariants as causes
use Rattle.link_meaning.specs.declared.fault.LinkFault.{LinkFault}
use Rattle.link_meaning.specs.First.{IsFirst}
use Rattle.object_meaning.specs.Sizes.{located_from, place_after}
use Rattle.link_meaning.specs.Member.{Member}
use Rattle.link_meaning.specs.Layout.{end_from, load_names, load_headers, offset_of}
use Rattle.link_meaning.specs.LinkValues.{EquateAnswer}
use Rattle.link_meaning.specs.LinkedCells.{Item, LinkState, table_number, zeros, member_cells, items_from, items, made, state_from}
use Rattle.link_meaning.specs.LinkedCells as linked
use Rattle.link_meaning.specs.LinkWritten.{AreMade, start}
use Rattle.link_meaning.specs.laws.LinkedRuns.{item}
use Rattle.link_meaning.specs.laws.LinkedWalk.{state_of, linked_after, own_items}
use Rattle.link_meaning.specs.EmitFaults.{HasValueFault}
use Rattle.link_meaning.specs.LinkFaults.{spot_in}
use Rattle.link_tables.specs.Coming.{Coming}
use Rattle.link_program.specs.Memory.{memory_fault}
use Rattle.link_content.specs.Holding.{Holding}
use Rattle.link_program.specs.declared.member_place.MemberPlace.{MemberPlace}
use Rattle.link_content.specs.Contents.{HoldsCells}
use Rattle.link_file.specs.Images.{HoldLinked}
use Rattle.link_program.specs.OfFiles.{IsOfFiles}
use Rattle.link_content.specs.Fits.{to_load_limits}
use Rattle.link_program.specs.MemberPlaces.{IsMemberPlace}
use Rattle.link_program.specs.Outside.{all_found}
use Rattle.link_values.specs.Slots.{rows_of}
use Rattle.link_values.specs.Surroundings.{AreKnown}
use Rattle.link_file.specs.declared.walk.WalkContext.{WalkContext}

-- ---- what records meet

-- the list is that of files, its definitions have these values, its load segments' headers are so kept, and the table has this number
pub record IsWhole (context : WalkContext) : Type 0 where
  pub files : IsOfFiles context.link.program.now
  pub known : AreKnown context.link.program.now context.slots.now
  pub loads' : context.link.loads.now ≡ map to_load_limits (load_headers context.link.program.now)
  pub table' : context.link.table ≡ table_number context.link.program.now

-- what the equates are worth there
abbrev pub answers_in : WalkContext → List EquateAnswer
answers_in context = rows_of (all_found context.link.program.now) context.slots.now

-- ---- the records of one member

-- the member of the list at this place has this segment; before its first record the load segment holds these cells, up to the member's
-- offset, and these are the targets
pub record Begins (list : List Member) (reported : List EquateAnswer) (front : List Member) (m : Member) (back : List Member) (member_place : MemberPlace) (s : Segment) (targets : List Target) (before : List Cell) (content : Holding) : Type 0 where
  pub parts : list ≡ front ++ m ∷ back
  pub place : member_place.place ≡ length front + 1
  pub is : IsMemberPlace list m member_place
  pub segment : m.segment ≡ s
  pub targets' : targets ≡ (state_of list reported front).targets
  pub size : length before ≡ member_place.offset
  pub holds : HoldsCells before content

-- there is such a member
pub record HasBegun (list : List Member) (reported : List EquateAnswer) (member_place : MemberPlace) (s : Segment) (targets : List Target) (content : Holding) : Type 0 where
  pub front : List Member
  pub m : Member
  pub back : List Member
  pub before : List Cell
  pub begins : Begins list reported front m back member_place s targets before content

-- the cells of the member at this place
abbrev pub cells_there : LinkState → ℕ → List Cell
cells_there state place = if state.place == place then state.cells else []

-- what there is after the member's first records
abbrev pub state_after_records : List Member → List EquateAnswer → List Member → Member → List (ℕ × Record) → LinkState
state_after_records list reported front m done = state_from list reported (state_of list reported front) (map (item (length front + 1) m) (located_from 0 done))

-- these records, the first of the member, gave their cells
pub record Puts (list : List Member) (reported : List EquateAnswer) (front : List Member) (m : Member) (done : List (ℕ × Record)) (targets : List Target) (before : List Cell) (content : Holding) : Type 0 where
  pub made' : AreMade list reported (state_of list reported front) (map (item (length front + 1) m) (located_from 0 done))
  pub targets' : targets ≡ (state_after_records list reported front m done).targets
  pub size : length (cells_there (state_after_records list reported front m done) (length front + 1)) ≡ place_after 0 done
  pub holds : HoldsCells (before ++ cells_there (state_after_records list reported front m done) (length front + 1)) content

-- some records gave their cells, up to this place, and the others remain
pub record Putting (records : List (ℕ × Record)) (at : Reader) (location : ℕ) : Type 0 where
  pub done : List (ℕ × Record)
  pub back : List (ℕ × Record)
  pub parts : records ≡ done ++ back
  pub coming : Coming at back
  pub location' : location ≡ place_after 0 done

-- the record at a displacement of the member is the first that gives no cells, for this cause
pub record Unmade (list : List Member) (reported : List EquateAnswer) (front : List Member) (m : Member) (cause : LinkCause) (at : ℕ) : Type 0 where
  pub before : List Item
  pub item' : Item
  pub after : List Item
  pub parts : own_items (length front + 1) m ≡ before ++ item' ∷ after
  pub made' : AreMade list reported (state_of list reported front) before
  pub fails : made list reported (state_from list reported (state_of list reported front) before) item' ≡ Err cause
  pub at' : item'.here.at ≡ at
  pub member' : item'.member ≡ m

-- the member of the list at this place has this segment; its load segment holds these cells, those of the members before it, and these are
-- the targets
pub record StandsAfter (list : List Member) (reported : List EquateAnswer) (front : List Member) (m : Member) (back : List Member) (member_place : MemberPlace) (s : Segment) (targets : List Target) (cells : List Cell) (content : Holding) : Type 0 where
  pub parts : list ≡ front ++ m ∷ back
  pub place : member_place.place ≡ length front + 1
  pub is : IsMemberPlace list m member_place
  pub segment : m.segment ≡ s
  pub targets' : targets ≡ (state_of list reported front).targets
  pub cells' : cells ≡ linked_after list reported m.segment.fields.load_name front
  pub size : length cells ≤ member_place.offset
  pub holds : HoldsCells cells content

-- there is such a member
pub record HasStood (list : List Member) (reported : List EquateAnswer) (member_place : MemberPlace) (s : Segment) (targets : List Target) (content : Holding) : Type 0 where
  pub front : List Member
  pub m : Member
  pub back : List Member
  pub cells : List Cell
  pub stands : StandsAfter list reported front m back member_place s targets cells content

-- the member gave its cells
pub record PutsMember (list : List Member) (reported : List EquateAnswer) (front : List Member) (m : Member) (targets : List Target) (cells : List Cell) (content : Holding) : Type 0 where
  pub made' : AreMade list reported (state_of list reported front) (own_items (length front + 1) m)
  pub targets' : targets ≡ (state_of list reported (front ++ m ∷ [])).targets
  pub holds : HoldsCells (cells ++ zeros (offset_of list (length front + 1) m - length cells) ++ member_cells list reported (length front + 1) m) content
  pub size : length (member_cells list reported (length front + 1) m) ≡ m.segment.fields.length

-- the fault is that of a record of the member, unless out of memory
abbrev pub IsReportedAt : Member → LinkCause → ℕ → LinkFault → Type 0
IsReportedAt m cause at fault = (fault ≡ memory_fault) ⊎ ((cause ≡ causes.Memory → ⊥) × (fault ≡ record { cause = cause; name = None; spot = spot_in m at }))

-- ---- the members

-- the content holds the cells of the load segment with this load name after the first members
pub record HoldsAfter (list : List Member) (reported : List EquateAnswer) (front : List Member) (load_name : List ℕ) (content : Holding) : Type 0 where
  pub cells' : HoldsCells (linked_after list reported load_name front) content
  pub size : length (linked_after list reported load_name front) ≡ end_from 0 load_name front

-- each content holds those of its load segment
abbrev pub HoldAfter : List Member → List EquateAnswer → List Member → List (List ℕ) → List Holding → Type 0
HoldAfter list reported front [] [] = Unit {0}
HoldAfter list reported front [] (content ∷ contents) = ⊥
HoldAfter list reported front (x ∷ xs) [] = ⊥
HoldAfter list reported front (x ∷ xs) (content ∷ contents) = HoldsAfter list reported front x content × HoldAfter list reported front xs contents

-- the records of the first members gave their cells
pub record IsWalked (list : List Member) (reported : List EquateAnswer) (front : List Member) (targets : List Target) (contents : List Holding) : Type 0 where
  pub made' : AreMade list reported start (items_from 1 front)
  pub targets' : targets ≡ (state_of list reported front).targets
  pub holds : HoldAfter list reported front (load_names list) contents

-- the records of the first `count` members gave their cells
pub record IsWalkedTo (list : List Member) (reported : List EquateAnswer) (count : ℕ) (targets : List Target) (contents : List Holding) : Type 0 where
  pub front : List Member
  pub back : List Member
  pub parts : list ≡ front ++ back
  pub count' : count ≡ length front
  pub walked : IsWalked list reported front targets contents

-- the first record that gives no cells has this fault, unless out of memory
abbrev pub IsValueRefused : List Member → List EquateAnswer → LinkFault → Type 0
IsValueRefused list reported fault = (fault ≡ memory_fault) ⊎ IsFirst (HasValueFault list reported) (items list) fault

-- a given number of load segments without cells
abbrev pub AreEmpty : ℕ → List Holding → Type 0
AreEmpty count contents = (length contents ≡ count) × AllByRecursion (HoldsCells []) contents

-- all records gave their cells, and each content holds the linked cells of its load segment
pub record IsFilled (list : List Member) (reported : List EquateAnswer) (targets : List Target) (contents : List Holding) : Type 0 where
  pub made' : AreMade list reported start (items list)
  pub targets' : targets ≡ linked.targets list reported
  pub holds : HoldLinked list reported (load_names list) contents
