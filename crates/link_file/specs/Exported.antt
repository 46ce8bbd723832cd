-- What a program exports, definition by definition.
use Rattle.std.specs.Prelude.{◌≡◌, ℕ, ◌+◌, Bool, true, false, List, [], ◌∷◌, ◌++◌, length, take, Option, Some, None}
use Rattle.link_meaning.specs.laws.Steps.{export_of}
use Rattle.std.specs.List.{flat_map}
use Rattle.omf_format.specs.Record.{Record, Entry}
use Rattle.omf_format.specs.Reading.{Reader}
use Rattle.omf_format.specs.File.{Segment}
use Rattle.link_meaning.specs.Member.{Member}
use Rattle.object_meaning.specs.Defines.{Scope, ForSegment, ForUnit, ForAll, Definition, defined_in}
use Rattle.link_meaning.specs.Search.{entries_from, entries}
use Rattle.link_meaning.specs.LinkValues.{EquateAnswer}
use Rattle.link_tables.specs.Coming.{Coming}
use Rattle.link_file.specs.declared.exports.ExportsSeen as kept
use Rattle.link_file.specs.Images.{spelled_records}
use Rattle.link_values.specs.Circulars.{defined_so_far}

-- all see it
abbrev pub is_public : Scope → Bool
is_public ForSegment = false
is_public ForUnit = false
is_public ForAll = true

-- a name, and whether all see it
pub record SeenName : Type 0 where
  pub name : List ℕ
  pub public : Bool

abbrev pub seen_name : kept.ExportsSeen → SeenName
seen_name seen = record { name = seen.name.now; public = seen.public }

-- the definition has this name, and is seen so
pub record IsSeen (d : Definition) (seen : SeenName) : Type 0 where
  pub name' : d.name ≡ seen.name
  pub public' : is_public d.scope ≡ seen.public

-- there is no definition, or one with this name
abbrev pub DefinesSeen : List Definition → Option SeenName → Type 0
DefinesSeen ds None = ds ≡ []
DefinesSeen ds (Some seen) = (d : Definition) × (ds ≡ d ∷ []) × IsSeen d seen

-- the ENTRY record of a name with this place, if it has one
abbrev pub entry_with : List ℕ → Option (ℕ × ℕ) → List Record
entry_with name None = []
entry_with name (Some place) = Entry place.0 place.1 name ∷ []

-- these are the ENTRY records of the first `number` definitions of all
abbrev pub IsExported : List Member → List EquateAnswer → ℕ → List ℕ → Type 0
IsExported list reported number out = out ≡ spelled_records (flat_map (export_of list reported) (take number (entries list)))

-- a member of the list has this segment, and `number` definitions are before its own
pub record StandsBefore (list : List Member) (s : Segment) (number : ℕ) : Type 0 where
  pub front : List Member
  pub m : Member
  pub back : List Member
  pub parts : list ≡ front ++ m ∷ back
  pub segment : m.segment ≡ s
  pub count : number ≡ length (entries_from defined_in 1 front)

-- the ENTRY records of a segment's first definitions were put, of which the first one has the number `first`, and the other records of the
-- segment remain
pub record Exporting (list : List Member) (reported : List EquateAnswer) (s : Segment) (first number : ℕ) (at : Reader) (out : List ℕ) : Type 0 where
  pub done : List (ℕ × Record)
  pub back : List (ℕ × Record)
  pub parts : s.records ≡ done ++ back
  pub coming : Coming at back
  pub count : number ≡ first + length (defined_so_far s done)
  pub exported : IsExported list reported number out

-- the ENTRY records of the first `place` members were put, and `number` definitions are theirs
pub record ExportsTo (list : List Member) (reported : List EquateAnswer) (place number : ℕ) (out : List ℕ) : Type 0 where
  pub front : List Member
  pub back : List Member
  pub parts : list ≡ front ++ back
  pub place' : place ≡ length front
  pub count : number ≡ length (entries_from defined_in 1 front)
  pub exported : IsExported list reported number out
