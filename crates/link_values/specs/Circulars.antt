-- The definition with a number, by its name and its record's displacement.
use Rattle.std.specs.Prelude.{◌≡◌, ◌⊎◌, ◌+◌, ◌++◌, ℕ, List, [], ◌∷◌, length, Option, Some, None, Result, Ok, Err, slice_get}
use Rattle.std.specs.Borrow.{Bor}
use Rattle.std.specs.List.{flat_map}
use Rattle.omf_format.specs.Record.{Record}
use Rattle.omf_format.specs.Reading.{Reader}
use Rattle.omf_format.specs.File.{Segment}
use Rattle.object_meaning.specs.Sizes.{located_from}
use Rattle.link_tables.specs.Coming.{Coming}
use Rattle.link_meaning.specs.declared.fault.LinkCause.TheVariants.{Circular}
use Rattle.link_meaning.specs.declared.fault.LinkFault.{LinkFault}
use Rattle.link_meaning.specs.Member.{Member}
use Rattle.object_meaning.specs.Defines.{Definition, title_of, defined_by, defined_in}
use Rattle.link_meaning.specs.Search.{FoundDefinition, entries_from, entries}
use Rattle.link_meaning.specs.LinkFaults.{spot_in}
use Rattle.link_program.specs.Memory.{memory_fault}

-- a record defines nothing, or one thing with this name
abbrev pub DefinesName : ℕ → List Definition → Option (List ℕ) → Type 0
DefinesName at ds None = ds ≡ []
DefinesName at ds (Some name) = (d : Definition) × (ds ≡ d ∷ []) × (d.name ≡ name) × (d.at ≡ at)

-- the number is that of the segment's name; or `left` numbers are left after it
abbrev pub IsAfterTitle : Segment → ℕ → Option ℕ → Type 0
IsAfterTitle s number None = (number ≡ 0) × (s.fields.name ≡ [] → ⊥)
IsAfterTitle s number (Some left) = number ≡ length (title_of s) + left

-- the definition with a number, from 0: its name and displacement; or how many numbers are left after the last
abbrev pub IsNth : List Definition → ℕ → Result (Bor (List ℕ) × ℕ) ℕ → Type 0
IsNth ds number (Ok found) = (d : Definition) × (slice_get ds number ≡ Some d) × (found.0.now ≡ d.name) × (found.1 ≡ d.at)
IsNth ds number (Err left) = number ≡ length ds + left

-- the fault of the definition with a number, as one that leads back to itself, unless out of memory
abbrev pub IsCircularAt : List Member → ℕ → LinkFault → Type 0
IsCircularAt list number fault = (e : FoundDefinition) → slice_get (entries list) number ≡ Some e
    → (fault ≡ memory_fault) ⊎ (fault ≡ record { cause = Circular; name = Some e.definition.name; spot = spot_in e.member e.definition.at })

-- what a segment's name and its first records define
abbrev pub defined_so_far : Segment → List (ℕ × Record) → List Definition
defined_so_far s done = title_of s ++ flat_map (λ r. defined_by r.at r.location r.content) (located_from 0 done)

-- `left` numbers are left after what these records define, and the other records remain
pub record Counting (s : Segment) (number left : ℕ) (at : Reader) : Type 0 where
  pub done : List (ℕ × Record)
  pub back : List (ℕ × Record)
  pub parts : s.records ≡ done ++ back
  pub coming : Coming at back
  pub count : number ≡ length (defined_so_far s done) + left

-- `left` numbers are left after the members before this place
pub record CountsTo (list : List Member) (number place left : ℕ) : Type 0 where
  pub front : List Member
  pub back : List Member
  pub parts : list ≡ front ++ back
  pub place' : place ≡ length front
  pub count : number ≡ length (entries_from defined_in 1 front) + left
