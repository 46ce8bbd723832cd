-- What a linked list has at a place, from 1, and the map of a program.
use Rattle.std.specs.Prelude.{◌≡◌, ℕ, List, Some}
use Rattle.omf_format.specs.File.{Segment}
use Rattle.omf_format.specs.Header.{HeaderFields}
use Rattle.omf_format.specs.Record.{Record}
use Rattle.link_meaning.specs.Member.{Member}
use Rattle.link_meaning.specs.Layout.{load_headers}
use Rattle.link_meaning.specs.LinkValues.{EquateAnswer}
use Rattle.link_meaning.specs.EmitFaults.{IsEmitted}
use Rattle.link_program.specs.Linked.{member_at}
use Rattle.link_program.specs.Programs.{header_at}
use Rattle.link_tables.specs.Uses.{HasSpelling}
use Rattle.link_file.specs.Valued.{HasPlace}
use Rattle.link_map.specs.MapText.{map_text}

-- there is a member at this place
abbrev pub HasMember : List Member → ℕ → Type 0
HasMember list place = (m : Member) × (member_at list place ≡ Some m)

-- a load segment has this number
abbrev pub HasLoad : List Member → ℕ → Type 0
HasLoad list number = (f : HeaderFields) × (header_at (load_headers list) number ≡ Some f)

-- the member at a place has this segment
pub record HasSegment (list : List Member) (place : ℕ) (s : Segment) : Type 0 where
  pub member : Member
  pub there : member_at list place ≡ Some member
  pub segment : member.segment ≡ s

-- it has this record, before which there are `location` of its cells
pub record HasRecord (list : List Member) (place location : ℕ) (r : Record) : Type 0 where
  pub here : HasPlace list place location
  pub spelled : HasSpelling here.member.segment.fields.lab_len r

-- the program of this list can be written, and this is its map
pub record IsDrawn (list : List Member) (text : List ℕ) : Type 0 where
  pub table : List EquateAnswer
  pub emitted : IsEmitted list table
  pub is : text ≡ map_text list table
