-- A program is seen as its linked list.
use Rattle.std.specs.Prelude.{◌≡◌, ◌<◌, ◌≤◌, ◌^◌, ◌+◌, ℕ, zero, suc, List, length, Option, Some, None, map, option_map, slice_get, ◌==◌, if◌then◌else◌, [], ◌∷◌}
use Rattle.std.specs.List.{filter_map}
use Rattle.omf_format.specs.File.{Segment, IsFile, segment_at}
use Rattle.omf_format.specs.Header.{HeaderFields}
use Rattle.omf_header.specs.View.{fields}
use Rattle.link_meaning.specs.declared.search.SearchKind.{SearchKind}
use Rattle.link_meaning.specs.declared.search.SearchKind.TheVariants.{Data, One, Any}
use Rattle.link_meaning.specs.Member.{LinkSetting, Member, setting_in, RuntimeFile}
use Rattle.link_meaning.specs.Search.{FoundDefinition}
use Rattle.link_meaning.specs.Layout.{load_of, offset_of, load_headers}
use Rattle.link_tables.specs.declared.definitions.Origin.{Origin}
use Rattle.link_program.specs.declared.program.LinkMember.{LinkMember}
use Rattle.link_program.specs.declared.program.ResolvedProgram.{ResolvedProgram}
use Rattle.link_program.specs.declared.program.Definition as reported
use Rattle.link_program.specs.Outside.{IsOutsideOf}
use Rattle.link_tables.specs.declared.layout.LoadOffset.{LoadOffset}
use Rattle.link_program.specs.Linked.{Holds, member_at}
use Rattle.link_program.specs.Files.{segment_in, AllAmong}
use Rattle.link_program.specs.OfFiles.{IsOfFiles}
use Rattle.lib_dict.specs.declared.member.Member as held

-- run-time library files with these segments, each with the path by which it is known
abbrev pub runtimes_of : List (List Segment) → List held.Member → List RuntimeFile
runtimes_of (segments ∷ loads) (one ∷ given) = record { path = one.name; segments = segments } ∷ runtimes_of loads given
runtimes_of _ _ = []

-- what is kept of what the list is linked to, and with what
abbrev pub setting_of : ResolvedProgram → LinkSetting
setting_of kept = record { form = kept.form; runtimes = runtimes_of kept.runtimes.items kept.given.now }

abbrev pub member_in : LinkSetting → List (List Segment) → Origin → Option Member
member_in setting files origin =
    option_map (λ s. record { file = origin.file; number = origin.segment; from = origin.from; segment = s; setting = setting }) (segment_in files origin.file origin.segment)

-- the members that are kept, with their segments
abbrev pub list_of : ResolvedProgram → List Member
list_of kept = filter_map (member_in (setting_of kept) kept.files.items) kept.linked.members.items

-- where the member with this number, from 0, is
pub record StandsAt (list : List Member) (k : ℕ) (m : Member) (place : LoadOffset) : Type 0 where
  pub load : place.load + 1 ≡ load_of list m
  pub few : place.load + 1 < 2 ^ 16
  pub offset : place.offset ≡ offset_of list (k + 1) m
  pub small : place.offset < 2 ^ 32

-- this is kept of the list, which is that of resolved files
pub record IsKept (list : List Member) (kept : ResolvedProgram) : Type 0 where
  pub holds : Holds list kept.linked
  pub among : AllAmong kept.files.items list
  pub few : length list < 2 ^ 32
  pub loads : length kept.headers.items < 2 ^ 32
  pub count : length kept.places.items ≡ length list
  pub places : (k : ℕ) (m : Member) (place : LoadOffset) → slice_get list k ≡ Some m → slice_get kept.places.items k ≡ Some place → StandsAt list k m place
  pub headers : map fields kept.headers.items ≡ load_headers list
  pub setting : setting_of kept ≡ setting_in list
  pub table : IsOutsideOf list kept.outside
  pub read : length kept.runtimes.items ≡ length kept.given.now
  pub few_runtimes : length kept.given.now < 2 ^ 32
  pub of_files : IsOfFiles list

-- a definition as a program reports it: of a member its load segment in the file itself, else the file and the segment of its value
pub record SymbolView : Type 0 where
  pub member : ℕ
  pub file : ℕ
  pub segment : ℕ
  pub at : ℕ
  pub expr : Option (List ℕ)
  pub length : ℕ
  pub form : ℕ

abbrev pub symbol_of : reported.Definition → SymbolView
symbol_of d = record { member = d.member; file = d.file; segment = d.segment; at = d.at; expr = option_map (λ text. text.now) d.expr; length = d.length; form = d.form }

abbrev pub symbol_view : List Member → FoundDefinition → SymbolView
symbol_view list f = record {
  member = f.place;
  file = if f.place == 0 then f.member.file else 1;
  segment = if f.place == 0 then f.member.number else load_of list f.member;
  at = f.definition.place;
  expr = f.definition.expr;
  length = f.definition.size;
  form = f.definition.form;
}

-- the member at a place, from 1, with its load segment and offset
abbrev pub linked_at : List Member → ℕ → Option LinkMember
linked_at list place =
    option_map (λ m. record { file = m.file; segment = m.number; load_segment = load_of list m; offset = offset_of list place m }) (member_at list place)

-- the header with a number, from 1
abbrev pub header_at : List HeaderFields → ℕ → Option HeaderFields
header_at headers zero = None
header_at headers (suc k) = slice_get headers k

-- how many definitions a use finds: STRONG and a name in an expression one, a weak name one at most; USING looks for data segments
abbrev pub FindsOnly : SearchKind → List FoundDefinition → Type 0
FindsOnly Data found = Unit {0}
FindsOnly One found = length found ≡ 1
FindsOnly Any found = length found ≤ 1

-- the input with a number, from 1
abbrev pub input_at : List (List ℕ) → ℕ → Option (List ℕ)
input_at inputs zero = None
input_at inputs (suc k) = slice_get inputs k

-- the segment is the one with this number of the input with this number, both from 1
pub record StandsInInput (inputs : List (List ℕ)) (file number : ℕ) (s : Segment) : Type 0 where
  pub bytes : List ℕ
  pub input : input_at inputs file ≡ Some bytes
  pub segments : List Segment
  pub is_file : IsFile segments bytes
  pub there : segment_at segments number ≡ Some s
