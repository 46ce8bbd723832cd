-- Inputs that are sound.
use Rattle.std.specs.Prelude.{◌≡◌, List, Some, None}
use Rattle.omf_format.specs.File.{Segment, segment_at}
use Rattle.lib_dict.specs.DictionaryLayout.{DefinesSo}
use Rattle.link_meaning.specs.First.{IsIn}
use Rattle.link_meaning.specs.Member.{OfferedRow, Input}
use Rattle.link_meaning.specs.LinkFaults.{segments_fault}

-- the row's segment is one of these, and defines the row's name with the row's privacy
pub record StandsIn (segments : List Segment) (row : OfferedRow) : Type 0 where
  pub segment : Segment
  pub here : segment_at segments row.segment ≡ Some segment
  pub defines : DefinesSo segment row.name row.private

abbrev pub AllStand : List Segment → List OfferedRow → Type 0
AllStand segments rows = (row : OfferedRow) → IsIn rows row → StandsIn segments row

-- no segment has a fault, and each row's segment is one of the file's and defines the row's name
abbrev pub IsSoundInput : Input → Type 0
IsSoundInput input = (segments_fault 1 input.segments ≡ None) × AllStand input.segments input.rows
