-- The content of a segment in memory: its cells at the places of the user's segments, or a table's entries, and the pokes over them (GS/OS
-- Reference, appendix F, "Segment body" and jump table segment).
use Rattle.std.specs.Prelude.{ℕ, ◌+◌, ◌==◌, List, [], ◌∷◌, map, Option, None, unwrap_or, if◌then◌else◌}
use Rattle.std.specs.Option.{option_map, option_and_then}
use Rattle.std.specs.FinMap.{get}
use Rattle.omf_format.specs.File.{Segment}
use Rattle.load_meaning.specs.Cells.{byte_of, cells}
use Rattle.load_meaning.specs.Table.{table_bytes}
use Rattle.load_meaning.specs.LoadTable.{is_table, targets_of}
use Rattle.iigs_meaning.specs.declared.handles.Handle.{Handle}
use Rattle.iigs_meaning.specs.Fits.{Slots}
use Rattle.loader_machine.specs.State.{Pokes, Outline, handles_in, attached_at}
use Rattle.loader_machine.specs.Presences.{presence_at, there_at, active_at}

-- where the segments of a user are: its ID; the address of each of its segments; and the address of the segment that a table's
-- entry names by file and number, where that segment is active
pub record AddressSetting : Type 0 where
  pub id : ℕ
  pub place : ℕ → ℕ
  pub target : ℕ → ℕ → Option ℕ

-- the bytes, of which the first has this place, with the pokes over them
abbrev pub over_from : ℕ → Pokes → List ℕ → List ℕ
over_from at pokes [] = []
over_from at pokes (b ∷ bytes) = unwrap_or (get pokes at) b ∷ over_from (at + 1) pokes bytes

-- The content of a segment: a table's entries, each of which has the user's ID and jumps to its target where that is active, or else the
-- cells; and the pokes over them.
unfoldable pub stands : AddressSetting → Pokes → Segment → List ℕ
stands at pokes s = over_from 0 pokes (if is_table s
    then table_bytes (map (λ t. record {
      user = at.id;
      file = t.file;
      segment = t.segment;
      offset = t.offset;
      loaded = option_map (λ place. place + t.offset) (at.target t.file t.segment);
    }) (targets_of s))
    else map (byte_of at.place) (cells s))

-- ---- the setting of a user

-- the address of a segment, 0 for one that isn't there
abbrev pub place_in : Slots → List (Option Handle) → ℕ → ℕ
place_in slots handles number = unwrap_or (there_at (presence_at slots handles number)) 0

-- where the segments of attached users are active, by file, from 2 on, and number
abbrev pub Far : Type 0
Far = ℕ → ℕ → Option ℕ

-- the setting of the user with an ID, from the slots, the handles of its segments, which a table names by file 1, and where those of attached
-- users are active
abbrev pub setting_with : Far → ℕ → Slots → List (Option Handle) → AddressSetting
setting_with far id slots handles = record {
  id = id;
  place = place_in slots handles;
  target = λ file number. if file == 1 then active_at (presence_at slots handles number) else far file number;
}

-- the setting of the user with an ID, where no segment of an attached user is active
abbrev pub setting : ℕ → Slots → List (Option Handle) → AddressSetting
setting id slots handles = setting_with (λ file number. None) id slots handles

-- where the segments of a user's attached users are active
abbrev pub far_of : Slots → List (Option Outline) → ℕ → Far
far_of slots users id file number = option_and_then (λ other. active_at (presence_at slots (handles_in users other) number)) (attached_at users id file)
