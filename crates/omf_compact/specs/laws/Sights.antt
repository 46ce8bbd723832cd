-- What the loader's machine sees of a file: nothing but this decides its replies.
use Rattle.std.specs.Prelude.{◌≡◌, ℕ, List, [], map, if◌then◌else◌}
use Rattle.omf_format.specs.File.{Segment}
use Rattle.omf_io.specs.Files.{FileMap}
use Rattle.load_meaning.specs.Cells.{Cell, cells}
use Rattle.load_meaning.specs.declared.load.LoadFault.{LoadFault}
use Rattle.load_meaning.specs.declared.table.Target.{Target}
use Rattle.load_meaning.specs.Pathnames.{paths_of}
use Rattle.load_meaning.specs.LoadTable.{targets_of}
use Rattle.loader_machine.specs.Heads.{head_of, is_table}
use Rattle.loader_machine.specs.declared.seen.SegmentHead.{SegmentHead}
use Rattle.loader_machine.specs.declared.faults.LoaderFault.TheVariants.{BadFile}
use Rattle.loader_machine.specs.Commands.{Refused}
use Rattle.loader_machine.specs.Found.{HoldsFile, HoldsLoad, HoldsFault, HoldsRuntime, HoldsRuntimeFault}
use Rattle.omf_compact.specs.Replaced.{IsLikeReply}

-- what is seen of a segment: what is kept of its header, its cells, and of a table where its entries lead
pub record Sight : Type 0 where
  pub head : SegmentHead
  pub cells' : List Cell
  pub targets : List Target

abbrev pub sight_of : Segment → Sight
sight_of s = record {
  head = head_of s;
  cells' = cells s;
  targets = if is_table (head_of s) then targets_of s else [];
}

-- the segments have the same sights, and name the same run-time library files
pub record AreAlike (segments others : List Segment) : Type 0 where
  pub sights : map sight_of segments ≡ map sight_of others
  pub paths : paths_of segments ≡ paths_of others

-- where one store holds a file that can be read, so does the other: with the same sights, or with the same first fault; and as a run-time
-- library file likewise, but for the place of a segment that isn't allowed there
pub record Shows (held other : FileMap) : Type 0 where
  pub readable : (path file : List ℕ) → HoldsFile held path file → (file' : List ℕ) × HoldsFile other path file'
  pub good : (path : List ℕ) (segments : List Segment) → HoldsLoad held path segments → (others : List Segment) × HoldsLoad other path others × AreAlike segments others
  pub bad : (path : List ℕ) (fault : LoadFault) → HoldsFault held path fault → HoldsFault other path fault
  pub runtime : (path : List ℕ) (segments : List Segment) → HoldsRuntime held path segments → (others : List Segment) × HoldsRuntime other path others × AreAlike segments others
  pub not_runtime : (path : List ℕ) (fault : LoadFault) → HoldsRuntimeFault held path fault
      → (fault' : LoadFault) × HoldsRuntimeFault other path fault' × IsLikeReply (Refused (BadFile fault)) (Refused (BadFile fault'))
