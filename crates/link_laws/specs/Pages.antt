-- The patches of a SUPER record are at the locations that its pages give.
use Rattle.std.specs.Prelude.{◌≡◌, ℕ, List, map}
use Rattle.omf_format.specs.Record.{Super}
use Rattle.omf_format.specs.Super.{HavePages, locations_from}
use Rattle.omf_format.specs.File.{Segment}
use Rattle.load_meaning.specs.Cells.{super_patch, patches_in}

-- ---- laws

-- The patches of a SUPER whose bytes are subrecords are those at the locations of these, the pages one after another from page 0, in order.
abbrev pub PatchesAreByPages : Type 0
PatchesAreByPages = (s : Segment) (form : ℕ) (bytes : List ℕ) (of : HavePages bytes) → patches_in s (Super form bytes) ≡ map (super_patch s form) (locations_from 0 of.pages)
