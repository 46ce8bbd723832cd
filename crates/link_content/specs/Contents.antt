-- What the content of a load segment holds.
use Rattle.std.specs.Prelude.{◌≡◌, ℕ, List, [], ◌++◌, length, map, replicate}
use Rattle.load_meaning.specs.Cells.{Cell, byte_under}
use Rattle.link_meaning.specs.LinkWritten.{patches_of_cells}
use Rattle.load_writer.specs.Joined.{joined}
use Rattle.load_writer.specs.WrittenParts.{seen}
use Rattle.link_content.specs.declared.content.ByteStorage.{ByteStorage}
use Rattle.link_content.specs.declared.content.ByteStorage.TheVariants.{Borrowed, Own}
use Rattle.link_content.specs.Holding.{Holding, AreInside}

-- these are the cells: the bytes under the patches, and the patches
pub record HoldsCells (cells : List Cell) (content : Holding) : Type 0 where
  pub bytes' : content.bytes ≡ map byte_under cells
  pub patches' : map seen content.patches ≡ patches_of_cells cells

-- this storage holds its bytes, except for a given number of zeros after them, under which no patch lies; where they are borrowed, there is
-- no patch
abbrev pub IsPlaced : ByteStorage → ℕ → Holding → Type 0
IsPlaced (Borrowed pieces) following content = (content.bytes ≡ joined pieces.now ++ replicate following 0) × (content.patches ≡ [])
IsPlaced (Own bytes) following content = (content.bytes ≡ bytes.now ++ replicate following 0) × AreInside (length bytes.now) content.patches
