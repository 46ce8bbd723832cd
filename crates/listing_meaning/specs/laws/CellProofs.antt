-- The cells of records.
use Rattle.std.proofs.Common.{◌≡◌, ℕ, ◌+◌, [], ◌∷◌, ◌++◌, length, Some, None, refl, sym, ap, ◌∙◌, arith, append_assoc, length-append}
use Rattle.std.proofs.lemmas.List.{length-map, length-replicate}
use Rattle.object_meaning.specs.Sizes.{size_at}
use Rattle.omf_format.specs.Record.{Record, End, Const, LongConst, Align, Org, Space, Reloc, InterSeg, ShortReloc, ShortInterSeg, Super, Using, Strong, Label, Equate, Formula, Entry}
use Rattle.asm_meaning.specs.Pieces.{place_after}
use Rattle.listing_meaning.specs.Given.{record_cells, cells_from}
use Rattle.listing_meaning.specs.ListingLaws.{CellsFollow, PlacesCountCells}

pub cells_follow : CellsFollow
unfolding place_after
cells_follow at [] more = refl
cells_follow at (content ∷ before) more =
    ap (λ cells. record_cells at content ++ cells) (cells_follow (at + size_at at content) before more)
    ∙ sym (append_assoc (record_cells at content) (cells_from (at + size_at at content) before) (cells_from (place_after (at + size_at at content) before) more))

-- a record gives as many cells as it moves the place
as_many : (at : ℕ) (content : Record) → length (record_cells at content) ≡ size_at at content
as_many at End = refl
as_many at (Const bytes) = length-map bytes (λ (byte : ℕ). Some byte)
as_many at (LongConst bytes) = length-map bytes (λ (byte : ℕ). Some byte)
as_many at (Align n) = length-replicate (size_at at (Align n)) (Some 0)
as_many at (Org n) = length-replicate n (Some 0)
as_many at (Space n) = length-replicate n (Some 0)
as_many at (Reloc count shift location offset) = refl
as_many at (InterSeg count shift location file segment offset) = refl
as_many at (ShortReloc count shift location offset) = refl
as_many at (ShortInterSeg count shift location segment offset) = refl
as_many at (Super form bytes) = refl
as_many at (Using name) = refl
as_many at (Strong name) = refl
as_many at (Label global name size form private) = refl
as_many at (Equate global name size form private expr) = refl
as_many at (Formula code count n expr) = length-replicate count None
as_many at (Entry segment offset name) = refl

pub places_count_cells : PlacesCountCells
unfolding place_after
places_count_cells at [] = omega arith
places_count_cells at (content ∷ contents) =
    let first = as_many at content in
    let rest = places_count_cells (at + size_at at content) contents in
    let all = length-append (record_cells at content) (cells_from (at + size_at at content) contents) in
    omega (arith, first, rest, all)
