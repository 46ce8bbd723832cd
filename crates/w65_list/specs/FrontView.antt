-- Which headers can be listed, in parts, and how many cells records give.
use Rattle.std.specs.Prelude.{◌≡◌, ◌⊎◌, ℕ, ◌+◌, ◌<◌, ◌≤◌, ◌==◌, Bool, true, false, not, ◌&&◌, ◌||◌, nat_le, List, ◌++◌}
use Rattle.std.specs.Int.{is_power_of_two}
use Rattle.std.specs.List.{list_any}
use Rattle.omf_format.specs.File.{Segment}
use Rattle.omf_format.specs.Header.{HeaderFields, form_of}
use Rattle.omf_format.specs.Record.{Record}
use Rattle.omf_format.specs.Reading.{Reader, HandsOut}
use Rattle.object_meaning.specs.Sizes.{located_from, place_after, body_size}
use Rattle.list_meaning.specs.Listing.{is_listable, is_listable_load_name, is_lost}
use Rattle.list_meaning.specs.laws.Steps.{is_listed_form, greatest_length, has_lost_place}

-- ALIGN is 0, or a power of two up to $10000
abbrev pub can_align : ℕ → Bool
can_align align = align == 0 || (is_power_of_two align && nat_le align 0x10000)

-- the type, the names, BANKSIZE, ALIGN and ENTRY can be listed
abbrev pub has_listable_fields : HeaderFields → Bool
has_listable_fields f =
    is_listed_form (form_of f.kind) && is_listable f.name && is_listable_load_name f.load_name
    && (f.bank_size == 0 || f.bank_size == 0x10000) && can_align f.align && f.entry == 0

-- no place is lost, and LENGTH is the number of cells and isn't too great
abbrev pub has_listable_length : Segment → Bool
has_listable_length s =
    not (has_lost_place s) && s.fields.length == body_size s + s.fields.res_spc && nat_le s.fields.length (greatest_length s.fields.bank_size)

-- an ALIGN of 0 is at another place than 0, in records of which the first is at this place
abbrev pub is_lost_from : ℕ → List (ℕ × Record) → Bool
is_lost_from at founds = list_any (λ l. is_lost l.location l.content) (located_from at founds)

-- no place is lost, and the records give n cells
pub record HaveCells (n : ℕ) (founds : List (ℕ × Record)) : Type 0 where
  pub lost : is_lost_from 0 founds ≡ false
  pub size : place_after 0 founds ≡ n

-- a place is lost, or the records give more than `most` cells
abbrev pub AreOver : ℕ → List (ℕ × Record) → Type 0
AreOver most founds = (is_lost_from 0 founds ≡ true) ⊎ (most < place_after 0 founds)

-- the records so far give the cells before this place, none of them is lost, and the place is within the limit
pub record Counted (start at : Reader) (most place : ℕ) : Type 0 where
  pub before : List (ℕ × Record)
  pub run : HandsOut start before at
  pub lost : (rest : List (ℕ × Record)) → is_lost_from 0 (before ++ rest) ≡ is_lost_from place rest
  pub size : (rest : List (ℕ × Record)) → place_after 0 (before ++ rest) ≡ place_after place rest
  pub few : place ≤ most
