-- The three records of a dictionary, as they are taken from its body. No public clause cites this module.
use Rattle.std.specs.Prelude.{◌≡◌, ◌<◌, ◌^◌, ℕ, ◌+◌, Bool, true, false, List, [], ◌∷◌, length, Option, Some, None, Ok}
use Rattle.omf_format.specs.Record.{Record}
use Rattle.omf_format.specs.Reading.{Reader, next_answer, after_next}
use Rattle.load_meaning.specs.Pathnames.{long_bytes}
use Rattle.lib_dict.specs.declared.parts.Parts.{Parts}

-- the parts without where their bytes lie
pub record DictionaryTexts : Type 0 where
  pub first : List ℕ
  pub second : List ℕ
  pub at : ℕ
  pub third : List ℕ

abbrev pub seen_parts : Parts → DictionaryTexts
seen_parts p = record { first = p.first.now; second = p.second.now; at = p.at; third = p.third.now }

-- the next record was taken where it is an LCONST
abbrev pub TakesLong : Reader → Reader → Option (ℕ × List ℕ) → Type 0
TakesLong old new (Some found) = (record' : Record) × (next_answer old ≡ Ok (Some (found.0, record'))) × (long_bytes record' ≡ Some found.1) × (new ≡ after_next old)
TakesLong old new None = (found : ℕ × Record) → next_answer old ≡ Ok (Some found) → long_bytes found.1 ≡ None

-- one more record follows, and none after it
abbrev pub TakesLast : Reader → Bool → Type 0
TakesLast old true = (found : ℕ × Record) × (next_answer old ≡ Ok (Some found)) × (next_answer (after_next old) ≡ Ok None)
TakesLast old false = (found : ℕ × Record) → next_answer old ≡ Ok (Some found) → next_answer (after_next old) ≡ Ok None → ⊥

-- the records are three LCONST with these bytes and one more
pub record HasParts (parts : DictionaryTexts) (records : List (ℕ × Record)) : Type 0 where
  pub a : ℕ × Record
  pub b : ℕ × Record
  pub c : ℕ × Record
  pub e : ℕ × Record
  pub are : records ≡ a ∷ b ∷ c ∷ e ∷ []
  pub first : long_bytes a.1 ≡ Some parts.first
  pub second : long_bytes b.1 ≡ Some parts.second
  pub at : b.0 ≡ parts.at
  pub third : long_bytes c.1 ≡ Some parts.third

abbrev pub ArePartsOf : Option DictionaryTexts → List (ℕ × Record) → Type 0
ArePartsOf (Some parts) records = HasParts parts records
ArePartsOf None records = (parts : DictionaryTexts) → HasParts parts records → ⊥

-- the second record ends before 2 ^ 32, and so does the third
pub record HasPlace (parts : DictionaryTexts) : Type 0 where
  pub fits : parts.at + 5 + length parts.second < 2 ^ 32
  pub third' : length parts.third < 2 ^ 32
