-- Lines that are split into what is copied and the symbols whose texts go between.
use Rattle.std.specs.Prelude.{◌≡◌, ℕ, List, [], ◌∷◌, ◌++◌, length, drop, Option, Some, None}
use Rattle.macro_meaning.specs.Substitution.{naming_at, substituted_from, with_front}
use Rattle.orca_meaning.specs.Line.{Line}
use Rattle.orca_symbols.specs.declared.template.TemplatePart.{TemplatePart}
use Rattle.orca_symbols.specs.declared.template.TemplatePart.TheVariants.{Plain, Put, Need}
use Rattle.orca_symbols.specs.declared.template.Replacement.{Replacement}
use Rattle.orca_symbols.specs.declared.template.Replacement.TheVariants.{Ampersand, Text, Asked}

-- this, where the other is there
abbrev pub where_some : List ℕ → Option (List ℕ) → Option (List ℕ)
where_some text None = None
where_some text (Some other) = Some text

-- the text that a part makes; None where its symbol isn't declared
abbrev pub part_text : (List ℕ → Option (List ℕ)) → TemplatePart → Option (List ℕ)
part_text text_of (Plain bytes) = Some bytes
part_text text_of (Put name) = text_of name
part_text text_of (Need name) = where_some [] (text_of name)

-- two parts of a line, where both are there
abbrev pub join : Option (List ℕ) → Option (List ℕ) → Option (List ℕ)
join None tail = None
join (Some front) tail = with_front front tail

-- the text that parts make, with something after them
abbrev pub text_before : (List ℕ → Option (List ℕ)) → List TemplatePart → Option (List ℕ) → Option (List ℕ)
text_before text_of [] tail = tail
text_before text_of (part ∷ parts) tail = join (part_text text_of part) (text_before text_of parts tail)

-- the parts are those of the line
pub record HasParts (line : Line) (parts : List TemplatePart) : Type 0 where
  pub is : (text_of : List ℕ → Option (List ℕ)) → text_before text_of parts (Some []) ≡ substituted_from text_of (naming_at line.text line.fields) 0 0 line.text

-- what replaces an `&`, and how many of the bytes after it go with it
abbrev pub replacement_text : (List ℕ → Option (List ℕ)) → Replacement → Option (List ℕ)
replacement_text text_of Ampersand = Some (0x26 ∷ [])
replacement_text text_of (Text name more) = text_of name
replacement_text text_of (Asked name) = where_some (0x26 ∷ []) (text_of name)

-- how many bytes after the name go with it
abbrev pub more_of : Replacement → ℕ
more_of Ampersand = 0
more_of (Text name more) = more
more_of (Asked name) = 0

-- a text, and how many bytes go with it
abbrev pub with_more : ℕ → Option (List ℕ) → Option (List ℕ × ℕ)
with_more more None = None
with_more more (Some text) = Some (text, more)

-- every text that the parts make begins with these bytes
pub record BeginWith (parts : List TemplatePart) (front : List ℕ) : Type 0 where
  pub is : (text_of : List ℕ → Option (List ℕ)) (text : List ℕ) → text_before text_of parts (Some []) ≡ Some text → text ≡ front ++ drop (length front) text
