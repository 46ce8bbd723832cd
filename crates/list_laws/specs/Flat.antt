-- What an object segment gives place by place, whatever records it is cut into, and what it defines and uses.
use Rattle.std.specs.Prelude.{◌≡◌, ℕ, zero, suc, ◌+◌, List, [], ◌∷◌, ◌++◌, map, replicate, Option, Some, None}
use Rattle.std.specs.List.{flat_map}
use Rattle.omf_format.specs.Expression.{Tree}
use Rattle.omf_format.specs.File.{Segment}
use Rattle.omf_format.specs.Record.{Record, End, Const, LongConst, Align, Org, Space, Reloc, InterSeg, ShortReloc, ShortInterSeg, Super, Using, Strong, Label, Equate, Formula, Entry}
use Rattle.object_meaning.specs.Defines.{Scope, Definition, defined_in}
use Rattle.object_meaning.specs.Sizes.{size_at}
use Rattle.object_meaning.specs.Terms.{tree_in}
use Rattle.asm_meaning.specs.Formulas.{expression_text}

-- ---- flat

-- a place: a byte, or a byte of the number that an expression record represents
pub data FlatCell : Type 0 where
  One : (byte : ℕ) → FlatCell
  Part : (code count n : ℕ) (expr : List ℕ) (index : ℕ) → FlatCell

-- the expression with its names after a length byte (LABLEN 0)
abbrev pub text_or : List ℕ → Option Tree → List ℕ
text_or expr None = expr
text_or expr (Some tree) = expression_text tree

-- an expression in the spelling for LABLEN 0
abbrev pub respelled : ℕ → List ℕ → List ℕ
respelled lab_len expr = text_or expr (tree_in lab_len expr)

-- the bytes of the number that an expression record represents
abbrev pub parts_from : ℕ → ℕ → ℕ → List ℕ → ℕ → ℕ → List FlatCell
parts_from code count n expr index zero = []
parts_from code count n expr index (suc left) = Part code count n expr index ∷ parts_from code count n expr (index + 1) left

-- n bytes 0
abbrev pub zeros : ℕ → List FlatCell
zeros n = replicate n (One 0)

-- the places that a record gives which is at this one; spaces, alignments and forward moves give zeros
abbrev pub places_at : ℕ → ℕ → Record → List FlatCell
places_at lab_len at End = []
places_at lab_len at (Const bytes) = map One bytes
places_at lab_len at (LongConst bytes) = map One bytes
places_at lab_len at (Align n) = zeros (size_at at (Align n))
places_at lab_len at (Org n) = zeros n
places_at lab_len at (Space n) = zeros n
places_at lab_len at (Reloc count shift location offset) = []
places_at lab_len at (InterSeg count shift location file segment offset) = []
places_at lab_len at (ShortReloc count shift location offset) = []
places_at lab_len at (ShortInterSeg count shift location segment offset) = []
places_at lab_len at (Super form bytes) = []
places_at lab_len at (Using name) = []
places_at lab_len at (Strong name) = []
places_at lab_len at (Label global name size form private) = []
places_at lab_len at (Equate global name size form private expr) = []
places_at lab_len at (Formula code count n expr) = parts_from code count n (respelled lab_len expr) 0 count
places_at lab_len at (Entry segment offset name) = []

-- the places that records give, of which the first is at this one
unfoldable pub places_from : ℕ → ℕ → List Record → List FlatCell
places_from lab_len at [] = []
places_from lab_len at (content ∷ contents) = places_at lab_len at content ++ places_from lab_len (at + size_at at content) contents

-- the records of a segment without their displacements
abbrev pub contents_of : Segment → List Record
contents_of s = map (λ found. found.1) s.records

-- what a segment gives place by place, the zeros of RESSPC last
unfoldable pub flat : Segment → List FlatCell
flat s = places_from s.fields.lab_len 0 (contents_of s) ++ zeros s.fields.res_spc

-- ---- definitions and uses

-- a definition without its attributes and its displacement in the file: the name, who sees it, its place, and an equate's expression
pub record FlatDefinition : Type 0 where
  pub name : List ℕ
  pub scope : Scope
  pub place : ℕ
  pub value : Option Tree

-- the value of an equate
abbrev pub value_in : ℕ → Option (List ℕ) → Option Tree
value_in lab_len None = None
value_in lab_len (Some expr) = tree_in lab_len expr

-- a definition as it is compared
abbrev pub comparable_definition : ℕ → Definition → FlatDefinition
comparable_definition lab_len d = record { name = d.name; scope = d.scope; place = d.place; value = value_in lab_len d.expr }

-- what the linker finds defined in the segment, its SEGNAME first
abbrev pub definitions : Segment → List FlatDefinition
definitions s = map (comparable_definition s.fields.lab_len) (defined_in s)

-- the name that a USING names
abbrev pub used_by : Record → List (List ℕ)
used_by (Using name) = name ∷ []
used_by _ = []

-- the name that a STRONG asks for
abbrev pub asked_by : Record → List (List ℕ)
asked_by (Strong name) = name ∷ []
asked_by _ = []

-- the names of USING, in order
abbrev pub usings : Segment → List (List ℕ)
usings s = flat_map used_by (contents_of s)

-- the names of STRONG, in order
abbrev pub strongs : Segment → List (List ℕ)
strongs s = flat_map asked_by (contents_of s)

-- ---- the same content

-- two segments represent the same: header, places, definitions, USING and STRONG names
pub record AreAlike (a b : Segment) : Type 0 where
  pub name : a.fields.name ≡ b.fields.name
  pub load_name : a.fields.load_name ≡ b.fields.load_name
  pub kind : a.fields.kind ≡ b.fields.kind
  pub bank_size : a.fields.bank_size ≡ b.fields.bank_size
  pub org : a.fields.org ≡ b.fields.org
  pub align : a.fields.align ≡ b.fields.align
  pub length : a.fields.length ≡ b.fields.length
  pub places : flat a ≡ flat b
  pub defined : definitions a ≡ definitions b
  pub using' : usings a ≡ usings b
  pub strong : strongs a ≡ strongs b

-- the same for the segments of two files, one after another
abbrev pub AreAllAlike : List Segment → List Segment → Type 0
AreAllAlike [] [] = Unit {0}
AreAllAlike (a ∷ more) (b ∷ others) = AreAlike a b × AreAllAlike more others
AreAllAlike _ _ = ⊥
