-- The records of a body, and the one spelling of each (GS/OS Reference, appendix F, "Segment body").
use Rattle.std.specs.Prelude.{◌≡◌, ℕ, ◌+◌, ◌^◌, ◌<◌, ◌≤◌, Bool, true, false, ◌||◌, ℤ, List, [], ◌∷◌, ◌++◌, length, replicate, ◌==◌, if◌then◌else◌, IsTrue}
use Rattle.byteorder.specs.Endian.{little_bytes}
use Rattle.omf_format.specs.declared.codes.TheConstants.{ALIGN, ORG, RELOC, INTERSEG, USING, STRONG, GLOBAL, GEQU, EXPR, ZEXPR, BEXPR, RELEXPR, LOCAL, EQU, DS, LCONST, LEXPR, ENTRY, SHORT_RELOC, SHORT_INTERSEG, SUPER}
use Rattle.omf_format.specs.Field.{Layout, is_count, is_shift, shift_byte, name_text, IsName}
use Rattle.omf_format.specs.Expression.{IsExpression}
use Rattle.omf_format.specs.Super.{is_super, HavePages}

-- a record; names are without what pads them, and expressions and subrecords are kept as their bytes
pub data Record : Type 0 where
  -- END
  End : Record
  -- CONST, LCONST
  Const : (bytes : List ℕ) → Record
  LongConst : (bytes : List ℕ) → Record
  -- ALIGN, ORG, DS
  Align : (n : ℕ) → Record
  Org : (n : ℕ) → Record
  Space : (n : ℕ) → Record
  -- RELOC, INTERSEG, cRELOC, cINTERSEG, SUPER
  Reloc : (count : ℕ) (shift : ℤ) (location offset : ℕ) → Record
  InterSeg : (count : ℕ) (shift : ℤ) (location file segment offset : ℕ) → Record
  ShortReloc : (count : ℕ) (shift : ℤ) (location offset : ℕ) → Record
  ShortInterSeg : (count : ℕ) (shift : ℤ) (location segment offset : ℕ) → Record
  Super : (form : ℕ) (bytes : List ℕ) → Record
  -- USING, STRONG
  Using : (name : List ℕ) → Record
  Strong : (name : List ℕ) → Record
  -- GLOBAL or LOCAL, GEQU or EQU
  Label : (global : Bool) (name : List ℕ) (size form private : ℕ) → Record
  Equate : (global : Bool) (name : List ℕ) (size form private : ℕ) (expr : List ℕ) → Record
  -- EXPR, ZEXPR, BEXPR, RELEXPR or LEXPR; only RELEXPR has an n
  Formula : (code count n : ℕ) (expr : List ℕ) → Record
  -- ENTRY
  Entry : (segment offset : ℕ) (name : List ℕ) → Record

-- ---- spellings

-- EXPR is $EB, ZEXPR $EC, BEXPR $ED, RELEXPR $EE and LEXPR $F3
abbrev pub is_formula : ℕ → Bool
is_formula code = code == EXPR || code == ZEXPR || code == BEXPR || code == RELEXPR || code == LEXPR

-- the bytes of a record, which under a layout has one spelling: its code, then its fields
unfoldable pub spelling : Layout → Record → List ℕ
spelling l End = 0x00 ∷ []
spelling l (Const bytes) = length bytes ∷ bytes
spelling l (LongConst bytes) = LCONST ∷ little_bytes 4 (length bytes) ++ bytes
spelling l (Align n) = ALIGN ∷ little_bytes 4 n
spelling l (Org n) = ORG ∷ little_bytes 4 n
spelling l (Space n) = DS ∷ little_bytes 4 n
spelling l (Reloc count shift location offset) = RELOC ∷ count ∷ shift_byte shift ∷ little_bytes 4 location ++ little_bytes 4 offset
spelling l (InterSeg count shift location file segment offset) =
    INTERSEG ∷ count ∷ shift_byte shift ∷ little_bytes 4 location ++ (little_bytes 2 file ++ (little_bytes 2 segment ++ little_bytes 4 offset))
spelling l (ShortReloc count shift location offset) = SHORT_RELOC ∷ count ∷ shift_byte shift ∷ little_bytes 2 location ++ little_bytes 2 offset
spelling l (ShortInterSeg count shift location segment offset) =
    SHORT_INTERSEG ∷ count ∷ shift_byte shift ∷ little_bytes 2 location ++ segment ∷ little_bytes 2 offset
spelling l (Super form bytes) = SUPER ∷ little_bytes 4 (length bytes + 1) ++ form ∷ bytes
spelling l (Using name) = USING ∷ name_text l.lab_len name
spelling l (Strong name) = STRONG ∷ name_text l.lab_len name
spelling l (Label global name size form private) =
    (if global then GLOBAL else LOCAL) ∷ name_text l.lab_len name ++ (little_bytes l.length_width size ++ form ∷ private ∷ [])
spelling l (Equate global name size form private expr) =
    (if global then GEQU else EQU) ∷ name_text l.lab_len name ++ ((little_bytes l.length_width size ++ form ∷ private ∷ []) ++ expr)
spelling l (Formula code count n expr) = code ∷ count ∷ (if code == RELEXPR then little_bytes 4 n ++ expr else expr)
spelling l (Entry segment offset name) = ENTRY ∷ little_bytes 2 segment ++ (little_bytes 4 offset ++ name_text l.lab_len name)

-- ---- which records have a spelling

-- the n of RELEXPR; every other formula has 0
abbrev pub IsDistance : Bool → ℕ → Type 0
IsDistance true n = n < 2 ^ 32
IsDistance false n = n ≡ 0

-- a record whose fields fit their widths; its bytes hold what its kind asks for
abbrev pub IsRecord : Layout → Record → Type 0
IsRecord l End = Unit {0}
IsRecord l (Const bytes) = (1 ≤ length bytes) × (length bytes ≤ 0xDF)
IsRecord l (LongConst bytes) = length bytes < 2 ^ 32
IsRecord l (Align n) = n < 2 ^ 32
IsRecord l (Org n) = n < 2 ^ 31
IsRecord l (Space n) = n < 2 ^ 32
IsRecord l (Reloc count shift location offset) = (IsTrue (is_count count) × IsTrue (is_shift shift)) × (location < 2 ^ 32) × (offset < 2 ^ 32)
IsRecord l (InterSeg count shift location file segment offset) =
    (IsTrue (is_count count) × IsTrue (is_shift shift)) × (location < 2 ^ 32) × (file < 2 ^ 16) × (segment < 2 ^ 16) × (offset < 2 ^ 32)
IsRecord l (ShortReloc count shift location offset) = (IsTrue (is_count count) × IsTrue (is_shift shift)) × (location < 2 ^ 16) × (offset < 2 ^ 16)
IsRecord l (ShortInterSeg count shift location segment offset) =
    (IsTrue (is_count count) × IsTrue (is_shift shift)) × (location < 2 ^ 16) × (segment < 2 ^ 8) × (offset < 2 ^ 16)
IsRecord l (Super form bytes) = IsTrue (is_super form) × (length bytes + 1 < 2 ^ 32) × HavePages bytes
IsRecord l (Using name) = IsName l.lab_len name
IsRecord l (Strong name) = IsName l.lab_len name
IsRecord l (Label global name size form private) = IsName l.lab_len name × ((size < 256 ^ l.length_width) × (form < 2 ^ 8) × (private < 2 ^ 8))
IsRecord l (Equate global name size form private expr) =
    IsName l.lab_len name × ((size < 256 ^ l.length_width) × (form < 2 ^ 8) × (private < 2 ^ 8)) × IsExpression l.lab_len expr
IsRecord l (Formula code count n expr) =
    IsTrue (is_formula code) × IsTrue (is_count count) × IsDistance (code == RELEXPR) n × IsExpression l.lab_len expr
IsRecord l (Entry segment offset name) = (segment < 2 ^ 16) × (offset < 2 ^ 32) × IsName l.lab_len name

-- ---- constants

-- the constant bytes of a record: those of CONST and LCONST, and the zeros of DS; every other record has none
abbrev pub content_of : Record → List ℕ
content_of (Const bytes) = bytes
content_of (LongConst bytes) = bytes
content_of (Space n) = replicate n 0
content_of _ = []
