-- Operations of the assembler: the directives by their spellings (ORCA/M reference manual, "Assembler directives").
use Rattle.std.specs.Prelude.{ℕ, List, [], ◌∷◌, codes, map, Option, Some}
use Rattle.std.specs.Option.{option_map, option_or}
use Rattle.orca_meaning.specs.Characters.{folded}
use Rattle.orca_meaning.specs.Operation.{value_of_spelling, mnemonic_of}
use Rattle.asm_meaning.specs.declared.directives.Class.TheVariants.{Code, PrivateCode, Data, PrivateData}
use Rattle.asm_meaning.specs.declared.directives.Switch.TheVariants.{LongA, LongI, Msb}
use Rattle.asm_meaning.specs.declared.directives.Directive.{Directive}
use Rattle.asm_meaning.specs.declared.directives.Operation.{Operation}
use Rattle.asm_meaning.specs.declared.directives.Operation.TheVariants.{Instruct, Direct}
use Rattle.asm_meaning.specs.declared.directives.Directive.TheVariants.{Begin, End, Entry, Using, Equ, Gequ, Constants, Space, Align, Org, Kind, Turn, Nothing, Ignored}

-- accepted, without effect
unfoldable pub ignored_directives : List (List ℕ)
ignored_directives =
    codes "KEEP" ∷ codes "MCOPY" ∷ codes "LIST" ∷ codes "GEN" ∷ codes "SYMBOL" ∷ codes "EXPAND" ∷ codes "TITLE" ∷ codes "EJECT" ∷
    codes "PRINTER" ∷ codes "ABSADDR" ∷ codes "65816" ∷ []

-- a directive that is accepted without effect, beside its spelling
abbrev pub as_ignored : List ℕ → List ℕ × Directive
as_ignored spelling = (spelling, Ignored)

-- the directives by their spellings
unfoldable pub directives : List (List ℕ × Directive)
directives =
    (codes "START", Begin Code) ∷ (codes "PRIVATE", Begin PrivateCode) ∷ (codes "DATA", Begin Data) ∷ (codes "PRIVDATA", Begin PrivateData) ∷
    (codes "END", End) ∷ (codes "ENTRY", Entry) ∷ (codes "USING", Using) ∷ (codes "EQU", Equ) ∷ (codes "GEQU", Gequ) ∷
    (codes "DC", Constants) ∷ (codes "DS", Space) ∷ (codes "ALIGN", Align) ∷ (codes "ORG", Org) ∷ (codes "KIND", Kind) ∷
    (codes "LONGA", Turn LongA) ∷ (codes "LONGI", Turn LongI) ∷ (codes "MSB", Turn Msb) ∷ (codes "ANOP", Nothing) ∷ map as_ignored ignored_directives

-- what an operation is, in upper or lower case; a line without one is read as ANOP
unfoldable pub operation_of : List ℕ → Option Operation
operation_of [] = Some (Direct Nothing)
operation_of (byte ∷ following) =
    option_or (option_map Instruct (mnemonic_of (byte ∷ following))) (option_map Direct (value_of_spelling (folded (byte ∷ following)) directives))
