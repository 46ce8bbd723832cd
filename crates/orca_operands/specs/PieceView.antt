-- How pieces are seen.
use Rattle.std.specs.Prelude.{List, map, Result, Ok, Err}
use Rattle.std.specs.Global.{Vec}
use Rattle.omf_format.specs.Record as record_
use Rattle.asm_meaning.specs.declared.faults.AsmCause.{AsmCause}
use Rattle.asm_meaning.specs.Answer.{Answer}
use Rattle.asm_meaning.specs.Pieces as meaning
use Rattle.orca_operands.specs.declared.piece.Piece.{Piece}
use Rattle.orca_operands.specs.declared.piece.Piece.TheVariants.{Bytes, Formula, Strong}

-- a piece
abbrev pub piece : Piece → meaning.Piece
piece (Bytes bytes) = meaning.Bytes bytes.items
piece (Formula code count n expr) = meaning.Whole (record_.Formula code count n expr.items)
piece (Strong name) = meaning.Whole (record_.Strong name)

-- pieces, or the fault
abbrev pub pieces_answer : Result (Vec Piece) AsmCause → Answer (List meaning.Piece)
pieces_answer (Ok v) = Ok (map piece v.items)
pieces_answer (Err cause) = Err cause
