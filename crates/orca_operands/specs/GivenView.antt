-- What a statement gives, as it is kept.
use Rattle.std.specs.Prelude.{List, [], ◌∷◌, map, Result, Ok, Err, ℕ}
use Rattle.std.specs.Global.{Vec}
use Rattle.std.specs.List.{flat_map}
use Rattle.omf_format.specs.Record as record_
use Rattle.asm_meaning.specs.declared.faults.AsmCause.{AsmCause}
use Rattle.asm_meaning.specs.Answer.{Answer}
use Rattle.asm_meaning.specs.Pieces as meaning
use Rattle.asm_meaning.specs.Pieces.{copies, records_of}
use Rattle.orca_operands.specs.declared.encoding.Encoding.{Encoding}
use Rattle.orca_operands.specs.declared.encoding.Encoding.TheVariants.{Bytes, Operand, Parts}
use Rattle.orca_operands.specs.declared.encoding.RepeatedPieces.{RepeatedPieces}
use Rattle.orca_operands.specs.FewView.{few_bytes}
use Rattle.orca_operands.specs.PieceView.{piece}

-- the pieces of a part: its own, repeated `count` times
abbrev pub part_pieces : RepeatedPieces → List meaning.Piece
part_pieces p = copies p.count (map piece p.pieces.items)

-- the pieces of elements one after another
abbrev pub all_pieces : List RepeatedPieces → List meaning.Piece
all_pieces parts = flat_map part_pieces parts

-- the pieces of what a statement gives
abbrev pub given_pieces : Encoding → List meaning.Piece
given_pieces (Bytes few) = meaning.Bytes (few_bytes few) ∷ []
given_pieces (Operand opcode code count n expr) = meaning.Bytes (opcode ∷ []) ∷ meaning.Whole (record_.Formula code count n expr.items) ∷ []
given_pieces (Parts parts) = all_pieces parts.items

-- the records of an encoding
abbrev pub given_records : Encoding → List record_.Record
given_records g = records_of (given_pieces g)

-- the pieces of an encoding, or the fault
abbrev pub given_answer : Result Encoding AsmCause → Answer (List meaning.Piece)
given_answer (Ok g) = Ok (given_pieces g)
given_answer (Err cause) = Err cause

-- a label with the pieces of an encoding, or the fault
abbrev pub labelled_answer : Result (List ℕ × Encoding) AsmCause → Answer (List ℕ × List meaning.Piece)
labelled_answer (Ok x) = Ok (x.0, given_pieces x.1)
labelled_answer (Err cause) = Err cause

-- the pieces of each element, or the fault
abbrev pub parts_answer : Result (Vec RepeatedPieces) AsmCause → Answer (List (List meaning.Piece))
parts_answer (Ok v) = Ok (map part_pieces v.items)
parts_answer (Err cause) = Err cause
