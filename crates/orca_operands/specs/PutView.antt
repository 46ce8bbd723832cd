-- The cells of what a statement gives, and how its records are written.
use Rattle.std.specs.Prelude.{◌≡◌, ℕ, ◌+◌, ◌*◌, List, [], ◌∷◌, ◌++◌, length, Option}
use Rattle.asm_meaning.specs.Object.{records_text}
use Rattle.asm_meaning.specs.Pieces as meaning
use Rattle.asm_meaning.specs.Pieces.{records_after}
use Rattle.orca_operands.specs.declared.encoding.RepeatedPieces.{RepeatedPieces}
use Rattle.orca_operands.specs.declared.piece.Piece as piece_type
use Rattle.orca_operands.specs.declared.piece.Piece.TheVariants.{Bytes, Formula, Strong}
use Rattle.orca_operands.specs.declared.writer.RecordWriter.{RecordWriter}
use Rattle.orca_operands.specs.TextView.{text_within_limit, kept_text}

-- how many cells a piece gives
abbrev pub piece_size : piece_type.Piece → ℕ
piece_size (Bytes bytes) = length bytes.items
piece_size (Formula code count n expr) = count
piece_size (Strong name) = 0

-- how many cells pieces give
abbrev pub pieces_size : List piece_type.Piece → ℕ
pieces_size [] = 0
pieces_size (p ∷ ps) = piece_size p + pieces_size ps

-- how many cells repeated pieces give
abbrev pub parts_size : List RepeatedPieces → ℕ
parts_size [] = 0
parts_size (p ∷ ps) = p.count * pieces_size p.pieces.items + parts_size ps

-- some bytes were written, where constant bytes wait for their record and these pieces follow
pub record Wrote (whole : List ℕ) (kept : Option (List ℕ)) (pending : List ℕ) (rest : List meaning.Piece) : Type 0 where
  pub text : List ℕ
  pub kept_is : kept ≡ text_within_limit text
  pub whole_is : text ++ records_text (records_after pending rest) ≡ whole

-- a writer has written some bytes, where its constant bytes wait for their record and these pieces follow
abbrev pub HasWritten : List ℕ → RecordWriter → List meaning.Piece → Type 0
HasWritten whole w rest = Wrote whole (kept_text w.text) w.waiting.items rest
