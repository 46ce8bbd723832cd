use Rattle.std.proofs.Common.{◌≡◌, ◌+◌, ◌≤◌, drop}
use Rattle.std.specs.Prelude.{None}
use Rattle.orca_symbols.specs.Piece.{piece_len}
use Rattle.orca_symbols.proofs.operands.piece_len.Given as goal

abbrev pub invariant-bytes : goal.invariant-bytes
invariant-bytes l =
    (l.count + piece_len l.separator l.quote l.open (drop l.byte-index l.text.bytes.now) ≡ piece_len l.separator None 0 l.text.bytes.now)
    × (l.count ≡ l.byte-index) × (l.open ≤ l.count)
