use Rattle.std.proofs.Common.{◌≡◌, ℕ, ◌≤◌, List, ◌++◌, length, take, sym, ap, subst, ◌∙◌, arith}
use Rattle.std.proofs.KnownBytes.{Consumes-trans}
use Rattle.std.specs.Io.KnownBytes.{Consumes}
use Rattle.omf_io.proofs.Pieces.{take-front}
use Rattle.omf_io.proofs.streams.front_of.Goals as goal

pub pieces-preserved : goal.pieces-preserved
pieces-preserved g c =
    let read = c.in_ok-count.ensures in
    let count = c.in_ok-count.count in
    let buffer = c.read_piece.new.buffer in
    let before = c.pieces.bytes.items in
    let first = g.R.Read.remaining c.args.reader.now in
    let last = g.R.Read.remaining c.read_piece.new.reader in
    let size : length buffer ≤ c.pieces.piece.len = omega (arith, c.read_piece.auto.buffer, ap length c.deref_mut.ensures.value, c.pieces.piece.ok) in
    let added : c.extend_from_slice.new.self.items ≡ before ++ take count buffer =
    c.in_ok-extend_from_slice.ensures.items ∙ ap (λ (l : List ℕ). before ++ take count l) c.deref.ensures.value ∙ ap (λ (l : List ℕ). before ++ l) (take-front count c.pieces.piece.len buffer _ read.bound.0 size) in
    subst (Consumes first last) (sym added) (Consumes-trans first (g.R.Read.remaining c.pieces.reader) last before (take count buffer) c.pieces.invariant read.bytes)
