use Rattle.std.proofs.Common.{◌≡◌, Some, length, refl}
use Rattle.std.specs.Prelude.{slice_get}
use Rattle.std.proofs.lemmas.Option.{slice_get_read}
use Rattle.load_content.proofs.PieceLists.{covered_from}
use Rattle.load_content.proofs.pieces.bytes_at.Goals as goal

pub returns-then-from-piece : goal.returns-then-from-piece
returns-then-from-piece c = λ bytes n are lt.
    let there : slice_get c.args.pieces.now c.args.place ≡ Some c.in-Some.piece.now =
    slice_get_read c.args.pieces.now (length c.args.pieces.now) c.args.place c.in-Some.piece.now refl c.in-Some.ensures.lookup.3.0 c.in-Some.ensures.lookup.1 in
    rw c.items_after.ensures (covered_from c.args.pieces.now bytes c.args.at c.args.place n c.in-Some.piece.now are there c.if-at-piece.false (rw c.items_after.ensures at lt))
