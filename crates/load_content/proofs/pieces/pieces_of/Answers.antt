use Rattle.std.proofs.Common.{ℕ, ◌++◌, [], List, refl, sym, subst, arith}
use Rattle.std.proofs.lemmas.List.{length-append}
use Rattle.omf_format.specs.Record.{Record, content_of}
use Rattle.omf_format.specs.Reading.{Reader}
use Rattle.omf_records.specs.View.{view}
use Rattle.load_content.specs.declared.pieces.BytePiece.{BytePiece}
use Rattle.load_content.specs.Content.{ArePieces}
use Rattle.load_content.proofs.Walks.{Left, left_all, left_more, left_none, left_full, left_fault, left_within}
use Rattle.load_content.proofs.PieceLists.{no_pieces}
use Rattle.load_content.proofs.pieces.pieces_of.Goals as goal

pub records-init : goal.records-init
records-init c = record {
  so_far = [];
  left = left_all c.args.records c.requires.body;
  size = refl;
  are = subst (λ (l : List BytePiece). ArePieces l []) (sym c.new-pieces.ensures.items) no_pieces;
}

pub returns-then-start-from-clause-are : goal.returns-then-start-from-clause-are
returns-then-start-from-clause-are c =
    let so_far = c.records.invariant in
    let whole = left_full c.args.records c.records.records so_far.so_far so_far.left (omega (arith, so_far.size, c.requires.fits, c.if-start-from.true, c.from.ensures)) in
    subst (ArePieces c.records.pieces.items) (sym whole) so_far.are

pub returns-in-Ok-None-clause-are : goal.returns-in-Ok-None-clause-are
returns-in-Ok-None-clause-are c =
    let so_far = c.records.invariant in
    let whole = left_none c.args.records c.records.records so_far.so_far so_far.left (sym (rw c.in-Ok-None.field-0-is at c.in-Ok-None.ensures.answer)) in
    subst (ArePieces c.records.pieces.items) (sym whole) so_far.are

pub overflow_cast-start : goal.overflow_cast-start
overflow_cast-start c =
    let so_far = c.records.invariant in
    omega (arith, left_within c.args.records c.records.records so_far.so_far so_far.left, so_far.size, c.requires.fits, c.ranges.length.fits)

pub records-preserved : goal.records-preserved
records-preserved c =
    let so_far = c.records.invariant in
    let found : ℕ × Record = (c.in-Ok-Some.found.0, view c.in-Ok-Some.found.1) in
    let more = left_more c.args.records c.records.records found so_far.so_far so_far.left (sym (rw c.in-Ok-Some.field-0-is at c.in-Ok-Some.ensures.answer)) in
    let bytes = so_far.so_far ++ content_of found.1 in
    record {
      so_far = bytes;
      left = subst (λ (r : Reader). Left c.args.records r bytes) (sym c.in-Ok-Some.ensures.after) more;
      size = omega (arith, length-append so_far.so_far (content_of found.1), so_far.size, c.content_size-start.ensures.value);
      are = c.in_ok-add_piece-in-Ok-Some.ensures so_far.so_far so_far.are so_far.size;
    }

pub unreachable-requires : goal.unreachable-requires
unreachable-requires c =
    let so_far = c.records.invariant in
    left_fault c.args.records c.records.records so_far.so_far c.in-Err.field-0 so_far.left (sym c.in-Err.ensures.answer)
