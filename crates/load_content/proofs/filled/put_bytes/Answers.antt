use Rattle.std.proofs.Common.{ℕ, [], ◌++◌, replicate, ap, ◌∙◌, arith}
use Rattle.std.specs.Prelude.{Result, Ok, Err, OnOk}
use Rattle.load_content.specs.declared.pieces.BytePiece.{BytePiece}
use Rattle.load_content.proofs.Splits.{get_there}
use Rattle.load_content.proofs.FilledLists.{filled_more, put_more, put_all}
use Rattle.load_content.proofs.filled.put_bytes.Goals as goal

abbrev no_piece : BytePiece
no_piece = record { start = 0; bytes = record { ref_ptr = (0, 0); now = [] } }

pub pieces-preserved : goal.pieces-preserved
pieces-preserved c = λ bytes are fits.
    let pieces = c.args.pieces.now in
    let i = c.pieces.piece-index in
    let before = c.pieces.invariant bytes are fits in
    let here = get_there pieces i no_piece c.pieces-test.true in (
      filled_more pieces bytes i c.args.size c.pieces.at c.in_ok-at.at _ are before.0 here c.in_ok-at.ensures.next,
      put_more pieces c.args.out.now.items c.pieces.out.items c.put_piece.new.out.items bytes i c.args.size c.pieces.at c.in_ok-at.at _ are before.0 fits here c.in_ok-at.ensures.next before.1 c.in_ok-at.ensures.put,
    )

on_ok : {T E : Type 0} (r : Result T E) (P Q : Type 0) → (P → Q) → OnOk r P → OnOk r Q
on_ok (Ok x) P Q f p = f p
on_ok (Err e) P Q f p = p

pub returns : goal.returns
returns c = on_ok c.put_zeros.result _ _ (λ put bytes are fits.
    let before = c.pieces.invariant bytes are fits in
    put_all c.args.pieces.now c.args.out.now.items c.pieces.out.items c.put_zeros.new.out.items bytes c.pieces.piece-index c.args.size c.pieces.at are before.0 fits (omega (arith, c.pieces-test.false)) before.1
    (put ∙ ap (λ (n : ℕ). c.pieces.out.items ++ replicate n 0) c.saturating_sub.ensures)) c.put_zeros.ensures
