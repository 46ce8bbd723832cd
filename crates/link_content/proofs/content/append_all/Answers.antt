use Rattle.std.proofs.Common.{◌<◌, ◌++◌, ℕ, List, [], length, take, get_or, sym, ap, ◌∙◌, append_assoc, arith}
use Rattle.std.specs.Borrow.{Bor}
use Rattle.load_writer.specs.Joined.{joined, joined_next}
use Rattle.link_content.proofs.content.append_all.Goals as goal

abbrev none : Bor (List ℕ)
none = record { ref_ptr = (0, 0); now = [] }

pub loop-piece-preserved : goal.loop-piece-preserved
loop-piece-preserved c =
    let old = c.args.out.now.items in
    let pieces = c.args.pieces.now in
    let k = c.loop-piece.piece-index in
    let less : k < length pieces = omega (arith, c.loop-piece-test.true) in
    let next : List ℕ = (get_or pieces k none).now in
    c.in_ok-extend_from_slice.ensures.items
    ∙ ap (λ (l : List ℕ). l ++ next) c.loop-piece.invariant
    ∙ append_assoc old (joined (take k pieces)) next
    ∙ ap (λ (l : List ℕ). old ++ l) (sym (joined_next pieces k none less))
