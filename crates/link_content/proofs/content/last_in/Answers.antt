use Rattle.std.proofs.Common.{◌<◌, ℕ, List, [], Option, length, take, get_or, sym, ap, ◌∙◌, arith}
use Rattle.std.specs.Borrow.{Bor}
use Rattle.load_writer.specs.Joined.{joined, joined_next}
use Rattle.link_content.specs.Holding.{last_of, or_before}
use Rattle.link_content.proofs.ContentBytes.{last_two}
use Rattle.link_content.proofs.content.last_in.Goals as goal

abbrev none : Bor (List ℕ)
none = record { ref_ptr = (0, 0); now = [] }

pub loop-piece-preserved : goal.loop-piece-preserved
loop-piece-preserved c =
    let pieces = c.args.pieces.now in
    let k = c.loop-piece.piece-index in
    let less : k < length pieces = omega (arith, c.loop-piece-test.true) in
    let next : List ℕ = (get_or pieces k none).now in
    c.last_of_two-found.ensures
    ∙ ap (λ (o : Option ℕ). or_before o c.loop-piece.found) c.last_of.ensures
    ∙ ap (λ (o : Option ℕ). or_before (last_of next) o) c.loop-piece.invariant
    ∙ sym (last_two (joined (take k pieces)) next)
    ∙ ap last_of (sym (joined_next pieces k none less))
