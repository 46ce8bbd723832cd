use Rattle.std.proofs.Common.{ap, ◌∙◌}
use Rattle.load_writer.specs.Joined.{joined, joined_more}
use Rattle.link_content.proofs.content.append_piece.Goals as goal

pub returns-clause-ok : goal.returns-clause-ok
returns-clause-ok c = ap joined c.in_ok-push.ensures.items ∙ joined_more c.args.pieces.now.items c.args.piece
