use Rattle.std.proofs.Common.{ℕ, List, map, ap, ◌∙◌, sym, append-nil}
use Rattle.load_writer.specs.Joined.{joined}
use Rattle.load_writer.specs.WrittenParts.{seen}
use Rattle.link_content.specs.Holding.{or_borrowed}
use Rattle.link_content.proofs.ContentLaws.{no_cells}
use Rattle.link_content.proofs.content.LoadContent.new.Goals as goal

pub returns : goal.returns
returns c = record {
  bytes' = append-nil (or_borrowed c.new-2.result.items (joined c.new.result.items)) ∙ ap (λ (own : List ℕ). or_borrowed own (joined c.new.result.items)) c.new-2.ensures.items ∙ ap joined c.new.ensures.items;
  patches' = ap (map seen) c.new-3.ensures.items ∙ sym no_cells;
}
