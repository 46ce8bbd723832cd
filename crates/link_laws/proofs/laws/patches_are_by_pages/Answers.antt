use Rattle.link_laws.specs.laws.PageLaws.{patches_are_by_pages}
use Rattle.link_laws.proofs.laws.patches_are_by_pages.Goals as goal

pub returns : goal.returns
returns c = patches_are_by_pages
