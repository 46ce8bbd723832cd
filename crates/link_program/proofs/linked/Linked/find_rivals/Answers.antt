use Rattle.link_meaning.specs.declared.search.SearchStep.TheVariants.{Everyone}
use Rattle.link_meaning.specs.Search.{data_titles}
use Rattle.link_program.proofs.SearchLaws.{seen_titles}
use Rattle.link_program.proofs.linked.Linked.find_rivals.Goals as goal

pub returns-clause-every : goal.returns-clause-every
returns-clause-every c = λ every list holds. seen_titles (data_titles list) c.args.self.now.titles Everyone c.args.name.now c.look.result holds.titles c.look.ensures
