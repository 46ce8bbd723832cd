use Rattle.std.proofs.Common.{List, refl, sym, subst}
use Rattle.link_meaning.specs.Search.{FoundDefinition}
use Rattle.link_meaning.specs.declared.search.SearchStep.TheVariants.{Within}
use Rattle.link_tables.specs.declared.names.Matches.TheVariants.{Nothing}
use Rattle.link_tables.specs.Definitions.{Sees, IsElsewhere}
use Rattle.link_program.proofs.SearchLaws.{seen_definitions}
use Rattle.link_program.proofs.linked.Linked.find_own.Goals as goal

pub returns : goal.returns
returns c = λ fs are holders. seen_definitions fs (Within c.args.place) c.args.name.now c.look.result c.look.result (c.look.ensures fs are) refl

pub returns-in-Nothing : goal.returns-in-Nothing
returns-in-Nothing c = λ fs are holders.
    subst (λ (found : List FoundDefinition). Sees fs found Nothing) (sym (holders c.args.place (subst (IsElsewhere c.args.place) (sym c.in-Nothing.is) tt))) refl

pub returns-in-One : goal.returns-in-One
returns-in-One c = λ fs are holders.
    subst (λ (found : List FoundDefinition). Sees fs found Nothing) (sym (holders c.args.place (subst (IsElsewhere c.args.place) (sym c.in-One.is) c.if-other-place.true))) refl
