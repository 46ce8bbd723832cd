use Rattle.std.proofs.Common.{◌≡◌, ℕ, List, [], map, refl, sym, ap, subst, ◌∙◌}
use Rattle.std.specs.Option.{option_map_or}
use Rattle.link_meaning.specs.declared.search.SearchStep.TheVariants.{Within}
use Rattle.link_meaning.specs.Uses.{usings_of}
use Rattle.link_meaning.specs.Search.{FoundDefinition, entries, with_this_name, first_step_found}
use Rattle.link_tables.specs.declared.names.Matches.TheVariants.{Nothing}
use Rattle.link_tables.specs.Definitions.{Sees, IsElsewhere}
use Rattle.link_program.specs.Linked.{names_of, used_places}
use Rattle.link_program.proofs.SearchLaws.{none_decided, seen_definitions}
use Rattle.link_program.proofs.LinkedLaws.{usings_is}
use Rattle.link_program.proofs.UsingLaws.{none_at_places, one_at_places}
use Rattle.link_program.proofs.linked.Linked.find_by_usings.Goals as goal

pub returns-in-Some : goal.returns-in-Some
returns-in-Some c = λ list m holds held at of.
    let fs = entries list in
    let names : names_of c.in-Some.usings.now ≡ usings_of m.segment =
    ap (λ o. option_map_or (λ names. names_of names.now) o []) (sym c.in-Some.is) ∙ c.of.ensures ∙ usings_is list c.args.self.now c.args.place m holds c.requires at in
    subst (λ (l : List (List ℕ)). Sees fs (first_step_found (map Within (used_places list m l)) (with_this_name c.args.name.now fs)) c.find_used.result) names (c.find_used.ensures list m holds of)

pub returns-in-None : goal.returns-in-None
returns-in-None c = λ list m holds held at of.
    let fs = entries list in
    let none : [] ≡ usings_of m.segment =
    ap (λ o. option_map_or (λ names. names_of names.now) o []) (sym c.in-None.is) ∙ c.of.ensures ∙ usings_is list c.args.self.now c.args.place m holds c.requires at in
    subst (λ (l : List (List ℕ)). Sees fs (first_step_found (map Within (used_places list m l)) (with_this_name c.args.name.now fs)) Nothing) none refl

pub returns-in-Nothing : goal.returns-in-Nothing
returns-in-Nothing c = λ list m holds held at of.
    let fs = entries list in
    let xs = with_this_name c.args.name.now fs in
    let none = none_decided xs (used_places list m (usings_of m.segment)) (λ place. held place (subst (IsElsewhere place) (sym c.in-Nothing.is) tt)) in
    subst (λ (l : List FoundDefinition). Sees fs l Nothing) (sym none) refl

pub returns-then-not-uses_data : goal.returns-then-not-uses_data
returns-then-not-uses_data c = λ list m holds held at of.
    let fs = entries list in
    let xs = with_this_name c.args.name.now fs in
    let none = none_at_places xs c.in-One.data (used_places list m (usings_of m.segment)) (λ place other. held place (subst (IsElsewhere place) (sym c.in-One.is) other))
    (sym (c.uses_data.ensures list m holds at of) ∙ c.if-not-uses_data.true) in
    subst (λ (l : List FoundDefinition). Sees fs l Nothing) (sym none) refl

pub returns-else-not-uses_data : goal.returns-else-not-uses_data
returns-else-not-uses_data c = λ list m holds held at of.
    let fs = entries list in
    let xs = with_this_name c.args.name.now fs in
    let one = one_at_places xs c.in-One.data (used_places list m (usings_of m.segment)) (λ place other. held place (subst (IsElsewhere place) (sym c.in-One.is) other))
    (sym (c.uses_data.ensures list m holds at of) ∙ c.if-not-uses_data.false) in
    subst (λ (l : List FoundDefinition). Sees fs l c.look.result) (sym one) (seen_definitions fs (Within c.in-One.data) c.args.name.now c.look.result c.look.result (c.look.ensures fs holds.definitions) refl)
