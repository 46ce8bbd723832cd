use Rattle.std.proofs.Common.{Bool, sym, ap, ◌∙◌}
use Rattle.std.specs.Prelude.{option_map, nat_eq, ◌&&◌}
use Rattle.std.specs.List.{list_any}
use Rattle.link_meaning.specs.Uses.{usings_of}
use Rattle.link_meaning.specs.Search.{only_place, finds_data}
use Rattle.link_tables.specs.declared.names.Matches.TheVariants.{Nothing, One, Several}
use Rattle.link_program.proofs.SearchLaws.{reported_titles, nothing_one, several_one}
use Rattle.link_program.proofs.UsingLaws.{nowhere_used, used_so, found_one, found_others}
use Rattle.link_program.proofs.linked.Linked.uses_data.Goals as goal

pub returns-in-None : goal.returns-in-None
returns-in-None c = λ list m holds at of.
    sym (nowhere_used list m c.args.other (usings_of m.segment) (sym (c.data_name.ensures list holds) ∙ ap (option_map (λ n. n.now)) c.in-None.is))

pub returns-then-not-has : goal.returns-then-not-has
returns-then-not-has c = λ list m holds at of.
    let t = c.in-Some.name.now in
    let named = sym (c.data_name.ensures list holds) ∙ ap (option_map (λ n. n.now)) c.in-Some.is in
    sym (used_so list c.args.self.now c.args.place c.args.other m t c.has.result holds c.requires at named c.has.ensures
    ∙ ap (λ (b : Bool). b && list_any (nat_eq c.args.other) (only_place (finds_data list m t))) c.if-not-has.true)

pub returns-in-One : goal.returns-in-One
returns-in-One c = λ list m holds at of.
    let t = c.in-Some.name.now in
    let named = sym (c.data_name.ensures list holds) ∙ ap (option_map (λ n. n.now)) c.in-Some.is in
    let seen = reported_titles list m t c.find_data.result (One c.in-One.found) c.in-One.is (c.find_data.ensures list m holds of) in
    found_one (finds_data list m t) c.args.other c.in-One.found seen
    ∙ sym (used_so list c.args.self.now c.args.place c.args.other m t c.has.result holds c.requires at named c.has.ensures
    ∙ ap (λ (b : Bool). b && list_any (nat_eq c.args.other) (only_place (finds_data list m t))) c.if-not-has.false)

pub returns-in-Nothing : goal.returns-in-Nothing
returns-in-Nothing c = λ list m holds at of.
    let t = c.in-Some.name.now in
    let named = sym (c.data_name.ensures list holds) ∙ ap (option_map (λ n. n.now)) c.in-Some.is in
    let seen = reported_titles list m t c.find_data.result Nothing c.in-Nothing.is (c.find_data.ensures list m holds of) in
    found_others (finds_data list m t) c.args.other Nothing seen nothing_one
    ∙ sym (used_so list c.args.self.now c.args.place c.args.other m t c.has.result holds c.requires at named c.has.ensures
    ∙ ap (λ (b : Bool). b && list_any (nat_eq c.args.other) (only_place (finds_data list m t))) c.if-not-has.false)

pub returns-in-Several : goal.returns-in-Several
returns-in-Several c = λ list m holds at of.
    let t = c.in-Some.name.now in
    let named = sym (c.data_name.ensures list holds) ∙ ap (option_map (λ n. n.now)) c.in-Some.is in
    let seen = reported_titles list m t c.find_data.result (Several c.in-Several.field-0) c.in-Several.is (c.find_data.ensures list m holds of) in
    found_others (finds_data list m t) c.args.other (Several c.in-Several.field-0) seen (several_one c.in-Several.field-0)
    ∙ sym (used_so list c.args.self.now c.args.place c.args.other m t c.has.result holds c.requires at named c.has.ensures
    ∙ ap (λ (b : Bool). b && list_any (nat_eq c.args.other) (only_place (finds_data list m t))) c.if-not-has.false)
