use Rattle.std.proofs.Common.{◌≡◌, ℕ, ◌-◌, ◌<◌, length, map, Some, refl, subst, arith}
use Rattle.std.specs.Prelude.{filter, slice_get}
use Rattle.std.proofs.lemmas.Option.{slice_get_read}
use Rattle.link_meaning.specs.declared.search.SearchStep.TheVariants.{Within}
use Rattle.link_meaning.specs.Uses.{usings_of}
use Rattle.link_meaning.specs.Search.{FoundDefinition, entries, with_this_name, first_step_found}
use Rattle.link_meaning.specs.laws.Steps.{is_seen_by_step}
use Rattle.link_tables.specs.declared.names.Matches.{Matches}
use Rattle.link_tables.specs.declared.names.Matches.TheVariants.{One, Several}
use Rattle.link_tables.specs.Definitions.{Sees}
use Rattle.link_program.specs.Linked.{used_places}
use Rattle.link_program.proofs.SearchLaws.{finds_own, finds_used, finds_outer, one_some, several_some}
use Rattle.link_program.proofs.LinkedLaws.{member_is}
use Rattle.link_program.proofs.linked.Linked.find_inside.Goals as goal

pub returns-in-One : goal.returns-in-One
returns-in-One c = λ list m holds at.
    let fs = entries list in
    let seen = subst (λ (o : Matches). Sees fs (filter (is_seen_by_step (Within c.args.place)) (with_this_name c.args.name.now fs)) o) c.in-One.is (c.find_own.ensures fs holds.definitions (c.holders-holders.ensures fs holds.definitions)) in
    finds_own (λ (f : FoundDefinition) (number : ℕ). slice_get fs number ≡ Some f) list c.args.place m c.args.name.now (One c.in-One.first) seen (one_some c.in-One.first)

pub returns-in-Several : goal.returns-in-Several
returns-in-Several c = λ list m holds at.
    let fs = entries list in
    let seen = subst (λ (o : Matches). Sees fs (filter (is_seen_by_step (Within c.args.place)) (with_this_name c.args.name.now fs)) o) c.in-Several.is (c.find_own.ensures fs holds.definitions (c.holders-holders.ensures fs holds.definitions)) in
    finds_own (λ (f : FoundDefinition) (number : ℕ). slice_get fs number ≡ Some f) list c.args.place m c.args.name.now (Several c.in-Several.first) seen (several_some c.in-Several.first)

pub returns-in-Nothing-find_by_usings : goal.returns-in-Nothing-find_by_usings
returns-in-Nothing-find_by_usings c = λ list m holds at.
    let fs = entries list in
    let items = c.args.self.now.members.items in
    let k = c.args.place - 1 in
    let less : k < length items = omega (arith, c.requires.positive, c.requires.within) in
    let there = slice_get_read items (length items) k c.index-origin.result.now refl less c.index-origin.ensures in
    let of = member_is list c.args.self.now k m c.index-origin.result.now holds at there in
    let held = c.holders-holders.ensures fs holds.definitions in
    let own = subst (λ (o : Matches). Sees fs (filter (is_seen_by_step (Within c.args.place)) (with_this_name c.args.name.now fs)) o) c.in-Nothing.is (c.find_own.ensures fs holds.definitions held) in
    let used = subst (λ (o : Matches). Sees fs (first_step_found (map Within (used_places list m (usings_of m.segment))) (with_this_name c.args.name.now fs)) o) c.in-Nothing-find_by_usings.is (c.find_by_usings.ensures list m holds held at of) in
    finds_outer (λ (f : FoundDefinition) (number : ℕ). slice_get fs number ≡ Some f) list c.args.place m c.args.name.now (usings_of m.segment) c.find_outer.result refl own used (c.find_outer.ensures fs m holds.definitions of)

pub returns-in-One-find_by_usings : goal.returns-in-One-find_by_usings
returns-in-One-find_by_usings c = λ list m holds at.
    let fs = entries list in
    let items = c.args.self.now.members.items in
    let k = c.args.place - 1 in
    let less : k < length items = omega (arith, c.requires.positive, c.requires.within) in
    let there = slice_get_read items (length items) k c.index-origin.result.now refl less c.index-origin.ensures in
    let of = member_is list c.args.self.now k m c.index-origin.result.now holds at there in
    let held = c.holders-holders.ensures fs holds.definitions in
    let own = subst (λ (o : Matches). Sees fs (filter (is_seen_by_step (Within c.args.place)) (with_this_name c.args.name.now fs)) o) c.in-Nothing.is (c.find_own.ensures fs holds.definitions held) in
    let used = subst (λ (o : Matches). Sees fs (first_step_found (map Within (used_places list m (usings_of m.segment))) (with_this_name c.args.name.now fs)) o) c.in-One-find_by_usings.is (c.find_by_usings.ensures list m holds held at of) in
    finds_used (λ (f : FoundDefinition) (number : ℕ). slice_get fs number ≡ Some f) list c.args.place m c.args.name.now (usings_of m.segment) (One c.in-One-find_by_usings.first) refl own used (one_some c.in-One-find_by_usings.first)

pub returns-in-Several-find_by_usings : goal.returns-in-Several-find_by_usings
returns-in-Several-find_by_usings c = λ list m holds at.
    let fs = entries list in
    let items = c.args.self.now.members.items in
    let k = c.args.place - 1 in
    let less : k < length items = omega (arith, c.requires.positive, c.requires.within) in
    let there = slice_get_read items (length items) k c.index-origin.result.now refl less c.index-origin.ensures in
    let of = member_is list c.args.self.now k m c.index-origin.result.now holds at there in
    let held = c.holders-holders.ensures fs holds.definitions in
    let own = subst (λ (o : Matches). Sees fs (filter (is_seen_by_step (Within c.args.place)) (with_this_name c.args.name.now fs)) o) c.in-Nothing.is (c.find_own.ensures fs holds.definitions held) in
    let used = subst (λ (o : Matches). Sees fs (first_step_found (map Within (used_places list m (usings_of m.segment))) (with_this_name c.args.name.now fs)) o) c.in-Several-find_by_usings.is (c.find_by_usings.ensures list m holds held at of) in
    finds_used (λ (f : FoundDefinition) (number : ℕ). slice_get fs number ≡ Some f) list c.args.place m c.args.name.now (usings_of m.segment) (Several c.in-Several-find_by_usings.first) refl own used (several_some c.in-Several-find_by_usings.first)
