use Rattle.std.proofs.Common.{List, subst}
use Rattle.std.specs.Prelude.{option_map}
use Rattle.link_meaning.specs.Member.{Member, setting_in}
use Rattle.link_meaning.specs.Search.{outside}
use Rattle.link_program.specs.Linked.{Holds}
use Rattle.link_program.specs.Finding.{IsFirstOf, found_in}
use Rattle.link_program.specs.Outside.{all_found, IsOutsideOf}
use Rattle.link_program.specs.OfFiles.{IsOfFiles}
use Rattle.link_program.specs.Programs.{list_of, symbol_of}
use Rattle.link_program.proofs.MemberLaws.{uses_find_only}
use Rattle.link_program.proofs.ProgramNumbers.{first_symbol, no_symbol, first_nowhere}
use Rattle.link_program.proofs.program.Program.symbol.Goals as goal

pub first-requires : goal.first-requires
first-requires c = (outside (setting_in (list_of c.self.inside.kept)), c.self.invariant.table)

pub returns-in-Some-clause-found : goal.returns-in-Some-clause-found
returns-in-Some-clause-found c = λ m there.
    let list = c.args.self.now in
    let kept = c.self.inside.kept in
    let holds = subst (λ (l : List Member). Holds l kept.linked) c.self.view_is c.self.invariant.holds in
    let table = subst (λ (l : List Member). IsOutsideOf l kept.outside) c.self.view_is c.self.invariant.table in
    let first = subst (IsFirstOf (all_found list) (found_in list c.args.place c.args.name.now)) c.in-Some.is (c.first.ensures list holds table) in
    first_symbol list c.args.place c.args.name.now c.in-Some.number (option_map symbol_of c.definition.result) first c.definition.ensures m there

pub returns-in-Some-clause-outside : goal.returns-in-Some-clause-outside
returns-in-Some-clause-outside c = λ none.
    let list = c.args.self.now in
    let kept = c.self.inside.kept in
    let holds = subst (λ (l : List Member). Holds l kept.linked) c.self.view_is c.self.invariant.holds in
    let table = subst (λ (l : List Member). IsOutsideOf l kept.outside) c.self.view_is c.self.invariant.table in
    let first = subst (IsFirstOf (all_found list) (found_in list c.args.place c.args.name.now)) c.in-Some.is (c.first.ensures list holds table) in
    absurd (first_nowhere list c.args.place c.args.name.now c.in-Some.number first none)

pub returns-in-None-clause-found : goal.returns-in-None-clause-found
returns-in-None-clause-found c = λ m there.
    let list = c.args.self.now in
    let kept = c.self.inside.kept in
    let holds = subst (λ (l : List Member). Holds l kept.linked) c.self.view_is c.self.invariant.holds in
    let table = subst (λ (l : List Member). IsOutsideOf l kept.outside) c.self.view_is c.self.invariant.table in
    let first = subst (IsFirstOf (all_found list) (found_in list c.args.place c.args.name.now)) c.in-None.is (c.first.ensures list holds table) in
    no_symbol list c.args.place c.args.name.now first m there

pub returns-in-Some-clause-only : goal.returns-in-Some-clause-only
returns-in-Some-clause-only c = λ m u there is same. uses_find_only c.args.self.now c.args.place m u c.args.name.now (subst IsOfFiles c.self.view_is c.self.invariant.of_files) there is same

pub returns-in-None-clause-only : goal.returns-in-None-clause-only
returns-in-None-clause-only c = λ m u there is same. uses_find_only c.args.self.now c.args.place m u c.args.name.now (subst IsOfFiles c.self.view_is c.self.invariant.of_files) there is same
