use Rattle.std.proofs.Common.{◌<◌, length, List, sym, ap, subst, ◌∙◌, arith}
use Rattle.std.specs.Prelude.{option_map, Some}
use Rattle.link_meaning.specs.Member.{Member, setting_in}
use Rattle.link_meaning.specs.Search.{entries, outside}
use Rattle.link_tables.specs.Listed.{definition_of}
use Rattle.link_program.specs.Linked.{Holds}
use Rattle.link_program.specs.Outside.{IsOutsideOf}
use Rattle.link_program.specs.Programs.{symbol_of}
use Rattle.link_program.specs.declared.program.Definition.{Definition}
use Rattle.link_program.proofs.ProgramNumbers.{member_symbol, no_definition, no_member, far_symbol, no_far}
use Rattle.link_program.proofs.program.Program.definition.Goals as goal

pub unreachable-requires : goal.unreachable-requires
unreachable-requires c =
    let list = c.args.self.now in
    let holds = subst (λ (l : List Member). Holds l c.self.inside.kept.linked) c.self.view_is c.self.invariant.holds in
    let less : c.args.number < length (entries list) = omega (arith, c.if-number-count.true, c.definition_count-count.ensures list holds) in
    no_definition list c.args.number less (sym (ap (option_map definition_of) c.in-None.is) ∙ c.definition.ensures list holds)

pub unreachable-requires-in-None-member : goal.unreachable-requires-in-None-member
unreachable-requires-in-None-member c =
    let list = c.args.self.now in
    let holds = subst (λ (l : List Member). Holds l c.self.inside.kept.linked) c.self.view_is c.self.invariant.holds in
    no_member list c.args.number (definition_of c.in-Some.defined) (sym (ap (option_map definition_of) c.in-Some.is) ∙ c.definition.ensures list holds) (sym c.in-None-member.is ∙ c.member.ensures)

pub returns-then-number-count : goal.returns-then-number-count
returns-then-number-count c =
    let list = c.args.self.now in
    let holds = subst (λ (l : List Member). Holds l c.self.inside.kept.linked) c.self.view_is c.self.invariant.holds in
    let less : c.args.number < length (entries list) = omega (arith, c.if-number-count.true, c.definition_count-count.ensures list holds) in
    ap (λ (d : Definition). Some (symbol_of d)) c.definition_of.ensures
    ∙ member_symbol list c.args.number (definition_of c.in-Some.defined) c.in-Some-member.member less (sym (ap (option_map definition_of) c.in-Some.is) ∙ c.definition.ensures list holds) (sym c.in-Some-member.is ∙ c.member.ensures)

pub returns-in-Some-get : goal.returns-in-Some-get
returns-in-Some-get c =
    let list = c.args.self.now in
    let kept = c.self.inside.kept in
    let holds = subst (λ (l : List Member). Holds l kept.linked) c.self.view_is c.self.invariant.holds in
    let table = subst (λ (l : List Member). IsOutsideOf l kept.outside) c.self.view_is c.self.invariant.table in
    ap (λ (d : Definition). Some (symbol_of d)) c.definition_at.ensures
    ∙ far_symbol list c.definition_count-count.result c.args.number c.in-Some-get.far table.far (c.definition_count-count.ensures list holds) c.if-number-count.false (sym c.in-Some-get.is ∙ c.get.ensures (outside (setting_in list)) table)

pub returns-in-None-get : goal.returns-in-None-get
returns-in-None-get c =
    let list = c.args.self.now in
    let kept = c.self.inside.kept in
    let holds = subst (λ (l : List Member). Holds l kept.linked) c.self.view_is c.self.invariant.holds in
    let table = subst (λ (l : List Member). IsOutsideOf l kept.outside) c.self.view_is c.self.invariant.table in
    no_far list c.definition_count-count.result c.args.number (c.definition_count-count.ensures list holds) c.if-number-count.false (sym c.in-None-get.is ∙ c.get.ensures (outside (setting_in list)) table)
