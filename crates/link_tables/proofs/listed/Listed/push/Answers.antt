use Rattle.std.proofs.Common.{List, length, ap}
use Rattle.std.specs.Prelude.{option_map}
use Rattle.link_tables.specs.declared.listed.DefinitionMark.{DefinitionMark}
use Rattle.link_tables.specs.Listed.{expr_at}
use Rattle.link_tables.proofs.ListedLaws.{pushed_row}
use Rattle.link_tables.proofs.listed.Listed.push.Goals as goal

pub returns : goal.returns
returns c =
    let old = c.self.inside in
    let d = c.args.definition in
    let mark : DefinitionMark = record { member = d.member; at = d.at; length = d.length; form = d.form; is_equate = c.in_ok-is_equate.is_equate } in
    pushed_row (expr_at old.exprs) (expr_at c.keep_expr.new.exprs) old.marks.items c.push.new.self.items mark (length c.as_slice-number.result.now) (option_map (λ text. text.now) d.expr) c.args.self.now c.in_ok-push.ensures.items
    (ap (λ (l : List DefinitionMark). length l) c.as_slice-number.ensures.value) c.in_ok-is_equate.ensures.others c.in_ok-is_equate.ensures.kept c.self.view_is
