use Rattle.std.proofs.Common.{Bool, sym, ap, ◌∙◌}
use Rattle.std.specs.Prelude.{◌&&◌}
use Rattle.std.specs.List.{list_all}
use Rattle.list_lines.specs.NamesView.{is_upper}
use Rattle.list_lines.proofs.NameLaws.{listable_split}
use Rattle.list_lines.proofs.names.is_listable.Goals as goal

pub returns-then-is_upper_start : goal.returns-then-is_upper_start
returns-then-is_upper_start c =
    let following = c.in-Some.following.now in
    c.are_upper.ensures ∙ sym (listable_split c.args.name.now following c.in-Some.first.now c.in-Some.ensures.cases.0 ∙ ap (λ (b : Bool). b && list_all is_upper following) (sym c.is_upper_start.ensures ∙ c.if-is_upper_start.true))

pub returns-else-is_upper_start : goal.returns-else-is_upper_start
returns-else-is_upper_start c =
    let following = c.in-Some.following.now in
    c.if-is_upper_start.false ∙ sym (listable_split c.args.name.now following c.in-Some.first.now c.in-Some.ensures.cases.0 ∙ ap (λ (b : Bool). b && list_all is_upper following) (sym c.is_upper_start.ensures ∙ c.if-is_upper_start.false))
