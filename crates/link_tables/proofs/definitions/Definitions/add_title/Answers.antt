use Rattle.std.proofs.Common.{◌≡◌, length, arith}
use Rattle.omf_records.specs.Segments.{segment_of_view}
use Rattle.link_tables.proofs.OnOks.{on_ok}
use Rattle.link_tables.proofs.Lists.{empty, not_empty}
use Rattle.link_tables.proofs.DefinitionLaws.{titled_none, titled}
use Rattle.link_tables.proofs.definitions.Definitions.add_title.Goals as goal

pub returns-then-is_empty : goal.returns-then-is_empty
returns-then-is_empty c =
    let none : length c.title-name.result.now ≡ 0 = grind (arith, c.is_empty.ensures, c.if-is_empty.true) in
    titled_none c.args.self.now c.args.origin c.args.place (segment_of_view c.args.segment.now) c.title-name.result.now c.title-name.ensures (empty c.title-name.result.now none)

pub returns : goal.returns
returns c =
    let some : length c.title-name.result.now ≡ 0 → ⊥ = λ e. grind (arith, e, c.is_empty.ensures, c.if-is_empty.false) in
    on_ok c.push.result _ _
    (λ pushes. titled c.args.self.now c.push.new.self c.args.origin c.args.place (segment_of_view c.args.segment.now) c.title-name.result.now c.is_private.result c.outer_step-step.result
    c.title-name.ensures (not_empty c.title-name.result.now some) c.is_private.ensures c.outer_step-step.ensures pushes) c.push.ensures
