use Rattle.std.proofs.Common.{◌≡◌, List, Some, None, refl, sym, ap, ◌∙◌}
use Rattle.omf_format.specs.File.{Segment, segment_at}
use Rattle.load_tables.specs.View.{seen_export}
use Rattle.link_program.specs.declared.outside.Far.{Far}
use Rattle.link_tables.proofs.OnOks.{on_ok}
use Rattle.link_program.proofs.OutsideTables.{added_export, no_export, segment_there, no_segment}
use Rattle.link_program.proofs.outside.OutsideNames.add_export.Goals as goal

pub returns-in-Some : goal.returns-in-Some
returns-in-Some c =
    let load = c.args.load.now in
    let e = seen_export c.args.export in
    let at = segment_there _ (segment_at load c.from.result) c.in-Some.ensures in
    let place : Far = record { file = c.args.file; segment = c.args.export.segment; offset = c.args.export.offset } in
    on_ok c.push.result _ _
    (λ adds fs r same are.
    let there : segment_at r.segments e.segment ≡ Some at.0 = ap (λ (l : List Segment). segment_at l e.segment) same ∙ ap (segment_at load) (sym c.from.ensures) ∙ at.1 in
    added_export fs c.args.file r e (segment_at r.segments e.segment) at.0 c.args.self.now c.push.new.self e.name place are refl there refl refl adds)
    c.push.ensures

pub returns-in-None : goal.returns-in-None
returns-in-None c = λ fs r same are.
    let load = c.args.load.now in
    let e = seen_export c.args.export in
    let none : segment_at r.segments e.segment ≡ None =
    ap (λ (l : List Segment). segment_at l e.segment) same ∙ ap (segment_at load) (sym c.from.ensures) ∙ no_segment load c.from.result c.in-None.ensures in
    no_export fs c.args.file r e (segment_at r.segments e.segment) c.args.self.now are refl none
