use Rattle.std.proofs.Common.{◌≡◌, inl, inr, sym, ap, ◌∙◌}
use Rattle.omf_format.specs.File.{Segment}
use Rattle.omf_records.specs.Segments.{segment_of_view}
use Rattle.link_tables.proofs.OnOks.{on_ok}
use Rattle.link_tables.proofs.LaidLaws.{spot_is, looked_none, looked_some, load_within}
use Rattle.link_tables.proofs.layout.LinkLayout.add.Goals as goal

pub join-requires : goal.join-requires
join-requires c = load_within c.requires.laid.0 c.args.self.now c.load_name-name.result.now c.look.result c.in-One.load c.requires.laid.1 c.look.ensures (inl c.in-One.is)

pub returns-in-Nothing : goal.returns-in-Nothing
returns-in-Nothing c = on_ok c.open.result _ _
    (λ more list m of same laid.
    let named : c.load_name-name.result.now ≡ m.segment.fields.load_name = c.load_name-name.ensures ∙ ap (λ (s : Segment). s.fields.load_name) (sym same) in
    more list m (same, spot_is m c.args.origin (segment_of_view c.args.segment.now) of same) named (looked_none list c.args.self.now c.load_name-name.result.now c.look.result laid c.look.ensures c.in-Nothing.is) laid)
    c.open.ensures

pub returns-in-One : goal.returns-in-One
returns-in-One c = on_ok c.join.result _ _
    (λ more list m of same laid.
    let named : c.load_name-name.result.now ≡ m.segment.fields.load_name = c.load_name-name.ensures ∙ ap (λ (s : Segment). s.fields.load_name) (sym same) in
    more list m (spot_is m c.args.origin (segment_of_view c.args.segment.now) of same) (ap (λ (s : Segment). s.fields) same)
    (looked_some list c.args.self.now c.load_name-name.result.now m.segment.fields.load_name c.look.result c.in-One.load laid c.look.ensures (inl c.in-One.is) named) laid)
    c.join.ensures

pub join-requires-in-Several : goal.join-requires-in-Several
join-requires-in-Several c = load_within c.requires.laid.0 c.args.self.now c.load_name-name.result.now c.look.result c.in-Several.load c.requires.laid.1 c.look.ensures (inr c.in-Several.is)

pub returns-in-Several : goal.returns-in-Several
returns-in-Several c = on_ok c.join-in-Several.result _ _
    (λ more list m of same laid.
    let named : c.load_name-name.result.now ≡ m.segment.fields.load_name = c.load_name-name.ensures ∙ ap (λ (s : Segment). s.fields.load_name) (sym same) in
    more list m (spot_is m c.args.origin (segment_of_view c.args.segment.now) of same) (ap (λ (s : Segment). s.fields) same)
    (looked_some list c.args.self.now c.load_name-name.result.now m.segment.fields.load_name c.look.result c.in-Several.load laid c.look.ensures (inr c.in-Several.is) named) laid)
    c.join-in-Several.ensures
