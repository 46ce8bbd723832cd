use Rattle.std.proofs.Common.{List, ap, ◌∙◌}
use Rattle.std.specs.Prelude.{option_map}
use Rattle.omf_records.specs.Segments.{segment_of_view}
use Rattle.link_meaning.specs.Member.{Member}
use Rattle.link_program.specs.Linked.{member_at}
use Rattle.link_map.proofs.ListLaws.{reported_segment, untold_segment}
use Rattle.link_map.proofs.members.put_exported.Goals as goal

pub put_listed-requires-clause-there : goal.put_listed-requires-clause-there
put_listed-requires-clause-there c = record {
  member = c.requires.0;
  there = c.requires.1;
  segment = reported_segment c.args.values.now.list c.args.place c.requires.0 (segment_of_view c.in-Some.segment.now) c.requires.1
      (c.in-Some.ensures.value ∙ ap (λ (l : List Member). option_map (λ (o : Member). o.segment) (member_at l c.args.place)) c.program-program.ensures);
}

pub unreachable-requires : goal.unreachable-requires
unreachable-requires c =
    untold_segment c.args.values.now.list c.args.place c.requires.0 c.requires.1
    (c.in-None.ensures.value ∙ ap (λ (l : List Member). option_map (λ (o : Member). o.segment) (member_at l c.args.place)) c.program-program.ensures)
