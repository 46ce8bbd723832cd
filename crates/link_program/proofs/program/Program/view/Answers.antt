use Rattle.std.proofs.Common.{List, sym, ap, ◌∙◌}
use Rattle.std.specs.Prelude.{option_map}
use Rattle.omf_format.specs.File.{Segment}
use Rattle.omf_records.specs.Segments.{segment_of_view}
use Rattle.link_meaning.specs.Member.{Member}
use Rattle.link_program.specs.Files.{segment_in}
use Rattle.link_program.specs.Programs.{list_of}
use Rattle.link_program.proofs.MemberLaws.{shown_in_input}
use Rattle.link_program.proofs.ProgramLaws.{reported_at, segment_reported, member_reported}
use Rattle.link_program.proofs.program.Program.view.Goals as goal

abbrev value_is : goal.returns-in-Some-clause-value
value_is c =
    let kept = c.self.inside.kept in
    let list = list_of kept in
    let reported = reported_at list c.args.place c.origin.result c.in-Some.origin (c.origin.ensures list c.self.invariant.holds) c.in-Some.is in
    rw (← c.self.view_is)
    (c.segment_in.ensures.value ∙ ap (λ (files : List (List Segment)). segment_in files c.in-Some.origin.file c.in-Some.origin.segment) c.as_slice.ensures.value
    ∙ segment_reported kept.files.items list c.args.place c.in-Some.origin reported c.self.invariant.among
    ∙ sym (ap (option_map (λ (m : Member). m.segment)) (member_reported list c.args.place c.in-Some.origin reported)))

pub returns-in-Some-clause-value : goal.returns-in-Some-clause-value
returns-in-Some-clause-value c = value_is c

pub returns-in-Some-clause-input : goal.returns-in-Some-clause-input
returns-in-Some-clause-input c = shown_in_input c.rows_are_laid_out.ensures.laid_out c.args.self.now c.args.place (λ view. segment_of_view view.now) c.segment_in.result (value_is c)
