use Rattle.std.proofs.Common.{refl, sym, ◌∙◌}
use Rattle.omf_records.specs.Segments.{segment_of_view}
use Rattle.link_program.proofs.MemberPlaceLaws.{no_member, set_place}
use Rattle.link_program.proofs.member_place.place_of_member.Goals as goal

pub returns-in-None : goal.returns-in-None
returns-in-None c = no_member c.args.program.now c.args.place (sym c.member.ensures ∙ c.in-None.is)

pub returns : goal.returns
returns c =
    set_place c.args.program.now c.args.place c.in-Some.member (segment_of_view c.in-Some-view.segment.now)
    (record { place = c.args.place; lab_len = c.in-Some-view.segment.now.header.lab_len; load_segment = c.in-Some.member.load_segment; offset = c.in-Some.member.offset })
    (sym c.in-Some.ensures) (sym c.in-Some-view.ensures.value) refl refl refl refl
