use Rattle.std.proofs.Common.{◌≡◌, ◌+◌, ◌++◌, ◌∷◌, [], List, take, refl, sym, ap, subst, ◌∙◌, append_assoc, arith}
use Rattle.omf_records.specs.Segments.{segment_of_view}
use Rattle.omf_records.specs.SegmentLaws.{shown_at}
use Rattle.link_meaning.specs.Member.{Member, members_from}
use Rattle.link_program.specs.Linked.{Holds}
use Rattle.link_resolve.proofs.GatherLaws.{members_more, member_as}
use Rattle.link_program.proofs.BodyLengths.{body_short}
use Rattle.link_resolve.proofs.gather.add_object.Goals as goal

pub add-requires-clause-short : goal.add-requires-clause-short
add-requires-clause-short c =
    let there = shown_at c.args.list.now c.segments.number c.in-Some.segment.now c.in-Some.ensures.value in
    let short = body_short c.args.list.now c.segments.number (segment_of_view c.in-Some.segment.now) c.requires.sound there in
    omega (arith, short, c.length_of-length.ensures, c.length_of-length.type_inv)

pub segments-preserved : goal.segments-preserved
segments-preserved c =
    let there = shown_at c.args.list.now c.segments.number c.in-Some.segment.now c.in-Some.ensures.value in
    let s = segment_of_view c.in-Some.segment.now in (
      omega (arith, c.segments-test.true, c.count.ensures),
      omega (arith, c.segments.invariant.1, c.in_ok-add.ensures.one),
      λ setting before holds.
          let list = before ++ members_from setting c.args.file 1 (take c.segments.number c.args.list.now) in
          let number : 1 + c.segments.number ≡ c.segments.number + 1 = omega arith in
          let m : Member = member_as setting c.args.file (1 + c.segments.number) s in
          subst (λ (l : List Member). Holds l c.add.new.self)
          (append_assoc before (members_from setting c.args.file 1 (take c.segments.number c.args.list.now)) (m ∷ []) ∙ ap (λ (l : List Member). before ++ l) (sym (members_more setting c.args.file 1 c.args.list.now c.segments.number s there)))
          (c.in_ok-add.ensures.added list m (refl, number, refl) refl (c.segments.invariant.2 setting before holds)),
    )
