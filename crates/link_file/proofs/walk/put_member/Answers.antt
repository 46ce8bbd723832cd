use Rattle.std.proofs.Common.{◌≡◌, inl, inr, ◌+◌, ◌-◌, ◌≤◌, ℕ, Some, length, get_or, refl, ap, sym, subst, ◌∙◌, arith}
use Rattle.std.specs.Prelude.{slice_get, slice_set}
use Rattle.std.proofs.lemmas.Option.{slice_get_read}
use Rattle.omf_records.specs.Segments.{segment_of_view}
use Rattle.link_program.specs.Outside.{all_found}
use Rattle.link_meaning.specs.laws.LinkedWalk.{linked_after}
use Rattle.link_meaning.specs.declared.fault.LinkFault.{LinkFault}
use Rattle.link_program.specs.Linked.{member_at}
use Rattle.link_values.specs.Slots.{rows_of}
use Rattle.link_file.specs.Walks.{IsWalkedTo}
use Rattle.link_file.proofs.WalkedLaws.{load_within, stands_after, walked_more, first_fault, load_some, next_walked, segment_is, member_place_there, member_place_gone}
use Rattle.link_file.proofs.walk.put_member.Goals as goal

counted : (n : ℕ) → 1 ≤ n → n - 1 + 1 ≡ n
counted n le = omega (arith, le)

pub unreachable-requires : goal.unreachable-requires
unreachable-requires c =
    let list = c.args.context.now.link.program.now in
    let reported = rows_of (all_found list) c.args.context.now.slots.now in
    let place = c.args.place in
    let w = c.requires.walked in
    let again = counted place c.requires.first in
    let n = next_walked list reported (place - 1) c.args.table.now c.args.contents.now.items w (omega (arith, c.requires.first, c.requires.inside)) in
    let there : member_at list place ≡ Some n.0 = ap (member_at list) (sym again) ∙ n.3 in
    member_place_gone list place n.0 there c.in-None.ensures

pub overflow_sub-number : goal.overflow_sub-number
overflow_sub-number c =
    let list = c.args.context.now.link.program.now in
    let reported = rows_of (all_found list) c.args.context.now.slots.now in
    let place = c.args.place in
    let w = c.requires.walked in
    let again = counted place c.requires.first in
    let n = next_walked list reported (place - 1) c.args.table.now c.args.contents.now.items w (omega (arith, c.requires.first, c.requires.inside)) in
    let there : member_at list place ≡ Some n.0 = ap (member_at list) (sym again) ∙ n.3 in
    let member_place = c.in-Some.member_place in
    let s = member_place_there list place n.0 member_place there c.in-Some.ensures in
    let segment = segment_is list place n.0 (segment_of_view c.in-Some-view.segment.now) there c.in-Some-view.ensures.value in
    omega (arith, load_some list n.0, s.1.load, c.from-number.ensures)

pub index_mut-requires : goal.index_mut-requires
index_mut-requires c =
    let list = c.args.context.now.link.program.now in
    let reported = rows_of (all_found list) c.args.context.now.slots.now in
    let place = c.args.place in
    let w = c.requires.walked in
    let again = counted place c.requires.first in
    let n = next_walked list reported (place - 1) c.args.table.now c.args.contents.now.items w (omega (arith, c.requires.first, c.requires.inside)) in
    let there : member_at list place ≡ Some n.0 = ap (member_at list) (sym again) ∙ n.3 in
    let member_place = c.in-Some.member_place in
    let s = member_place_there list place n.0 member_place there c.in-Some.ensures in
    let segment = segment_is list place n.0 (segment_of_view c.in-Some-view.segment.now) there c.in-Some-view.ensures.value in
    let within = load_within list reported (place - 1) c.args.table.now c.args.contents.now.items w n.0 n.1 member_place (segment_of_view c.in-Some-view.segment.now) n.2 (s.0 ∙ sym again) s.1 segment in
    omega (arith, within, c.from-number.ensures, c.args.contents.now.ok)

pub put_segment-requires-clause-stood : goal.put_segment-requires-clause-stood
put_segment-requires-clause-stood c =
    let list = c.args.context.now.link.program.now in
    let reported = rows_of (all_found list) c.args.context.now.slots.now in
    let place = c.args.place in
    let w = c.requires.walked in
    let again = counted place c.requires.first in
    let n = next_walked list reported (place - 1) c.args.table.now c.args.contents.now.items w (omega (arith, c.requires.first, c.requires.inside)) in
    let there : member_at list place ≡ Some n.0 = ap (member_at list) (sym again) ∙ n.3 in
    let member_place = c.in-Some.member_place in
    let s = member_place_there list place n.0 member_place there c.in-Some.ensures in
    let segment = segment_is list place n.0 (segment_of_view c.in-Some-view.segment.now) there c.in-Some-view.ensures.value in
    let load = member_place.load_segment - 1 in
    let number : c.from-number.result - 1 ≡ load = ap (λ (k : ℕ). k - 1) c.from-number.ensures in
    let within = load_within list reported (place - 1) c.args.table.now c.args.contents.now.items w n.0 n.1 member_place (segment_of_view c.in-Some-view.segment.now) n.2 (s.0 ∙ sym again) s.1 segment in
    let at : slice_get c.args.contents.now.items load ≡ Some c.index_mut.result.now = slice_get_read c.args.contents.now.items (length c.args.contents.now.items) load c.index_mut.result.now refl within (c.index_mut.ensures.value ∙ ap (λ (k : ℕ). get_or c.args.contents.now.items k c.index_mut.result.now) number) in
    let stands = stands_after list reported (place - 1) c.args.table.now c.args.contents.now.items w n.0 n.1 member_place (segment_of_view c.in-Some-view.segment.now) n.2 (s.0 ∙ sym again) s.1 segment c.index_mut.result.now at in
    record { front = w.front; m = n.0; back = n.1; cells = linked_after list reported n.0.segment.fields.load_name w.front; stands = stands }

pub returns-in-Ok-clause-ok : goal.returns-in-Ok-clause-ok
returns-in-Ok-clause-ok c =
    let list = c.args.context.now.link.program.now in
    let reported = rows_of (all_found list) c.args.context.now.slots.now in
    let place = c.args.place in
    let w = c.requires.walked in
    let again = counted place c.requires.first in
    let n = next_walked list reported (place - 1) c.args.table.now c.args.contents.now.items w (omega (arith, c.requires.first, c.requires.inside)) in
    let there : member_at list place ≡ Some n.0 = ap (member_at list) (sym again) ∙ n.3 in
    let member_place = c.in-Some.member_place in
    let s = member_place_there list place n.0 member_place there c.in-Some.ensures in
    let segment = segment_is list place n.0 (segment_of_view c.in-Some-view.segment.now) there c.in-Some-view.ensures.value in
    let load = member_place.load_segment - 1 in
    let number : c.from-number.result - 1 ≡ load = ap (λ (k : ℕ). k - 1) c.from-number.ensures in
    let within = load_within list reported (place - 1) c.args.table.now c.args.contents.now.items w n.0 n.1 member_place (segment_of_view c.in-Some-view.segment.now) n.2 (s.0 ∙ sym again) s.1 segment in
    let at : slice_get c.args.contents.now.items load ≡ Some c.index_mut.result.now = slice_get_read c.args.contents.now.items (length c.args.contents.now.items) load c.index_mut.result.now refl within (c.index_mut.ensures.value ∙ ap (λ (k : ℕ). get_or c.args.contents.now.items k c.index_mut.result.now) number) in
    let stands = stands_after list reported (place - 1) c.args.table.now c.args.contents.now.items w n.0 n.1 member_place (segment_of_view c.in-Some-view.segment.now) n.2 (s.0 ∙ sym again) s.1 segment c.index_mut.result.now at in
    let p = c.in-Ok.ensures.ok w.front n.0 n.1 (linked_after list reported n.0.segment.fields.load_name w.front) stands in
    let more = walked_more list reported (place - 1) c.args.table.now c.args.contents.now.items w n.0 n.1 member_place (segment_of_view c.in-Some-view.segment.now) n.2 (s.0 ∙ sym again) s.1 segment c.put_segment.new.table c.put_segment.new.content p in
    subst (λ (k : ℕ). IsWalkedTo list reported k c.put_segment.new.table (slice_set c.args.contents.now.items (c.from-number.result - 1) c.put_segment.new.content)) again
    (subst (λ (k : ℕ). IsWalkedTo list reported (place - 1 + 1) c.put_segment.new.table (slice_set c.args.contents.now.items k c.put_segment.new.content)) (sym number) more)

pub value_fault-requires : goal.value_fault-requires
value_fault-requires c =
    let list = c.args.context.now.link.program.now in
    let reported = rows_of (all_found list) c.args.context.now.slots.now in
    let place = c.args.place in
    let again = counted place c.requires.first in
    let n = next_walked list reported (place - 1) c.args.table.now c.args.contents.now.items c.requires.walked (omega (arith, c.requires.first, c.requires.inside)) in
    (n.0, ap (member_at list) (sym again) ∙ n.3)

pub returns-in-Err : goal.returns-in-Err
returns-in-Err c =
    let list = c.args.context.now.link.program.now in
    let reported = rows_of (all_found list) c.args.context.now.slots.now in
    let place = c.args.place in
    let w = c.requires.walked in
    let again = counted place c.requires.first in
    let n = next_walked list reported (place - 1) c.args.table.now c.args.contents.now.items w (omega (arith, c.requires.first, c.requires.inside)) in
    let there : member_at list place ≡ Some n.0 = ap (member_at list) (sym again) ∙ n.3 in
    let member_place = c.in-Some.member_place in
    let s = member_place_there list place n.0 member_place there c.in-Some.ensures in
    let segment = segment_is list place n.0 (segment_of_view c.in-Some-view.segment.now) there c.in-Some-view.ensures.value in
    let load = member_place.load_segment - 1 in
    let number : c.from-number.result - 1 ≡ load = ap (λ (k : ℕ). k - 1) c.from-number.ensures in
    let within = load_within list reported (place - 1) c.args.table.now c.args.contents.now.items w n.0 n.1 member_place (segment_of_view c.in-Some-view.segment.now) n.2 (s.0 ∙ sym again) s.1 segment in
    let at : slice_get c.args.contents.now.items load ≡ Some c.index_mut.result.now = slice_get_read c.args.contents.now.items (length c.args.contents.now.items) load c.index_mut.result.now refl within (c.index_mut.ensures.value ∙ ap (λ (k : ℕ). get_or c.args.contents.now.items k c.index_mut.result.now) number) in
    let stands = stands_after list reported (place - 1) c.args.table.now c.args.contents.now.items w n.0 n.1 member_place (segment_of_view c.in-Some-view.segment.now) n.2 (s.0 ∙ sym again) s.1 segment c.index_mut.result.now at in
    record {
      ok = tt;
      err = elim (c.value_fault.ensures.reported n.0 there) [
        | inl memory ↦ inl memory
        | inr fault ↦ elim (c.in-Err.ensures.err w.front n.0 n.1 (linked_after list reported n.0.segment.fields.load_name w.front) stands) [
          | inl memory ↦ absurd (fault.0 memory)
          | inr unmade ↦ inr (first_fault list reported (place - 1) c.args.table.now c.args.contents.now.items w n.0 n.1 member_place (segment_of_view c.in-Some-view.segment.now) n.2 (s.0 ∙ sym again) s.1 segment c.in-Err.cause c.in-Err.at c.value_fault.result unmade (ap (λ (f : LinkFault). f.cause) fault.1) (ap (λ (f : LinkFault). f.name) fault.1) (ap (λ (f : LinkFault). f.spot) fault.1))
        ]
      ];
    }
