use Rattle.std.proofs.Common.{◌+◌, ℕ, List, length, drop, ap, ◌∙◌}
use Rattle.std.specs.List.{flat_map}
use Rattle.omf_records.specs.Segments.{segment_of_view}
use Rattle.object_meaning.specs.Sizes.{records_with_offsets}
use Rattle.object_meaning.specs.Defines.{title_of, defined_in}
use Rattle.link_meaning.specs.Uses.{Use}
use Rattle.link_meaning.specs.laws.Steps.{data_name}
use Rattle.link_tables.specs.declared.definitions.Origin.{Origin}
use Rattle.link_program.specs.declared.linked.Linked.{Linked}
use Rattle.link_program.specs.Linked.{names_of}
use Rattle.link_tables.proofs.DefinitionLaws.{gains_both, defined_at}
use Rattle.link_program.proofs.LinkedLaws.{usings_are, held_more}
use Rattle.link_program.proofs.linked.Linked.add.Goals as goal

pub returns-clause-added : goal.returns-clause-added
unfolding defined_in
returns-clause-added c = λ list m of same holds.
    let old = c.args.self.now in
    let s = segment_of_view c.args.segment.now in
    let place = length c.as_slice.result.now + 1 in
    let new : Linked = record { members = c.push.new.self; names = c.add_data_name.new.names; usings = c.add.new.self; definitions = c.add_body.new.definitions; titles = c.add_data_title.new.titles; uses = c.add_body.new.uses } in
    let defines = gains_both old.definitions c.add_title.new.self c.add_body.new.definitions c.args.origin place (title_of s) (flat_map defined_at (records_with_offsets s)) c.in_ok-add_title.ensures c.in_ok-add_body.ensures.defines in
    let names = usings_are place s old.uses c.add_body.new.uses c.in_ok-names.names.items c.in_ok-add_body.ensures.gave
    (c.in_ok-names.ensures ∙ ap (λ (k : ℕ). flat_map (λ (u : ℕ × Use). data_name u.1) (drop k c.add_body.new.uses)) c.count-before.ensures) in
    held_more list m old new s c.args.origin (names_of c.in_ok-names.names.items) place of same holds (ap (λ (l : List Origin). length l + 1) c.as_slice.ensures.value) c.in_ok-push.ensures.items
    c.in_ok-add_data_name.ensures defines c.in_ok-add_data_title.ensures c.in_ok-add_body.ensures.gave c.in_ok-add_body.ensures.short names c.in_ok-add.ensures.listed c.in_ok-add.ensures.each
