use Rattle.std.proofs.Common.{◌≡◌, ℕ, [], ◌∷◌, ◌++◌, List, sym, ap, ◌∙◌, append_assoc}
use Rattle.dump_lines.specs.Steps.{record_line}
use Rattle.std.specs.List.{flat_map}
use Rattle.omf_format.specs.Record.{Record}
use Rattle.omf_records.specs.View.{view}
use Rattle.omf_format.specs.Field.{length_width_of}
use Rattle.omf_format.specs.Reading.{records_of}
use Rattle.omf_records.specs.WalkLaws.{walk_on, walk_ends, walk_fails, gives_more}
use Rattle.dump_lines.proofs.dump.put_records.Goals as goal

pub returns-in-Ok-None : goal.returns-in-Ok-None
returns-in-Ok-None c =
    let lines = record_line (length_width_of c.args.version) in
    let so_far = c.records.invariant in
    let end = sym (rw c.in-Ok-None.field-0-is at c.in-Ok-None.ensures.answer) in
    so_far.2
    ∙ ap (λ (l : List (ℕ × Record)). c.args.line.now ++ flat_map lines l) (walk_ends c.args.records c.records.records c.requires.last so_far.0 (records_of c.args.records) so_far.1 end c.requires.run c.requires.ended)

pub put_record_line-requires : goal.put_record_line-requires
put_record_line-requires c = (c.records.records.layout, rw c.in-Ok-Some.field-0-is at c.in-Ok-Some.ensures.formed)

pub records-preserved : goal.records-preserved
records-preserved c =
    let lines = record_line (length_width_of c.args.version) in
    let so_far = c.records.invariant in
    let found : ℕ × Record = (c.in-Ok-Some.found.0, view c.in-Ok-Some.found.1) in
    let end = sym (rw c.in-Ok-Some.field-0-is at c.in-Ok-Some.ensures.answer) in
    let line : c.put_record_line.new.line ≡ c.args.line.now ++ flat_map lines (so_far.0 ++ found ∷ []) =
    c.in_ok-put_record_line-in-Ok-Some.ensures
    ∙ ap (λ (l : List ℕ). l ++ lines found) so_far.2
    ∙ append_assoc c.args.line.now (flat_map lines so_far.0) (lines found)
    ∙ ap (λ (l : List ℕ). c.args.line.now ++ l) (gives_more lines so_far.0 found) in
    (so_far.0 ++ found ∷ [], walk_on c.args.records c.records.records c.next.new.self so_far.0 found so_far.1 end c.in-Ok-Some.ensures.after, line)

pub unreachable-requires : goal.unreachable-requires
unreachable-requires c =
    let so_far = c.records.invariant in
    walk_fails c.args.records c.records.records so_far.0 c.in-Err.field-0 c.requires so_far.1 (sym c.in-Err.ensures.answer)
