use Rattle.std.proofs.Common.{◌≡◌, ℕ, Bool, ◌++◌, ◌∷◌, [], List, map, Some, None, sym, ap, ◌∙◌, append_assoc, arith}
use Rattle.std.proofs.lemmas.List.{map-append}
use Rattle.omf_format.specs.Record.{Record}
use Rattle.omf_format.specs.Field.{Layout}
use Rattle.omf_format.specs.Reading.{Reader, records_of}
use Rattle.omf_format.specs.laws.BodyLaws.{found_by}
use Rattle.omf_records.specs.View.{view}
use Rattle.omf_records.specs.WalkLaws.{walk_on, walk_ends, walk_fails}
use Rattle.lib_dict.specs.Library.{LibraryRow}
use Rattle.lib_dict.specs.View.{outer_row, outer_of, row_of_name, record_rows}
use Rattle.lib_dict.proofs.Outers.{rows-push_some, rows-push_none, outer_short}
use Rattle.lib_dict.proofs.outer.put_records.Goals as goal

pub returns-in-Ok-None : goal.returns-in-Ok-None
returns-in-Ok-None c =
    let so_far = c.records.invariant in
    let none = sym (rw c.in-Ok-None.field-0-is at c.in-Ok-None.ensures.answer) in
    let all = walk_ends c.args.records c.records.records c.requires.body.last so_far.before (records_of c.args.records) so_far.run none c.requires.body.run c.requires.body.ended in
    so_far.rows ∙ ap (λ (before : List (ℕ × Record)). map outer_row c.args.rows.now.items ++ record_rows c.args.file c.args.at before) all

pub records-preserved-in-Continue-1 : goal.records-preserved-in-Continue-1
records-preserved-in-Continue-1 c =
    let so_far = c.records.invariant in
    let found : ℕ × Record = (c.in-Ok-Some.found.0, view c.in-Ok-Some.found.1) in
    let some = sym (rw c.in-Ok-Some.field-0-is at c.in-Ok-Some.ensures.answer) in
    let n : List ℕ × Bool = (c.in-Some.name.now, c.in-Some.private) in
    let named : Some n ≡ outer_of found.1 = rw c.in-Some.is at c.outer_of.ensures in
    let front = map outer_row c.args.rows.now.items in
    let row = row_of_name c.args.file c.args.at n in
    record {
      before = so_far.before ++ found ∷ [];
      run = walk_on c.args.records c.records.records c.next.new.self so_far.before found so_far.run some c.in-Ok-Some.ensures.after;
      same = ap (λ (r : Reader). r.layout) c.in-Ok-Some.ensures.after ∙ (found_by c.records.records found some).layout ∙ so_far.same;
      rows =
          ap (map outer_row) c.in_ok-push-in-Some.ensures.items
          ∙ map-append outer_row c.records.rows.items _
          ∙ ap (λ (l : List LibraryRow). l ++ row ∷ []) so_far.rows
          ∙ append_assoc front (record_rows c.args.file c.args.at so_far.before) (row ∷ [])
          ∙ ap (λ (l : List LibraryRow). front ++ l) (rows-push_some c.args.file c.args.at so_far.before found n named);
    }

pub records-preserved : goal.records-preserved
records-preserved c =
    let so_far = c.records.invariant in
    let found : ℕ × Record = (c.in-Ok-Some.found.0, view c.in-Ok-Some.found.1) in
    let some = sym (rw c.in-Ok-Some.field-0-is at c.in-Ok-Some.ensures.answer) in
    let named : None ≡ outer_of found.1 = rw c.in-None.is at c.outer_of.ensures in
    record {
      before = so_far.before ++ found ∷ [];
      run = walk_on c.args.records c.records.records c.next.new.self so_far.before found so_far.run some c.in-Ok-Some.ensures.after;
      same = ap (λ (r : Reader). r.layout) c.in-Ok-Some.ensures.after ∙ (found_by c.records.records found some).layout ∙ so_far.same;
      rows = so_far.rows ∙ ap (λ (l : List LibraryRow). map outer_row c.args.rows.now.items ++ l) (rows-push_none c.args.file c.args.at so_far.before found named);
    }

pub invariant_of-push : goal.invariant_of-push
invariant_of-push c =
    let so_far = c.records.invariant in
    let found : ℕ × Record = (c.in-Ok-Some.found.0, view c.in-Ok-Some.found.1) in
    let n : List ℕ × Bool = (c.in-Some.name.now, c.in-Some.private) in
    let named : Some n ≡ outer_of found.1 = rw c.in-Some.is at c.outer_of.ensures in
    let formed = rw c.in-Ok-Some.field-0-is at c.in-Ok-Some.ensures.formed in
    record { short = outer_short c.records.records.layout found.1 n formed (omega (arith, ap (λ (l : Layout). l.lab_len) so_far.same, c.requires.narrow)) named }

pub unreachable-requires : goal.unreachable-requires
unreachable-requires c = walk_fails c.args.records c.records.records c.records.invariant.before c.in-Err.field-0 c.requires.body c.records.invariant.run (sym c.in-Err.ensures.answer)
