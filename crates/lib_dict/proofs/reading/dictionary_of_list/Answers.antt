use Rattle.std.proofs.Common.{◌≡◌, ℕ, List, sym, ap, subst, ◌∙◌}
use Rattle.std.proofs.lemmas.Result.{err_from_is_err_and}
use Rattle.omf_format.specs.Header.{form_of}
use Rattle.omf_format.specs.Record.{Record}
use Rattle.omf_format.specs.Reading.{records_of}
use Rattle.omf_records.specs.Segments.{segment_of_view}
use Rattle.lib_dict.specs.Parts.{DictionaryTexts, seen_parts, HasParts}
use Rattle.lib_dict.proofs.ReadLaws.{none_first, other_first, false_first, row_views, false_rows, parts_fit}
use Rattle.lib_dict.proofs.RowCounts.{few_rows}
use Rattle.lib_dict.proofs.reading.dictionary_of_list.Goals as goal

pub returns-in-None-clause-refused : goal.returns-in-None-clause-refused
returns-in-None-clause-refused c = λ file is. none_first c.args.list.now file is.is_file c.in-None.ensures.value

pub returns-then-form-ne-DICTIONARY-clause-refused : goal.returns-then-form-ne-DICTIONARY-clause-refused
returns-then-form-ne-DICTIONARY-clause-refused c = λ file is.
    other_first c.args.list.now file (segment_of_view c.in-Some.view.now) is.is_file c.in-Some.ensures.value (λ e. c.if-form-ne-DICTIONARY.true (c.form.ensures ∙ e))

pub returns-in-None-parts_of-clause-refused : goal.returns-in-None-parts_of-clause-refused
returns-in-None-parts_of-clause-refused c = λ file is.
    let s = segment_of_view c.in-Some.view.now in
    let form : form_of s.fields.kind ≡ 0x08 = sym c.form.ensures ∙ c.if-form-ne-DICTIONARY.false in
    let body : records_of c.records.result ≡ s.records = ap records_of c.records.ensures in
    let none = subst (λ (l : List (ℕ × Record)). (parts : DictionaryTexts) → HasParts parts l → ⊥) body c.in-None-parts_of.ensures in
    false_first c.args.list.now file s is.is_file c.in-Some.ensures.value form none

pub rows_in-requires-clause-place : goal.rows_in-requires-clause-place
rows_in-requires-clause-place c =
    let s = segment_of_view c.in-Some.view.now in
    let parts = seen_parts c.in-Some-parts_of.parts in
    let body : records_of c.records.result ≡ s.records = ap records_of c.records.ensures in
    let has : HasParts parts s.records = subst (HasParts parts) body c.in-Some-parts_of.ensures in
    parts_fit c.args.list.now c.requires.0 s parts c.requires.1.bytes c.requires.1.short c.requires.1.is_file c.in-Some.ensures.value has

pub returns-clause-rows : goal.returns-clause-rows
returns-clause-rows c = λ file is.
    let s = segment_of_view c.in-Some.view.now in
    let parts = seen_parts c.in-Some-parts_of.parts in
    let form : form_of s.fields.kind ≡ 0x08 = sym c.form.ensures ∙ c.if-form-ne-DICTIONARY.false in
    let body : records_of c.records.result ≡ s.records = ap records_of c.records.ensures in
    let has : HasParts parts s.records = subst (HasParts parts) body c.in-Some-parts_of.ensures in
    row_views c.args.list.now file s parts c.in_ok-rows.rows.items is.is_file c.in-Some.ensures.value form has c.in_ok-rows.ensures.ok

pub returns-in_err-rows-clause-refused : goal.returns-in_err-rows-clause-refused
returns-in_err-rows-clause-refused c =
    let p = err_from_is_err_and c.from_residual.result c.from_residual.ensures.1 in
    let s = segment_of_view c.in-Some.view.now in
    let parts = seen_parts c.in-Some-parts_of.parts in
    let form : form_of s.fields.kind ≡ 0x08 = sym c.form.ensures ∙ c.if-form-ne-DICTIONARY.false in
    let body : records_of c.records.result ≡ s.records = ap records_of c.records.ensures in
    let has : HasParts parts s.records = subst (HasParts parts) body c.in-Some-parts_of.ensures in
    rw (p.1, p.2)
    (λ file is. false_rows c.args.list.now file s parts c.in_err-rows.field-0.0 is.is_file c.in-Some.ensures.value form has c.in_err-rows.ensures.err)

pub returns-clause-few : goal.returns-clause-few
returns-clause-few c = λ file is.
    let s = segment_of_view c.in-Some.view.now in
    let parts = seen_parts c.in-Some-parts_of.parts in
    let body : records_of c.records.result ≡ s.records = ap records_of c.records.ensures in
    let has : HasParts parts s.records = subst (HasParts parts) body c.in-Some-parts_of.ensures in
    few_rows c.args.list.now file s parts c.in_ok-rows.rows.items is.bytes is.is_file c.in-Some.ensures.value has c.in_ok-rows.ensures.ok

pub rows_in-requires-clause-file : goal.rows_in-requires-clause-file
rows_in-requires-clause-file c = record { file = c.requires.0; is_file = c.requires.1.is_file; short = c.requires.1.short }
