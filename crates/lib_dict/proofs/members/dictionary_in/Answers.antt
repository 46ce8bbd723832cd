use Rattle.std.proofs.Common.{◌≡◌, true, false, sym, ◌∙◌}
use Rattle.std.proofs.lemmas.Bool.{eq-eqb, ne_eqb}
use Rattle.omf_format.specs.Header.{form_of}
use Rattle.omf_records.specs.Segments.{segment_of_view}
use Rattle.lib_dict.specs.Library.{is_dictionary}
use Rattle.lib_dict.proofs.MemberLaws.{passed_next, passed_found}
use Rattle.lib_dict.proofs.members.dictionary_in.Goals as goal

pub returns-then-form-eq-DICTIONARY : goal.returns-then-form-eq-DICTIONARY
returns-then-form-eq-DICTIONARY c =
    let s = segment_of_view c.in-Some.view.now in
    let is : is_dictionary s ≡ true = eq-eqb (form_of s.fields.kind) 8 (sym c.form.ensures ∙ c.if-form-eq-DICTIONARY.true) in
    passed_found c.args.list.now c.segments.passed c.in-Some.view.now c.segments.invariant c.in-Some.ensures.value is

pub segments-preserved : goal.segments-preserved
segments-preserved c =
    let s = segment_of_view c.in-Some.view.now in
    let other : is_dictionary s ≡ false = ne_eqb (form_of s.fields.kind) 8 (λ e. c.if-form-eq-DICTIONARY.false (c.form.ensures ∙ e)) in
    passed_next c.args.list.now c.segments.passed c.in-Some.view.now c.segments.invariant c.in-Some.ensures.value other
