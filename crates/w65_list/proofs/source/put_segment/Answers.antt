use Rattle.std.proofs.Common.{◌≡◌, ℕ, List, [], ◌∷◌, Err, ap, subst}
use Rattle.omf_format.specs.File.{body_reader}
use Rattle.omf_format.specs.Reading.{Reader, records_of}
use Rattle.omf_records.specs.Segments.{segment_of_view}
use Rattle.list_meaning.specs.Listing.{listing_of, both_long}
use Rattle.list_meaning.specs.laws.Steps.{at_front, equates_of}
use Rattle.w65_list.specs.BeforeView.{IsBefore}
use Rattle.w65_list.proofs.SourceLaws.{failed, refusal_of, segment_front, names_of, segment_answer, segment_refusal}
use Rattle.w65_list.proofs.source.put_segment.Goals as goal

pub returns-in-Err-clause-refused : goal.returns-in-Err-clause-refused
returns-in-Err-clause-refused c =
    let s = segment_of_view c.args.view.now in
    refusal_of c.in-Err.stop c.refusal_at.result s.start (λ at. listing_of s ≡ Err at) c.refusal_at.ensures (λ stops. segment_front s (c.in-Err.ensures.refused (ap failed stops)))

pub put_records-requires-clause-layout : goal.put_records-requires-clause-layout
unfolding body_reader
put_records-requires-clause-layout c = ap (λ (r : Reader). r.layout.lab_len) c.records-2.ensures

pub put_records-requires-clause-known : goal.put_records-requires-clause-known
put_records-requires-clause-known c =
    let s = segment_of_view c.args.view.now in
    let first = subst (λ (name : List ℕ). IsBefore c.in_ok-before.before (record { widths = both_long; run = []; names = name ∷ [] })) c.bytes.ensures.value c.in_ok-before.ensures in
    (at_front s.fields, equates_of s, first, names_of c.records.result s c.in_ok-names.names (ap records_of c.records.ensures) c.in_ok-names.ensures)

pub returns-clause-wrote : goal.returns-clause-wrote
returns-clause-wrote c =
    let s = segment_of_view c.args.view.now in
    let first = subst (λ (name : List ℕ). IsBefore c.in_ok-before.before (record { widths = both_long; run = []; names = name ∷ [] })) c.bytes.ensures.value c.in_ok-before.ensures in
    let names = names_of c.records.result s c.in_ok-names.names (ap records_of c.records.ensures) c.in_ok-names.ensures in
    segment_answer c.put_records.result s c.records-2.result c.in_ok-names.names c.in_ok-before.before c.args.out.now c.put_front.new.out c.put_records.new.out (ap records_of c.records-2.ensures) c.in_default.ensures.listable c.in_default.ensures.wrote
    first names c.put_records.ensures.wrote

pub returns-clause-refused : goal.returns-clause-refused
returns-clause-refused c =
    let s = segment_of_view c.args.view.now in
    let first = subst (λ (name : List ℕ). IsBefore c.in_ok-before.before (record { widths = both_long; run = []; names = name ∷ [] })) c.bytes.ensures.value c.in_ok-before.ensures in
    let names = names_of c.records.result s c.in_ok-names.names (ap records_of c.records.ensures) c.in_ok-names.ensures in
    segment_refusal c.put_records.result s c.records-2.result c.in_ok-names.names c.in_ok-before.before (ap records_of c.records-2.ensures) c.in_default.ensures.listable first names c.put_records.ensures.refused
