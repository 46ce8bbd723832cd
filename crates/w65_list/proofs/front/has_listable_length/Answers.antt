use Rattle.std.proofs.Common.{◌-◌, sym, subst, refl, arith}
use Rattle.omf_format.specs.Reading.{Reader, records_of}
use Rattle.omf_records.specs.Segments.{segment_of_view}
use Rattle.w65_list.specs.FrontView.{HaveCells, AreOver}
use Rattle.w65_list.proofs.FrontLaws.{length_found, length_over}
use Rattle.w65_list.proofs.front.has_listable_length.Goals as goal

pub returns-in-Some : goal.returns-in-Some
returns-in-Some c =
    let s = segment_of_view c.args.view.now in
    let have = subst (λ (r : Reader). HaveCells c.in-Some.found (records_of r)) c.records.ensures c.in-Some.ensures in
    length_found s (s.fields.length - s.fields.res_spc) c.in-Some.found refl c.if-header.false (omega (arith, c.if-header-greatest_length.false, c.greatest_length.ensures)) have

pub returns-in-None : goal.returns-in-None
returns-in-None c =
    let s = segment_of_view c.args.view.now in
    let over = subst (λ (r : Reader). AreOver (s.fields.length - s.fields.res_spc) (records_of r)) c.records.ensures c.in-None.ensures in
    sym (length_over s (s.fields.length - s.fields.res_spc) refl c.if-header.false over)
