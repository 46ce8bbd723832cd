use Rattle.std.proofs.Common.{◌≡◌, Some, sym, refl, ap, ◌∙◌}
use Rattle.omf_format.specs.Header.{header_fault, fields_of}
use Rattle.load_meaning.specs.Loadable.{segment_refusal}
use Rattle.omf_format.specs.File.{IsHeader}
use Rattle.omf_header.specs.View.{fields}
use Rattle.load_content.proofs.NamedFaults.{unless}
use Rattle.omf_cells.proofs.FrontFaults.{has_place, of_kind, refused_header}
use Rattle.omf_cells.proofs.front.front_at.Goals as goal

pub header_fault-requires : goal.header_fault-requires
header_fault-requires c =
    has_place c.in-Err.fault c.args.start c.bytes_from-bytes.result.now c.args.file.now c.bytes_from-bytes.ensures.value c.requires.inside c.requires.short c.in-Err.ensures.refused

pub returns-in-Err-clause-err : goal.returns-in-Err-clause-err
returns-in-Err-clause-err c =
    refused_header c.in-Err.fault c.args.number c.args.start c.bytes_from-bytes.result.now c.args.file.now c.header_fault.result c.bytes_from-bytes.ensures.value c.in-Err.ensures.refused c.header_fault.ensures

pub returns-in-Some-clause-err : goal.returns-in-Some-clause-err
returns-in-Some-clause-err c =
    let header : IsHeader c.args.start (fields c.in-Ok.header) c.args.file.now = record {
      passes = ap header_fault (sym c.bytes_from-bytes.ensures.value) ∙ c.in-Ok.ensures.passes;
      fields = c.in-Ok.ensures.fields ∙ ap fields_of c.bytes_from-bytes.ensures.value;
    } in
    let why : segment_refusal (fields c.in-Ok.header) ≡ Some c.in-Some.cause = sym c.refusal.ensures.value ∙ c.in-Some.is in
    unless c.in-Some.cause _ _ (λ memory. c.refusal.ensures.named (c.in-Some.is ∙ ap Some memory)) (refl, of_kind (fields c.in-Ok.header) c.in-Some.cause c.args.start c.args.file.now header why)
