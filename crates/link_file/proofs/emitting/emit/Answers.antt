use Rattle.std.proofs.Common.{◌+◌, ℕ, Vec, Global, Result, Err, map, sym, ap, subst, ◌∙◌, arith}
use Rattle.std.proofs.lemmas.Result.{err_from_is_err_and}
use Rattle.link_program.specs.Outside.{all_found}
use Rattle.link_file.specs.declared.image.ImageFault.{ImageFault}
use Rattle.link_file.specs.Answers.{IsEmitRefused}
use Rattle.link_values.specs.Equates.{AreValues}
use Rattle.link_content.specs.Fits.{to_load_limits}
use Rattle.link_file.specs.Images.{AreReady, AreLoads}
use Rattle.link_values.specs.Slots.{rows_of}
use Rattle.link_values.proofs.FileFacts.{few_of}
use Rattle.link_file.proofs.LoadLaws.{headers_size, loads_ready}
use Rattle.link_file.proofs.EmitLaws.{refused_cycle, refused_value, refused_size, written_is}
use Rattle.link_file.proofs.emitting.emit.Goals as goal

abbrev failed : ImageFault → Result (Vec ℕ Global) ImageFault
failed fault = Err fault

pub returns-in_err-slots-clause-refused : goal.returns-in_err-slots-clause-refused
returns-in_err-slots-clause-refused c =
    let p = err_from_is_err_and c.from_residual.result c.from_residual.ensures.1 in
    rw (p.1, p.2) (refused_cycle c.args.program.now c.in_err-slots.field-0.0 c.in_err-slots.ensures.refused)

pub overflow_cast-context : goal.overflow_cast-context
overflow_cast-context c = omega (arith, few_of c.args.program.now c.know_files.ensures, headers_size c.args.program.now c.load_headers-headers.result.now c.load_headers-headers.ensures)

pub overflow_add-context : goal.overflow_add-context
overflow_add-context c = omega (arith, few_of c.args.program.now c.know_files.ensures, headers_size c.args.program.now c.load_headers-headers.result.now c.load_headers-headers.ensures)

pub fill-requires-clause-whole : goal.fill-requires-clause-whole
fill-requires-clause-whole c =
    let list = c.args.program.now in
    let values = subst (AreValues list) (sym c.as_slice-2.ensures.value) c.in_ok-slots.ensures.valued in
    record {
      files = c.know_files.ensures;
      known = values.known;
      loads' = c.as_slice.ensures.value ∙ c.in-Ok.ensures ∙ ap (map to_load_limits) c.load_headers-headers.ensures;
      table' = ap (λ (n : ℕ). n + 1) (headers_size list c.load_headers-headers.result.now c.load_headers-headers.ensures);
    }

pub exports_text-requires : goal.exports_text-requires
exports_text-requires c =
    let list = c.args.program.now in
    let values = subst (AreValues list) (sym c.as_slice-2.ensures.value) c.in_ok-slots.ensures.valued in
    record {
      files = c.know_files.ensures;
      known = values.known;
      loads' = c.as_slice.ensures.value ∙ c.in-Ok.ensures ∙ ap (map to_load_limits) c.load_headers-headers.ensures;
      table' = ap (λ (n : ℕ). n + 1) (headers_size list c.load_headers-headers.result.now c.load_headers-headers.ensures);
    }

pub returns-in-Err-fill-clause-refused : goal.returns-in-Err-fill-clause-refused
returns-in-Err-fill-clause-refused c =
    let list = c.args.program.now in
    let values = subst (AreValues list) (sym c.as_slice-2.ensures.value) c.in_ok-slots.ensures.valued in
    refused_value list (rows_of (all_found list) c.as_slice-2.result.now) values.table c.in-Err-fill.fault c.in-Err-fill.ensures.err

pub write_linked-requires-clause-ready : goal.write_linked-requires-clause-ready
write_linked-requires-clause-ready c =
    let list = c.args.program.now in
    let reported = rows_of (all_found list) c.as_slice-2.result.now in
    let headers = c.load_headers-headers.result.now in
    let values = subst (AreValues list) (sym c.as_slice-2.ensures.value) c.in_ok-slots.ensures.valued in
    let filled = c.in-Ok-fill.ensures.ok in
    let loads : AreLoads list reported headers c.in-Ok-fill.contents.items = record { headers' = c.load_headers-headers.ensures; contents' = filled.holds } in
    subst (AreReady headers) (sym c.as_slice-3.ensures.value) (loads_ready c.know_files.ensures.given list reported headers c.in-Ok-fill.contents.items c.know_files.ensures.bytes c.know_files.ensures.resolved values.table filled.made' loads)

pub write_linked-requires-clause-few : goal.write_linked-requires-clause-few
write_linked-requires-clause-few c = omega (arith, few_of c.args.program.now c.know_files.ensures, headers_size c.args.program.now c.load_headers-headers.result.now c.load_headers-headers.ensures)

pub returns-in-Ok-write_linked-clause-written : goal.returns-in-Ok-write_linked-clause-written
returns-in-Ok-write_linked-clause-written c =
    let list = c.args.program.now in
    let reported = rows_of (all_found list) c.as_slice-2.result.now in
    let headers = c.load_headers-headers.result.now in
    let values = subst (AreValues list) (sym c.as_slice-2.ensures.value) c.in_ok-slots.ensures.valued in
    let filled = c.in-Ok-fill.ensures.ok in
    let loads : AreLoads list reported headers c.as_slice-3.result.now =
    subst (AreLoads list reported headers) (sym c.as_slice-3.ensures.value) (record { headers' = c.load_headers-headers.ensures; contents' = filled.holds }) in
    let exported = c.as_slice-4.ensures.value ∙ c.in-Ok-exports_text.ensures in
    written_is list reported values.table filled.made' c.in-Ok-write_linked.output.items (c.in-Ok-write_linked.ensures.ok reported loads exported filled.targets') c.in-Ok-write_linked.ensures.short

pub returns-in-Err-TooLong-clause-refused : goal.returns-in-Err-TooLong-clause-refused
returns-in-Err-TooLong-clause-refused c =
    let list = c.args.program.now in
    let reported = rows_of (all_found list) c.as_slice-2.result.now in
    let headers = c.load_headers-headers.result.now in
    let values = subst (AreValues list) (sym c.as_slice-2.ensures.value) c.in_ok-slots.ensures.valued in
    let filled = c.in-Ok-fill.ensures.ok in
    let loads : AreLoads list reported headers c.as_slice-3.result.now =
    subst (AreLoads list reported headers) (sym c.as_slice-3.ensures.value) (record { headers' = c.load_headers-headers.ensures; contents' = filled.holds }) in
    let exported = c.as_slice-4.ensures.value ∙ c.in-Ok-exports_text.ensures in
    subst (IsEmitRefused list) (sym c.too_long.ensures)
    (refused_size list reported values.table filled.made' (c.in-Err-TooLong.ensures.too_long (ap failed c.in-Err-TooLong.field-0-is) reported loads exported filled.targets'))
