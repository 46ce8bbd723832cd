use Rattle.std.proofs.Common.{◌+◌, ℕ, map, ap, ◌∙◌, arith}
use Rattle.link_program.specs.Outside.{all_found}
use Rattle.link_content.specs.Fits.{to_load_limits}
use Rattle.link_values.specs.Slots.{rows_of}
use Rattle.link_values.proofs.FileFacts.{few_of}
use Rattle.link_file.proofs.LoadLaws.{headers_size}
use Rattle.link_file.proofs.EmitLaws.{refused_value}
use Rattle.link_file.proofs.emitting.calls_of.Goals as goal

pub overflow_cast-context : goal.overflow_cast-context
overflow_cast-context c = omega (arith, few_of c.args.program.now c.know_files.ensures, headers_size c.args.program.now c.load_headers-headers.result.now c.load_headers-headers.ensures)

pub overflow_add-context : goal.overflow_add-context
overflow_add-context c = omega (arith, few_of c.args.program.now c.know_files.ensures, headers_size c.args.program.now c.load_headers-headers.result.now c.load_headers-headers.ensures)

pub fill-requires-clause-whole : goal.fill-requires-clause-whole
fill-requires-clause-whole c =
    let list = c.args.program.now in
    record {
      files = c.know_files.ensures;
      known = c.requires.known;
      loads' = c.as_slice.ensures.value ∙ c.in-Ok.ensures ∙ ap (map to_load_limits) c.load_headers-headers.ensures;
      table' = ap (λ (n : ℕ). n + 1) (headers_size list c.load_headers-headers.result.now c.load_headers-headers.ensures);
    }

pub returns-clause-refused : goal.returns-clause-refused
returns-clause-refused c =
    let list = c.args.program.now in
    refused_value list (rows_of (all_found list) c.args.slots.now) c.requires.table c.in-Err-fill.fault c.in-Err-fill.ensures.err
