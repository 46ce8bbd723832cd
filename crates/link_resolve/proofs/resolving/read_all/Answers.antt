use Rattle.std.proofs.Common.{◌≡◌, ℕ, List, Vec, Global, length, map, refl, ◌∙◌, arith}
use Rattle.std.proofs.lemmas.Result.{err_from_is_err_and}
use Rattle.std.proofs.lemmas.List.{length-map}
use Rattle.link_resolve.specs.Resolved.{all_bytes, total_size, given_of, setting_as}
use Rattle.link_resolve.specs.Runtimes.{files_of}
use Rattle.link_resolve.proofs.ResolveLaws.{few_inputs, few_members, few_runtimes, short_runtimes, refused_input, refused_runtime, refused_empty}
use Rattle.link_resolve.proofs.resolving.read_all.Goals as goal

pub read_inputs-requires : goal.read_inputs-requires
read_inputs-requires c = few_inputs (given_of c.args.inputs.now.items c.args.given.now c.args.form) c.requires.few

pub returns-in_err-gathered-clause-refused : goal.returns-in_err-gathered-clause-refused
returns-in_err-gathered-clause-refused c =
    let p = err_from_is_err_and c.from_residual.result c.from_residual.ensures.1 in
    rw (p.1, p.2) (refused_input (given_of c.args.inputs.now.items c.args.given.now c.args.form) c.in_err-gathered.field-0.0 c.in_err-gathered.ensures.refused)

pub read_runtimes-requires-clause-least : goal.read_runtimes-requires-clause-least
read_runtimes-requires-clause-least c = few_runtimes (given_of c.args.inputs.now.items c.args.given.now c.args.form) c.args.given.now refl c.requires.paths.1

pub read_runtimes-requires-clause-short : goal.read_runtimes-requires-clause-short
read_runtimes-requires-clause-short c =
    let files = files_of c.args.given.now in
    short_runtimes files (total_size (map (λ (file : List ℕ × List ℕ). file.1) files)) (omega arith) (omega (arith, c.requires.few.bytes))

pub returns-in-Err-clause-refused : goal.returns-in-Err-clause-refused
returns-in-Err-clause-refused c =
    let items = c.args.inputs.now.items in
    let given = given_of items c.args.given.now c.args.form in
    let count : c.len.result ≡ length (all_bytes items) = omega (arith, c.len.ensures, c.args.inputs.now.ok.0, length-map {B = List ℕ} items (λ (f : Vec ℕ Global). f.items)) in
    refused_runtime given c.in_ok-gathered.gathered c.in-Err.fault c.len.result (files_of c.args.given.now) count refl c.in_ok-gathered.ensures.read c.in-Err.ensures.refused

pub count-requires : goal.count-requires
count-requires c =
    let given = given_of c.args.inputs.now.items c.args.given.now c.args.form in
    few_members given.inputs c.in_ok-gathered.gathered c.in_ok-gathered.ensures.read (few_inputs given c.requires.few)

pub returns-then-count-eq0-clause-refused : goal.returns-then-count-eq0-clause-refused
returns-then-count-eq0-clause-refused c =
    let given = given_of c.args.inputs.now.items c.args.given.now c.args.form in
    let setting = setting_as c.args.form c.in-Ok.runtimes.loads.items c.args.given.now in
    refused_empty given c.in_ok-gathered.gathered setting c.empty_fault.result c.in_ok-gathered.ensures.read (record { form' = refl; runtimes' = c.in-Ok.ensures.read.are })
    (omega (arith, c.if-count-eq0.true, c.count.ensures)) c.empty_fault.ensures

pub returns-clause-read : goal.returns-clause-read
returns-clause-read c = record {
  form' = refl;
  files = refl;
  runtimes' = c.in-Ok.ensures.read;
  inputs' = (c.in_ok-gathered.ensures.read, λ none. c.if-count-eq0.false (c.count.ensures ∙ none));
}
