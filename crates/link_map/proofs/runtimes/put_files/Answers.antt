use Rattle.std.proofs.Common.{◌+◌, ◌≤◌, ◌++◌, ℕ, List, length, ap, ◌∙◌, arith}
use Rattle.link_meaning.specs.Member.{setting_in}
use Rattle.link_file.specs.Paths.{paths_of}
use Rattle.link_file.proofs.PathLaws.{paths_known, path_there, path_gone, no_paths}
use Rattle.link_map.specs.MapText.{runtime_line}
use Rattle.link_map.proofs.TextLaws.{reported_none, reported_more, reported_all}
use Rattle.link_map.proofs.runtimes.put_files.Goals as goal

pub files-init : goal.files-init
files-init c = reported_none runtime_line 2 (paths_of c.args.program.now) c.args.line.now

pub unreachable-requires : goal.unreachable-requires
unreachable-requires c = path_gone (setting_in c.args.program.now).runtimes c.files.place (omega (arith, c.files-test.true, c.runtimes.ensures)) c.in-None.ensures

pub overflow_add-place : goal.overflow_add-place
overflow_add-place c = omega (arith, c.files-test.true, c.runtimes.ensures, (paths_known c.args.program.now c.requires).few)

pub files-preserved : goal.files-preserved
files-preserved c =
    let rs = (setting_in c.args.program.now).runtimes in
    let k = c.files.place in
    reported_more runtime_line 2 k (k + 2) (paths_of c.args.program.now) c.in-Some.path.now c.args.line.now c.files.line c.put_runtime.new.line
    (path_there rs k c.in-Some.path.now c.in-Some.ensures) (omega arith) c.files.invariant
    (c.in_ok-put_runtime.ensures ∙ ap (λ (path : List ℕ). c.files.line ++ runtime_line (k + 2) path) c.bytes.ensures.value)

pub returns : goal.returns
returns c =
    let rs = (setting_in c.args.program.now).runtimes in
    let paths = paths_of c.args.program.now in
    let most : length paths ≤ c.files.place = omega (arith, c.files-test.false, c.runtimes.ensures, no_paths rs) in
    reported_all runtime_line 2 c.files.place paths c.args.line.now c.files.line most c.files.invariant
