use Rattle.std.proofs.Common.{◌≡◌, ◌+◌, ◌≤◌, length, drop, ap, arith}
use Rattle.load_meaning.specs.Pathnames.{rows_text}
use Rattle.link_meaning.specs.Member.{setting_in}
use Rattle.link_file.specs.Paths.{paths_of}
use Rattle.link_file.proofs.ImageLaws.{drop_next}
use Rattle.link_file.proofs.PathLaws.{rows_all, path_there, path_gone, no_paths}
use Rattle.link_map.proofs.RuntimeLaws.{row_size, end_size, few_bytes}
use Rattle.link_map.proofs.runtimes.paths_size.Goals as goal

pub paths-init : goal.paths-init
paths-init c = record { size = omega (arith, ap length (rows_all (paths_of c.args.program.now))); within = omega arith }

pub unreachable-requires : goal.unreachable-requires
unreachable-requires c = path_gone (setting_in c.args.program.now).runtimes c.paths.place (omega (arith, c.paths-test.true, c.runtimes.ensures)) c.in-None.ensures

pub overflow_add-size : goal.overflow_add-size
overflow_add-size c = omega (arith, c.bytes.ensures.short, ap length c.bytes.ensures.value)

pub overflow_add-size-in-paths : goal.overflow_add-size-in-paths
overflow_add-size-in-paths c = omega (arith, c.paths.invariant.size, few_bytes c.args.program.now c.requires, c.bytes.ensures.short, ap length c.bytes.ensures.value)

pub paths-preserved : goal.paths-preserved
paths-preserved c =
    let rs = (setting_in c.args.program.now).runtimes in
    let paths = paths_of c.args.program.now in
    let k = c.paths.place in
    let path = c.in-Some.path.now in
    let left = drop_next paths k path (path_there rs k path c.in-Some.ensures) in
    let next : k + 1 + 2 ≡ k + 2 + 1 = omega arith in
    record {
      size = omega (arith, c.paths.invariant.size, row_size (k + 2) path (drop (k + 1) paths) (drop k paths) left, ap (λ n. length (rows_text n (drop (k + 1) paths))) next, ap length c.bytes.ensures.value);
      within = omega (arith, c.paths-test.true, c.runtimes.ensures);
    }

pub overflow_add-result : goal.overflow_add-result
overflow_add-result c = omega (arith, c.paths.invariant.size, few_bytes c.args.program.now c.requires)

pub returns : goal.returns
returns c =
    let rs = (setting_in c.args.program.now).runtimes in
    let paths = paths_of c.args.program.now in
    let most : length paths ≤ c.paths.place = omega (arith, c.paths-test.false, c.runtimes.ensures, no_paths rs) in
    omega (arith, c.paths.invariant.size, end_size (c.paths.place + 2) c.paths.place paths most)
