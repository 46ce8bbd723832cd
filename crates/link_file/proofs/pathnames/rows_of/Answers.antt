use Rattle.std.proofs.Common.{◌≡◌, ◌+◌, ◌++◌, ◌∷◌, ℕ, List, length, drop, replicate, ap, ◌∙◌, arith}
use Rattle.byteorder.specs.Endian.{little_bytes}
use Rattle.load_meaning.specs.Pathnames.{rows_text, paths_text}
use Rattle.link_meaning.specs.Member.{setting_in}
use Rattle.link_file.specs.Paths.{paths_of}
use Rattle.link_file.proofs.ImageLaws.{drop_next}
use Rattle.link_file.proofs.PathLaws.{paths_known, rows_all, path_there, path_gone, row_more}
use Rattle.link_file.proofs.pathnames.rows_of.Goals as goal

pub rows-init : goal.rows-init
rows-init c = record {
  text = ap (λ (l : List ℕ). l ++ rows_text 2 (paths_of c.args.program.now)) c.new-out.ensures.items ∙ rows_all (paths_of c.args.program.now);
  within = omega arith;
}

pub unreachable-requires : goal.unreachable-requires
unreachable-requires c = path_gone (setting_in c.args.program.now).runtimes c.rows.place (omega (arith, c.rows-test.true, c.runtimes.ensures)) c.in-None.ensures

pub overflow_cast-place : goal.overflow_cast-place
overflow_cast-place c = omega (arith, c.rows-test.true, c.runtimes.ensures, (paths_known c.args.program.now c.requires).few)

pub overflow_add-place : goal.overflow_add-place
overflow_add-place c = omega (arith, c.rows-test.true, c.runtimes.ensures, (paths_known c.args.program.now c.requires).few)

pub rows-preserved : goal.rows-preserved
rows-preserved c =
    let rs = (setting_in c.args.program.now).runtimes in
    let paths = paths_of c.args.program.now in
    let k = c.rows.place in
    let path = c.in-Some.path.now in
    let left = drop_next paths k path (path_there rs k path c.in-Some.ensures) in
    let row = λ (p : List ℕ). little_bytes 2 (k + 2) ++ (replicate 8 0 ++ (length p ∷ p)) in
    let put = c.in_ok-put_row.ensures ∙ ap (λ (p : List ℕ). c.rows.out.items ++ row p) c.bytes.ensures.value in
    let next : k + 1 + 2 ≡ k + 2 + 1 = omega arith in
    record {
      text = ap (λ (n : ℕ). c.put_row.new.out.items ++ rows_text n (drop (k + 1) paths)) next ∙ row_more (k + 2) path c.rows.out.items c.put_row.new.out.items (paths_text paths) (drop k paths) (drop (k + 1) paths) left put c.rows.invariant.text;
      within = omega (arith, c.rows-test.true, c.runtimes.ensures);
    }
