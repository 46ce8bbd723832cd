use Rattle.std.proofs.Common.{◌≡◌, ◌+◌, ◌++◌, ℕ, List, length, ap, ◌∙◌, arith}
use Rattle.link_meaning.specs.Member.{Member}
use Rattle.link_meaning.specs.Layout.{load_headers}
use Rattle.link_meaning.specs.LinkedCells.{table_number}
use Rattle.link_values.proofs.FileFacts.{few_of}
use Rattle.link_file.specs.Paths.{paths_of}
use Rattle.link_file.proofs.LoadLaws.{loads_size}
use Rattle.link_map.specs.MapText.{numbered_texts, load_text, runtimes_text}
use Rattle.link_map.proofs.MapLaws.{map_is}
use Rattle.link_map.proofs.mapping.map_with.Goals as goal

pub overflow_add-number : goal.overflow_add-number
overflow_add-number c = let list = c.program-program.result.now in omega (arith, few_of list c.know_files.ensures, loads_size list, c.load_count-number.ensures)

pub number_after-requires : goal.number_after-requires
number_after-requires c = let list = c.program-program.result.now in omega (arith, few_of list c.know_files.ensures, loads_size list, c.load_count-number.ensures)

pub returns : goal.returns
returns c = λ is called.
    let list = c.args.values.now.list in
    let table = c.args.values.now.table in
    let count = ap (λ (l : List Member). length (load_headers l)) c.program-program.ensures in
    let number : c.load_count-number.result + 1 ≡ table_number list = omega (arith, c.load_count-number.ensures, count, loads_size list) in
    map_is list table c.put_loads.new.line c.put_table.new.line c.put_runtimes.new.line c.put_exports.new.line (c.load_count-number.result + 1) c.number_after.result c.args.table.now
    (c.in_ok-put_loads.ensures ∙ ap (λ (l : List ℕ). l ++ numbered_texts (load_text list table) 1 (load_headers list)) c.new-line.ensures) c.in_ok-put_table.ensures
    (c.in_ok-put_runtimes.ensures ∙ ap (λ (l : List Member). c.put_table.new.line ++ runtimes_text c.number_after.result (paths_of l)) c.program-program.ensures)
    (c.in_ok-put_exports.ensures is) number c.number_after.ensures called
