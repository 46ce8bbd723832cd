use Rattle.std.proofs.Common.{◌≡◌, ◌++◌, ℕ, List, length, map, refl, ap, ◌∙◌, arith}
use Rattle.std.proofs.lemmas.Result.{on_ok_weaker}
use Rattle.load_meaning.specs.Table.{file_entry, table_bytes}
use Rattle.link_map.proofs.TextLaws.{both}
use Rattle.link_map.proofs.MapLaws.{table_some}
use Rattle.link_map.proofs.table.put_table.Goals as goal

pub returns : goal.returns
returns c =
    let ts = c.args.table.now in
    let size : c.len.result ≡ length (table_bytes (map file_entry ts)) = omega (arith, c.len.ensures, ap (λ (l : List ℕ). length l) c.in-Ok.ensures.bytes) in
    on_ok_weaker c.put_entries.result
    (λ is.
    both c.args.line.now _ _ c.put_load_line.new.line c.put_entries.new.line c.in_ok-put_load_line.ensures is
    ∙ ap (λ (l : List ℕ). c.args.line.now ++ l) (table_some c.args.number ts c.len.result _ (λ none. c.if-count-eq0.false (c.count.ensures.value ∙ none)) size refl))
    c.put_entries.ensures
