use Rattle.std.proofs.Common.{◌≡◌, ◌<◌, ◌≤◌, ◌++◌, length, ap, ◌∙◌, arith}
use Rattle.load_meaning.specs.declared.table.Target.{Target}
use Rattle.link_map.specs.MapText.{entry_line}
use Rattle.link_map.proofs.TextLaws.{item_there, reported_none, reported_more, reported_all}
use Rattle.link_map.proofs.MapLaws.{table_size, target_is}
use Rattle.link_map.proofs.table.put_entries.Goals as goal

pub entries-init : goal.entries-init
entries-init c = reported_none (entry_line c.args.number) 0 c.args.table.now c.args.line.now

pub target_at-requires : goal.target_at-requires
target_at-requires c = omega (arith, table_size c.args.table.now c.args.bytes.now c.requires, c.entries-test.true, c.count.ensures.value)

pub entries-preserved : goal.entries-preserved
entries-preserved c =
    let ts = c.args.table.now in
    let less : c.entries.place < length ts = omega (arith, c.entries-test.true, c.count.ensures.value) in
    let there = item_there ts c.entries.place less in
    let leads : c.target_at.result ≡ there.0 = c.target_at.ensures ∙ target_is ts c.args.bytes.now c.entries.place there.0 c.requires there.1 in
    reported_more (entry_line c.args.number) 0 c.entries.place c.entries.place ts there.0 c.args.line.now c.entries.line c.put_entry.new.line
    there.1 (omega arith) c.entries.invariant (c.in_ok-put_entry.ensures ∙ ap (λ (t : Target). c.entries.line ++ entry_line c.args.number c.entries.place t) leads)

pub returns : goal.returns
returns c =
    let ts = c.args.table.now in
    let most : length ts ≤ c.entries.place = omega (arith, c.entries-test.false, c.count.ensures.value) in
    reported_all (entry_line c.args.number) 0 c.entries.place ts c.args.line.now c.entries.line most c.entries.invariant
