use Rattle.std.proofs.Common.{◌+◌, ◌<◌, ◌≤◌, List, length, ap, arith}
use Rattle.link_meaning.specs.Member.{Member}
use Rattle.link_meaning.specs.Layout.{load_headers}
use Rattle.link_map.specs.MapText.{load_text}
use Rattle.link_map.proofs.TextLaws.{reported_none, reported_more, reported_all}
use Rattle.link_map.proofs.ListLaws.{load_there, load_item}
use Rattle.link_map.proofs.members.put_loads.Goals as goal

pub loads-init : goal.loads-init
loads-init c = reported_none (load_text c.args.values.now.list c.args.values.now.table) 1 (load_headers c.args.values.now.list) c.args.line.now

pub put_load-requires : goal.put_load-requires
put_load-requires c =
    let less : c.loads.number < length (load_headers c.args.values.now.list) = omega (arith, c.loads-test.true, c.load_count.ensures, ap (λ (l : List Member). length (load_headers l)) c.program-program.ensures) in
    load_there c.args.values.now.list c.loads.number less

pub loads-preserved : goal.loads-preserved
loads-preserved c =
    let list = c.args.values.now.list in
    let less : c.loads.number < length (load_headers list) = omega (arith, c.loads-test.true, c.load_count.ensures, ap (λ (l : List Member). length (load_headers l)) c.program-program.ensures) in
    let there = load_there list c.loads.number less in
    reported_more (load_text list c.args.values.now.table) 1 c.loads.number (c.loads.number + 1) (load_headers list) there.0 c.args.line.now c.loads.line c.put_load.new.line
    (load_item list c.loads.number there.0 there.1) (omega arith) c.loads.invariant (c.in_ok-put_load.ensures there.0 there.1)

pub returns : goal.returns
returns c =
    let list = c.args.values.now.list in
    let most : length (load_headers list) ≤ c.loads.number = omega (arith, c.loads-test.false, c.load_count.ensures, ap (λ (l : List Member). length (load_headers l)) c.program-program.ensures) in
    reported_all (load_text list c.args.values.now.table) 1 c.loads.number (load_headers list) c.args.line.now c.loads.line most c.loads.invariant
