use Rattle.std.proofs.Common.{ℕ, Result, Err, sym, ap, ◌∙◌, inr, arith}
use Rattle.jump_table.specs.declared.table.TableFault.{TableFault}
use Rattle.load_meaning.specs.Table.{entry_place}
use Rattle.link_content.proofs.PutLaws.{entry_at, lacks_room, is_full, entered_room}
use Rattle.link_content.proofs.put.entry.Goals as goal

abbrev failed : TableFault → Result ℕ TableFault
failed fault = Err fault

pub returns-in-Err-TooMany-clause-err : goal.returns-in-Err-TooMany-clause-err
returns-in-Err-TooMany-clause-err c =
    let full = c.in-Err-TooMany.ensures.too_many.0 (ap failed c.in-Err-TooMany.field-0-is) in
    inr (lacks_room c.args.table.now c.args.target full.0 full.1)

pub returns-clause-ok : goal.returns-clause-ok
returns-clause-ok c =
    let t = c.args.target in
    let place = c.in-Ok.ensures.place in
    record {
      targets' = c.in-Ok.ensures.targets;
      place = place.2 ∙ ap entry_place (sym (entry_at c.entry.new.self t place.0 c.count-few.ensures.distinct place.1));
      room = entered_room c.args.table.now c.entry.new.self t c.in-Ok.ensures.targets (omega (arith, c.count-few.ensures.value, c.count-few.ensures.few));
    }

pub returns-in-Err-Memory-clause-full : goal.returns-in-Err-Memory-clause-full
returns-in-Err-Memory-clause-full c lacks =
    let full = is_full c.args.table.now c.args.target lacks (omega (arith, c.count-most.ensures.value, c.count-most.ensures.few)) in
    absurd (cc (c.in-Err-Memory.ensures.too_many.1 full, c.in-Err-Memory.field-0-is))
