use Rattle.omf_format.specs.Reading.{records_of}
use Rattle.lib_dict.proofs.PartLaws.{has_parts, none_last}
use Rattle.lib_dict.proofs.parts.parts_of.Goals as goal

pub returns-then-takes_last : goal.returns-then-takes_last
returns-then-takes_last c =
    has_parts c.args.records c.next_long.new.records c.next_long-2.new.records c.next_long-3.new.records c.requires.last c.in_ok-first.field-0-0 c.in_ok-at.at c.in_ok-third.field-0-0 c.in_ok-first.first.now c.in_ok-at.second.now c.in_ok-third.third.now (records_of c.args.records) c.requires.run c.requires.ended
    c.in_ok-first.ensures c.in_ok-at.ensures c.in_ok-third.ensures c.if-takes_last.ensures

pub returns-else-takes_last : goal.returns-else-takes_last
returns-else-takes_last c =
    none_last c.args.records c.next_long.new.records c.next_long-2.new.records c.next_long-3.new.records c.requires.last c.in_ok-first.field-0-0 c.in_ok-at.at c.in_ok-third.field-0-0 c.in_ok-first.first.now c.in_ok-at.second.now c.in_ok-third.third.now (records_of c.args.records) c.requires.run c.requires.ended
    c.in_ok-first.ensures c.in_ok-at.ensures c.in_ok-third.ensures c.if-takes_last.ensures
