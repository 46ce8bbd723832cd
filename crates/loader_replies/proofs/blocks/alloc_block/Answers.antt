use Rattle.std.proofs.Common.{refl, sym, ◌∙◌}
use Rattle.loader_machine.specs.Commands as commands
use Rattle.loader_machine.specs.laws.AllocLaws.{alloc_is_want, movable_asks_no_place}
use Rattle.loader_replies.proofs.OneCommand.{idle_line, refusal_text, alloc_there, alloc_at, alloc_asked}
use Rattle.loader_replies.proofs.Refusals.{alloc_safe}
use Rattle.loader_replies.proofs.blocks.alloc_block.Goals as goal

pub alloc-requires-clause-want : goal.alloc-requires-clause-want
alloc-requires-clause-want c = rw c.alloc_want-want.ensures (alloc_is_want c.args.size c.args.attr c.args.address c.requires)

pub alloc-requires-clause-no_place : goal.alloc-requires-clause-no_place
alloc-requires-clause-no_place c movable =
    rw c.alloc_want-want.ensures (movable_asks_no_place c.args.size c.args.attr c.args.address (sym c.is_movable.ensures ∙ movable))

pub address_of-requires : goal.address_of-requires
address_of-requires c =
    alloc_there c.args.loader.now.memory c.alloc.new.self.memory c.alloc_want-want.result c.has_attribute_bit.result c.level_in.result c.is_movable.result c.in-Ok.handle c.in-Ok.ensures.placed.0

pub returns-in-Ok : goal.returns-in-Ok
returns-in-Ok c store =
    idle_line c.placed_line.result store (commands.Alloc c.args.size c.args.attr c.args.address) c.args.loader.now c.alloc.new.self (commands.Placed c.in-Ok.handle c.address_of.result) c.placed_line.ensures refl refl refl
    (λ files state agrees. alloc_asked files state c.alloc.new.self c.alloc_want-want.result c.has_attribute_bit.result c.level_in.result c.is_movable.result c.args.size c.args.attr c.args.address (commands.Placed c.in-Ok.handle c.address_of.result)
    c.alloc_want-want.ensures c.has_attribute_bit.ensures c.level_in.ensures c.is_movable.ensures
    (alloc_at files state c.alloc.new.self c.alloc_want-want.result c.has_attribute_bit.result c.level_in.result c.is_movable.result c.in-Ok.handle c.address_of.result c.address_of.ensures (c.in-Ok.ensures.meets files state agrees)))

pub returns-in-Err : goal.returns-in-Err
returns-in-Err c store =
    let old = c.args.loader.now in
    idle_line c.refusal_line.result store (commands.Alloc c.args.size c.args.attr c.args.address) old c.alloc.new.self (commands.Refused c.in-Err.fault)
    (refusal_text c.refusal_line.result c.in-Err.fault c.refusal_line.ensures) (alloc_safe old.memory c.alloc_want-want.result c.in-Err.fault c.in-Err.ensures.refused) refl refl
    (λ files state agrees. alloc_asked files state c.alloc.new.self c.alloc_want-want.result c.has_attribute_bit.result c.level_in.result c.is_movable.result c.args.size c.args.attr c.args.address (commands.Refused c.in-Err.fault)
    c.alloc_want-want.ensures c.has_attribute_bit.ensures c.level_in.ensures c.is_movable.ensures (c.in-Err.ensures.refuses files state agrees))
