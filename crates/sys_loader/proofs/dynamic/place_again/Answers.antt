use Rattle.std.proofs.Common.{refl, subst}
use Rattle.iigs_meaning.specs.declared.wants.Want.{Want}
use Rattle.iigs_meaning.specs.Puts.{LacksRoom}
use Rattle.loader_machine.specs.Rule.{RoomRule}
use Rattle.iigs_meaning.specs.Memory.{IsReplaced}
use Rattle.sys_loader.proofs.Bringing.{replaced_there}
use Rattle.sys_loader.proofs.dynamic.place_again.Goals as goal

pub returns-in-Err-NoRoom-clause-refused : goal.returns-in-Err-NoRoom-clause-refused
returns-in-Err-NoRoom-clause-refused c =
    let why = rw c.in-Err-NoRoom.field-0-is at c.in-Err-NoRoom.ensures.refused in
    (refl, subst (λ (w : Want). LacksRoom RoomRule c.args.banks.now.banks c.args.banks.now.slots w) c.want_of.ensures.is why.2)

pub activate-requires : goal.activate-requires
activate-requires c = replaced_there c.args.banks.now c.args.h c.want_of.result c.replace.new.self c.in-Ok.ensures.replaced

pub returns-clause-brought : goal.returns-clause-brought
returns-clause-brought c =
    let replaced = subst (λ (w : Want). IsReplaced RoomRule c.args.banks.now c.args.h w c.replace.new.self) c.want_of.ensures.is c.in-Ok.ensures.replaced in
    (replaced.puts.address, (refl, c.replace.new.self, replaced, refl, c.activate.ensures))
