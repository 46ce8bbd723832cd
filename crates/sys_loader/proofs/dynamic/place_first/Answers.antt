use Rattle.std.proofs.Common.{inl, inr, true, false, refl, subst}
use Rattle.iigs_meaning.specs.declared.wants.Want.{Want}
use Rattle.iigs_meaning.specs.Puts.{LacksRoom}
use Rattle.loader_machine.specs.Rule.{RoomRule}
use Rattle.iigs_meaning.specs.Memory.{IsPlaced}
use Rattle.sys_loader.proofs.dynamic.place_first.Goals as goal

pub returns-in-Ok-clause-brought : goal.returns-in-Ok-clause-brought
returns-in-Ok-clause-brought c =
    let placed = subst (λ (w : Want). IsPlaced RoomRule c.args.banks.now w c.args.user true 0 false c.in-Ok.h c.place.new.self) c.want_of.ensures.is c.in-Ok.ensures.placed in
    (placed.puts.address, (placed, refl))

pub returns-in-Err-NoHandle-clause-refused : goal.returns-in-Err-NoHandle-clause-refused
returns-in-Err-NoHandle-clause-refused c = inl (refl, (rw c.in-Err-NoHandle.field-0-is at c.in-Err-NoHandle.ensures.refused))

pub returns-in-Err-NoRoom-clause-refused : goal.returns-in-Err-NoRoom-clause-refused
returns-in-Err-NoRoom-clause-refused c =
    let why = rw c.in-Err-NoRoom.field-0-is at c.in-Err-NoRoom.ensures.refused in
    inr (refl, why.1, subst (λ (w : Want). LacksRoom RoomRule c.args.banks.now.banks c.args.banks.now.slots w) c.want_of.ensures.is why.2)
