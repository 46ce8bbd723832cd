use Rattle.std.proofs.Common.{inl, inr, refl, ap, subst}
use Rattle.iigs_meaning.specs.Memory.{Memory}
use Rattle.loader_agrees.specs.Agrees.{Loaded}
use Rattle.loader_users.specs.View.{loaded}
use Rattle.sys_loader.specs.Replies.{IsAllocRefusal}
use Rattle.loader_machine.specs.declared.faults.LoaderFault.TheVariants.{NoHandle, NoRoom}
use Rattle.sys_loader.proofs.Script.{alloc_sound}
use Rattle.sys_loader.proofs.loader.Loader.put_block.Goals.{in-Ok, in-Err-NoHandle, in-Err-NoRoom}
use Rattle.sys_loader.proofs.loader.Loader.put_block.Goals as goal

pub invariant_of-self : goal.invariant_of-self
invariant_of-self c = (
  alloc_sound (loaded c.self.inside.banks c.self.inside.users.items) c.args.want.now c.args.locked c.args.level c.args.movable c.place.result c.place.new.self c.self.invariant.0 c.place.ensures.placed c.place.ensures.err,
  c.self.invariant.1,
)

pub returns-clause-refused : goal.returns-clause-refused
returns-clause-refused c = elim c.match-place.branch [
  | in-Ok w ↦ rw w.result-is tt
  | in-Err-NoHandle w ↦ rw w.result-is (subst (λ (m : Memory). IsAllocRefusal m c.args.want.now NoHandle) (ap (λ (l : Loaded). l.memory) c.self.view_is) (inl (refl, (rw w.in-Err-NoHandle.field-0-is at w.in-Err-NoHandle.ensures.refused))))
  | in-Err-NoRoom w ↦ rw w.result-is (subst (λ (m : Memory). IsAllocRefusal m c.args.want.now (NoRoom 0)) (ap (λ (l : Loaded). l.memory) c.self.view_is) (let why = rw w.in-Err-NoRoom.field-0-is at w.in-Err-NoRoom.ensures.refused in inr (refl, why.1, why.2)))
]
