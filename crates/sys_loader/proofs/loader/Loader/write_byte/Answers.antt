use Rattle.std.proofs.Common.{◌≡◌, length, map, sym, ap, subst, arith}
use Rattle.std.specs.Prelude.{slice_set, option_map}
use Rattle.std.proofs.lemmas.List.{length-set}
use Rattle.iigs_meaning.specs.Memory.{Memory, bytes_at}
use Rattle.loader_agrees.specs.Agrees.{Loaded, IsSound}
use Rattle.loader_agrees.specs.laws.Seeing.{block_room}
use Rattle.loader_users.specs.View.{kept, loaded}
use Rattle.sys_loader.specs.Lives.{CanPoke}
use Rattle.sys_loader.proofs.Poking.{sound_written, poked_tables}
use Rattle.sys_loader.proofs.loader.Loader.write_byte.Goals as goal

pub poke_byte-requires-clause-within : goal.poke_byte-requires-clause-within
poke_byte-requires-clause-within c =
    let sound : IsSound c.args.self.now.memory c.args.self.now.users = rw (← c.self.view_is) c.self.invariant.0 in
    let memory : c.self.inside.banks ≡ c.args.self.now.memory = ap (λ (l : Loaded). l.memory) c.self.view_is in
    let can = c.in_ok-h.ensures.can in
    let room = block_room c.args.self.now sound c.args.user c.args.segment c.in_ok-h.h can.is in
    omega (arith, room, can.inside, ap (λ (m : Memory). length (bytes_at m c.in_ok-h.h.slot)) memory)

pub invariant_of-self : goal.invariant_of-self
invariant_of-self c =
    let old = c.self.inside.banks in
    let before = loaded old c.self.inside.users.items in
    let can = subst (λ (l : Loaded). CanPoke l c.args.user c.args.segment c.args.at c.in_ok-h.h) (sym c.self.view_is) c.in_ok-h.ensures.can in (
      rw c.poke_byte.ensures (sound_written old (map (option_map kept) c.self.inside.users.items) c.in_ok-h.h.slot (slice_set (bytes_at old c.in_ok-h.h.slot) c.args.at c.args.byte) c.self.invariant.0
          (length-set (bytes_at old c.in_ok-h.h.slot) c.args.at c.args.byte) (poked_tables before c.args.user c.args.segment c.args.at c.in_ok-h.h c.self.invariant.0 can)),
      c.self.invariant.1,
    )
