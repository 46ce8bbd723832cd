use Rattle.std.proofs.Common.{◌+◌, ◌<◌, length, map, sym, subst, ◌∙◌, arith, take}
use Rattle.iigs_meaning.specs.Memory.{Memory}
use Rattle.sys_loader.specs.Restarting.{static_handle, AreActivated}
use Rattle.sys_loader.proofs.Static.{static_get, activate_there, activated_some, activated_none}
use Rattle.sys_loader.proofs.restart.activate_all.Goals.{in-Some, in-None}
use Rattle.sys_loader.proofs.restart.activate_all.Goals as goal

pub activate-requires : goal.activate-requires
activate-requires c =
    let segments = c.args.segments.now.items in
    let inside : c.places.k < length segments = omega (arith, c.places-test.true, c.len-k-end.ensures) in
    activate_there segments c.places.k c.index.result.now c.in-Some.h c.args.banks.now c.places.banks c.requires c.places.invariant inside c.index.ensures (sym c.static_handle.ensures ∙ c.in-Some.is)

pub places-preserved : goal.places-preserved
places-preserved c =
    let segments = c.args.segments.now.items in
    let s = c.index.result.now in
    let inside : c.places.k < length segments = omega (arith, c.places-test.true, c.len-k-end.ensures) in
    let found = static_get segments c.places.k s inside c.index.ensures in
    elim c.match-static_handle.branch [
      | in-Some w ↦
          subst (λ (m : Memory). AreActivated (take (c.places.k + 1) (map static_handle segments)) c.args.banks.now m) (sym w.banks-is)
          (activated_some (map static_handle segments) c.places.k (static_handle s) found c.args.banks.now c.places.banks c.places.invariant w.in-Some.h (sym c.static_handle.ensures ∙ w.in-Some.is) w.activate.new.banks w.activate.ensures)
      | in-None w ↦
          subst (λ (m : Memory). AreActivated (take (c.places.k + 1) (map static_handle segments)) c.args.banks.now m) (sym w.banks-is)
          (activated_none (map static_handle segments) c.places.k (static_handle s) found c.args.banks.now c.places.banks c.places.invariant (sym c.static_handle.ensures ∙ w.in-None.is))
    ]
