use Rattle.std.proofs.Common.{◌+◌, ◌<◌, length, sym, subst, ◌∙◌, arith, take}
use Rattle.iigs_meaning.specs.Memory.{Memory}
use Rattle.sys_loader.specs.Lives.{AreIdled}
use Rattle.loader_users.proofs.Written.{handles_of}
use Rattle.sys_loader.proofs.Idling.{idled_active, idled_idle, idled_purged, idled_absent, handle_get}
use Rattle.sys_loader.proofs.shutdown.idle_all.Goals.{in-Active, in-Idle, in-Purged, in-Absent}
use Rattle.sys_loader.proofs.shutdown.idle_all.Goals as goal

pub places-preserved : goal.places-preserved
places-preserved c =
    let segments = c.args.segments.now.items in
    let s = c.index.result.now in
    let inside : c.places.k < length segments = omega (arith, c.places-test.true, c.len-k-end.ensures) in
    let found = handle_get segments c.places.k s inside c.index.ensures in
    elim c.match-presence.branch [
      | in-Active w ↦
          subst (λ (m : Memory). AreIdled (take (c.places.k + 1) (handles_of segments)) c.args.banks.now m) (sym w.banks-is)
          (idled_active (handles_of segments) c.places.k s.handle found c.args.banks.now c.places.banks c.places.invariant w.in-Active.h w.in-Active.field-1 (sym c.presence.ensures ∙ w.in-Active.is) w.idle.new.banks w.idle.ensures)
      | in-Idle w ↦
          subst (λ (m : Memory). AreIdled (take (c.places.k + 1) (handles_of segments)) c.args.banks.now m) (sym w.banks-is)
          (idled_idle (handles_of segments) c.places.k s.handle found c.args.banks.now c.places.banks c.places.invariant w.in-Idle.field-0 w.in-Idle.field-1 (sym c.presence.ensures ∙ w.in-Idle.is))
      | in-Purged w ↦
          subst (λ (m : Memory). AreIdled (take (c.places.k + 1) (handles_of segments)) c.args.banks.now m) (sym w.banks-is)
          (idled_purged (handles_of segments) c.places.k s.handle found c.args.banks.now c.places.banks c.places.invariant w.in-Purged.field-0 (sym c.presence.ensures ∙ w.in-Purged.is))
      | in-Absent w ↦
          subst (λ (m : Memory). AreIdled (take (c.places.k + 1) (handles_of segments)) c.args.banks.now m) (sym w.banks-is)
          (idled_absent (handles_of segments) c.places.k s.handle found c.args.banks.now c.places.banks c.places.invariant (sym c.presence.ensures ∙ w.in-Absent.is))
    ]
