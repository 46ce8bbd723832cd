use Rattle.std.proofs.Common.{◌≡◌, true, false, Some, None, refl, sym, ap, ◌∙◌}
use Rattle.std.proofs.lemmas.Result.{err_from_is_err_and}
use Rattle.loader_machine.specs.declared.seen.Presence.TheVariants.{Absent, Purged, Idle, Active}
use Rattle.loader_machine.specs.Needs.{is_read}
use Rattle.loader_users.specs.View.{loaded}
use Rattle.sys_loader.proofs.Waking.{one_presence}
use Rattle.sys_loader.proofs.MakingActive.{reads_where, not_refused, can_wake, is_idle, was_active, was_idle, was_purged, was_absent, stops}
use Rattle.sys_loader.proofs.loader.Loader.make_active.Goals as goal

pub returns-in_err-segment-clause-asked : goal.returns-in_err-segment-clause-asked
returns-in_err-segment-clause-asked g c = λ none reads. let clash : None ≡ Some c.in_err-segment.field-0.0 = sym none ∙ c.in_err-segment.ensures.refused in absurd cc

pub returns-in_err-segment-clause-did : goal.returns-in_err-segment-clause-did
returns-in_err-segment-clause-did g c =
    let p = err_from_is_err_and c.from_residual.result c.from_residual.ensures.1 in
    let count = (g.F.Files.seen c.args.files.now).faults in
    rw (p.1, p.2) (stops (g.F.Files.seen c.args.files.now).held c.args.self.now c.args.self.now c.args.user c.args.number c.in_err-segment.field-0.0 count count c.in_err-segment.ensures.refused refl refl)

-- ---- it is there

pub returns-in-Active-clause-asked : goal.returns-in-Active-clause-asked
returns-in-Active-clause-asked g c = λ none reads.
    let s = c.in_ok-segment.segment in
    let clash : true ≡ false =
    sym reads ∙ reads_where c.args.self.now c.args.user c.args.number s.head s.handle c.in_ok-segment.ensures.can (Active c.in-Active.field-0 c.in-Active.address) false (one_presence (loaded c.self.inside.banks c.self.inside.users.items) c.args.self.now s.handle (Active c.in-Active.field-0 c.in-Active.address) c.self.view_is (sym c.presence.ensures ∙ c.in-Active.is)) refl in
    absurd cc

pub returns-in-Active-clause-did : goal.returns-in-Active-clause-did
returns-in-Active-clause-did g c =
    let s = c.in_ok-segment.segment in
    let count = (g.F.Files.seen c.args.files.now).faults in
    was_active c.args.self.now c.args.user c.args.number s.head s.handle c.in_ok-segment.ensures.can (g.F.Files.seen c.args.files.now).held c.args.self.now count count
    c.in-Active.field-0 c.in-Active.address (one_presence (loaded c.self.inside.banks c.self.inside.users.items) c.args.self.now s.handle (Active c.in-Active.field-0 c.in-Active.address) c.self.view_is (sym c.presence.ensures ∙ c.in-Active.is)) refl refl

pub reactivate-requires : goal.reactivate-requires
reactivate-requires g c =
    let s = c.in_ok-segment.segment in
    let is = one_presence (loaded c.self.inside.banks c.self.inside.users.items) c.args.self.now s.handle (Idle c.in-Idle.h c.in-Idle.address) c.self.view_is (sym c.presence.ensures ∙ c.in-Idle.is) in
    record {
      can = (s.head, can_wake c.args.self.now c.args.user c.args.number s.head s.handle c.in_ok-segment.ensures.can c.in-Idle.h c.in-Idle.address is);
      idle = is_idle c.args.self.now c.args.user c.args.number s.head s.handle c.in_ok-segment.ensures.can c.in-Idle.h c.in-Idle.address is;
    }

pub returns-in-Idle-clause-asked : goal.returns-in-Idle-clause-asked
returns-in-Idle-clause-asked g c = λ none reads.
    let s = c.in_ok-segment.segment in
    let clash : true ≡ false =
    sym reads ∙ reads_where c.args.self.now c.args.user c.args.number s.head s.handle c.in_ok-segment.ensures.can (Idle c.in-Idle.h c.in-Idle.address) false (one_presence (loaded c.self.inside.banks c.self.inside.users.items) c.args.self.now s.handle (Idle c.in-Idle.h c.in-Idle.address) c.self.view_is (sym c.presence.ensures ∙ c.in-Idle.is)) refl in
    absurd cc

pub returns-in-Idle-clause-did : goal.returns-in-Idle-clause-did
returns-in-Idle-clause-did g c =
    let s = c.in_ok-segment.segment in
    let count = (g.F.Files.seen c.args.files.now).faults in
    was_idle c.args.self.now c.args.user c.args.number s.head s.handle c.in_ok-segment.ensures.can (g.F.Files.seen c.args.files.now).held c.reactivate.new.self count count
    c.in-Idle.h c.in-Idle.address (one_presence (loaded c.self.inside.banks c.self.inside.users.items) c.args.self.now s.handle (Idle c.in-Idle.h c.in-Idle.address) c.self.view_is (sym c.presence.ensures ∙ c.in-Idle.is)) c.reactivate.ensures refl

-- ---- it is read

pub read_and_load-requires : goal.read_and_load-requires
read_and_load-requires g c =
    let s = c.in_ok-segment.segment in
    record {
      can = c.in_ok-segment.ensures.can;
      gone = ap is_read (one_presence (loaded c.self.inside.banks c.self.inside.users.items) c.args.self.now s.handle (Purged c.in-Purged.field-0) c.self.view_is (sym c.presence.ensures ∙ c.in-Purged.is));
    }

pub returns-in-Purged-clause-unasked : goal.returns-in-Purged-clause-unasked
returns-in-Purged-clause-unasked g c = λ unread.
    let s = c.in_ok-segment.segment in
    let clash : false ≡ true =
    sym unread ∙ reads_where c.args.self.now c.args.user c.args.number s.head s.handle c.in_ok-segment.ensures.can (Purged c.in-Purged.field-0) true (one_presence (loaded c.self.inside.banks c.self.inside.users.items) c.args.self.now s.handle (Purged c.in-Purged.field-0) c.self.view_is (sym c.presence.ensures ∙ c.in-Purged.is)) refl in
    absurd cc

pub returns-in-Purged-clause-refused_unasked : goal.returns-in-Purged-clause-refused_unasked
returns-in-Purged-clause-refused_unasked g c = λ some.
    let s = c.in_ok-segment.segment in
    absurd (not_refused c.args.self.now c.args.user c.args.number s.head s.handle c.in_ok-segment.ensures.can some)

pub returns-in-Purged-clause-did : goal.returns-in-Purged-clause-did
returns-in-Purged-clause-did g c =
    let s = c.in_ok-segment.segment in
    let before = g.F.Files.seen c.args.files.now in
    let now = g.F.Files.seen c.read_and_load.new.files in
    was_purged c.args.self.now c.args.user c.args.number s.head s.handle c.in_ok-segment.ensures.can before.held c.read_and_load.new.self before.faults now.faults
    c.in-Purged.field-0 c.read_and_load.result (one_presence (loaded c.self.inside.banks c.self.inside.users.items) c.args.self.now s.handle (Purged c.in-Purged.field-0) c.self.view_is (sym c.presence.ensures ∙ c.in-Purged.is)) c.read_and_load.ensures.came

pub read_and_load-requires-in-Absent : goal.read_and_load-requires-in-Absent
read_and_load-requires-in-Absent g c =
    let s = c.in_ok-segment.segment in
    record {
      can = c.in_ok-segment.ensures.can;
      gone = ap is_read (one_presence (loaded c.self.inside.banks c.self.inside.users.items) c.args.self.now s.handle Absent c.self.view_is (sym c.presence.ensures ∙ c.in-Absent.is));
    }

pub returns-in-Absent-clause-unasked : goal.returns-in-Absent-clause-unasked
returns-in-Absent-clause-unasked g c = λ unread.
    let s = c.in_ok-segment.segment in
    let clash : false ≡ true =
    sym unread ∙ reads_where c.args.self.now c.args.user c.args.number s.head s.handle c.in_ok-segment.ensures.can Absent true (one_presence (loaded c.self.inside.banks c.self.inside.users.items) c.args.self.now s.handle Absent c.self.view_is (sym c.presence.ensures ∙ c.in-Absent.is)) refl in
    absurd cc

pub returns-in-Absent-clause-refused_unasked : goal.returns-in-Absent-clause-refused_unasked
returns-in-Absent-clause-refused_unasked g c = λ some.
    let s = c.in_ok-segment.segment in
    absurd (not_refused c.args.self.now c.args.user c.args.number s.head s.handle c.in_ok-segment.ensures.can some)

pub returns-in-Absent-clause-did : goal.returns-in-Absent-clause-did
returns-in-Absent-clause-did g c =
    let s = c.in_ok-segment.segment in
    let before = g.F.Files.seen c.args.files.now in
    let now = g.F.Files.seen c.read_and_load-in-Absent.new.files in
    was_absent c.args.self.now c.args.user c.args.number s.head s.handle c.in_ok-segment.ensures.can before.held c.read_and_load-in-Absent.new.self before.faults now.faults
    c.read_and_load-in-Absent.result (one_presence (loaded c.self.inside.banks c.self.inside.users.items) c.args.self.now s.handle Absent c.self.view_is (sym c.presence.ensures ∙ c.in-Absent.is)) c.read_and_load-in-Absent.ensures.came
