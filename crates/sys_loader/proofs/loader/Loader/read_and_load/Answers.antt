use Rattle.std.proofs.Common.{◌≡◌, ℕ, List, sym, ap, subst, ◌∙◌}
use Rattle.omf_io.specs.Files.{StoreSeen, IsRead}
use Rattle.loader_agrees.specs.Agrees.{LoadedUser}
use Rattle.loader_users.specs.View.{kept, loaded}
use Rattle.sys_loader.proofs.Waking.{one_kept, did_come}
use Rattle.sys_loader.proofs.loader.Loader.read_and_load.Goals as goal

pub returns-clause-came : goal.returns-clause-came
returns-clause-came g c k made =
    let before = g.F.Files.seen c.args.files.now in
    let now = g.F.Files.seen c.read.new.self in
    let s = c.args.segment.now in
    let same = one_kept (loaded c.self.inside.banks c.self.inside.users.items) c.args.self.now c.args.user (kept c.user_in-found.result.now) k c.self.view_is c.user_in-found.ensures made in
    let path : c.deref.result.now ≡ k.path = c.deref.ensures ∙ ap (λ (x : LoadedUser). x.path) same in
    did_come before.held c.args.self.now c.load_from.new.self c.args.user c.args.number k s.head s.handle c.deref-2.result.now c.load_from.result before.faults now.faults
    (subst (λ (p : List ℕ). IsRead before.held p c.deref-2.result.now) path
    (subst (λ (file : List ℕ). IsRead before.held c.deref.result.now file) (sym c.deref-2.ensures.value) c.in-Ok.ensures.answer.0))
    (ap (λ (x : StoreSeen). x.faults) c.in-Ok.ensures.answer.1) (c.load_from.ensures.come k made) (c.load_from.ensures.refused k made) c.load_from.ensures.err
