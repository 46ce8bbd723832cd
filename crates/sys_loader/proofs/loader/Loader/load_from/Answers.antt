use Rattle.std.proofs.Common.{◌≡◌, ◌-◌, Bool, map, Some, IsSome, inl, refl, sym, ap, subst, ◌∙◌, arith}
use Rattle.std.proofs.lemmas.Result.{err_from_is_err_and}
use Rattle.std.proofs.lemmas.List.{length-map}
use Rattle.loader_machine.specs.Heads.{head_of}
use Rattle.loader_machine.specs.State.{first_id, user_of}
use Rattle.loader_agrees.specs.Agrees.{LoadedUser, Loaded}
use Rattle.loader_agrees.specs.laws.Seeing.{made_at}
use Rattle.loader_users.specs.View.{kept, loaded}
use Rattle.loader_users.specs.Changed.{IsChanged}
use Rattle.sys_loader.proofs.Waking.{one_kept, come_from, brings_none, file_changed}
use Rattle.loader_users.specs.Taken.{IsReadAs, IsBadFile}
use Rattle.sys_loader.proofs.ReadAs.{as_loadable}
use Rattle.sys_loader.proofs.loader.Loader.load_from.Goals as goal

pub returns-in_err-load-clause-refused : goal.returns-in_err-load-clause-refused
returns-in_err-load-clause-refused c =
    let p = err_from_is_err_and c.from_residual.result c.from_residual.ensures.1 in
    rw (p.1, p.2) (λ k made. inl (subst (λ (b : Bool). IsBadFile b c.args.file.now c.in_err-load.field-0.0) c.is_attached.ensures c.in_err-load.ensures.refused))

pub returns-in_err-places-clause-refused : goal.returns-in_err-places-clause-refused
returns-in_err-places-clause-refused c =
    let p = err_from_is_err_and c.from_residual-in_err-places.result c.from_residual-in_err-places.ensures.1 in
    rw (p.1, p.2) (λ k made. inl (inl c.in_err-places.ensures.err))

pub user_in-found-requires : goal.user_in-found-requires
user_in-found-requires c =
    let some : IsSome (user_of c.args.self.now.users c.args.user) = rw c.requires.can.made refl in
    subst (λ (l : Loaded). IsSome (user_of l.users c.args.user)) (sym c.self.view_is) some

pub compare-requires : goal.compare-requires
compare-requires c =
    let found = c.user_in-found.result.now in
    let made = subst (λ (l : Loaded). user_of l.users c.args.user ≡ Some (kept found)) c.self.view_is c.user_in-found.ensures in
    record {
      taken = (c.args.file.now, as_loadable c.is_attached.result c.args.file.now c.in_ok-load.load c.in_ok-load.ensures.loaded);
      kept = omega (arith, length-map found.segments.items (λ s. s.head), c.recall_invariant.ensures.short (c.args.user - first_id) (kept found) (made_at c.args.self.now.users c.args.user (kept found) made).0);
    }

pub returns-in_err-compare-clause-refused : goal.returns-in_err-compare-clause-refused
returns-in_err-compare-clause-refused c =
    let p = err_from_is_err_and c.from_residual-in_err-compare.result c.from_residual-in_err-compare.ensures.1 in
    rw (p.1, p.2) (λ k made.
    let same = one_kept (loaded c.self.inside.banks c.self.inside.users.items) c.args.self.now c.args.user (kept c.user_in-found.result.now) k c.self.view_is c.user_in-found.ensures made in
    let s = c.args.segment.now in
    file_changed c.args.file.now c.args.self.now c.args.user c.args.number k s.head s.handle c.in_ok-load.load (subst (λ (b : Bool). IsReadAs b c.args.file.now c.in_ok-load.load) c.is_attached.ensures c.in_ok-load.ensures.loaded) c.in_err-compare.field-0.0
    (subst (λ (x : LoadedUser). IsChanged x.heads (map head_of c.in_ok-load.load) c.in_err-compare.field-0.0) same c.in_err-compare.ensures.changed))

pub place_and_fill-requires : goal.place_and_fill-requires
place_and_fill-requires c = record {
  taken = (c.args.file.now, as_loadable c.is_attached.result c.args.file.now c.in_ok-load.load c.in_ok-load.ensures.loaded);
  room = c.in_ok-places.ensures.ok;
  can = c.requires.can;
  gone = c.requires.gone;
  same = λ k made.
      c.in_ok-compare.ensures.same
      ∙ ap (λ (x : LoadedUser). x.heads) (one_kept (loaded c.self.inside.banks c.self.inside.users.items) c.args.self.now c.args.user (kept c.user_in-found.result.now) k c.self.view_is c.user_in-found.ensures made);
}

pub returns-clause-come : goal.returns-clause-come
returns-clause-come c = λ k made.
    let same = c.in_ok-compare.ensures.same
    ∙ ap (λ (x : LoadedUser). x.heads) (one_kept (loaded c.self.inside.banks c.self.inside.users.items) c.args.self.now c.args.user (kept c.user_in-found.result.now) k c.self.view_is c.user_in-found.ensures made) in
    let s = c.args.segment.now in
    come_from c.args.file.now c.args.self.now c.args.user c.args.number k s.head s.handle c.in_ok-load.load (subst (λ (b : Bool). IsReadAs b c.args.file.now c.in_ok-load.load) c.is_attached.ensures c.in_ok-load.ensures.loaded) c.place_and_fill.new.self c.place_and_fill.result same (c.place_and_fill.ensures.come k made)

pub returns-clause-refused : goal.returns-clause-refused
returns-clause-refused c = λ k made.
    let same = c.in_ok-compare.ensures.same
    ∙ ap (λ (x : LoadedUser). x.heads) (one_kept (loaded c.self.inside.banks c.self.inside.users.items) c.args.self.now c.args.user (kept c.user_in-found.result.now) k c.self.view_is c.user_in-found.ensures made) in
    let s = c.args.segment.now in
    brings_none c.args.file.now c.args.self.now c.args.user c.args.number k s.head s.handle c.in_ok-load.load (subst (λ (b : Bool). IsReadAs b c.args.file.now c.in_ok-load.load) c.is_attached.ensures c.in_ok-load.ensures.loaded) c.place_and_fill.result same c.place_and_fill.ensures.refused
