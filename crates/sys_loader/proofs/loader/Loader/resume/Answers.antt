use Rattle.std.proofs.Common.{◌≡◌, List, map, Option, Some, refl, sym, ap, subst, ◌∙◌, arith}
use Rattle.std.specs.Prelude.{option_map}
use Rattle.std.proofs.lemmas.Option.{same_Some}
use Rattle.loader_machine.specs.declared.seen.Life.TheVariants.{Running}
use Rattle.loader_machine.specs.State.{user_of, with_user, with_all}
use Rattle.loader_agrees.specs.Agrees.{LoadedUser, Loaded}
use Rattle.sys_loader.specs.declared.answers.Started.{Started}
use Rattle.loader_users.specs.View.{kept, loaded}
use Rattle.loader_users.specs.Users.{with_life, HasItsUsers}
use Rattle.sys_loader.specs.Restarting.{CanRestart, is_whole, HasResumed}
use Rattle.loader_users.proofs.Families.{user_set}
use Rattle.sys_loader.proofs.Restarted.{can_top, its_there}
use Rattle.sys_loader.proofs.Resuming.{resumed_sound}
use Rattle.sys_loader.proofs.Reloading.{quiet_same, has_resumed}
use Rattle.sys_loader.proofs.loader.Loader.resume.Goals as goal

pub activate_all-requires : goal.activate_all-requires
activate_all-requires c =
    let k = kept c.user_in-found.result.now in
    ap (λ (l : Loaded). is_whole l k) c.self.view_is ∙ c.requires.whole k (ap (λ (l : Loaded). user_of l.users c.args.user) (sym c.self.view_is) ∙ c.user_in-found.ensures)

pub user_in-found-requires : goal.user_in-found-requires
user_in-found-requires c =
    let made : user_of (loaded c.self.inside.banks c.self.inside.users.items).users c.args.user ≡ Some c.requires.can.0 = ap (λ (l : Loaded). user_of l.users c.args.user) c.self.view_is ∙ c.requires.can.1.made in
    rw made refl

pub set_lives-requires-clause-made : goal.set_lives-requires-clause-made
set_lives-requires-clause-made c =
    let old = loaded c.self.inside.banks c.self.inside.users.items in
    let k = kept c.user_in-found.result.now in
    let there : user_of (map (option_map kept) c.set_life.new.users.items) c.args.user ≡ Some (with_life Running k) =
    ap (λ (us : List (Option LoadedUser)). user_of us c.args.user) (c.set_life.ensures.set k c.user_in-found.ensures) ∙ user_set old.users c.args.user k c.user_in-found.ensures (Some (with_life Running k)) in
    rw there refl

pub set_lives-requires-clause-there : goal.set_lives-requires-clause-there
set_lives-requires-clause-there c =
    let old = loaded c.self.inside.banks c.self.inside.users.items in
    let k = kept c.user_in-found.result.now in
    subst (λ (us : List (Option LoadedUser)). HasItsUsers us c.args.user) (sym (c.set_life.ensures.set k c.user_in-found.ensures))
    (its_there old.users c.self.invariant.0.attached c.args.user k (with_life Running k) c.user_in-found.ensures refl)

pub invariant_of-self : goal.invariant_of-self
invariant_of-self c =
    let old = loaded c.self.inside.banks c.self.inside.users.items in
    let last = loaded c.activate_all.new.banks c.set_lives.new.users.items in
    let id = c.args.user in
    let k = kept c.user_in-found.result.now in
    let items = c.user_in-found.result.now.segments.items in
    let started : Started = record { user = id; entry = c.entry_of-entry.result } in
    let whole = ap (λ (l : Loaded). is_whole l k) c.self.view_is ∙ c.requires.whole k (ap (λ (l : Loaded). user_of l.users id) (sym c.self.view_is) ∙ c.user_in-found.ensures) in
    let set = c.set_life.ensures.set k c.user_in-found.ensures in
    let there : user_of (map (option_map kept) c.set_life.new.users.items) id ≡ Some (with_life Running k) =
    ap (λ (us : List (Option LoadedUser)). user_of us id) set ∙ user_set old.users id k c.user_in-found.ensures (Some (with_life Running k)) in
    let users' : last.users ≡ with_all (with_life Running) (with_user old.users id (Some (with_life Running k))) k.attached =
    c.set_lives.ensures.set (with_life Running k) there ∙ ap (λ (us : List (Option LoadedUser)). with_all (with_life Running) us k.attached) set in
    let did = has_resumed old.memory old.users id k items started last refl refl refl c.activate_all.ensures users' c.entry_of-entry.ensures in
    let can : CanRestart old id c.requires.can.0 = subst (λ (l : Loaded). CanRestart l id c.requires.can.0) (sym c.self.view_is) c.requires.can.1 in
    let same : c.requires.can.0 ≡ k = same_Some c.requires.can.0 k (sym can.made ∙ c.user_in-found.ensures) in
    let its : CanRestart old id k = subst (CanRestart old id) same can in (
      resumed_sound old last id k started c.self.invariant.0 c.user_in-found.ensures its.rests (can_top old id k c.self.invariant.0 its) whole old.memory (quiet_same old.memory) did c.self.invariant.0.calls,
      omega (arith, c.self.invariant.1, c.set_life.ensures.room, c.set_lives.ensures.room),
    )

pub returns : goal.returns
returns c = λ k' made.
    let old = loaded c.self.inside.banks c.self.inside.users.items in
    let last = loaded c.activate_all.new.banks c.set_lives.new.users.items in
    let id = c.args.user in
    let k = kept c.user_in-found.result.now in
    let items = c.user_in-found.result.now.segments.items in
    let started : Started = record { user = id; entry = c.entry_of-entry.result } in
    let whole = ap (λ (l : Loaded). is_whole l k) c.self.view_is ∙ c.requires.whole k (ap (λ (l : Loaded). user_of l.users id) (sym c.self.view_is) ∙ c.user_in-found.ensures) in
    let set = c.set_life.ensures.set k c.user_in-found.ensures in
    let there : user_of (map (option_map kept) c.set_life.new.users.items) id ≡ Some (with_life Running k) =
    ap (λ (us : List (Option LoadedUser)). user_of us id) set ∙ user_set old.users id k c.user_in-found.ensures (Some (with_life Running k)) in
    let users' : last.users ≡ with_all (with_life Running) (with_user old.users id (Some (with_life Running k))) k.attached =
    c.set_lives.ensures.set (with_life Running k) there ∙ ap (λ (us : List (Option LoadedUser)). with_all (with_life Running) us k.attached) set in
    let did = has_resumed old.memory old.users id k items started last refl refl refl c.activate_all.ensures users' c.entry_of-entry.ensures in
    let same : k ≡ k' = same_Some k k' (sym c.user_in-found.ensures ∙ ap (λ (l : Loaded). user_of l.users id) c.self.view_is ∙ made) in
    subst (λ (l : Loaded). HasResumed l.memory l.users id k' started last) c.self.view_is
    (subst (λ (x : LoadedUser). HasResumed old.memory old.users id x started last) same did)
