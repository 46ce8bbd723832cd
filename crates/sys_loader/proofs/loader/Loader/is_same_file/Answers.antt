use Rattle.std.proofs.Common.{◌≡◌, inl, inr, ◌-◌, Some, None, refl, sym, ap, subst, ◌∙◌}
use Rattle.std.specs.Option.{option_map}
use Rattle.std.proofs.lemmas.Option.{same_Some}
use Rattle.std.proofs.lemmas.Result.{IfOk-weaker, IfErr-weaker}
use Rattle.loader_machine.specs.declared.faults.LoaderFault.TheVariants as fault
use Rattle.loader_machine.specs.State.{first_id, user_of}
use Rattle.loader_machine.specs.Steps.{lost_refusal}
use Rattle.loader_agrees.specs.Agrees.{LoadedUser, Loaded}
use Rattle.loader_agrees.specs.laws.Seeing.{made_at}
use Rattle.loader_users.specs.View.{kept, loaded}
use Rattle.loader_users.specs.Users.{kept_heads}
use Rattle.sys_loader.specs.Restarting.{IsOtherFile}
use Rattle.loader_users.proofs.Losing.{refusal_of}
use Rattle.sys_loader.proofs.Reloading.{its_short}
use Rattle.sys_loader.proofs.loader.Loader.is_same_file.Goals as goal

pub first_dangling_entry_of-requires : goal.first_dangling_entry_of-requires
first_dangling_entry_of-requires c = λ place n is.
    let old = loaded c.self.inside.banks c.self.inside.users.items in
    let k = kept c.user_in-found.result.now in
    let one = c.self.invariant.0.attached.each (c.args.user - first_id) place n k (made_at old.users c.args.user k c.user_in-found.ensures).0 is in
    rw one.1 refl

pub returns-in-Some-clause-other : goal.returns-in-Some-clause-other
returns-in-Some-clause-other c k made =
    let found = kept c.user_in-found.result.now in
    let same : found ≡ k = same_Some found k (sym c.user_in-found.ensures ∙ ap (λ (l : Loaded). user_of l.users c.args.user) c.self.view_is ∙ made) in
    let lost : lost_refusal (kept_heads (loaded c.self.inside.banks c.self.inside.users.items).users found.attached) c.args.load.now ≡ Some (fault.BadFile c.in-Some.fault) =
    refusal_of (kept_heads (loaded c.self.inside.banks c.self.inside.users.items).users found.attached) c.args.load.now c.first_dangling_entry_of.result c.first_dangling_entry_of.ensures ∙ ap (option_map fault.BadFile) c.in-Some.is in
    inl (ap (λ (l : Loaded). lost_refusal (kept_heads l.users k.attached) c.args.load.now) (sym c.self.view_is)
    ∙ ap (λ (x : LoadedUser). lost_refusal (kept_heads (loaded c.self.inside.banks c.self.inside.users.items).users x.attached) c.args.load.now) (sym same) ∙ lost)

pub compare-requires-clause-kept : goal.compare-requires-clause-kept
compare-requires-clause-kept c =
    its_short (loaded c.self.inside.banks c.self.inside.users.items) c.args.user c.user_in-found.result.now c.self.invariant.0 c.user_in-found.ensures

pub returns-clause-same : goal.returns-clause-same
returns-clause-same c k made =
    let found = kept c.user_in-found.result.now in
    let same : found ≡ k = same_Some found k (sym c.user_in-found.ensures ∙ ap (λ (l : Loaded). user_of l.users c.args.user) c.self.view_is ∙ made) in
    let none : lost_refusal (kept_heads (loaded c.self.inside.banks c.self.inside.users.items).users found.attached) c.args.load.now ≡ None =
    refusal_of (kept_heads (loaded c.self.inside.banks c.self.inside.users.items).users found.attached) c.args.load.now c.first_dangling_entry_of.result c.first_dangling_entry_of.ensures ∙ ap (option_map fault.BadFile) c.in-None.is in
    IfOk-weaker c.compare.result _ _
    (λ _ heads. (
      ap (λ (l : Loaded). lost_refusal (kept_heads l.users k.attached) c.args.load.now) (sym c.self.view_is)
          ∙ ap (λ (x : LoadedUser). lost_refusal (kept_heads (loaded c.self.inside.banks c.self.inside.users.items).users x.attached) c.args.load.now) (sym same) ∙ none,
      heads ∙ ap (λ (x : LoadedUser). x.heads) same,
    ))
    c.compare.ensures.same

pub returns-clause-other : goal.returns-clause-other
returns-clause-other c k made =
    let found = kept c.user_in-found.result.now in
    let same : found ≡ k = same_Some found k (sym c.user_in-found.ensures ∙ ap (λ (l : Loaded). user_of l.users c.args.user) c.self.view_is ∙ made) in
    let none : lost_refusal (kept_heads (loaded c.self.inside.banks c.self.inside.users.items).users found.attached) c.args.load.now ≡ None =
    refusal_of (kept_heads (loaded c.self.inside.banks c.self.inside.users.items).users found.attached) c.args.load.now c.first_dangling_entry_of.result c.first_dangling_entry_of.ensures ∙ ap (option_map fault.BadFile) c.in-None.is in
    IfErr-weaker c.compare.result _ _
    (λ why changed.
    subst (λ (l : Loaded). IsOtherFile l.users k c.args.load.now why) c.self.view_is
    (subst (λ (x : LoadedUser). IsOtherFile (loaded c.self.inside.banks c.self.inside.users.items).users x c.args.load.now why) same (inr (none, changed))))
    c.compare.ensures.changed
