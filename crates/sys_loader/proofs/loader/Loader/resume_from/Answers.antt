use Rattle.std.proofs.Common.{◌≡◌, ℕ, length, map, List, Option, sym, ap, subst, ◌∙◌, arith}
use Rattle.std.proofs.lemmas.List.{length-map}
use Rattle.loader_machine.specs.Heads.{head_of}
use Rattle.std.proofs.lemmas.Option.{same_Some}
use Rattle.loader_machine.specs.declared.seen.Life.TheVariants.{Dormant}
use Rattle.loader_machine.specs.State.{user_of}
use Rattle.loader_machine.specs.Steps.{lost_refusal}
use Rattle.loader_agrees.specs.Agrees.{LoadedUser, Loaded}
use Rattle.loader_users.specs.View.{kept, loaded}
use Rattle.loader_users.specs.Filling.{AreFilled}
use Rattle.sys_loader.specs.Restarting.{is_whole, AreReread, again_handle, HasReloaded}
use Rattle.loader_users.specs.Users.{kept_heads}
use Rattle.loader_users.proofs.Settling.{are_sound}
use Rattle.sys_loader.proofs.Resuming.{quiet_reread}
use Rattle.sys_loader.proofs.Reloading.{its_short, again_ready, has_reread, quiet_sound, reread_calls}
use Rattle.sys_loader.proofs.loader.Loader.resume_from.Goals as goal

pub set_places-requires-clause-short : goal.set_places-requires-clause-short
set_places-requires-clause-short c =
    its_short (loaded c.self.inside.banks c.self.inside.users.items) c.args.user c.user_in-found.result.now c.self.invariant.0 c.user_in-found.ensures

pub set_places-requires-clause-room : goal.set_places-requires-clause-room
set_places-requires-clause-room c =
    let found = c.user_in-found.result.now in
    let made' = ap (λ (l : Loaded). user_of l.users c.args.user) (sym c.self.view_is) ∙ c.user_in-found.ensures in
    omega (arith, c.requires.room, length-map found.segments.items (λ s. s.head), length-map c.args.load.now head_of, ap length (c.requires.same (kept found) made').1)

pub fill_again-requires-clause-heads : goal.fill_again-requires-clause-heads
fill_again-requires-clause-heads c =
    let made' = ap (λ (l : Loaded). user_of l.users c.args.user) (sym c.self.view_is) ∙ c.user_in-found.ensures in
    sym (c.requires.same (kept c.user_in-found.result.now) made').1

pub fill_again-requires-clause-sound : goal.fill_again-requires-clause-sound
fill_again-requires-clause-sound c = are_sound c.requires.taken.0 c.args.load.now c.requires.taken.1

pub fill_again-requires-clause-short : goal.fill_again-requires-clause-short
fill_again-requires-clause-short c =
    its_short (loaded c.self.inside.banks c.self.inside.users.items) c.args.user c.user_in-found.result.now c.self.invariant.0 c.user_in-found.ensures

pub fill_again-requires-clause-ready : goal.fill_again-requires-clause-ready
fill_again-requires-clause-ready c =
    let old = loaded c.self.inside.banks c.self.inside.users.items in
    let k = kept c.user_in-found.result.now in
    again_ready old c.args.user c.user_in-found.result.now c.self.invariant.0 c.user_in-found.ensures
    (ap (λ (l : Loaded). is_whole l k) c.self.view_is ∙ c.requires.whole k (ap (λ (l : Loaded). user_of l.users c.args.user) (sym c.self.view_is) ∙ c.user_in-found.ensures))

pub invariant_of-self : goal.invariant_of-self
invariant_of-self c =
    let old = loaded c.self.inside.banks c.self.inside.users.items in
    let user = c.user_in-found.result.now in
    let made' = ap (λ (l : Loaded). user_of l.users c.args.user) (sym c.self.view_is) ∙ c.user_in-found.ensures in
    let rests : user.life ≡ Dormant =
    ap (λ (x : LoadedUser). x.life) (same_Some (kept user) c.requires.can.0 (sym made' ∙ c.requires.can.1.made)) ∙ c.requires.can.1.rests in
    let reread : AreReread c.args.load.now c.args.user (kept user) old.memory c.fill_again.new.banks =
    has_reread old c.args.user user c.self.invariant.0 c.user_in-found.ensures rests c.args.load.now (c.requires.same (kept user) made').1 c.fill_again.new.banks
    (subst (λ (places : List (Option ℕ)). AreFilled c.args.load.now (map again_handle user.segments.items) c.args.user places old.memory c.fill_again.new.banks (length user.segments.items)) c.set_places.ensures c.fill_again.ensures) in (
      quiet_sound old.memory c.fill_again.new.banks old.users c.self.invariant.0 (quiet_reread c.args.load.now c.args.user (kept user) old.memory c.fill_again.new.banks reread)
          (reread_calls old.memory c.fill_again.new.banks old.users c.args.user (kept user) c.self.invariant.0 c.user_in-found.ensures c.requires.taken.0 c.args.load.now c.requires.taken.1 (c.requires.same (kept user) made').1
          (ap (λ (l : Loaded). lost_refusal (kept_heads l.users user.attached.items) c.args.load.now) c.self.view_is ∙ (c.requires.same (kept user) made').0) reread),
      c.self.invariant.1,
    )

pub returns : goal.returns
returns c file k taken made =
    let old = loaded c.self.inside.banks c.self.inside.users.items in
    let user = c.user_in-found.result.now in
    let made' = ap (λ (l : Loaded). user_of l.users c.args.user) (sym c.self.view_is) ∙ c.user_in-found.ensures in
    let rests : user.life ≡ Dormant =
    ap (λ (x : LoadedUser). x.life) (same_Some (kept user) c.requires.can.0 (sym made' ∙ c.requires.can.1.made)) ∙ c.requires.can.1.rests in
    let reread : AreReread c.args.load.now c.args.user (kept user) old.memory c.fill_again.new.banks =
    has_reread old c.args.user user c.self.invariant.0 c.user_in-found.ensures rests c.args.load.now (c.requires.same (kept user) made').1 c.fill_again.new.banks
    (subst (λ (places : List (Option ℕ)). AreFilled c.args.load.now (map again_handle user.segments.items) c.args.user places old.memory c.fill_again.new.banks (length user.segments.items)) c.set_places.ensures c.fill_again.ensures) in
    let same : kept user ≡ k = same_Some (kept user) k (sym made' ∙ made) in
    let did : HasReloaded file old c.args.user (kept user) c.resume.result c.resume.new.self =
    (c.args.load.now, taken, ap (λ (l : Loaded). lost_refusal (kept_heads l.users user.attached.items) c.args.load.now) c.self.view_is ∙ (c.requires.same (kept user) made').0, (c.requires.same (kept user) made').1, c.fill_again.new.banks, reread, c.resume.ensures (kept user) c.user_in-found.ensures) in
    subst (λ (l : Loaded). HasReloaded file l c.args.user k c.resume.result c.resume.new.self) c.self.view_is
    (subst (λ (x : LoadedUser). HasReloaded file old c.args.user x c.resume.result c.resume.new.self) same did)
