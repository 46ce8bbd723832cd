use Rattle.std.proofs.Common.{◌≡◌, inl, inr, ℕ, List, Some, refl, sym, ap, subst, ◌∙◌}
use Rattle.std.proofs.lemmas.Option.{same_Some}
use Rattle.omf_io.specs.Files.{StoreSeen, HasCause, IsRead}
use Rattle.omf_io.specs.declared.files.ReadFault.TheVariants as read
use Rattle.loader_machine.specs.State.{user_of}
use Rattle.loader_agrees.specs.Agrees.{LoadedUser, Loaded}
use Rattle.loader_users.specs.View.{kept}
use Rattle.sys_loader.specs.Restarting.{CantRead}
use Rattle.sys_loader.proofs.Rereading.{did_reload, did_begin}
use Rattle.sys_loader.proofs.loader.Loader.read_and_restart.Goals as goal

pub returns-in-Err-Absent-clause-did : goal.returns-in-Err-Absent-clause-did
returns-in-Err-Absent-clause-did g c =
    let before = g.F.Files.seen c.args.files.now in
    let now = g.F.Files.seen c.read.new.self in
    let can = c.requires.can.1 in
    let made : user_of c.args.self.now.users c.args.user ≡ Some (kept c.user_in-found.result.now) = ap (λ (l : Loaded). user_of l.users c.args.user) (sym c.self.view_is) ∙ c.user_in-found.ensures in
    let path : c.deref.result.now ≡ c.requires.can.0.path = c.deref.ensures ∙ ap (λ (x : LoadedUser). x.path) (same_Some (kept c.user_in-found.result.now) c.requires.can.0 (sym made ∙ can.made)) in
    let why = rw c.in-Err-Absent.field-0-is at c.in-Err-Absent.ensures.answer in
    (CantRead c.requires.can.0 can c.requires.reads (inl (subst (λ (p : List ℕ). HasCause read.Absent before.held p before.faults now.faults) path why.0)) refl, refl)

pub returns-in-Err-TooLong-clause-did : goal.returns-in-Err-TooLong-clause-did
returns-in-Err-TooLong-clause-did g c =
    let before = g.F.Files.seen c.args.files.now in
    let now = g.F.Files.seen c.read.new.self in
    let can = c.requires.can.1 in
    let made : user_of c.args.self.now.users c.args.user ≡ Some (kept c.user_in-found.result.now) = ap (λ (l : Loaded). user_of l.users c.args.user) (sym c.self.view_is) ∙ c.user_in-found.ensures in
    let path : c.deref.result.now ≡ c.requires.can.0.path = c.deref.ensures ∙ ap (λ (x : LoadedUser). x.path) (same_Some (kept c.user_in-found.result.now) c.requires.can.0 (sym made ∙ can.made)) in
    let why = rw c.in-Err-TooLong.field-0-is at c.in-Err-TooLong.ensures.answer in
    (CantRead c.requires.can.0 can c.requires.reads (inr (inl (subst (λ (p : List ℕ). HasCause read.TooLong before.held p before.faults now.faults) path why.0))) refl, refl)

pub returns-in-Err-Failed-clause-did : goal.returns-in-Err-Failed-clause-did
returns-in-Err-Failed-clause-did g c =
    let before = g.F.Files.seen c.args.files.now in
    let now = g.F.Files.seen c.read.new.self in
    let can = c.requires.can.1 in
    let why = rw c.in-Err-Failed.field-0-is at c.in-Err-Failed.ensures.answer in
    (CantRead c.requires.can.0 can c.requires.reads (inr (inr why.0)) refl, refl)

pub returns-then-in_place-clause-did : goal.returns-then-in_place-clause-did
returns-then-in_place-clause-did g c =
    let before = g.F.Files.seen c.args.files.now in
    let now = g.F.Files.seen c.read.new.self in
    let k = c.requires.can.0 in
    let can = c.requires.can.1 in
    let made : user_of c.args.self.now.users c.args.user ≡ Some (kept c.user_in-found.result.now) = ap (λ (l : Loaded). user_of l.users c.args.user) (sym c.self.view_is) ∙ c.user_in-found.ensures in
    let path : c.deref.result.now ≡ k.path = c.deref.ensures ∙ ap (λ (x : LoadedUser). x.path) (same_Some (kept c.user_in-found.result.now) k (sym made ∙ can.made)) in
    let is_read : IsRead before.held k.path c.deref-then-in_place.result.now =
    subst (λ (file : List ℕ). IsRead before.held k.path file) (sym c.deref-then-in_place.ensures.value) (subst (λ (p : List ℕ). IsRead before.held p c.in-Ok.bytes.items) path c.in-Ok.ensures.answer.0) in
    did_reload before.held c.args.self.now c.reload.new.self c.args.user k can c.requires.reads c.deref-then-in_place.result.now is_read before.faults now.faults (ap (λ (s : StoreSeen). s.faults) c.in-Ok.ensures.answer.1)
    c.reload.result (c.requires.whole k can.made ∙ c.if-in_place.true) (c.reload.ensures.reloaded k can.made) (c.reload.ensures.refused k can.made) c.reload.ensures.err

pub returns-clause-did : goal.returns-clause-did
returns-clause-did g c =
    let before = g.F.Files.seen c.args.files.now in
    let now = g.F.Files.seen c.read.new.self in
    let k = c.requires.can.0 in
    let can = c.requires.can.1 in
    let made : user_of c.args.self.now.users c.args.user ≡ Some (kept c.user_in-found.result.now) = ap (λ (l : Loaded). user_of l.users c.args.user) (sym c.self.view_is) ∙ c.user_in-found.ensures in
    let path : c.deref.result.now ≡ k.path = c.deref.ensures ∙ ap (λ (x : LoadedUser). x.path) (same_Some (kept c.user_in-found.result.now) k (sym made ∙ can.made)) in
    let is_read : IsRead before.held k.path c.deref-else-in_place.result.now =
    subst (λ (file : List ℕ). IsRead before.held k.path file) (sym c.deref-else-in_place.ensures.value) (subst (λ (p : List ℕ). IsRead before.held p c.in-Ok.bytes.items) path c.in-Ok.ensures.answer.0) in
    did_begin before.held c.args.self.now c.start_anew.new.self c.args.user k can c.requires.reads c.deref-else-in_place.result.now is_read before.faults now.faults (ap (λ (s : StoreSeen). s.faults) c.in-Ok.ensures.answer.1)
    c.start_anew.result (c.requires.whole k can.made ∙ c.if-in_place.false) (c.start_anew.ensures.begun k can.made) (c.start_anew.ensures.refused k can.made) c.start_anew.ensures.err
