use Rattle.std.proofs.Common.{◌≡◌, ◌-◌, true, List, length, map, Option, Some, None, refl, sym, ap, subst, ◌∙◌, arith}
use Rattle.std.specs.Prelude.{option_map}
use Rattle.std.proofs.lemmas.List.{length-map}
use Rattle.loader_machine.specs.declared.seen.Life.TheVariants.{Dormant}
use Rattle.loader_machine.specs.State.{first_id, user_of, with_user, with_all, is_attached}
use Rattle.loader_machine.specs.laws.Words.{family}
use Rattle.loader_machine.specs.Refusals.{shut_down_refusal}
use Rattle.loader_agrees.specs.Agrees.{LoadedUser, Loaded, kept_outlines, seen_by}
use Rattle.loader_agrees.specs.laws.Seeing.{made_at}
use Rattle.loader_users.specs.View.{kept, loaded}
use Rattle.sys_loader.specs.Lives.{HasKept}
use Rattle.loader_users.specs.Users.{with_life}
use Rattle.loader_users.proofs.Families.{stays_all, all_last}
use Rattle.sys_loader.proofs.Unloading.{roomy}
use Rattle.sys_loader.proofs.Resting.{kept_sound, has_kept, found_runs}
use Rattle.sys_loader.proofs.Stopping.{top_of}
use Rattle.sys_loader.proofs.loader.Loader.keep_user.Goals as goal

pub relink_tables-requires : goal.relink_tables-requires
relink_tables-requires c =
    let old = loaded c.self.inside.banks c.self.inside.users.items in
    let k = kept c.user_in.result.now in
    record { ready = roomy old (c.args.user - first_id) k c.self.invariant.0 (made_at old.users c.args.user k c.user_in.ensures).0 }

pub set_life-requires : goal.set_life-requires
set_life-requires c =
    let old = loaded c.self.inside.banks c.self.inside.users.items in
    let id = c.args.user in
    let k = kept c.user_in.result.now in
    let now = stays_all (with_life Dormant) (λ x. refl) old.users k.attached id k c.user_in.ensures in
    let there : user_of (map (option_map kept) c.set_lives.new.users.items) id ≡ Some now.0 = ap (λ (us : List (Option LoadedUser)). user_of us id) (c.set_lives.ensures.set k c.user_in.ensures) ∙ now.1 in
    rw there refl

pub invariant_of-self : goal.invariant_of-self
invariant_of-self c =
    let old = loaded c.self.inside.banks c.self.inside.users.items in
    let last = loaded c.idle_family.new.banks c.set_life.new.users.items in
    let id = c.args.user in
    let k = kept c.user_in.result.now in
    let items = c.user_in.result.now.segments.items in
    let ok = c.in_ok-keepable.ensures.ok in
    let made : user_of old.users id ≡ Some ok.0 = subst (λ (l : Loaded). user_of l.users id ≡ Some ok.0) (sym c.self.view_is) ok.1 in
    let runs = found_runs old.users id ok.0 k made c.user_in.ensures ok.2 in
    let passes : shut_down_refusal (is_attached (kept_outlines old.users) id) (seen_by old id) true ≡ None =
    subst (λ (l : Loaded). shut_down_refusal (is_attached (kept_outlines l.users) id) (seen_by l id) true ≡ None) (sym c.self.view_is) ok.3 in
    let set = c.set_lives.ensures.set k c.user_in.ensures in
    let now = stays_all (with_life Dormant) (λ x. refl) old.users k.attached id k c.user_in.ensures in
    let there : user_of (map (option_map kept) c.set_lives.new.users.items) id ≡ Some now.0 = ap (λ (us : List (Option LoadedUser)). user_of us id) set ∙ now.1 in
    let users : last.users ≡ with_all (with_life Dormant) old.users (family id k.attached) =
    c.set_life.ensures.set now.0 there ∙ ap (λ (us : List (Option LoadedUser)). with_user us id (Some (with_life Dormant now.0))) set ∙ sym (all_last (with_life Dormant) old.users k.attached id now.0 now.1) in
    let did = has_kept old last id k c.relink_tables.new.banks (length items) c.user_in.ensures runs (sym (length-map items (λ s. s.head))) c.relink_tables.ensures (c.idle_family.ensures k c.user_in.ensures) users in
    (kept_sound old last id c.self.invariant.0 did (top_of old id true k c.self.invariant.0 c.user_in.ensures passes), omega (arith, c.self.invariant.1, c.set_lives.ensures.room, c.set_life.ensures.room))

pub returns : goal.returns
returns c =
    let old = loaded c.self.inside.banks c.self.inside.users.items in
    let last = loaded c.idle_family.new.banks c.set_life.new.users.items in
    let id = c.args.user in
    let k = kept c.user_in.result.now in
    let items = c.user_in.result.now.segments.items in
    let ok = c.in_ok-keepable.ensures.ok in
    let made : user_of old.users id ≡ Some ok.0 = subst (λ (l : Loaded). user_of l.users id ≡ Some ok.0) (sym c.self.view_is) ok.1 in
    let runs = found_runs old.users id ok.0 k made c.user_in.ensures ok.2 in
    let passes : shut_down_refusal (is_attached (kept_outlines old.users) id) (seen_by old id) true ≡ None =
    subst (λ (l : Loaded). shut_down_refusal (is_attached (kept_outlines l.users) id) (seen_by l id) true ≡ None) (sym c.self.view_is) ok.3 in
    let set = c.set_lives.ensures.set k c.user_in.ensures in
    let now = stays_all (with_life Dormant) (λ x. refl) old.users k.attached id k c.user_in.ensures in
    let there : user_of (map (option_map kept) c.set_lives.new.users.items) id ≡ Some now.0 = ap (λ (us : List (Option LoadedUser)). user_of us id) set ∙ now.1 in
    let users : last.users ≡ with_all (with_life Dormant) old.users (family id k.attached) =
    c.set_life.ensures.set now.0 there ∙ ap (λ (us : List (Option LoadedUser)). with_user us id (Some (with_life Dormant now.0))) set ∙ sym (all_last (with_life Dormant) old.users k.attached id now.0 now.1) in
    let did = has_kept old last id k c.relink_tables.new.banks (length items) c.user_in.ensures runs (sym (length-map items (λ s. s.head))) c.relink_tables.ensures (c.idle_family.ensures k c.user_in.ensures) users in
    record { did = (subst (λ (l : Loaded). HasKept l id last) c.self.view_is did, ok.3) }
