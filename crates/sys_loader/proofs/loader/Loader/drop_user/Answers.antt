use Rattle.std.proofs.Common.{◌≡◌, false, List, length, map, Option, Some, None, IsSome, refl, sym, ap, subst, ◌∙◌, arith}
use Rattle.std.specs.Prelude.{option_map}
use Rattle.loader_machine.specs.State.{user_of, without_all, is_attached}
use Rattle.loader_machine.specs.Refusals.{shut_down_refusal}
use Rattle.loader_agrees.specs.Agrees.{LoadedUser, Loaded, kept_outlines, seen_by}
use Rattle.loader_users.specs.View.{kept, loaded}
use Rattle.sys_loader.specs.Lives.{HasDropped}
use Rattle.loader_users.proofs.Families.{take_past}
use Rattle.loader_users.proofs.UserItems.{some_is}
use Rattle.sys_loader.proofs.Dropping.{has_dropped, dropped_sound, still_there}
use Rattle.sys_loader.proofs.Stopping.{top_of}
use Rattle.sys_loader.proofs.loader.Loader.drop_user.Goals as goal

pub remove-requires : goal.remove-requires
remove-requires c =
    let old = loaded c.self.inside.banks c.self.inside.users.items in
    let id = c.args.user in
    let some = some_is (user_of old.users id) (subst (λ (l : Loaded). IsSome (user_of l.users id)) (sym c.self.view_is) c.in_ok-droppable.ensures.ok.0) in
    let all = take_past some.0.attached (length some.0.attached) (omega arith) in
    let there : user_of (map (option_map kept) c.drop_attached.new.users.items) id ≡ Some some.0 =
    ap (λ (us : List (Option LoadedUser)). user_of us id) (c.drop_attached.ensures.gone some.0 some.1 ∙ ap (without_all old.users) (sym all))
    ∙ still_there old.users c.self.invariant.0.attached id some.0 some.1 (length some.0.attached) in
    rw there refl

pub invariant_of-self : goal.invariant_of-self
invariant_of-self c =
    let old = loaded c.self.inside.banks c.self.inside.users.items in
    let last = loaded c.release_all.new.banks c.remove.new.users.items in
    let id = c.args.user in
    let ok = c.in_ok-droppable.ensures.ok in
    let some = some_is (user_of old.users id) (subst (λ (l : Loaded). IsSome (user_of l.users id)) (sym c.self.view_is) ok.0) in
    let passes : shut_down_refusal (is_attached (kept_outlines old.users) id) (seen_by old id) false ≡ None =
    subst (λ (l : Loaded). shut_down_refusal (is_attached (kept_outlines l.users) id) (seen_by l id) false ≡ None) (sym c.self.view_is) ok.1 in
    let did = has_dropped old last id some.0 c.drop_attached.new.banks (map (option_map kept) c.drop_attached.new.users.items) some.1 (c.drop_attached.ensures.released some.0 some.1) (c.drop_attached.ensures.gone some.0 some.1)
    c.release_all.ensures.released c.remove.ensures.gone in
    (dropped_sound old last id c.self.invariant.0 did (top_of old id false some.0 c.self.invariant.0 some.1 passes), omega (arith, c.self.invariant.1, c.drop_attached.ensures.room, c.remove.ensures.room))

pub returns : goal.returns
returns c =
    let old = loaded c.self.inside.banks c.self.inside.users.items in
    let last = loaded c.release_all.new.banks c.remove.new.users.items in
    let id = c.args.user in
    let ok = c.in_ok-droppable.ensures.ok in
    let some = some_is (user_of old.users id) (subst (λ (l : Loaded). IsSome (user_of l.users id)) (sym c.self.view_is) ok.0) in
    let passes : shut_down_refusal (is_attached (kept_outlines old.users) id) (seen_by old id) false ≡ None =
    subst (λ (l : Loaded). shut_down_refusal (is_attached (kept_outlines l.users) id) (seen_by l id) false ≡ None) (sym c.self.view_is) ok.1 in
    let did = has_dropped old last id some.0 c.drop_attached.new.banks (map (option_map kept) c.drop_attached.new.users.items) some.1 (c.drop_attached.ensures.released some.0 some.1) (c.drop_attached.ensures.gone some.0 some.1)
    c.release_all.ensures.released c.remove.ensures.gone in
    record { did = (subst (λ (l : Loaded). HasDropped l id last) c.self.view_is did, ok.1) }
