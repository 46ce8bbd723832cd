use Rattle.std.proofs.Common.{◌≡◌, List, true, map, Option, Some, None, refl, sym, ap, subst, ◌∙◌, arith}
use Rattle.std.specs.Prelude.{option_map}
use Rattle.std.proofs.lemmas.Option.{same_Some}
use Rattle.iigs_meaning.specs.declared.handles.Handle.{Handle}
use Rattle.iigs_meaning.specs.declared.wants.Want.{Want}
use Rattle.iigs_meaning.specs.Puts.{without_user}
use Rattle.loader_machine.specs.Rule.{RoomRule}
use Rattle.iigs_meaning.specs.Memory.{AreAllPlaced}
use Rattle.loader_machine.specs.declared.seen.Life.TheVariants.{Running}
use Rattle.loader_machine.specs.Heads.{head_of, wants_of}
use Rattle.loader_machine.specs.State.{user_of, with_user, with_all}
use Rattle.loader_machine.specs.Steps.{lost_refusal}
use Rattle.loader_agrees.specs.Agrees.{LoadedUser, Loaded}
use Rattle.sys_loader.specs.declared.answers.Started.{Started}
use Rattle.loader_users.specs.View.{kept, loaded}
use Rattle.loader_users.specs.Users.{with_life, HasItsUsers}
use Rattle.sys_loader.specs.Restarting.{CanRestart, released_memory, HasBegunAnew}
use Rattle.loader_users.specs.Users.{kept_heads}
use Rattle.loader_users.proofs.Families.{user_set}
use Rattle.sys_loader.proofs.Beginning.{same_handles}
use Rattle.sys_loader.proofs.Restarted.{can_top, its_there}
use Rattle.sys_loader.proofs.Again.{begun_anew_sound}
use Rattle.sys_loader.proofs.Anew.{begun_anew, placed_freed}
use Rattle.sys_loader.proofs.loader.Loader.begin_anew.Goals as goal

pub write_all-requires-clause-placed : goal.write_all-requires-clause-placed
write_all-requires-clause-placed c =
    let plan = c.requires.plan in
    let handles = same_handles c.self.inside.banks.banks c.args.user (without_user c.self.inside.banks.slots c.args.user) c.place_all_anew.new.banks.slots c.as_slice.result.now c.args.plan.wants.items c.as_slice-2.result.now c.place_all_anew.new.handles
    c.args.plan.handles.items c.args.plan.handles.len c.in_ok-place_all_anew.ensures.placed.puts c.as_slice.ensures.value plan.handles' c.args.plan.handles.ok.0 c.as_slice-2.ensures.value in (
      released_memory c.self.inside.banks c.args.user,
      placed_freed c.self.inside.banks c.place_all_anew.new.banks c.args.user (wants_of (map head_of c.args.load.now)) c.as_slice-2.result.now
          (subst (λ (ws : List Want). AreAllPlaced RoomRule c.self.inside.banks c.args.user true ws c.as_slice-2.result.now c.place_all_anew.new.banks) (c.as_slice.ensures.value ∙ plan.wants')
          (subst (λ (hs : List Handle). AreAllPlaced RoomRule c.self.inside.banks c.args.user true c.as_slice.result.now hs c.place_all_anew.new.banks) (sym handles) c.in_ok-place_all_anew.ensures.placed)),
    )

pub set_lives-requires-clause-made : goal.set_lives-requires-clause-made
set_lives-requires-clause-made c =
    let old = loaded c.self.inside.banks c.self.inside.users.items in
    let id = c.args.user in
    let can : CanRestart old id c.requires.can.0 = subst (λ (l : Loaded). CanRestart l id c.requires.can.0) (sym c.self.view_is) c.requires.can.1 in
    let found = c.requires.can.0 in
    let items = c.write_all.new.segments.items in
    let begun : LoadedUser = record found { life = Running; handles = map (λ s. s.handle) items; heads = map (λ s. s.head) items } in
    let set = c.set_segments.ensures.set found can.made in
    let there : user_of (map (option_map kept) c.set_segments.new.users.items) id ≡ Some begun = ap (λ (us : List (Option LoadedUser)). user_of us id) set ∙ user_set old.users id found can.made (Some begun) in
    rw there refl

pub set_lives-requires-clause-there : goal.set_lives-requires-clause-there
set_lives-requires-clause-there c =
    let old = loaded c.self.inside.banks c.self.inside.users.items in
    let id = c.args.user in
    let can : CanRestart old id c.requires.can.0 = subst (λ (l : Loaded). CanRestart l id c.requires.can.0) (sym c.self.view_is) c.requires.can.1 in
    let found = c.requires.can.0 in
    let items = c.write_all.new.segments.items in
    let begun : LoadedUser = record found { life = Running; handles = map (λ s. s.handle) items; heads = map (λ s. s.head) items } in
    let set = c.set_segments.ensures.set found can.made in
    subst (λ (us : List (Option LoadedUser)). HasItsUsers us id) (sym set) (its_there old.users c.self.invariant.0.attached id found begun can.made refl)

pub invariant_of-self-2 : goal.invariant_of-self-2
invariant_of-self-2 c =
    let old = loaded c.self.inside.banks c.self.inside.users.items in
    let last = loaded c.write_all.new.banks c.set_lives.new.users.items in
    let id = c.args.user in
    let can : CanRestart old id c.requires.can.0 = subst (λ (l : Loaded). CanRestart l id c.requires.can.0) (sym c.self.view_is) c.requires.can.1 in
    let found = c.requires.can.0 in
    let plan = c.requires.plan in
    let items = c.write_all.new.segments.items in
    let begun : LoadedUser = record found { life = Running; handles = map (λ s. s.handle) items; heads = map (λ s. s.head) items } in
    let set = c.set_segments.ensures.set found can.made in
    let there : user_of (map (option_map kept) c.set_segments.new.users.items) id ≡ Some begun = ap (λ (us : List (Option LoadedUser)). user_of us id) set ∙ user_set old.users id found can.made (Some begun) in
    let users' : last.users ≡ with_all (with_life Running) (with_user old.users id (Some begun)) found.attached =
    c.set_lives.ensures.set begun there ∙ ap (λ (us : List (Option LoadedUser)). with_all (with_life Running) us found.attached) set in
    let started : Started = record { user = id; entry = c.entry_of-entry.result } in
    let did : HasBegunAnew old id found c.args.load.now started last =
    begun_anew old c.place_all_anew.new.banks c.write_all.new.banks items c.args.load.now found c.as_slice.result.now c.as_slice-2.result.now c.place_all_anew.new.handles id c.entry_of-entry.result c.requires.short
    c.in_ok-place_all_anew.ensures.placed (c.as_slice.ensures.value ∙ plan.wants') (same_handles c.self.inside.banks.banks id (without_user c.self.inside.banks.slots id) c.place_all_anew.new.banks.slots c.as_slice.result.now c.args.plan.wants.items c.as_slice-2.result.now c.place_all_anew.new.handles
    c.args.plan.handles.items c.args.plan.handles.len c.in_ok-place_all_anew.ensures.placed.puts c.as_slice.ensures.value plan.handles' c.args.plan.handles.ok.0 c.as_slice-2.ensures.value) c.write_all.ensures.settled c.write_all.ensures.heads c.write_all.ensures.handles c.entry_of-entry.ensures
    last.users users' in
    let other = c.requires.same found c.requires.can.1.made in
    let none : lost_refusal (kept_heads old.users found.attached) c.args.load.now ≡ None = ap (λ (l : Loaded). lost_refusal (kept_heads l.users found.attached) c.args.load.now) c.self.view_is ∙ other.0 in (
      begun_anew_sound old last id found c.args.load.now started c.self.invariant.0 can.made can.rests (can_top old id found c.self.invariant.0 can) other.1 did c.requires.taken.0 c.requires.taken.1 none,
      omega (arith, c.self.invariant.1, c.set_segments.ensures.room, c.set_lives.ensures.room),
    )

pub returns-clause-begun : goal.returns-clause-begun
returns-clause-begun c k made =
    let old = loaded c.self.inside.banks c.self.inside.users.items in
    let last = loaded c.write_all.new.banks c.set_lives.new.users.items in
    let id = c.args.user in
    let can : CanRestart old id c.requires.can.0 = subst (λ (l : Loaded). CanRestart l id c.requires.can.0) (sym c.self.view_is) c.requires.can.1 in
    let found = c.requires.can.0 in
    let plan = c.requires.plan in
    let items = c.write_all.new.segments.items in
    let begun : LoadedUser = record found { life = Running; handles = map (λ s. s.handle) items; heads = map (λ s. s.head) items } in
    let set = c.set_segments.ensures.set found can.made in
    let there : user_of (map (option_map kept) c.set_segments.new.users.items) id ≡ Some begun = ap (λ (us : List (Option LoadedUser)). user_of us id) set ∙ user_set old.users id found can.made (Some begun) in
    let users' : last.users ≡ with_all (with_life Running) (with_user old.users id (Some begun)) found.attached =
    c.set_lives.ensures.set begun there ∙ ap (λ (us : List (Option LoadedUser)). with_all (with_life Running) us found.attached) set in
    let started : Started = record { user = id; entry = c.entry_of-entry.result } in
    let did : HasBegunAnew old id found c.args.load.now started last =
    begun_anew old c.place_all_anew.new.banks c.write_all.new.banks items c.args.load.now found c.as_slice.result.now c.as_slice-2.result.now c.place_all_anew.new.handles id c.entry_of-entry.result c.requires.short
    c.in_ok-place_all_anew.ensures.placed (c.as_slice.ensures.value ∙ plan.wants') (same_handles c.self.inside.banks.banks id (without_user c.self.inside.banks.slots id) c.place_all_anew.new.banks.slots c.as_slice.result.now c.args.plan.wants.items c.as_slice-2.result.now c.place_all_anew.new.handles
    c.args.plan.handles.items c.args.plan.handles.len c.in_ok-place_all_anew.ensures.placed.puts c.as_slice.ensures.value plan.handles' c.args.plan.handles.ok.0 c.as_slice-2.ensures.value) c.write_all.ensures.settled c.write_all.ensures.heads c.write_all.ensures.handles c.entry_of-entry.ensures
    last.users users' in
    let same : found ≡ k = same_Some found k (sym c.requires.can.1.made ∙ made) in
    subst (λ (l : Loaded). HasBegunAnew l id k c.args.load.now started last) c.self.view_is (subst (λ (x : LoadedUser). HasBegunAnew old id x c.args.load.now started last) same did)
