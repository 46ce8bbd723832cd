use Rattle.std.proofs.Common.{◌+◌, List, ◌++◌, map, Option, Some, refl, sym, ap, ◌∙◌, arith}
use Rattle.std.specs.Prelude.{string_bytes, option_map}
use Rattle.loader_agrees.specs.Agrees.{LoadedUser}
use Rattle.loader_users.specs.View.{kept}
use Rattle.loader_machine.specs.declared.seen.Life.TheVariants.{Running}
use Rattle.loader_users.specs.declared.user.User.{User}
use Rattle.sys_loader.proofs.Beginning.{started, started_sound, same_handles}
use Rattle.sys_loader.proofs.loader.Loader.start.Goals as goal

pub invariant_of-self-2 : goal.invariant_of-self-2
invariant_of-self-2 c =
    let user : User = record { path = c.args.path; life = Running; segments = c.write_all.new.segments; attached = c.args.attached } in
    let plan = c.requires.plan in (
      started_sound c.args.self.now c.self.inside.banks c.place_all.new.banks c.write_all.new.banks c.self.inside.users.items c.push_all.new.users.items user c.args.joined.items c.args.load.now (string_bytes c.args.path) c.requires.users.0
          c.as_slice.result.now c.as_slice-2.result.now c.place_all.new.handles (4097 + c.len.result) c.len.result c.entry_of-entry.result (sym c.self.view_is) c.requires.few c.requires.short refl (omega (arith, c.len.ensures))
          c.in_ok-place_all.ensures.placed (c.as_slice.ensures.value ∙ plan.wants') (same_handles c.self.inside.banks.banks (4097 + c.len.result) c.self.inside.banks.slots c.place_all.new.banks.slots c.as_slice.result.now c.args.plan.wants.items c.as_slice-2.result.now c.place_all.new.handles
          c.args.plan.handles.items c.args.plan.handles.len c.in_ok-place_all.ensures.placed.puts c.as_slice.ensures.value plan.handles' c.args.plan.handles.ok.0 c.as_slice-2.ensures.value) c.write_all.ensures.settled c.write_all.ensures.heads c.write_all.ensures.handles refl refl c.requires.attached c.entry_of-entry.ensures
          c.requires.users.1 (c.push_all.ensures.pushed ∙ ap (λ (us : List (Option User)). map (option_map kept) us ++ map (λ (k : LoadedUser). Some k) (map kept c.args.joined.items)) c.push_reserved.ensures.items) c.self.invariant.0 c.requires.loadable.0 c.requires.loadable.1 c.requires.users.2,
      omega (arith, c.self.invariant.1, c.push_reserved.ensures.capacity, c.push_all.ensures.room),
    )

pub returns-clause-begun : goal.returns-clause-begun
returns-clause-begun c all rows =
    let user : User = record { path = c.args.path; life = Running; segments = c.write_all.new.segments; attached = c.args.attached } in
    let plan = c.requires.plan in
    started c.args.self.now c.self.inside.banks c.place_all.new.banks c.write_all.new.banks c.self.inside.users.items c.push_all.new.users.items user c.args.joined.items c.args.load.now (string_bytes c.args.path) all
    c.as_slice.result.now c.as_slice-2.result.now c.place_all.new.handles (4097 + c.len.result) c.len.result c.entry_of-entry.result (sym c.self.view_is) c.requires.few c.requires.short refl (omega (arith, c.len.ensures))
    c.in_ok-place_all.ensures.placed (c.as_slice.ensures.value ∙ plan.wants') (same_handles c.self.inside.banks.banks (4097 + c.len.result) c.self.inside.banks.slots c.place_all.new.banks.slots c.as_slice.result.now c.args.plan.wants.items c.as_slice-2.result.now c.place_all.new.handles
    c.args.plan.handles.items c.args.plan.handles.len c.in_ok-place_all.ensures.placed.puts c.as_slice.ensures.value plan.handles' c.args.plan.handles.ok.0 c.as_slice-2.ensures.value) c.write_all.ensures.settled c.write_all.ensures.heads c.write_all.ensures.handles refl refl c.requires.attached c.entry_of-entry.ensures
    rows (c.push_all.ensures.pushed ∙ ap (λ (us : List (Option User)). map (option_map kept) us ++ map (λ (k : LoadedUser). Some k) (map kept c.args.joined.items)) c.push_reserved.ensures.items)
