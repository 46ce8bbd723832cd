use Rattle.std.proofs.Common.{◌+◌, ◌≤◌, length, map, refl, ap, ◌∙◌, arith}
use Rattle.std.proofs.lemmas.Result.{err_from_is_err_and}
use Rattle.std.specs.Prelude.{option_map}
use Rattle.std.proofs.lemmas.List.{length-map}
use Rattle.load_meaning.specs.Pathnames.{paths_of}
use Rattle.loader_machine.specs.declared.faults.LoaderFault.TheVariants as fault
use Rattle.loader_machine.specs.State.{max_users}
use Rattle.loader_agrees.specs.Agrees.{Loaded}
use Rattle.loader_users.specs.View.{kept}
use Rattle.sys_loader.proofs.Beginning.{rows_length}
use Rattle.sys_loader.proofs.Loading.{rows_stopped, rows_lost, rows_started, lost_of}
use Rattle.sys_loader.proofs.loader.Loader.join_and_start.Goals as goal

pub returns-in_err-joined-clause-loaded : goal.returns-in_err-joined-clause-loaded
returns-in_err-joined-clause-loaded g c =
    let p = err_from_is_err_and c.from_residual.result c.from_residual.ensures.1 in
    let before = g.F.Files.seen c.args.files.now in
    let now = g.F.Files.seen c.join_all.new.files in
    let fit : length c.args.self.now.users + 1 + length (paths_of c.args.load.now) ≤ max_users =
    omega (arith, c.if-len-paths-gt-MAX_USERS.false, c.len.ensures, c.paths.ensures, ap (λ (l : Loaded). length l.users) c.self.view_is, length-map c.self.inside.users.items (option_map kept)) in
    let stopped = rows_stopped before.held c.args.self.now c.args.load.now before now c.in_err-joined.field-0.0 fit c.in_err-joined.ensures.stops in
    rw (p.1, p.2) ((stopped.0, (stopped.1, refl), stopped.2))

pub returns-in-Some-clause-loaded : goal.returns-in-Some-clause-loaded
returns-in-Some-clause-loaded g c =
    let before = g.F.Files.seen c.args.files.now in
    let now = g.F.Files.seen c.join_all.new.files in
    let fit : length c.args.self.now.users + 1 + length (paths_of c.args.load.now) ≤ max_users =
    omega (arith, c.if-len-paths-gt-MAX_USERS.false, c.len.ensures, c.paths.ensures, ap (λ (l : Loaded). length l.users) c.self.view_is, length-map c.self.inside.users.items (option_map kept)) in
    let joins = c.in_ok-joined.ensures.joins in
    rows_lost before.held c.args.self.now c.args.path.now c.args.load.now joins.0 before now (fault.BadFile c.in-Some.fault) fit joins.1
    (lost_of (paths_of c.args.load.now) joins.0 c.in_ok-joined.joined.items c.args.load.now c.first_dangling_entry.result joins.2 c.first_dangling_entry.ensures ∙ ap (option_map fault.BadFile) c.in-Some.is) joins.3

pub plan_and_start-requires-clause-few : goal.plan_and_start-requires-clause-few
plan_and_start-requires-clause-few g c =
    let joins = c.in_ok-joined.ensures.joins in
    omega (
      arith,
      c.if-len-paths-gt-MAX_USERS.false,
      c.len.ensures,
      c.paths.ensures,
      ap (λ (l : Loaded). length l.users) c.self.view_is,
      length-map c.self.inside.users.items (option_map kept),
      length-map c.in_ok-joined.joined.items kept,
      rows_length (paths_of c.args.load.now) joins.0 (map kept c.in_ok-joined.joined.items) joins.2,
    )

pub plan_and_start-requires-clause-users : goal.plan_and_start-requires-clause-users
plan_and_start-requires-clause-users g c =
    let joins = c.in_ok-joined.ensures.joins in (
      joins.0,
      joins.2,
      lost_of (paths_of c.args.load.now) joins.0 c.in_ok-joined.joined.items c.args.load.now c.first_dangling_entry.result joins.2 c.first_dangling_entry.ensures ∙ ap (option_map fault.BadFile) c.in-None.is,
    )

pub returns-clause-loaded : goal.returns-clause-loaded
returns-clause-loaded g c =
    let before = g.F.Files.seen c.args.files.now in
    let now = g.F.Files.seen c.join_all.new.files in
    let fit : length c.args.self.now.users + 1 + length (paths_of c.args.load.now) ≤ max_users =
    omega (arith, c.if-len-paths-gt-MAX_USERS.false, c.len.ensures, c.paths.ensures, ap (λ (l : Loaded). length l.users) c.self.view_is, length-map c.self.inside.users.items (option_map kept)) in
    let joins = c.in_ok-joined.ensures.joins in
    rows_started before.held c.args.self.now c.plan_and_start.new.self c.args.path.now c.args.load.now joins.0 (map kept c.in_ok-joined.joined.items) before now c.plan_and_start.result fit joins.1 joins.2
    (lost_of (paths_of c.args.load.now) joins.0 c.in_ok-joined.joined.items c.args.load.now c.first_dangling_entry.result joins.2 c.first_dangling_entry.ensures ∙ ap (option_map fault.BadFile) c.in-None.is) joins.3
    (c.plan_and_start.ensures.begun joins.0 joins.2) c.plan_and_start.ensures.refused c.plan_and_start.ensures.err
