use Rattle.std.proofs.Common.{ℕ, ◌<◌, List, length, Option, sym, ap, subst, arith}
use Rattle.std.proofs.lemmas.Result.{err_from_is_err_and}
use Rattle.std.specs.Prelude.{option_map}
use Rattle.std.proofs.lemmas.List.{length-map}
use Rattle.omf_io.specs.Files.{FileMap, IsRead}
use Rattle.loader_machine.specs.State.{max_users}
use Rattle.loader_agrees.specs.Agrees.{Loaded}
use Rattle.loader_users.specs.View.{kept}
use Rattle.sys_loader.specs.Calls.{HasLoadedFile}
use Rattle.sys_loader.proofs.Loading.{not_read, was_read}
use Rattle.sys_loader.proofs.loader.Loader.read_and_begin.Goals as goal

pub returns-in_err-bytes-clause-loaded : goal.returns-in_err-bytes-clause-loaded
returns-in_err-bytes-clause-loaded g c =
    let p = err_from_is_err_and c.from_residual.result c.from_residual.ensures.1 in
    let before = g.F.Files.seen c.args.files.now in
    let now = g.F.Files.seen c.read_file.new.files in
    let few : length c.args.self.now.users < max_users =
    omega (arith, c.if-len-ge-MAX_USERS.false, c.len.ensures, ap (λ (l : Loaded). length l.users) c.self.view_is, length-map c.self.inside.users.items (option_map kept)) in
    rw (p.1, p.2) (not_read before.held c.args.self.now c.args.path.now c.in_err-bytes.field-0.0 before now few c.in_err-bytes.ensures.unread c.read_file.ensures.asked)

pub returns-clause-loaded : goal.returns-clause-loaded
returns-clause-loaded g c =
    let before = g.F.Files.seen c.args.files.now in
    let mid = g.F.Files.seen c.read_file.new.files in
    let now = g.F.Files.seen c.begin.new.files in
    let few : length c.args.self.now.users < max_users =
    omega (arith, c.if-len-ge-MAX_USERS.false, c.len.ensures, ap (λ (l : Loaded). length l.users) c.self.view_is, length-map c.self.inside.users.items (option_map kept)) in
    let read = c.in_ok-bytes.ensures.read in
    let did = c.begin.ensures.loaded in
    was_read before.held c.args.self.now c.begin.new.self c.args.path.now c.deref.result.now c.begin.result before mid now did.0 few
    (subst (λ (file : List ℕ). IsRead before.held c.args.path.now file) (sym c.deref.ensures.value) read.0) read.1 c.read_file.ensures.asked
    (subst (λ (h : Option FileMap). HasLoadedFile h c.args.self.now c.args.path.now c.deref.result.now c.begin.result c.begin.new.self mid.faults now.faults did.0) c.read_file.ensures.held did.1) did.2
