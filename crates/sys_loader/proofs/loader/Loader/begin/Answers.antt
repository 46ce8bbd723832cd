use Rattle.std.proofs.lemmas.Result.{err_from_is_err_and}
use Rattle.sys_loader.proofs.Loading.{file_bad, file_read}
use Rattle.sys_loader.proofs.loader.Loader.begin.Goals as goal

pub returns-in_err-load-clause-loaded : goal.returns-in_err-load-clause-loaded
returns-in_err-load-clause-loaded g c =
    let p = err_from_is_err_and c.from_residual.result c.from_residual.ensures.1 in
    rw (p.1, p.2) (file_bad (g.F.Files.seen c.args.files.now).held c.args.self.now c.args.path.now c.args.file.now c.in_err-load.field-0.0 (g.F.Files.seen c.args.files.now) c.in_err-load.ensures.refused)

pub returns-clause-loaded : goal.returns-clause-loaded
returns-clause-loaded g c =
    let before = g.F.Files.seen c.args.files.now in
    let now = g.F.Files.seen c.join_and_start.new.files in
    let did = c.join_and_start.ensures.loaded in (
      did.0,
      file_read before.held c.args.self.now c.join_and_start.new.self c.args.path.now c.args.file.now c.in_ok-load.load c.join_and_start.result before.faults now.faults did.0 c.in_ok-load.ensures.loaded did.1,
      did.2,
    )
