use Rattle.std.proofs.lemmas.Result.{err_from_is_err_and}
use Rattle.sys_loader.proofs.Anew.{again_other}
use Rattle.sys_loader.proofs.loader.Loader.reload.Goals as goal

pub returns-in_err-is_same_file-clause-refused : goal.returns-in_err-is_same_file-clause-refused
returns-in_err-is_same_file-clause-refused c k made =
    let p = err_from_is_err_and c.from_residual-in_err-is_same_file.result c.from_residual-in_err-is_same_file.ensures.1 in
    rw (p.1, p.2) (again_other c.args.file.now c.args.self.now c.args.user k c.in_ok-load.load c.in_ok-load.ensures.loaded c.in_err-is_same_file.field-0.0 (c.in_err-is_same_file.ensures.other k made))
