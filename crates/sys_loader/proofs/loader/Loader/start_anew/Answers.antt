use Rattle.std.proofs.lemmas.Result.{err_from_is_err_and}
use Rattle.sys_loader.proofs.Anew.{begun_from, none_begins, again_other}
use Rattle.sys_loader.proofs.loader.Loader.start_anew.Goals as goal

pub returns-in_err-is_same_file-clause-refused : goal.returns-in_err-is_same_file-clause-refused
returns-in_err-is_same_file-clause-refused c k made =
    let p = err_from_is_err_and c.from_residual-in_err-is_same_file.result c.from_residual-in_err-is_same_file.ensures.1 in
    rw (p.1, p.2) (again_other c.args.file.now c.args.self.now c.args.user k c.in_ok-load.load c.in_ok-load.ensures.loaded c.in_err-is_same_file.field-0.0 (c.in_err-is_same_file.ensures.other k made))

pub returns-clause-begun : goal.returns-clause-begun
returns-clause-begun c k made =
    let same = c.in_ok-is_same_file.ensures.same k made in
    begun_from c.args.file.now c.args.self.now c.args.user k c.in_ok-load.load c.in_ok-load.ensures.loaded c.begin_anew.new.self c.begin_anew.result same.0 same.1 (c.begin_anew.ensures.begun k made)

pub returns-clause-refused : goal.returns-clause-refused
returns-clause-refused c k made =
    let same = c.in_ok-is_same_file.ensures.same k made in
    none_begins c.args.file.now c.args.self.now c.args.user k c.in_ok-load.load c.in_ok-load.ensures.loaded c.begin_anew.result same.1 (c.requires.gone k made) c.begin_anew.ensures.refused
