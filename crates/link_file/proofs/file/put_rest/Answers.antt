use Rattle.std.proofs.lemmas.Result.{err_from_is_err_and}
use Rattle.link_meaning.specs.Member.{setting_in}
use Rattle.link_file.proofs.FileLaws.{rest_text, rest_long, rest_first}
use Rattle.link_tables.proofs.OnOks.{on_ok}
use Rattle.link_file.proofs.file.put_rest.Goals as goal

pub returns-in_err-put_table-clause-too_long : goal.returns-in_err-put_table-clause-too_long
returns-in_err-put_table-clause-too_long c =
    let p = err_from_is_err_and c.from_residual.result c.from_residual.ensures.1 in
    rw (p.1, p.2) (λ e. rest_first 0x1000000 c.args.number c.args.table.now (setting_in c.args.program.now).runtimes c.args.out.now.items (c.in_err-put_table.ensures.too_long e))

pub returns-clause-ok : goal.returns-clause-ok
returns-clause-ok c =
    on_ok c.put_pathnames.result _ _
    (λ more. rest_text c.args.number c.number_after.result c.args.table.now (setting_in c.args.program.now).runtimes c.args.out.now.items c.put_table.new.out.items c.put_pathnames.new.out.items c.in_ok-put_table.ensures.ok c.number_after.ensures more)
    c.put_pathnames.ensures.ok

pub returns-clause-too_long : goal.returns-clause-too_long
returns-clause-too_long c = λ e.
    rest_long 0x1000000 c.args.number c.number_after.result c.args.table.now (setting_in c.args.program.now).runtimes c.args.out.now.items c.put_table.new.out.items c.in_ok-put_table.ensures.ok c.number_after.ensures (c.put_pathnames.ensures.too_long e)
