use Rattle.std.proofs.Common.{sym, subst, ◌∙◌}
use Rattle.std.proofs.lemmas.Bool.{eqb-true}
use Rattle.std.proofs.lemmas.Result.{err_from_is_err_and}
use Rattle.orca_text.specs.Refusals.{IsRefused}
use Rattle.orca_text.proofs.Reading.{read_on, read_bad, read_all}
use Rattle.orca_text.proofs.lines.read_lines.Goals as goal

pub returns-in_err-check_text-clause-refused : goal.returns-in_err-check_text-clause-refused
returns-in_err-check_text-clause-refused c =
    let p = err_from_is_err_and c.from_residual.result c.from_residual.ensures.1 in
    rw (p.1, p.2)
    (subst (IsRefused c.args.file c.args.source.now) (sym c.in_err-check_text.ensures.place)
    (read_bad _ _ _ _ _ _ _ _ c.lines.invariant c.split_line.ensures.lines c.in_err-check_text.ensures.bad))

pub lines-preserved : goal.lines-preserved
lines-preserved c = read_on _ _ _ _ _ _ _ _ c.lines.invariant c.split_line.ensures.lines c.in_ok-check_text.ensures.good c.in-Ok.ensures.ok

pub returns-clause-lines : goal.returns-clause-lines
returns-clause-lines c = (read_all _ _ _ _ _ c.lines.invariant (eqb-true _ _ (sym c.is_empty.ensures ∙ c.lines-test.false))).0

pub returns-clause-good : goal.returns-clause-good
returns-clause-good c = (read_all _ _ _ _ _ c.lines.invariant (eqb-true _ _ (sym c.is_empty.ensures ∙ c.lines-test.false))).1
