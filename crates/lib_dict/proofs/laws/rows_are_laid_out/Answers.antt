use Rattle.lib_dict.proofs.LayoutLaws.{rows_are_laid_out}
use Rattle.lib_dict.proofs.LayoutReads.{laid_out_is_read}
use Rattle.lib_dict.proofs.laws.rows_are_laid_out.Goals as goal

pub returns-clause-laid_out : goal.returns-clause-laid_out
returns-clause-laid_out c = rows_are_laid_out

pub returns-clause-read : goal.returns-clause-read
returns-clause-read c = laid_out_is_read
