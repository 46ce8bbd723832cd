use Rattle.load_meaning.specs.laws.WrittenFileLaws.{file_stands_for}
use Rattle.load_meaning.specs.laws.WrittenTableLaws.{table_stands_for}
use Rattle.load_writer.proofs.written_laws.files_stand_for_their_cells.Goals as goal

pub returns-clause-files : goal.returns-clause-files
returns-clause-files c = file_stands_for

pub returns-clause-tables : goal.returns-clause-tables
returns-clause-tables c = table_stands_for
