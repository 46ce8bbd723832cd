use Rattle.link_resolve.proofs.GatherLaws.{reported_so, false_library, no_file_fault}
use Rattle.link_resolve.proofs.gather.dictionary_of.Goals as goal

pub returns-in-Ok-clause-rows : goal.returns-in-Ok-clause-rows
returns-in-Ok-clause-rows c =
    let bytes = c.requires.read.0 in
    let read = c.requires.read.1 in
    reported_so c.args.list.now bytes c.in-Ok.dictionary c.rows_are_laid_out.ensures.laid_out read.is_file (c.in-Ok.ensures.rows bytes read)

pub returns-in-Err-BadLibrary-clause-refused : goal.returns-in-Err-BadLibrary-clause-refused
returns-in-Err-BadLibrary-clause-refused c = λ bytes read.
    let is = rw c.in-Err-BadLibrary.field-0-is at (c.in-Err-BadLibrary.ensures.refused bytes read) in
    false_library c.args.list.now bytes c.args.file c.in-Err-BadLibrary.at c.fault_in.result read.is_file c.requires.sound c.requires.library is c.fault_in.ensures

pub unreachable-requires : goal.unreachable-requires
unreachable-requires c =
    let bytes = c.requires.read.0 in
    let read = c.requires.read.1 in
    let first = rw c.in-Err-File.field-0-is at (c.in-Err-File.ensures.refused bytes read) in
    no_file_fault c.args.list.now bytes c.in-Err-File.field-0-0 read.is_file first
