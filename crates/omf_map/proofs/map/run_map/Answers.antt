use Rattle.std.proofs.Common.{refl}
use Rattle.omf_io.specs.Outside.{outside}
use Rattle.omf_making.specs.Words.{words_of}
use Rattle.omf_making.specs.Form.{form_of}
use Rattle.omf_map.specs.Mapped.{with_output}
use Rattle.omf_map.proofs.Short.{nothing_done}
use Rattle.omf_map.proofs.map.run_map.Goals as goal

pub returns-in-Err-clause-run : goal.returns-in-Err-clause-run
returns-in-Err-clause-run g c =
    nothing_done (form_of (with_output (words_of c.args.words.now)))
    (outside (g.F.Files.seen c.args.files.now) (g.F.Files.seen c.args.files.now) (g.S.Sink.seen c.args.out.now) (g.S.Sink.seen c.args.out.now)) refl refl
