use Rattle.omf_c_making.proofs.Files.{short_all}
use Rattle.omf_c_making.proofs.file.are_short.Goals as goal

pub returns : goal.returns
returns c = let both = short_all c.args.files.now in rw (c.all_short.ensures) both
