use Rattle.omf_c_making.proofs.Files.{names_all}
use Rattle.omf_c_making.proofs.file.have_names.Goals as goal

pub returns : goal.returns
returns c = let both = names_all c.args.files.now in rw (c.all_named.ensures) both
