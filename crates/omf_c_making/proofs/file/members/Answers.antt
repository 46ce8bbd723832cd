use Rattle.omf_c_making.proofs.Files.{short_item}
use Rattle.omf_c_making.proofs.file.members.Goals as goal

pub from_vec-name-requires : goal.from_vec-name-requires
from_vec-name-requires c = short_item c.args.files.now c.files.file-index _ c.in_ok-from_slice.field-0.items c.in_ok-from_slice.ensures.items c.requires c.files-test.true
