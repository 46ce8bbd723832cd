use Rattle.std.proofs.Common.{◌≡◌, take}
use Rattle.link_resolve.specs.Resolved.{all_bytes}
use Rattle.omf_c_making.specs.Making.{contents}
use Rattle.omf_c_making.proofs.file.copies.Given as goal

-- copies of the files so far
abbrev pub invariant-files : goal.invariant-files
invariant-files l = all_bytes l.copies.items ≡ contents (take l.file-index l.files)
