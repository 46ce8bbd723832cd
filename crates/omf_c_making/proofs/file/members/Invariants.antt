use Rattle.std.proofs.Common.{◌≡◌, map, take}
use Rattle.lib_dict.specs.Made.{given_file}
use Rattle.omf_c_making.specs.Making.{library_given}
use Rattle.omf_c_making.proofs.file.members.Given as goal

-- copies of the files so far
abbrev pub invariant-files : goal.invariant-files
invariant-files l = map given_file l.members.items ≡ library_given (take l.file-index l.files)
