use Rattle.std.proofs.Common.{◌≡◌, drop}
use Rattle.omf_c_loader.proofs.Finding.{first_of}
use Rattle.omf_c_loader.proofs.store.content_of.Given as goal

-- the first file with the path, if there is one, is among those that are left
abbrev pub invariant-files : goal.invariant-files
invariant-files l = first_of l.path l.files ≡ first_of l.path (drop l.file-index l.files)
