use Rattle.std.proofs.Common.{◌≡◌, map, take}
use Rattle.omf_header.specs.View.{fields}
use Rattle.link_content.specs.Fits.{to_load_limits}
use Rattle.link_file.proofs.emitting.loads_of.Given as goal

abbrev pub invariant-headers : goal.invariant-headers
invariant-headers l = l.loads.items ≡ map to_load_limits (map fields (take l.header-index l.headers))
