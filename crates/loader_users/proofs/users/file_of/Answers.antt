use Rattle.loader_users.specs.View.{kept}
use Rattle.std.proofs.Common.{ap}
use Rattle.std.specs.Prelude.{option_map}
use Rattle.loader_users.proofs.users.file_of.Goals as goal

pub file_in-requires : goal.file_in-requires
file_in-requires c = c.requires (kept c.in-Some.user) (ap (option_map kept) c.in-Some.is)
