-- Linked lists of what the linker is given.
use Rattle.std.specs.Prelude.{List}
use Rattle.link_meaning.specs.Member.{Member}
use Rattle.link_meaning.specs.LinkFaults.{LinkInput, HasBytes, IsResolved}

-- the list is that of files that are resolved
pub record IsOfFiles (list : List Member) : Type 0 where
  pub given : LinkInput
  pub bytes : HasBytes given
  pub resolved : IsResolved given list
