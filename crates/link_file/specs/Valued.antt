-- A linked list with the values of its equates.
use Rattle.std.specs.Prelude.{◌≡◌, ◌<◌, ◌+◌, ◌^◌, ℕ, List, Some}
use Rattle.link_meaning.specs.Member.{Member}
use Rattle.link_meaning.specs.Layout.{offset_of}
use Rattle.link_meaning.specs.LinkValues.{EquateAnswer}
use Rattle.link_program.specs.Linked.{member_at}

-- a linked list, and what its equates are worth
pub record Valued : Type 0 where
  pub list : List Member
  pub table : List EquateAnswer

-- a member has this place in the list, and the place `at` bytes from its start has 32 bits
pub record HasPlace (list : List Member) (place at : ℕ) : Type 0 where
  pub member : Member
  pub there : member_at list place ≡ Some member
  pub near : offset_of list place member + at < 2 ^ 32
