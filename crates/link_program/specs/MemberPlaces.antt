-- Where a member is.
use Rattle.std.specs.Prelude.{◌≡◌, ℕ, List, Option, Some, None}
use Rattle.link_meaning.specs.Member.{Member}
use Rattle.link_meaning.specs.Layout.{load_of, offset_of}
use Rattle.link_program.specs.Linked.{member_at}
use Rattle.link_program.specs.declared.member_place.MemberPlace.{MemberPlace}

-- this is the member's place
pub record IsMemberPlace (list : List Member) (m : Member) (member_place : MemberPlace) : Type 0 where
  pub there : member_at list member_place.place ≡ Some m
  pub lab_len' : member_place.lab_len ≡ m.segment.fields.lab_len
  pub load : member_place.load_segment ≡ load_of list m
  pub offset' : member_place.offset ≡ offset_of list member_place.place m

-- this is that of the member at this place of the list, if there is one
abbrev pub MemberPlaceOf : List Member → ℕ → Option Member → Option MemberPlace → Type 0
MemberPlaceOf list place None None = Unit {0}
MemberPlaceOf list place None (Some member_place) = ⊥
MemberPlaceOf list place (Some m) None = ⊥
MemberPlaceOf list place (Some m) (Some member_place) = (member_place.place ≡ place) × IsMemberPlace list m member_place
