-- When the list may grow.
use Rattle.std.specs.Prelude.{◌≡◌, ◌+◌, ◌<◌, ◌^◌, None, List, [], length}
use Rattle.omf_format.specs.File.{Segment}
use Rattle.link_meaning.specs.First.{IsIn}
use Rattle.link_meaning.specs.Member.{Input, LinkSetting, Member, Offer, objects, library_offers}
use Rattle.link_meaning.specs.Search.{outside}
use Rattle.object_meaning.specs.Defines.{Definition, defined_in, outer_scope}
use Rattle.link_meaning.specs.LinkFaults.{segments_fault}
use Rattle.link_meaning.specs.LinkedList.{IsLinked}
use Rattle.link_program.specs.declared.linked.Linked.{Linked}
use Rattle.link_tables.specs.declared.offers.Offers as kept
use Rattle.link_program.specs.declared.outside.OutsideNames.{OutsideNames}
use Rattle.link_program.specs.Outside.{AreOutside}
use Rattle.link_program.specs.Linked.{Holds}
use Rattle.link_tables.specs.Offers.{AreOffers}
use Rattle.link_program.specs.Files.{IsAmong, AllAmong}

-- each row's segment defines the row's name with the row's privacy
abbrev pub AreDefined : List Offer → Type 0
AreDefined library_offers = (o : Offer) → IsIn library_offers o → (d : Definition) × IsIn (defined_in o.member.segment) d × (d.name ≡ o.name) × (d.scope ≡ outer_scope o.private)

-- these are the inputs, some of which are object files, and what they are linked with; all their segments are sound, and each row's
-- segment is one of them and defines the row's name
pub record MayGrow (setting : LinkSetting) (inputs : List Input) (files : List (List Segment)) (table : OutsideNames) (offered : kept.Offers) (linked : Linked) : Type 0 where
  pub objects' : Holds (objects setting inputs) linked
  pub some : objects setting inputs ≡ [] → ⊥
  pub table' : AreOutside (outside setting) table
  pub offers' : AreOffers (library_offers setting inputs) offered
  pub few : length (objects setting inputs) + length (library_offers setting inputs) + 1 < 2 ^ 32
  pub defined : AreDefined (library_offers setting inputs)
  pub among : (o : Offer) → IsIn (library_offers setting inputs) o → IsAmong files o.member
  pub there : AllAmong files (objects setting inputs)
  pub sound : (segments : List Segment) → IsIn files segments → segments_fault 1 segments ≡ None

-- this is the linked list of the inputs
pub record HasGrown (setting : LinkSetting) (inputs : List Input) (files : List (List Segment)) (linked : Linked) : Type 0 where
  pub list : List Member
  pub is_linked : IsLinked setting inputs list
  pub holds : Holds list linked
  pub among : AllAmong files list
  pub few : length list + 1 < 2 ^ 32
