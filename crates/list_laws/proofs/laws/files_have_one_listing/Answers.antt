use Rattle.list_laws.specs.laws.Once.{listing_is_one, no_fault_beside, fault_is_one}
use Rattle.list_laws.proofs.laws.files_have_one_listing.Goals as goal

pub returns : goal.returns
returns c = record { listing = listing_is_one; none = no_fault_beside; fault = fault_is_one }
