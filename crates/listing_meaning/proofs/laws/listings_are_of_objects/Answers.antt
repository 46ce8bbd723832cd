use Rattle.listing_meaning.specs.laws.CellProofs.{cells_follow, places_count_cells}
use Rattle.listing_meaning.specs.laws.GivenProofs.{steps_add_records}
use Rattle.listing_meaning.specs.laws.RowProofs.{each_object_is_listed, rows_give_object, fault_is_first}
use Rattle.listing_meaning.specs.laws.SeenProofs.{all_are_shown, none_else_is_shown}
use Rattle.listing_meaning.proofs.laws.listings_are_of_objects.Goals as goal

pub returns-clause-shown : goal.returns-clause-shown
returns-clause-shown c = all_are_shown

pub returns-clause-others : goal.returns-clause-others
returns-clause-others c = none_else_is_shown

pub returns-clause-records : goal.returns-clause-records
returns-clause-records c = steps_add_records

pub returns-clause-listed : goal.returns-clause-listed
returns-clause-listed c = each_object_is_listed

pub returns-clause-object : goal.returns-clause-object
returns-clause-object c = rows_give_object

pub returns-clause-fault : goal.returns-clause-fault
returns-clause-fault c = fault_is_first

pub returns-clause-cells : goal.returns-clause-cells
returns-clause-cells c = cells_follow

pub returns-clause-places : goal.returns-clause-places
returns-clause-places c = places_count_cells
