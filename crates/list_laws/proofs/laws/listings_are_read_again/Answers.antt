use Rattle.list_laws.specs.laws.ListingProofs.{line_is_read, read_again, listed_again}
use Rattle.list_laws.proofs.laws.listings_are_read_again.Goals as goal

pub returns-clause-line : goal.returns-clause-line
returns-clause-line c = line_is_read

pub returns-clause-whole : goal.returns-clause-whole
returns-clause-whole c = read_again

pub returns-clause-again : goal.returns-clause-again
returns-clause-again c = listed_again
