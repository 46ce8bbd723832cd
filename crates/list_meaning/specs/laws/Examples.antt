-- Three listings, computed.
use Rattle.std.proofs.Common.{refl}
use Rattle.list_meaning.specs.Listed as listed
use Rattle.orca_meaning.specs.Characters as characters
use Rattle.orca_meaning.specs.Length as lengths
use Rattle.orca_meaning.specs.Matrix as matrix
use Rattle.orca_meaning.specs.Operation as operation
use Rattle.asm_meaning.specs.Instruction as instruction
use Rattle.object_meaning.specs.Sizes as sizes
use Rattle.object_meaning.specs.Terms as terms
use Rattle.omf_format.specs.Expression as expression
use Rattle.omf_format.specs.Field as field
use Rattle.omf_format.specs.Name as names
use Rattle.omf_format.specs.Number as numbers
use Rattle.omf_base.specs.Digits as digits
use Rattle.std.specs.Fmt as fmt
use Rattle.list_meaning.specs.Listing as listing
use Rattle.list_meaning.specs.Listing.{listing_of}
use Rattle.list_meaning.specs.Worked.{AreWorked}

pub worked : AreWorked
unfolding listing_of characters.is_name sizes.records_with_offsets sizes.body_size listing.front_of listed.said_text digits.hexadecimal fmt.digits listing.said_from listing.given_by listing.said_rest listing.widths_rest listing.said_instruction instruction.operand_bytes lengths.length_of lengths.has_long_operand matrix.matrix instruction.kind_of listed.spelling_of listed.shape_of listing.widths_following listed.listing_text operation.mnemonics terms.tree_in listing.split_last listing.formula_given listing.formula_listable listing.simple_of listing.weak_of listing.record_by expression.terms_in expression.first_terms expression.term_field field.number_field field.name_field names.name_size names.name_at numbers.number_at
worked = record { first = refl; second = refl; third = refl }
