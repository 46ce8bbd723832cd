use Rattle.asm_meaning.specs.laws.LabelProofs.{lengths_add, local_stands_before, linker_sees_place}
use Rattle.asm_meaning.specs.laws.PlaceSums.{place_is_sum}
use Rattle.asm_meaning.proofs.laws.labels_stand_at_their_places.Goals as goal

pub returns-clause-lengths : goal.returns-clause-lengths
returns-clause-lengths c = lengths_add

pub returns-clause-local : goal.returns-clause-local
returns-clause-local c = local_stands_before

pub returns-clause-linker : goal.returns-clause-linker
returns-clause-linker c = linker_sees_place

pub returns-clause-place : goal.returns-clause-place
returns-clause-place c = place_is_sum
