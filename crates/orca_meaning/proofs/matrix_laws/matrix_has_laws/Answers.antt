use Rattle.orca_meaning.proofs.MatrixLemmas.{instruction_at, length-matrix, none_twice, opcode_at}
use Rattle.orca_meaning.proofs.matrix_laws.matrix_has_laws.Goals as goal

pub returns-clause-whole : goal.returns-clause-whole
returns-clause-whole c = length-matrix

pub returns-clause-once : goal.returns-clause-once
returns-clause-once c = none_twice

pub returns-clause-place : goal.returns-clause-place
returns-clause-place c m n opcode = (instruction_at m n opcode, opcode_at opcode (m, n))
