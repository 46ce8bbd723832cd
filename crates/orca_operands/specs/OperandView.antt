-- How names of operands are seen.
use Rattle.std.specs.Prelude.{ℕ, List, [], Result, Ok, Err, if◌then◌else◌}
use Rattle.asm_meaning.specs.declared.directives.Operation.{Operation}
use Rattle.asm_meaning.specs.declared.faults.AsmCause.TheVariants.{BadLabel}
use Rattle.asm_meaning.specs.Statement.{needs_label}
use Rattle.asm_meaning.specs.declared.faults.AsmCause.{AsmCause}
use Rattle.asm_meaning.specs.Answer.{Answer}

-- a name, or the fault
abbrev pub name_answer : Result (List ℕ) AsmCause → Answer (List ℕ)
name_answer answer = answer

-- no label
abbrev pub no_label : Operation → Answer (List ℕ)
no_label operation = if needs_label operation then Err BadLabel else Ok []
