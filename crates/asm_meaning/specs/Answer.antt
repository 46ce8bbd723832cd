-- What a statement gives, or its first fault, where the causes of faults have an order (an order of this project's own).
use Rattle.std.specs.Prelude.{ℕ, nat_lt, List, [], ◌∷◌, Result, Ok, Err, if◌then◌else◌}
use Rattle.asm_meaning.specs.declared.faults.AsmCause.{AsmCause}
use Rattle.asm_meaning.specs.declared.faults.AsmCause.TheVariants.{LineTooLong, TooManyLines, NoSuchSymbol, BadSetting, BadArguments, NoSequenceSymbol, Unclosed, Counter, TooNested, Noted, UnknownOperation, OutsideSegment, BadLabel, BadOperand, BadNumber, BadMode, Duplicate, UnknownConstant, DivideByZero, DoesNotFit, SegmentTooLong, TooLong, Memory}

-- what is wanted, or why there is none
abbrev pub Answer : Type 0 → Type 0
Answer A = Result A AsmCause

-- the order of the faults of one statement; the others are faults of no statement
abbrev pub rank : AsmCause → ℕ
rank UnknownOperation = 0
rank OutsideSegment = 1
rank BadLabel = 2
rank BadOperand = 3
rank BadNumber = 4
rank BadMode = 5
rank Duplicate = 6
rank UnknownConstant = 7
rank DivideByZero = 8
rank DoesNotFit = 9
rank SegmentTooLong = 10
rank LineTooLong = 11
rank TooManyLines = 11
rank NoSuchSymbol = 11
rank BadSetting = 11
rank BadArguments = 11
rank NoSequenceSymbol = 11
rank Unclosed = 11
rank Counter = 11
rank TooNested = 11
rank (Noted n) = 11
rank TooLong = 11
rank Memory = 11

-- of two faults of one statement the one that is first in this order is reported
abbrev pub earlier : AsmCause → AsmCause → AsmCause
earlier cause other = if nat_lt (rank other) (rank cause) then other else cause

-- two answers, or the earlier of their faults
abbrev pub pair_or_earlier_fault : {A B : Type 0} → Answer A → Answer B → Answer (A × B)
pair_or_earlier_fault (Ok a) (Ok b) = Ok (a, b)
pair_or_earlier_fault (Ok a) (Err cause) = Err cause
pair_or_earlier_fault (Err cause) (Ok b) = Err cause
pair_or_earlier_fault (Err cause) (Err other) = Err (earlier cause other)

-- each of these, or the earliest of their faults
abbrev pub all_of : {A B : Type 0} → (A → Answer B) → List A → Answer (List B)
all_of f [] = Ok []
all_of f (a ∷ more) = elim (pair_or_earlier_fault (f a) (all_of f more)) [ Ok (first, others) ↦ Ok (first ∷ others) | Err cause ↦ Err cause ]
