-- How the causes against a source are printed.
use Rattle.std.specs.Prelude.{ℕ, List, codes}
use Rattle.asm_meaning.specs.declared.faults.AsmCause.{AsmCause}
use Rattle.asm_meaning.specs.declared.faults.AsmCause.TheVariants.{LineTooLong, TooManyLines, NoSuchSymbol, BadSetting, BadArguments, NoSequenceSymbol, Unclosed, Counter, TooNested, Noted, UnknownOperation, OutsideSegment, BadLabel, BadOperand, BadNumber, BadMode, Duplicate, UnknownConstant, DivideByZero, DoesNotFit, SegmentTooLong, TooLong, Memory}

-- the name of a cause
abbrev pub asm_cause_name : AsmCause → List ℕ
asm_cause_name LineTooLong = codes "LineTooLong"
asm_cause_name TooManyLines = codes "TooManyLines"
asm_cause_name NoSuchSymbol = codes "NoSuchSymbol"
asm_cause_name BadSetting = codes "BadSetting"
asm_cause_name BadArguments = codes "BadArguments"
asm_cause_name NoSequenceSymbol = codes "NoSequenceSymbol"
asm_cause_name Unclosed = codes "Unclosed"
asm_cause_name Counter = codes "Counter"
asm_cause_name TooNested = codes "TooNested"
asm_cause_name (Noted severity) = codes "Noted"
asm_cause_name UnknownOperation = codes "UnknownOperation"
asm_cause_name OutsideSegment = codes "OutsideSegment"
asm_cause_name BadLabel = codes "BadLabel"
asm_cause_name BadOperand = codes "BadOperand"
asm_cause_name BadNumber = codes "BadNumber"
asm_cause_name BadMode = codes "BadMode"
asm_cause_name Duplicate = codes "Duplicate"
asm_cause_name UnknownConstant = codes "UnknownConstant"
asm_cause_name DivideByZero = codes "DivideByZero"
asm_cause_name DoesNotFit = codes "DoesNotFit"
asm_cause_name SegmentTooLong = codes "SegmentTooLong"
asm_cause_name TooLong = codes "TooLong"
asm_cause_name Memory = codes "Memory"
