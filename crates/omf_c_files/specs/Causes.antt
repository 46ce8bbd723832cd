-- The causes of refusals by number.
use Rattle.std.specs.Prelude.{ℕ, zero, suc, List, [], ◌∷◌, Option, None, slice_get, codes}

-- the names of all causes, as the program prints them: a cause's number is its place, from 1
abbrev pub cause_names : List (List ℕ)
cause_names =
    codes "Truncated" ∷ codes "BadHeader" ∷ codes "Unsupported" ∷ codes "BadRecord" ∷ codes "NotLoadFile" ∷ codes "Sequence"
    ∷ codes "DataTooLong" ∷ codes "PatchOutside" ∷ codes "NoSuchTarget" ∷ codes "DynamicTarget" ∷ codes "BadTable" ∷ codes "TooLong"
    ∷ codes "AlignFault" ∷ codes "BadLength" ∷ codes "BadLibrary" ∷ codes "BadRuntime" ∷ codes "Empty" ∷ codes "Unresolved"
    ∷ codes "Duplicate" ∷ codes "OrgConflict" ∷ codes "TooManySegments" ∷ codes "SegmentTooLong" ∷ codes "NotDynamic" ∷ codes "Circular"
    ∷ codes "DivideByZero" ∷ codes "NotRelocatable" ∷ codes "DynamicReference" ∷ codes "OutOfSegment" ∷ codes "TooManyEntries"
    ∷ codes "DoesNotFit" ∷ codes "FileTooLong" ∷ codes "LineTooLong" ∷ codes "TooManyLines" ∷ codes "NoSuchSymbol" ∷ codes "BadSetting"
    ∷ codes "BadArguments" ∷ codes "NoSequenceSymbol" ∷ codes "Unclosed" ∷ codes "Counter" ∷ codes "TooNested" ∷ codes "Noted"
    ∷ codes "UnknownOperation" ∷ codes "OutsideSegment" ∷ codes "BadLabel" ∷ codes "BadOperand" ∷ codes "BadNumber" ∷ codes "BadMode"
    ∷ codes "UnknownConstant" ∷ codes "NotListable" ∷ codes "BrokenPart" ∷ []

-- the name of the cause with a number, if there is one
abbrev pub name_of : ℕ → Option (List ℕ)
name_of zero = None
name_of (suc k) = slice_get cause_names k
