use Rattle.std.proofs.Common.{ℕ, List, Option, length}
use Rattle.macro_meaning.specs.Visit.{Visit}
use Rattle.orca_symbols.specs.Frame.{stack_of}
use Rattle.orca_macro.specs.Stacks.{Stacks}
use Rattle.orca_macro.proofs.Returns.{ComesTo}
use Rattle.orca_macro.proofs.visits.return_from_calls.Given as goal

-- whatever was left at first, the same is left now
abbrev pub invariant-frames : goal.invariant-frames
invariant-frames l = (before : List Visit) (last : Visit) (depth : ℕ) (caller : Option ℕ) → Stacks before depth caller (stack_of l.fn.frames)
    → ComesTo l.program before last depth caller (stack_of l.frames)

abbrev pub decreases-frames : goal.decreases-frames
decreases-frames l = length (stack_of l.frames)
