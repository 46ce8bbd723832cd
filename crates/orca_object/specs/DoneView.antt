-- What directives leave, by the number that their operand is.
use Rattle.std.specs.Prelude.{ℕ, ◌≤◌, length, List, [], ◌∷◌, Ok, Err}
use Rattle.omf_format.specs.declared.codes.TheConstants.{DIRECTIVE_LABEL}
use Rattle.omf_format.specs.Field.{◌>>=◌}
use Rattle.omf_format.specs.Record.{Space, Using}
use Rattle.asm_meaning.specs.Answer.{Answer, pair_or_earlier_fault}
use Rattle.asm_meaning.specs.State.{State, in_segment, with_local_record}
use Rattle.asm_meaning.specs.Statement.{marking, alignment_in, state_after_align, distance_in, state_after_org, listed_kind, with_kind}

-- a name that isn't empty
abbrev pub IsSome : Answer (List ℕ) → Type 0
IsSome (Ok name) = 1 ≤ length name
IsSome (Err cause) = Unit {0}

-- what USING leaves by its name
abbrev pub using_by : State → Answer (List ℕ) → Answer (List ℕ) → Answer State
using_by state label found = marking state DIRECTIVE_LABEL label (found >>= λ name. Ok (Using name ∷ []))

-- what DS leaves by its number
abbrev pub spaced_by : State → Answer (List ℕ) → Answer ℕ → Answer State
spaced_by state label number = pair_or_earlier_fault label number >>= λ (name, n). Ok (in_segment (with_local_record name DIRECTIVE_LABEL (Space n ∷ [])) state)

-- what ALIGN leaves by its number
abbrev pub aligned_by : State → Answer (List ℕ) → Answer ℕ → Answer State
aligned_by state label number = pair_or_earlier_fault label (number >>= alignment_in state) >>= λ (name, n). Ok (state_after_align state state.segment name n)

-- what ORG leaves by its number
abbrev pub moved_by : State → Answer (List ℕ) → Answer ℕ → Answer State
moved_by state label number = pair_or_earlier_fault label (number >>= distance_in state.segment) >>= λ (name, n). Ok (state_after_org state state.segment name n)

-- what KIND leaves by its number
abbrev pub kinded_by : State → Answer (List ℕ) → Answer ℕ → Answer State
kinded_by state label number = pair_or_earlier_fault label (number >>= listed_kind) >>= λ (name, n). Ok (in_segment (λ s. with_kind n (with_local_record name DIRECTIVE_LABEL [] s)) state)
