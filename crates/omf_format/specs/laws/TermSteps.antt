-- Steps of definitions, as words of laws and of contracts between functions.
use Rattle.std.specs.Prelude.{Err, List, Ok, Option, Result, ℕ, length, take, ◌-◌, ◌+◌}
use Rattle.omf_format.specs.declared.fault.Flaw.{Flaw}
use Rattle.omf_format.specs.Expression.{Term, pending_after_term, flaw_of, read_from}
use Rattle.omf_format.specs.declared.expression.ExprFault.TheVariants.{BadTerm, Truncated}
use Rattle.omf_format.specs.declared.fault.Flaw.TheVariants.{Broken, Cut, Unread}
use Rattle.omf_format.specs.declared.expression.ExprFault.{ExprFault}
use Rattle.omf_format.specs.Field.{◌>>=◌}

-- how many values are pending after what was read at the start of the bytes, or what is wrong with it first; and the bytes after it
abbrev pub step_of : ℕ → ℕ → Result (Option Term × List ℕ) Flaw → Result (Option ℕ × List ℕ) ExprFault
step_of at pending (Err Cut) = Err (Truncated at)
step_of at pending (Err Unread) = Err (BadTerm at)
step_of at pending (Err Broken) = Err (BadTerm at)
step_of at pending (Ok found) = pending_after_term at pending found.0 >>= λ following. Ok (following, found.1)

abbrev pub split_of : List ℕ → Result (List ℕ) ExprFault → Result (List ℕ × List ℕ) Flaw
split_of bytes (Ok rest) = Ok (take (length bytes - length rest) bytes, rest)
split_of bytes (Err fault) = Err (flaw_of fault)

-- a term takes a byte at least, so that many are enough
abbrev pub read_all : ℕ → List ℕ → Result (List ℕ) ExprFault
read_all lab_len bytes = read_from (length bytes + 1) lab_len 0 0 bytes
