-- Words of lemmas: parts of what goes with a reply.
use Rattle.std.proofs.Common.{◌≡◌, ◌⊎◌, ℕ, Bool, ◌≤◌}
use Rattle.omf_io.specs.Counts.{one_more}
use Rattle.loader_machine.specs.declared.faults.LoaderFault.{LoaderFault}
use Rattle.loader_machine.specs.Commands.{Refused}
use Rattle.loader_machine.specs.Steps.{Either}
use Rattle.loader_replies.specs.Replied.{is_unread, is_full, most_reads}

-- the refusal is `cannot read`
abbrev pub is_unread_fault : LoaderFault → Bool
is_unread_fault fault = is_unread (Refused fault)

-- the refusal is TooManyUsers
abbrev pub is_full_fault : LoaderFault → Bool
is_full_fault fault = is_full (Refused fault)

-- how many files a load may have read, by whether it is refused for the count of users
abbrev pub LoadMayRead : Bool → ℕ → Type 0
LoadMayRead full reads = Either full (reads ≤ 1) ((1 ≤ reads) × (reads ≤ most_reads))

-- a count is as before or one more
abbrev pub OnceAtMost : ℕ → ℕ → Type 0
OnceAtMost before now = (now ≡ before) ⊎ (now ≡ one_more before)
