-- What each check on a user says of the refusal of a call, whatever it checks later.
use Rattle.std.specs.Prelude.{◌≡◌, ℕ, Option, Some}
use Rattle.loader_machine.specs.declared.faults.LoaderFault.{LoaderFault}
use Rattle.loader_machine.specs.declared.seen.SegmentHead.{SegmentHead}
use Rattle.loader_machine.specs.State.{UserSeen}
use Rattle.loader_machine.specs.Refusals.{Refuse, of_user, of_running, of_segment}

-- the user is there and runs: what is checked later decides
abbrev pub PassesRunning : Option UserSeen → UserSeen → Type 0
PassesRunning user seen = (rest : UserSeen → Refuse) → of_user user (λ s. of_running s (rest s)) ≡ rest seen

-- or it is refused so
abbrev pub StopsRunning : Option UserSeen → LoaderFault → Type 0
StopsRunning user fault = (rest : UserSeen → Refuse) → of_user user (λ s. of_running s (rest s)) ≡ Some fault

abbrev pub PassesSegment : UserSeen → ℕ → SegmentHead → Type 0
PassesSegment seen number f = (rest : SegmentHead → Refuse) → of_segment seen number rest ≡ rest f

abbrev pub StopsSegment : UserSeen → ℕ → LoaderFault → Type 0
StopsSegment seen number fault = (rest : SegmentHead → Refuse) → of_segment seen number rest ≡ Some fault
