use Rattle.std.proofs.Common.{ap, ◌∙◌, ◌++◌, ℕ, List, Some}
use Rattle.omf_io.specs.Calls.{Calls}
use Rattle.omf_io.specs.Counts.{one_more}
use Rattle.omf_io.specs.Sinks.{SinkSeen}
use Rattle.omf_io.specs.Memory.{Text}
use Rattle.omf_io.proofs.memory_sink.MemorySink.fail_putting.Goals as goal

-- what is seen of a sink that reveals its bytes
abbrev seen : List ℕ → ℕ → SinkSeen
seen bytes faults = record { written = Some bytes; faults = faults }

-- the first half was taken, and the count is one more
pub returns-in-Ok-clause-answer : goal.returns-in-Ok-clause-answer
returns-in-Ok-clause-answer c =
    let old = c.args.self.now in
    let taken = c.in-Ok.ensures.items ∙ ap (λ (text : Text). text.bytes ++ c.half_of.result.now) c.self.view_is in
    let faults = ap (λ (calls : Calls). calls.faults) c.fail.ensures.after ∙ ap (λ (text : Text). one_more text.calls.faults) c.self.view_is in (
      c.half_of.result.now,
      c.half_of.ensures.front,
      ap (λ (bytes : List ℕ). seen bytes c.fail.new.self.faults) taken ∙ ap (λ (n : ℕ). seen (old.bytes ++ c.half_of.result.now) n) faults,
    )
