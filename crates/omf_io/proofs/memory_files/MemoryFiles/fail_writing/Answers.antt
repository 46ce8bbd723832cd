use Rattle.std.proofs.Common.{ap, ◌∙◌, ℕ, Some}
use Rattle.std.specs.FinMap as map
use Rattle.omf_io.specs.Calls.{Calls}
use Rattle.omf_io.specs.Counts.{one_more}
use Rattle.omf_io.specs.Files.{FileMap, StoreSeen}
use Rattle.omf_io.specs.Memory.{Store}
use Rattle.omf_io.proofs.memory_files.MemoryFiles.fail_writing.Goals as goal

-- what is seen of a store that reveals its files
abbrev seen : FileMap → ℕ → ℕ → StoreSeen
seen files faults asked = record { held = Some files; faults = faults; asked = asked }

-- the first half is held at the path, and the count is one more
pub returns-in-Ok-clause-answer : goal.returns-in-Ok-clause-answer
returns-in-Ok-clause-answer c =
    let old = c.args.self.now in
    let held = c.in-Ok.ensures.ok ∙ ap (λ (store : Store). map.insert store.files c.args.path.now c.half_of.result.now) c.self.view_is in
    let faults = ap (λ (calls : Calls). calls.faults) c.fail.ensures.after ∙ ap (λ (store : Store). one_more store.calls.faults) c.self.view_is in
    let asked = ap (λ (store : Store). store.asked) c.self.view_is in
    let put = map.insert old.files c.args.path.now c.half_of.result.now in (
      c.half_of.result.now,
      c.half_of.ensures.front,
      ap (λ (files : FileMap). seen files c.fail.new.self.faults c.self.inside.asked) held
          ∙ ap (λ (n : ℕ). seen put n c.self.inside.asked) faults
          ∙ ap (λ (n : ℕ). seen put (one_more old.calls.faults) n) asked,
    )
