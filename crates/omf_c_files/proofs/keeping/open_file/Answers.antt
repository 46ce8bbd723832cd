use Rattle.std.proofs.Common.{List, Some, refl, ap, ◌∙◌, arith}
use Rattle.omf_format.specs.File.{Segment}
use Rattle.omf_c_files.specs.Opened.{Opens, Refuses}
use Rattle.omf_c_files.proofs.Faults.{load_first}
use Rattle.omf_c_files.proofs.keeping.open_file.Goals as goal

pub returns-in-Some-load_fault : goal.returns-in-Some-load_fault
returns-in-Some-load_fault c =
    Refuses refl c.in_default.ensures.taken (omega (arith, c.if-file-gt-MOST.false)) c.take.ensures.empty c.in-Err.found
    (load_first c.in-Err.found c.args.file.now c.in-Some-load_fault.ensures.0 c.in-Err.ensures.refused) c.in-Some-load_fault.ensures.1

pub returns-in-Ok-new : goal.returns-in-Ok-new
returns-in-Ok-new c =
    let kept = c.put-in-Ok-new.ensures ∙ ap (λ (segments : List Segment). Some segments) c.in-Ok-new.ensures.ok in
    Opens refl c.in_default.ensures.taken c.in-Ok.load c.in-Ok.ensures.ok kept refl
