use Rattle.std.proofs.Common.{[], refl}
use Rattle.workload.proofs.Sums.{is_whole, is_hidden, is_none}
use Rattle.workload.proofs.summing.active_bytes.Goals as goal

pub returns-in-Err : goal.returns-in-Err
returns-in-Err c = λ held state agrees.
    is_none held state c.args.segment c.in-Err.field-0 [] c.args.loader.now (c.in-Err.ensures.meets held state agrees) refl

pub returns-in-Ok-bytes : goal.returns-in-Ok-bytes
returns-in-Ok-bytes c = λ held state agrees.
    is_whole held state c.args.segment c.in-Ok.info.length c.in-Ok.info.kind c.in-Ok.info.presence c.in-Ok-bytes.bytes.now c.args.loader.now
    (c.in-Ok.ensures.meets held state agrees) (c.in-Ok-bytes.ensures.shows held state agrees)

pub returns-in-Err-bytes : goal.returns-in-Err-bytes
returns-in-Err-bytes c = λ held state agrees.
    is_hidden held state c.args.segment c.in-Ok.info.length c.in-Ok.info.kind c.in-Ok.info.presence c.in-Err-bytes.field-0 [] c.args.loader.now
    (c.in-Ok.ensures.meets held state agrees) (c.in-Err-bytes.ensures.refuses held state agrees) refl
