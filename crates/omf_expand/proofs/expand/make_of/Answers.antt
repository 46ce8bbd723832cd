use Rattle.std.proofs.Common.{◌∙◌}
use Rattle.omf_making.specs.Made.{all_bytes}
use Rattle.omf_expand.proofs.Expanding.{reported_making}
use Rattle.omf_expand.proofs.expand.make_of.Goals as goal

pub returns : goal.returns
returns c =
    reported_making (all_bytes c.args.files.items) (all_bytes c.take_first-source.new.files.items) c.deref.result.now c.in-Err.fault c.refusal.result
    (c.deref.ensures.value ∙ c.take_first-source.ensures.first) c.take_first-source.ensures.following c.in-Err.ensures.refused c.refusal.ensures
