use Rattle.std.proofs.Common.{map, sym, ◌∙◌}
use Rattle.omf_records.specs.Segments.{segment_of_view}
use Rattle.load_content.specs.Content.{patch_of}
use Rattle.load_content.proofs.SuperPatches.{outside_patch}
use Rattle.load_content.proofs.targets.take.Goals as goal

pub returns-then-is_outside-clause-value : goal.returns-then-is_outside-clause-value
returns-then-is_outside-clause-value c =
    sym (outside_patch (map segment_of_view c.args.views.now.items) (segment_of_view c.args.view.now) (patch_of c.args.patch.now) (sym c.is_outside.ensures ∙ c.if-is_outside.true))
