use Rattle.std.proofs.Common.{ℕ, ◌+◌, ltb, map, sym, ap, ◌∙◌}
use Rattle.omf_records.specs.Segments.{segment_of_view}
use Rattle.load_content.proofs.SuperPatches.{outside_super}
use Rattle.load_content.proofs.targets.take_at.Goals as goal

pub returns-then-is_outside-clause-value : goal.returns-then-is_outside-clause-value
returns-then-is_outside-clause-value c =
    sym (outside_super (map segment_of_view c.args.views.now.items) (segment_of_view c.args.view.now) c.args.form c.args.location
    (ap (λ (n : ℕ). ltb c.args.view.now.header.length (c.args.location + n)) (sym c.super_count.ensures) ∙ sym c.is_outside.ensures ∙ c.if-is_outside.true))
