use Rattle.std.proofs.Common.{◌+◌, ◌∷◌, drop, ap, ◌∙◌}
use Rattle.orca_symbols.specs.declared.template.TemplatePart.{TemplatePart}
use Rattle.orca_symbols.proofs.Parted.{drop_read}
use Rattle.orca_symbols.proofs.Templates.{begins_plain}
use Rattle.orca_symbols.proofs.template.plain_front.Goals as goal

pub returns-in-Plain : goal.returns-in-Plain
returns-in-Plain c =
    let parts = c.args.parts.now in
    let i = c.parts.part-index in
    let first = (drop_read parts i c.part-item.result c.parts-test.true c.part-item.is).1 ∙ ap (λ (part : TemplatePart). part ∷ drop (i + 1) parts) c.in-Plain.is in
    begins_plain parts (drop i parts) (drop (i + 1) parts) c.in-Plain.bytes c.bytes.result.now first c.bytes.ensures.value c.parts.invariant
