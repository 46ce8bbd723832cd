use Rattle.std.proofs.Common.{refl}
use Rattle.orca_symbols.specs.declared.template.TemplatePart.TheVariants.{Plain}
use Rattle.orca_symbols.proofs.Templates.{closed_some}
use Rattle.orca_symbols.proofs.template.close.Goals as goal

pub returns : goal.returns
returns c = λ text_of tail. closed_some text_of c.args.parts.now.items c.push.new.self.items c.args.run.bytes.now c.in_ok-bytes.bytes tail (Plain c.in_ok-bytes.bytes) refl c.in_ok-bytes.ensures c.in_ok-push.ensures.items
