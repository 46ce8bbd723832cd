use Rattle.std.proofs.Common.{refl, ap, ◌∙◌, List, ℕ}
use Rattle.macro_meaning.specs.Substitution.{with_front}
use Rattle.orca_symbols.specs.Template.{text_before}
use Rattle.orca_symbols.specs.declared.template.TemplatePart.TheVariants.{Put, Need}
use Rattle.orca_symbols.proofs.Templates.{adds_text, adds_asked}
use Rattle.orca_symbols.proofs.template.add.Goals as goal

pub returns-in_ok-push-in-Text-clause-parts : goal.returns-in_ok-push-in-Text-clause-parts
returns-in_ok-push-in-Text-clause-parts c = λ text_of tail. rw c.in-Text.is
    (adds_text text_of c.args.parts.now.items c.close.new.parts.items c.push-in-Text.new.self.items c.args.run.now.items c.clear.new.self.items c.in-Text.name tail (Put c.in-Text.name) refl
    (λ t. c.in_ok-close-in-Text.ensures text_of t ∙ ap (λ (r : List ℕ). text_before text_of c.args.parts.now.items (with_front r t)) c.as_slice.ensures.value)
    c.in_ok-push-in-Text.ensures.items c.clear.ensures.items)

pub returns-in_ok-push-in-Asked-2-clause-parts : goal.returns-in_ok-push-in-Asked-2-clause-parts
returns-in_ok-push-in-Asked-2-clause-parts c = λ text_of tail. rw c.in-Asked.is
    (adds_asked text_of c.args.parts.now.items c.push-in-Asked.new.self.items c.args.run.now.items c.push-in-Asked-2.new.self.items c.in-Asked.name tail (Need c.in-Asked.name) refl
    c.in_ok-push-in-Asked.ensures.items c.in_ok-push-in-Asked-2.ensures.items)
