use Rattle.std.proofs.Common.{◌≡◌, ◌≤◌, length, Some, sym, ap, subst, ◌∙◌}
use Rattle.std.specs.Prelude.{slice_get}
use Rattle.std.proofs.lemmas.Bool.{ltb-false}
use Rattle.std.proofs.lemmas.Option.{slice_get-get_or, slice_get_past}
use Rattle.link_values.specs.declared.slots.ValueSlot.{ValueSlot}
use Rattle.link_program.specs.Finding.{IsFirstOf}
use Rattle.link_values.proofs.SlotLaws.{label_is, no_label}
use Rattle.link_values.proofs.slots.label_of.Goals as goal

pub returns-in-Some-get : goal.returns-in-Some-get
returns-in-Some-get c = λ list all founds once are first.
    let n = c.in-Some.number in
    let slots = c.args.slots.now in
    let d = c.in-Some-get.slot.now in
    let there : slice_get slots n ≡ Some d = slice_get-get_or slots n d c.in-Some-get.ensures.lookup.3.0 ∙ ap (λ (s : ValueSlot). Some s) (sym c.in-Some-get.ensures.lookup.1) in
    c.value_of.ensures ∙ label_is list all founds slots n d c.args.weak once are (subst (IsFirstOf all founds) c.in-Some.is first) there

pub returns-in-None-get : goal.returns-in-None-get
returns-in-None-get c = λ list all founds once are first.
    let n = c.in-Some.number in
    let slots = c.args.slots.now in
    let past : length slots ≤ n = ltb-false n (length slots) (sym c.in-None-get.ensures.lookup.0) in
    absurd (no_label list all founds slots n are (subst (IsFirstOf all founds) c.in-Some.is first) (slice_get_past slots n past))
