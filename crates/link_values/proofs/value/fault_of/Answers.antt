use Rattle.std.proofs.Common.{◌≡◌, ◌≤◌, length, Some, sym, ap, subst, ◌∙◌}
use Rattle.std.specs.Prelude.{slice_get}
use Rattle.std.proofs.lemmas.Bool.{ltb-false}
use Rattle.std.proofs.lemmas.Option.{slice_get-get_or, slice_get_past}
use Rattle.link_values.specs.declared.slots.ValueSlot.{ValueSlot}
use Rattle.link_values.specs.declared.slots.ValueSlot.TheVariants.{Open, Done, Failed}
use Rattle.link_program.specs.Finding.{IsFirstOf}
use Rattle.link_values.proofs.SlotLaws.{no_label}
use Rattle.link_values.proofs.ValueLaws.{fault_says}
use Rattle.link_values.proofs.value.fault_of.Goals as goal

pub returns-in-Some-Open : goal.returns-in-Some-Open
returns-in-Some-Open c = λ list all founds once are first.
    let n = c.in-Some.number in
    let slots = c.args.slots.now in
    let d = c.in-Some-Open.field-0.now in
    let there : slice_get slots n ≡ Some d = slice_get-get_or slots n d c.in-Some-Open.ensures.lookup.3.0 ∙ ap (λ (s : ValueSlot). Some s) (sym c.in-Some-Open.ensures.lookup.1) in
    fault_says list all slots n once are c.args.fault founds Open (subst (IsFirstOf all founds) c.in-Some.is first) (there ∙ ap (λ (s : ValueSlot). Some s) c.in-Some-Open.field-0-is)

pub returns-in-Some-Done : goal.returns-in-Some-Done
returns-in-Some-Done c = λ list all founds once are first.
    let n = c.in-Some.number in
    let slots = c.args.slots.now in
    let d = c.in-Some-Done.field-0.now in
    let there : slice_get slots n ≡ Some d = slice_get-get_or slots n d c.in-Some-Done.ensures.lookup.3.0 ∙ ap (λ (s : ValueSlot). Some s) (sym c.in-Some-Done.ensures.lookup.1) in
    fault_says list all slots n once are c.args.fault founds (Done c.in-Some-Done.field-0-0) (subst (IsFirstOf all founds) c.in-Some.is first) (there ∙ ap (λ (s : ValueSlot). Some s) c.in-Some-Done.field-0-is)

pub returns-in-Some-Failed : goal.returns-in-Some-Failed
returns-in-Some-Failed c = λ list all founds once are first.
    let n = c.in-Some.number in
    let slots = c.args.slots.now in
    let d = c.in-Some-Failed.field-0.now in
    let there : slice_get slots n ≡ Some d = slice_get-get_or slots n d c.in-Some-Failed.ensures.lookup.3.0 ∙ ap (λ (s : ValueSlot). Some s) (sym c.in-Some-Failed.ensures.lookup.1) in
    fault_says list all slots n once are c.args.fault founds (Failed c.in-Some-Failed.of) (subst (IsFirstOf all founds) c.in-Some.is first) (there ∙ ap (λ (s : ValueSlot). Some s) c.in-Some-Failed.field-0-is)

pub returns-in-None-get : goal.returns-in-None-get
returns-in-None-get c = λ list all founds once are first.
    let n = c.in-Some.number in
    let slots = c.args.slots.now in
    let past : length slots ≤ n = ltb-false n (length slots) (sym c.in-None-get.ensures.lookup.0) in
    absurd (no_label list all founds slots n are (subst (IsFirstOf all founds) c.in-Some.is first) (slice_get_past slots n past))
