use Rattle.std.proofs.Common.{ℕ, ◌+◌, ◌%◌, Some, map, sym, ap, ◌∙◌}
use Rattle.loader_machine.specs.Stands.{place_in}
use Rattle.loader_users.specs.declared.user.UserSegment.{UserSegment}
use Rattle.loader_users.proofs.Dealing.{sought_here, place_here, and_true}
use Rattle.loader_users.proofs.place.entry_of.Goals as goal

pub returns-then-is_code : goal.returns-then-is_code
returns-then-is_code c =
    let segments = c.args.segments.now.items in
    let xs = c.deref-segment-items.result.now in
    let place = place_in c.args.banks.now.slots (map (λ (s : UserSegment). s.handle) segments) in
    let at = c.from.ensures ∙ c.place_of.ensures ∙ sym (place_here c.args.banks.now.slots segments xs c.segments.segment-index _ c.deref-segment-items.ensures.value c.segments-test.true) in
    ap (λ (n : ℕ). Some ((n + c.from-then-is_code.result) % 0x1000000)) at
    ∙ ap (λ (n : ℕ). Some ((place (c.segments.segment-index + 1) + n) % 0x1000000)) c.from-then-is_code.ensures
    ∙ sym (sought_here place segments xs c.segments.segment-index _ c.deref-segment-items.ensures.value c.segments-test.true c.segments.invariant
    (and_true _ _ (sym c.is_static.ensures ∙ c.if-is_static.true) (sym c.is_code.ensures ∙ c.if-is_code.true)))
