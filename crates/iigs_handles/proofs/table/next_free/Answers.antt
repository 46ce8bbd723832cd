use Rattle.std.proofs.Common.{◌≤◌, length, sym, arith}
use Rattle.std.proofs.lemmas.List.Sums.{position_or_len_is}
use Rattle.std.proofs.lemmas.Grind.{common_steps}
use Rattle.iigs_meaning.specs.Slots.{is_free, new_slot}
use Rattle.iigs_handles.proofs.table.next_free.Goals as goal

pub returns-then-is_free : goal.returns-then-is_free
returns-then-is_free g c = sym (position_or_len_is is_free c.args.slots.now c.loop-place.place new_slot (omega arith) c.loop-place.invariant (λ inside. grind (arith, common_steps)))

pub returns : goal.returns
returns g c =
    let h : length c.args.slots.now ≤ c.loop-place.place = omega arith in
    sym (position_or_len_is is_free c.args.slots.now (length c.args.slots.now) new_slot (omega arith) (λ k below. c.loop-place.invariant k (omega arith)) (λ inside. absurd (omega arith)))
