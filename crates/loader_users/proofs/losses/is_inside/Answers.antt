use Rattle.std.proofs.Common.{false, Option, sym, ap, ◌∙◌}
use Rattle.std.specs.Prelude.{option_map, nat_lt}
use Rattle.std.specs.Option.{option_map_or}
use Rattle.loader_machine.specs.declared.seen.SegmentHead.{SegmentHead}
use Rattle.loader_users.proofs.Losing.{head_number}
use Rattle.loader_users.proofs.losses.is_inside.Goals as goal

pub returns-in-Some : goal.returns-in-Some
returns-in-Some c =
    let items = c.args.user.now.segments.items in
    let n = c.args.target.now.segment in
    sym (ap (λ (o : Option SegmentHead). option_map_or (λ (head : SegmentHead). nat_lt c.args.target.now.offset head.length) o false)
    (head_number items n ∙ ap (option_map (λ s. s.head)) (sym c.segment.ensures ∙ ap (option_map (λ s. s.now)) c.in-Some.is)))

pub returns-in-None : goal.returns-in-None
returns-in-None c =
    let items = c.args.user.now.segments.items in
    let n = c.args.target.now.segment in
    sym (ap (λ (o : Option SegmentHead). option_map_or (λ (head : SegmentHead). nat_lt c.args.target.now.offset head.length) o false)
    (head_number items n ∙ ap (option_map (λ s. s.head)) (sym c.segment.ensures ∙ ap (option_map (λ s. s.now)) c.in-None.is)))
