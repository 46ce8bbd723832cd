use Rattle.std.proofs.Common.{◌≡◌, ◌-◌, ◌<◌, ◌≤◌, length, get_or, List, refl, sym, ap, ◌∙◌, arith}
use Rattle.std.proofs.lemmas.Bool.{ltb-false}
use Rattle.std.proofs.lemmas.Option.{slice_get_read}
use Rattle.link_tables.specs.declared.definitions.Origin.{Origin}
use Rattle.link_program.proofs.LinkedLaws.{origin_some, origin_none}
use Rattle.link_program.proofs.linked.Linked.origin.Goals as goal

pub returns-in-Some : goal.returns-in-Some
returns-in-Some c = λ list holds.
    let m = c.in-Some.origin.now in
    let items = c.args.self.now.members.items in
    let k = c.args.place - 1 in
    let lt : k < length items = omega (arith, c.in-Some.ensures.lookup.3.0, ap length c.as_slice.ensures.value) in
    let item : m ≡ get_or items k m = c.in-Some.ensures.lookup.1 ∙ ap (λ (l : List Origin). get_or l k m) c.as_slice.ensures.value in
    origin_some list c.args.self.now c.args.place m holds (omega (arith, c.if-place-eq0.false)) (slice_get_read items (length items) k m refl lt item)

pub returns-in-None : goal.returns-in-None
returns-in-None c = λ list holds.
    let items = c.args.self.now.members.items in
    let k = c.args.place - 1 in
    let past : length c.as_slice.result.now ≤ k = ltb-false k (length c.as_slice.result.now) (sym c.in-None.ensures.lookup.0) in
    origin_none list c.args.self.now c.args.place holds (omega (arith, c.if-place-eq0.false)) (omega (arith, past, ap length c.as_slice.ensures.value))
