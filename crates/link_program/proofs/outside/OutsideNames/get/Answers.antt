use Rattle.std.proofs.Common.{◌≡◌, ◌<◌, ◌≤◌, List, None, length, get_or, refl, sym, ap, ◌∙◌, arith}
use Rattle.std.specs.Prelude.{slice_get}
use Rattle.std.proofs.lemmas.Bool.{ltb-false}
use Rattle.std.proofs.lemmas.Option.{slice_get_read, slice_get_past}
use Rattle.link_program.specs.declared.outside.Far.{Far}
use Rattle.link_program.proofs.OutsideTables.{place_at}
use Rattle.link_program.proofs.outside.OutsideNames.get.Goals as goal

pub returns-in-Some : goal.returns-in-Some
returns-in-Some c = λ fs are.
    let place = c.in-Some.place.now in
    let items = c.args.self.now.places.items in
    let k = c.args.number in
    let lt : k < length items = omega (arith, c.in-Some.ensures.lookup.3.0, ap (λ (l : List Far). length l) c.deref.ensures.value) in
    let item : place ≡ get_or items k place = c.in-Some.ensures.lookup.1 ∙ ap (λ (l : List Far). get_or l k place) c.deref.ensures.value in
    sym (slice_get_read items (length items) k place refl lt item) ∙ place_at fs c.args.self.now k are

pub returns-in-None : goal.returns-in-None
returns-in-None c = λ fs are.
    let items = c.args.self.now.places.items in
    let k = c.args.number in
    let past : length c.deref.result.now ≤ k = ltb-false k (length c.deref.result.now) (sym c.in-None.ensures.lookup.0) in
    let none : slice_get items k ≡ None = slice_get_past items k (omega (arith, past, ap (λ (l : List Far). length l) c.deref.ensures.value)) in
    sym none ∙ place_at fs c.args.self.now k are
