use Rattle.std.proofs.Common.{◌≡◌, ℕ, ◌-◌, ◌<◌, length, refl, sym, subst, arith}
use Rattle.std.proofs.lemmas.Option.{slice_get_read}
use Rattle.link_meaning.specs.declared.search.SearchKind.{SearchKind}
use Rattle.link_meaning.specs.Search.{FoundDefinition, finds_data}
use Rattle.link_meaning.specs.LinkedList.{found_for}
use Rattle.link_program.specs.Resolving.{IsShape}
use Rattle.link_program.proofs.LinkedLaws.{member_is}
use Rattle.link_program.proofs.ResolvingLaws.{shape_of}
use Rattle.link_program.proofs.linked.Linked.found_for.Goals as goal

pub returns-in-Data : goal.returns-in-Data
returns-in-Data c = λ list m holds far at.
    let used = c.args.used.now in
    let items = c.args.self.now.members.items in
    let k = used.place - 1 in
    let less : k < length items = omega (arith, c.requires.positive, c.requires.within) in
    let there = slice_get_read items (length items) k c.index-origin.result.now refl less c.index-origin.ensures in
    let of = member_is list c.args.self.now k m c.index-origin.result.now holds at there in
    let seen = shape_of (λ (f : FoundDefinition) (number : ℕ). number ≡ f.place) (finds_data list m used.name.now) c.find_data.result (c.find_data.ensures list m holds of) in
    let P : SearchKind → Type 0 = λ w. IsShape (found_for list used.place m (record { want = w; name = used.name.now; at = used.at })) c.find_data.result in
    subst P (sym c.in-Data.is) seen
