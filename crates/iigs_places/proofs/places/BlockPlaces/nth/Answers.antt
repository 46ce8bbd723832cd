use Rattle.std.proofs.Common.{◌≡◌, ◌<◌, ◌≤◌, length, get_or, ap, arith}
use Rattle.std.proofs.lemmas.Grind.{common_steps}
use Rattle.std.proofs.lemmas.List.Elements.{Contains-get_or}
use Rattle.iigs_places.specs.declared.marks.BlockMark.{BlockMark}
use Rattle.iigs_places.proofs.Marked.{is_marked, marks_sized}
use Rattle.iigs_places.proofs.Orders.{nth_none, nth_is}
use Rattle.iigs_places.proofs.places.BlockPlaces.nth.Goals as goal

pub handle_in-requires : goal.handle_in-requires
handle_in-requires c =
    let marks = c.self.inside.layout.marks.items in
    let mark = c.in-Some.mark.now in
    let inside : c.args.place < length marks = grind (arith, common_steps) in
    let is : get_or marks c.args.place mark ≡ mark = grind (arith, common_steps) in
    omega (arith, ap (λ (m : BlockMark). m.slot) is, (is_marked c.self.inside.map c.self.inside.table c.self.inside.layout c.self.invariant.0 c.self.invariant.1).small (get_or marks c.args.place mark) (Contains-get_or marks c.args.place mark inside))

pub returns-in-Some : goal.returns-in-Some
returns-in-Some c =
    let marks = c.self.inside.layout.marks.items in
    let mark = c.in-Some.mark.now in
    let inside : c.args.place < length marks = grind (arith, common_steps) in
    let is : get_or marks c.args.place mark ≡ mark = grind (arith, common_steps) in
    rw (← c.self.view_is) (nth_is c.self.inside.table marks c.self.invariant.1.have (is_marked c.self.inside.map c.self.inside.table c.self.inside.layout c.self.invariant.0 c.self.invariant.1)
    (marks_sized c.self.inside.table marks c.self.invariant.0.bounded c.self.invariant.1.have) c.args.place mark inside is c.handle_in.result (rw (← c.self.view_is) at c.handle_in.ensures))

pub returns-in-None : goal.returns-in-None
returns-in-None c =
    let past : length c.self.inside.layout.marks.items ≤ c.args.place = grind (arith, common_steps) in
    rw (← c.self.view_is) (nth_none c.self.inside.table c.self.inside.layout.marks.items c.self.invariant.1.have c.args.place past)
