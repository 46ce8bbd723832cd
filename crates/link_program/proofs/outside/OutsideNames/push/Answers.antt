use Rattle.std.proofs.Common.{◌≡◌, ℕ, [], ◌∷◌, ◌++◌, List, length, subst, ap}
use Rattle.link_meaning.specs.declared.search.SearchStep.TheVariants.{Everyone}
use Rattle.link_program.specs.declared.outside.Far.{Far}
use Rattle.link_program.specs.declared.outside.OutsideNames.{OutsideNames}
use Rattle.link_tables.specs.Names.{Indexes}
use Rattle.link_program.proofs.OutsideTables.{pushed_far}
use Rattle.link_program.proofs.outside.OutsideNames.push.Goals as goal

pub returns : goal.returns
returns c = λ fs f are far name place.
    let new : OutsideNames = record { names = c.add.new.self; places = c.push.new.self } in
    let size : length c.as_slice-number.result.now ≡ length c.args.self.now.places.items = ap (λ (l : List Far). length l) c.as_slice-number.ensures.value in
    pushed_far fs f c.args.self.now new c.args.name.now c.args.place are far name place
    (λ rows is. subst (λ (n : ℕ). Indexes (rows ++ (record { step = Everyone; name = c.args.name.now }, n) ∷ []) c.add.new.self) size (c.in_ok-add.ensures rows is))
    c.in_ok-push.ensures.items
