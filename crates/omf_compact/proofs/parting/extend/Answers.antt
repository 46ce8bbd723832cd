use Rattle.std.proofs.Common.{◌≡◌, ◌+◌, List, map, Some, refl, sym, subst, ◌∙◌}
use Rattle.load_meaning.specs.Cells.{Part}
use Rattle.load_writer.specs.declared.written.Patch.{Patch}
use Rattle.load_writer.specs.WrittenParts.{seen}
use Rattle.omf_compact.specs.laws.Walk.{with_part}
use Rattle.omf_compact.specs.laws.WalkLaws.{part-puts, part-breaks}
use Rattle.omf_compact.proofs.parting.extend.Goals as goal

pub returns-then-goes_on-clause-put : goal.returns-then-goes_on-clause-put
returns-then-goes_on-clause-put c _ =
    let part = c.args.part.now in
    let last = c.in-Some.last in
    let next : Patch = record { at = last.at; count = last.count + 1; shift = last.shift; segment = last.segment; offset = last.offset } in
    subst (λ (l : List Patch). with_part (map seen c.args.patches.now.items) part.at (Part 1 part.segment part.offset part.shift part.index) ≡ Some (map seen l)) (sym c.in_ok-push.ensures.items)
    (part-puts c.args.patches.now.items c.pop.new.self.items last next part.at 1 part.segment part.offset part.shift part.index c.in-Some.ensures.items refl (sym c.goes_on.ensures ∙ c.if-goes_on.true) c.requires.some)

pub returns-clause-broken : goal.returns-clause-broken
returns-clause-broken c _ =
    let part = c.args.part.now in
    part-breaks c.args.patches.now.items c.pop.new.self.items c.in-Some.last part.at 1 part.segment part.offset part.shift part.index c.in-Some.ensures.items (sym c.goes_on.ensures ∙ c.if-goes_on.false) c.requires.some
