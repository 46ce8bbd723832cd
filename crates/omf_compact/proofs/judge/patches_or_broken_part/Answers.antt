use Rattle.std.proofs.Common.{◌≡◌, ℕ, suc, ◌+◌, Some, subst, arith}
use Rattle.omf_format.specs.File.{segment_at}
use Rattle.load_meaning.specs.Cells.{cells}
use Rattle.omf_compact.specs.declared.parting.Parted.TheVariants.{Patches, Broken}
use Rattle.omf_compact.proofs.JudgeLaws.{judged_more, judged_all, first_there, parted_at}
use Rattle.omf_compact.proofs.judge.patches_or_broken_part.Goals as goal

pub returns-in-Broken-clause-refused : goal.returns-in-Broken-clause-refused
returns-in-Broken-clause-refused c =
    first_there c.args.load.now c.segments.place c.in-Broken.at c.segments.lists.items c.segments.invariant (omega (arith, c.segments-test.true, c.count-place-end.ensures))
    (λ s at. parted_at c.in_ok-patches.field-0 (Broken c.in-Broken.at) (cells s) c.in-Broken.is (c.in_ok-patches.ensures s at))

pub segments-preserved : goal.segments-preserved
segments-preserved c =
    judged_more c.args.load.now c.segments.place c.segments.lists.items c.push.new.self.items c.in-Patches.patches c.segments.invariant c.in_ok-push-in-Patches.ensures.items
    (λ s is. parted_at c.in_ok-patches.field-0 (Patches c.in-Patches.patches) (cells s) c.in-Patches.is
    (c.in_ok-patches.ensures s (let step : suc c.segments.place ≡ c.segments.place + 1 = omega arith in subst (λ (n : ℕ). segment_at c.args.load.now n ≡ Some s) step is)))

pub returns-clause-whole : goal.returns-clause-whole
returns-clause-whole c = (judged_all c.args.load.now c.segments.place c.segments.lists.items c.segments.invariant (omega (arith, c.segments-test.false, c.segments.auto.place-end, c.count-place-end.ensures))).0

pub returns-clause-lists : goal.returns-clause-lists
returns-clause-lists c = (judged_all c.args.load.now c.segments.place c.segments.lists.items c.segments.invariant (omega (arith, c.segments-test.false, c.segments.auto.place-end, c.count-place-end.ensures))).1
