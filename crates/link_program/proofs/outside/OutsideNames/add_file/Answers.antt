use Rattle.std.proofs.Common.{◌≡◌, ◌<◌, ◌≤◌, ◌++◌, ℕ, zero, suc, List, [], ◌∷◌, None, length, sym, ap, subst, ◌∙◌, arith}
use Rattle.std.specs.Prelude.{slice_get}
use Rattle.std.specs.List.{filter_map}
use Rattle.omf_format.specs.File.{Segment}
use Rattle.load_meaning.specs.Exports.{Export, exports_of}
use Rattle.load_tables.specs.View.{seen_export}
use Rattle.link_meaning.specs.Search.{outside_of}
use Rattle.link_program.specs.Outside.{AreOutside}
use Rattle.link_tables.proofs.Lists.{take_all}
use Rattle.link_program.proofs.OutsideTables.{added_more}
use Rattle.link_program.proofs.outside.OutsideNames.add_file.Goals as goal

none_there : (es : List Export) (k : ℕ) → k < length es → None ≡ slice_get es k → ⊥
none_there [] k less e = absurd (omega arith)
none_there (x ∷ es) zero less e = absurd cc
none_there (x ∷ es) (suc k) less e = none_there es k (omega arith) e

pub unreachable-requires : goal.unreachable-requires
unreachable-requires c = none_there (exports_of c.args.load.now) c.names.place (omega (arith, c.names-test.true, c.exports.ensures)) c.in-None.ensures

pub overflow_add-place : goal.overflow_add-place
overflow_add-place c = omega (arith, c.names-test.true, c.exports.type_inv)

pub names-preserved : goal.names-preserved
names-preserved c = record {
  within = omega (arith, c.names-test.true, c.exports.ensures);
  added = λ fs r same are.
      let at = ap (λ (l : List Segment). slice_get (exports_of l) c.names.place) same ∙ sym c.in-Some.ensures in
      added_more fs c.args.file r c.names.place (seen_export c.in-Some.export) c.names.self c.add_export.new.self at (c.names.invariant.added fs r same are) (λ fs' are'. c.in_ok-add_export.ensures fs' r same are');
}

pub returns : goal.returns
returns c = λ fs r same are.
    let es = exports_of r.segments in
    let past : length es ≤ c.names.place = omega (arith, c.names-test.false, c.exports.ensures, ap (λ (l : List Segment). length (exports_of l)) same) in
    subst (λ (l : List Export). AreOutside (fs ++ filter_map (outside_of c.args.file r) l) c.names.self) (take_all es c.names.place past) (c.names.invariant.added fs r same are)
