use Rattle.std.proofs.Common.{◌≡◌, Some, sym, ap, ◌∙◌, arith}
use Rattle.std.specs.Prelude.{option_map, slice_get}
use Rattle.load_meaning.specs.Exports.{exports_of}
use Rattle.load_tables.specs.View.{seen_export}
use Rattle.omf_compact.proofs.EntryLists.{left_first, left_more, left_spelled, left_none, not_none, some_within, other_holder}
use Rattle.omf_compact.proofs.exports.put_exports.Goals as goal

pub exports-init : goal.exports-init
exports-init c = λ s at. left_first c.args.load.now c.args.number s c.args.place c.args.out.now.items c.requires.known at c.requires.at

pub unreachable-requires : goal.unreachable-requires
unreachable-requires c =
    not_none (exports_of c.args.load.now) c.exports.place (sym c.export.ensures ∙ ap (option_map seen_export) c.in-None.is) (omega (arith, c.exports-test.true, c.exports-end.ensures))

pub returns-then-export-number-clause-ok : goal.returns-then-export-number-clause-ok
returns-then-export-number-clause-ok c = λ s at.
    let there : slice_get (exports_of c.args.load.now) c.exports.place ≡ Some (seen_export c.in-Some.export) = sym c.export.ensures ∙ ap (option_map seen_export) c.in-Some.is in
    (left_none c.args.load.now c.args.number s c.exports.place c.args.out.now.items c.exports.out.items (c.exports.invariant s at)
    (λ e is same. other_holder _ (seen_export c.in-Some.export) e c.args.number there is c.if-export-number.true same)).0

pub returns-then-export-number-clause-next : goal.returns-then-export-number-clause-next
returns-then-export-number-clause-next c =
    let s = c.requires.there.0 in
    let there : slice_get (exports_of c.args.load.now) c.exports.place ≡ Some (seen_export c.in-Some.export) = sym c.export.ensures ∙ ap (option_map seen_export) c.in-Some.is in
    (left_none c.args.load.now c.args.number s c.exports.place c.args.out.now.items c.exports.out.items (c.exports.invariant s c.requires.there.1)
    (λ e is same. other_holder _ (seen_export c.in-Some.export) e c.args.number there is c.if-export-number.true same)).1

pub put_record-requires : goal.put_record-requires
put_record-requires c =
    let s = c.requires.there.0 in
    let there : slice_get (exports_of c.args.load.now) c.exports.place ≡ Some (seen_export c.in-Some.export) = sym c.export.ensures ∙ ap (option_map seen_export) c.in-Some.is in
    left_spelled c.args.load.now c.args.number s c.exports.place c.args.out.now.items c.exports.out.items (seen_export c.in-Some.export) (c.exports.invariant s c.requires.there.1) there c.if-export-number.false

pub exports-preserved : goal.exports-preserved
exports-preserved c = λ s at.
    let there : slice_get (exports_of c.args.load.now) c.exports.place ≡ Some (seen_export c.in-Some.export) = sym c.export.ensures ∙ ap (option_map seen_export) c.in-Some.is in
    left_more c.args.load.now c.args.number s c.exports.place c.args.out.now.items c.exports.out.items c.put_record.new.out.items (seen_export c.in-Some.export) (c.exports.invariant s at) there c.if-export-number.false
    c.in_ok-put_record.ensures.ok

pub returns-clause-ok : goal.returns-clause-ok
returns-clause-ok c = λ s at.
    (left_none c.args.load.now c.args.number s c.exports.place c.args.out.now.items c.exports.out.items (c.exports.invariant s at)
    (λ e is same. let lt = some_within (exports_of c.args.load.now) c.exports.place e is in omega (arith, lt, c.exports-test.false, c.exports-end.ensures))).0

pub returns-clause-next : goal.returns-clause-next
returns-clause-next c =
    let s = c.requires.there.0 in
    (left_none c.args.load.now c.args.number s c.exports.place c.args.out.now.items c.exports.out.items (c.exports.invariant s c.requires.there.1)
    (λ e is same. let lt = some_within (exports_of c.args.load.now) c.exports.place e is in omega (arith, lt, c.exports-test.false, c.exports-end.ensures))).1
