use Rattle.std.proofs.Common.{◌+◌, ◌++◌, map, drop, refl, sym, ap, subst, ◌∙◌, arith}
use Rattle.std.specs.Prelude.{pos}
use Rattle.std.proofs.lemmas.List.{length-map, length-drop, at_drop_more}
use Rattle.std.proofs.lemmas.Result.{err_from_is_err_and}
use Rattle.omf_format.specs.Field.{written_layout}
use Rattle.omf_format.specs.Record.{Record, IsRecord, spelling}
use Rattle.load_writer.specs.declared.written.Patch.{Patch}
use Rattle.load_writer.specs.WrittenParts.{seen}
use Rattle.load_meaning.specs.WrittenBody.{AreWritten}
use Rattle.load_meaning.specs.laws.FormLaws.{lone_fits}
use Rattle.load_writer.proofs.Fronts.{front_whole, front_after}
use Rattle.load_writer.proofs.FormLists.{below, step_is, size_is, end_is, start_is, start_size, lone_left, lone_put, lone_passed}
use Rattle.load_writer.proofs.written.put_lone.Goals as goal
use Rattle.load_writer.proofs.written.put_lone.Goals.{in-Some+in_ok-put_in-in-Some, in-None+in_ok-put_record-in-None}

abbrev no_patch : Patch
no_patch = record { at = 0; count = 0; shift = pos 0; segment = 0; offset = 0 }

pub patches-init : goal.patches-init
patches-init c = record {
  records = refl;
  lists = start_is c.args.own (map seen c.args.patches.now) _ c.in_ok-lists.ensures;
  size = start_size (λ l. l.items) c.in_ok-lists.lists.items c.in_ok-lists.ensures;
  left = (0, c.requires);
  front = front_whole _ _ refl;
}

pub put_in-requires : goal.put_in-requires
put_in-requires c = omega (arith, c.patches.invariant.size, below c.args.own _ c.in-Some.form (sym c.super_form.ensures ∙ c.in-Some.is))

pub put_record-requires : goal.put_record-requires
put_record-requires c =
    let left = c.patches.invariant.left in
    let here = subst (AreWritten 0xFFFFFF left.0) (at_drop_more (map seen) c.args.patches.now c.patches.patch-index no_patch c.patches-test.true) left.1 in
    subst (IsRecord written_layout) (sym c.lone_record.ensures) (lone_fits c.args.own 0xFFFFFF _ (omega arith) here.0)

pub returns-in_err-put_record-in-None-clause-err : goal.returns-in_err-put_record-in-None-clause-err
returns-in_err-put_record-in-None-clause-err c =
    let p = err_from_is_err_and c.from_residual-in_err-put_record-in-None.result c.from_residual-in_err-put_record-in-None.ensures.1 in
    let old = c.patches.out.items in
    let new = c.put_record.new.out.items in
    rw p.1 (front_after c.args.out.now.items old new c.patches.invariant.front (front_whole old new c.in_err-put_record-in-None.ensures.err))

pub patches-preserved : goal.patches-preserved
patches-preserved c =
    let i = c.patches.patch-index in
    let patches = c.args.patches.now in
    let next = at_drop_more (map seen) patches i no_patch c.patches-test.true in
    elim c.match-super_form.branch [
      | in-Some+in_ok-put_in-in-Some w ↦
          let is = sym c.super_form.ensures ∙ w.in-Some.is in
          rw (w.out-is, w.lists-is) (record {
            records = lone_passed c.args.own w.in-Some.form _ (map seen (drop (i + 1) patches)) (map seen (drop i patches)) _ _ is next c.patches.invariant.records;
            lists = step_is c.args.own w.in-Some.form _ (map seen (drop (i + 1) patches)) (map seen (drop i patches)) _ _ _ w.in_ok-put_in-in-Some.ensures is next c.patches.invariant.lists;
            size = size_is (λ l. l.items) c.patches.lists.items w.put_in.new.lists.items w.in-Some.form _ w.in_ok-put_in-in-Some.ensures ∙ c.patches.invariant.size;
            left = (_, (subst (AreWritten 0xFFFFFF c.patches.invariant.left.0) next c.patches.invariant.left.1).2);
            front = c.patches.invariant.front;
          })
      | in-None+in_ok-put_record-in-None w ↦
          let is = sym c.super_form.ensures ∙ w.in-None.is in
          rw (w.out-is, w.lists-is) (record {
            records = lone_put c.args.own _ (map seen (drop (i + 1) patches)) (map seen (drop i patches)) _ _ _ is next (w.in_ok-put_record-in-None.ensures.ok ∙ ap (λ (r : Record). c.patches.out.items ++ spelling written_layout r) w.lone_record.ensures) c.patches.invariant.records;
            lists = lone_left c.args.own _ (map seen (drop (i + 1) patches)) (map seen (drop i patches)) _ _ is next c.patches.invariant.lists;
            size = c.patches.invariant.size;
            left = (_, (subst (AreWritten 0xFFFFFF c.patches.invariant.left.0) next c.patches.invariant.left.1).2);
            front = front_after c.args.out.now.items c.patches.out.items w.put_record.new.out.items c.patches.invariant.front (_, w.in_ok-put_record-in-None.ensures.ok);
          })
    ]

pub returns-clause-lists : goal.returns-clause-lists
returns-clause-lists c =
    let left = drop c.patches.patch-index c.args.patches.now in
    end_is c.args.own (map seen left) _ _ (omega (arith, length-map left seen, length-drop c.patches.patch-index c.args.patches.now, c.patches-test.false)) c.patches.invariant.lists
