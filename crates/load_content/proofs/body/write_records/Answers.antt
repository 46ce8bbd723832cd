use Rattle.std.proofs.Common.{◌≡◌, ℕ, ◌+◌, ◌++◌, [], length, take, refl, sym, ap, subst, ◌∙◌, arith}
use Rattle.std.proofs.lemmas.List.{length-append}
use Rattle.omf_format.specs.Record.{Record, content_of}
use Rattle.omf_format.specs.Reading.{Reader}
use Rattle.omf_records.specs.View.{view}
use Rattle.load_content.proofs.Walks.{Left, left_all, left_more, left_none, left_full, left_fault, left_within, written_more}
use Rattle.load_content.proofs.body.write_records.Goals as goal

pub records-init : goal.records-init
records-init c = record { bytes = []; left = left_all c.args.records c.requires.body; size = refl; written = refl }

pub write_content-requires : goal.write_content-requires
write_content-requires c =
    let so_far = c.records.invariant in
    let found : ℕ × Record = (c.in-Ok-Some.found.0, view c.in-Ok-Some.found.1) in
    let more = left_more c.args.records c.records.records found so_far.bytes so_far.left (sym (rw c.in-Ok-Some.field-0-is at c.in-Ok-Some.ensures.answer)) in
    let within = left_within c.args.records _ (so_far.bytes ++ content_of found.1) more in
    omega (arith, within, length-append so_far.bytes (content_of found.1), so_far.size, c.requires.fits, c.records.auto.out)

pub records-preserved : goal.records-preserved
records-preserved c =
    let so_far = c.records.invariant in
    let found : ℕ × Record = (c.in-Ok-Some.found.0, view c.in-Ok-Some.found.1) in
    let more = left_more c.args.records c.records.records found so_far.bytes so_far.left (sym (rw c.in-Ok-Some.field-0-is at c.in-Ok-Some.ensures.answer)) in
    let bytes = so_far.bytes ++ content_of found.1 in
    let place : c.records.at + c.content_size.result ≡ c.records.at + length (content_of found.1) = omega (arith, c.content_size.ensures.value) in
    record {
      bytes = bytes;
      left = subst (λ (r : Reader). Left c.args.records r bytes) (sym c.in-Ok-Some.ensures.after) more;
      size = omega (arith, length-append so_far.bytes (content_of found.1), so_far.size, c.content_size.ensures.value);
      written =
          ap (λ (n : ℕ). take n c.write_content.new.out) place
          ∙ ap (take (c.records.at + length (content_of found.1))) c.write_content.ensures
          ∙ written_more c.records.out so_far.bytes (content_of found.1) c.records.at so_far.written so_far.size;
    }

pub unreachable-requires : goal.unreachable-requires
unreachable-requires c =
    let so_far = c.records.invariant in
    left_fault c.args.records c.records.records so_far.bytes c.in-Err.field-0 so_far.left (sym c.in-Err.ensures.answer)

pub returns-then-at-out-clause-written : goal.returns-then-at-out-clause-written
returns-then-at-out-clause-written c =
    let so_far = c.records.invariant in
    so_far.written ∙ sym (left_full c.args.records c.records.records so_far.bytes so_far.left (omega (arith, so_far.size, c.records.auto.out, c.requires.fits, c.if-at-out.true)))

pub returns-then-at-out-clause-size : goal.returns-then-at-out-clause-size
returns-then-at-out-clause-size c =
    let so_far = c.records.invariant in
    so_far.size ∙ ap length (sym (left_full c.args.records c.records.records so_far.bytes so_far.left (omega (arith, so_far.size, c.records.auto.out, c.requires.fits, c.if-at-out.true))))

pub returns-in-Ok-None-clause-written : goal.returns-in-Ok-None-clause-written
returns-in-Ok-None-clause-written c =
    let so_far = c.records.invariant in
    so_far.written ∙ sym (left_none c.args.records c.records.records so_far.bytes so_far.left (sym (rw c.in-Ok-None.field-0-is at c.in-Ok-None.ensures.answer)))

pub returns-in-Ok-None-clause-size : goal.returns-in-Ok-None-clause-size
returns-in-Ok-None-clause-size c =
    let so_far = c.records.invariant in
    so_far.size ∙ ap length (sym (left_none c.args.records c.records.records so_far.bytes so_far.left (sym (rw c.in-Ok-None.field-0-is at c.in-Ok-None.ensures.answer))))
