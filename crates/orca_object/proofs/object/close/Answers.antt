use Rattle.std.proofs.Common.{ℕ, List, ◌++◌, length, drop, ap, ◌∙◌, arith}
use Rattle.std.proofs.lemmas.List.{with_items_is}
use Rattle.omf_format.specs.laws.WrittenHeaderLaws.{length-header}
use Rattle.omf_header.specs.View.{fields}
use Rattle.orca_operands.specs.TextView.{kept_by}
use Rattle.orca_object.proofs.Objects.{long_closed, many_closed, put_closed}
use Rattle.orca_object.proofs.object.close.Goals as goal

pub returns-then-segment : goal.returns-then-segment
returns-then-segment c = λ e header shows. long_closed c.args.segment.now e (fields c.args.header.now) header c.recall_header_size.ensures c.if-segment.true shows

pub returns-then-len-gt-MAX_FILE : goal.returns-then-len-gt-MAX_FILE
returns-then-len-gt-MAX_FILE c = λ e header shows.
    many_closed c.args.segment.now c.give_up.new.self e (fields c.args.header.now) header c.recall_header_size.ensures c.if-segment.false shows (omega (arith, c.if-len-gt-MAX_FILE.true, c.len.ensures, c.args.segment.now.bytes.ok.0)) c.give_up.ensures

pub returns-in-Ok : goal.returns-in-Ok
returns-in-Ok c = λ e header shows.
    let text = c.args.segment.now in
    let new = c.put_front.new.text in
    ap (kept_by text.long) (with_items_is text.bytes new (omega (arith, c.put_front.auto.text, c.as_mut_slice.ensures.len, text.bytes.ok.0)))
    ∙ put_closed text e (fields c.args.header.now) c.in-Some.size c.as_slice.result.now new header c.recall_header_size.ensures c.if-segment.false shows (omega (arith, c.if-len-gt-MAX_FILE.false, c.len.ensures)) (omega (arith, c.header_size.ensures.value, c.len-2.ensures, text.bytes.ok.0))
    (c.as_slice.ensures.value ∙ c.in-Ok.ensures.bytes) (c.put_front.ensures ∙ ap (λ (l : List ℕ). c.as_slice.result.now ++ drop (length c.as_slice.result.now) l) c.as_mut_slice.ensures.value)

pub put_front-requires : goal.put_front-requires
put_front-requires c =
    let size = ap length (c.as_slice.ensures.value ∙ c.in-Ok.ensures.bytes) ∙ length-header (fields c.args.header.now) c.in-Some.size c.recall_header_size.ensures in
    omega (arith, size, c.header_size.ensures.value)
