use Rattle.std.proofs.Common.{◌≡◌, ℕ, ◌+◌, ◌-◌, ◌++◌, length, refl, sym, ap, subst, ◌∙◌, arith}
use Rattle.std.proofs.lemmas.Result.{err_from_is_err_and}
use Rattle.omf_format.specs.Header.{IsWritable}
use Rattle.omf_format.specs.laws.WrittenHeaderLaws.{length-header}
use Rattle.omf_header.specs.View.{fields}
use Rattle.omf_header.specs.Written.{with_reserved_zeros}
use Rattle.omf_compact.specs.Canonical.{plain_of, canon_fields, canon_segment}
use Rattle.omf_compact.specs.laws.CanonLaws.{is_writable}
use Rattle.omf_compact.specs.laws.Writing.{AtExports, first_text, entries_text}
use Rattle.omf_compact.proofs.KnownLaws.{known_held}
use Rattle.omf_compact.proofs.SegmentLaws.{its_fields, own_number, at_own, body_there, after_size, fields_are, err_moved, made_long, long_by, long_all, segment_done}
use Rattle.omf_compact.proofs.segments.put_segment.Goals as goal

pub put_content-requires-clause-whole : goal.put_content-requires-clause-whole
put_content-requires-clause-whole c = λ s at.
    let own = own_number c.args.load.now c.args.number (fields c.in-Some.header.now) c.requires.known c.requires.there c.in-Some.ensures in
    c.requires.whole s (at_own c.args.load.now _ c.args.number s own at)

pub put_content-requires-clause-header : goal.put_content-requires-clause-header
put_content-requires-clause-header c = λ s at.
    let f = fields c.in-Some.header.now in
    let own = own_number c.args.load.now c.args.number f c.requires.known c.requires.there c.in-Some.ensures in
    its_fields c.args.load.now c.args.number f s c.in-Some.ensures (at_own c.args.load.now _ c.args.number s own at)

pub put_content-requires-clause-there : goal.put_content-requires-clause-there
put_content-requires-clause-there c =
    let own = own_number c.args.load.now c.args.number (fields c.in-Some.header.now) c.requires.known c.requires.there c.in-Some.ensures in
    (c.requires.there.0, at_own c.args.load.now c.args.number _ c.requires.there.0 (sym own) c.requires.there.1)

pub put_exports-requires-clause-there : goal.put_exports-requires-clause-there
put_exports-requires-clause-there c =
    let own = own_number c.args.load.now c.args.number (fields c.in-Some.header.now) c.requires.known c.requires.there c.in-Some.ensures in
    (c.requires.there.0, at_own c.args.load.now c.args.number _ c.requires.there.0 (sym own) c.requires.there.1)

pub put_exports-requires-clause-at : goal.put_exports-requires-clause-at
put_exports-requires-clause-at c =
    let own = own_number c.args.load.now c.args.number (fields c.in-Some.header.now) c.requires.known c.requires.there c.in-Some.ensures in
    subst (λ (n : ℕ). AtExports c.args.load.now n c.args.place) (sym own) c.requires.at

pub returns-in_err-zeros-clause-too_long : goal.returns-in_err-zeros-clause-too_long
returns-in_err-zeros-clause-too_long c =
    let p = err_from_is_err_and c.from_residual-in_err-zeros.result c.from_residual-in_err-zeros.ensures.1 in
    rw (p.1, p.2) (λ e s at.
    let load = c.args.load.now in
    let number = c.args.number in
    let f = fields c.in-Some.header.now in
    let own = own_number load number f c.requires.known c.requires.there c.in-Some.ensures in
    let long = c.in_err-zeros.ensures.too_long (err_moved _ _ e) s (at_own load number f.seg_num s (sym own) at) in
    let same : length (canon_segment f.seg_num (plain_of s)) ≡ length (canon_segment number (plain_of s)) = ap (λ (n : ℕ). length (canon_segment n (plain_of s))) own in
    omega (arith, long, same))

pub overflow_sub-size : goal.overflow_sub-size
overflow_sub-size c =
    let load = c.args.load.now in
    let number = c.args.number in
    let f = fields c.in-Some.header.now in
    let own = own_number load number f c.requires.known c.requires.there c.in-Some.ensures in
    let s = c.requires.there.0 in
    let at = c.requires.there.1 in
    let body = first_text number (plain_of s) ++ entries_text s in
    let out = c.args.out.now.items in
    let r3 = c.put_exports.new.out.items in
    let room = c.header_size-room.result in
    let there = at_own load number f.seg_num s (sym own) at in
    let mid = body_there out c.put_room.new.out.items c.put_content.new.out.items r3 room f.seg_num number s own c.in_ok-put_room.ensures (c.in_ok-zeros.ensures.ok s there) (c.in_ok-next.ensures.ok s there) in
    let sizes = after_size out body r3 room mid in
    let start = ap length c.as_slice-start.ensures.value in
    let whole = ap length c.as_slice.ensures.value in
    omega (arith, sizes, start, whole)

pub overflow_sub-size-2 : goal.overflow_sub-size-2
overflow_sub-size-2 c =
    let load = c.args.load.now in
    let number = c.args.number in
    let f = fields c.in-Some.header.now in
    let own = own_number load number f c.requires.known c.requires.there c.in-Some.ensures in
    let s = c.requires.there.0 in
    let at = c.requires.there.1 in
    let body = first_text number (plain_of s) ++ entries_text s in
    let out = c.args.out.now.items in
    let r3 = c.put_exports.new.out.items in
    let room = c.header_size-room.result in
    let there = at_own load number f.seg_num s (sym own) at in
    let mid = body_there out c.put_room.new.out.items c.put_content.new.out.items r3 room f.seg_num number s own c.in_ok-put_room.ensures (c.in_ok-zeros.ensures.ok s there) (c.in_ok-next.ensures.ok s there) in
    let sizes = after_size out body r3 room mid in
    let start = ap length c.as_slice-start.ensures.value in
    let whole = ap length c.as_slice.ensures.value in
    omega (arith, sizes, start, whole)

pub header_before-requires : goal.header_before-requires
header_before-requires c =
    let load = c.args.load.now in
    let number = c.args.number in
    let f = fields c.in-Some.header.now in
    let own = own_number load number f c.requires.known c.requires.there c.in-Some.ensures in
    let s = c.requires.there.0 in
    let at = c.requires.there.1 in
    let there = at_own load number f.seg_num s (sym own) at in
    let is = its_fields load number f s c.in-Some.ensures at in
    let space : c.in_ok-zeros.zeros ≡ (canon_fields number (plain_of s)).res_spc = c.in_ok-zeros.ensures.zeros s there ∙ ap (λ (n : ℕ). (canon_fields n (plain_of s)).res_spc) own in
    subst IsWritable (sym (fields_are number c.in_ok-zeros.zeros s f is own space)) (is_writable number (plain_of s) (known_held load number s c.requires.known at (c.requires.whole s at).whole))

pub returns-in_err-front-clause-too_long : goal.returns-in_err-front-clause-too_long
returns-in_err-front-clause-too_long c =
    let p = err_from_is_err_and c.from_residual-in_err-front.result c.from_residual-in_err-front.ensures.1 in
    rw p.1 (λ e s at.
    let load = c.args.load.now in
    let number = c.args.number in
    let f = fields c.in-Some.header.now in
    let own = own_number load number f c.requires.known c.requires.there c.in-Some.ensures in
    let body = first_text number (plain_of s) ++ entries_text s in
    let out = c.args.out.now.items in
    let r3 = c.put_exports.new.out.items in
    let room = c.header_size-room.result in
    let there = at_own load number f.seg_num s (sym own) at in
    let mid = body_there out c.put_room.new.out.items c.put_content.new.out.items r3 room f.seg_num number s own c.in_ok-put_room.ensures (c.in_ok-zeros.ensures.ok s there) (c.in_ok-next.ensures.ok s there) in
    let sizes = after_size out body r3 room mid in
    let start = ap length c.as_slice-start.ensures.value in
    let whole = ap length c.as_slice.ensures.value in
    let is = its_fields load number f s c.in-Some.ensures at in
    let size = length c.as_slice.result.now - length c.as_slice-start.result.now - room in
    let same : size ≡ length body = omega (arith, sizes, start, whole) in
    long_by number 0x1000000 (length out) size s f body is c.recall_header_size.ensures refl same (c.in_err-front.ensures.too_long (made_long _ _ _ _ p.2 e)))

pub close_segment-requires : goal.close_segment-requires
close_segment-requires c =
    let load = c.args.load.now in
    let number = c.args.number in
    let f = fields c.in-Some.header.now in
    let own = own_number load number f c.requires.known c.requires.there c.in-Some.ensures in
    let s = c.requires.there.0 in
    let at = c.requires.there.1 in
    let body = first_text number (plain_of s) ++ entries_text s in
    let out = c.args.out.now.items in
    let r3 = c.put_exports.new.out.items in
    let room = c.header_size-room.result in
    let there = at_own load number f.seg_num s (sym own) at in
    let mid = body_there out c.put_room.new.out.items c.put_content.new.out.items r3 room f.seg_num number s own c.in_ok-put_room.ensures (c.in_ok-zeros.ensures.ok s there) (c.in_ok-next.ensures.ok s there) in
    let sizes = after_size out body r3 room mid in
    let start = ap length c.as_slice-start.ensures.value in
    let whole = ap length c.as_slice.ensures.value in
    let front = ap length (c.as_slice-2.ensures.value ∙ c.in_ok-front.ensures.ok) ∙ length-header (with_reserved_zeros f c.in_ok-zeros.zeros) _ c.recall_header_size.ensures in
    omega (arith, sizes, start, front, c.header_size-room.ensures.value)

pub returns-clause-ok : goal.returns-clause-ok
returns-clause-ok c = λ s at.
    let load = c.args.load.now in
    let number = c.args.number in
    let f = fields c.in-Some.header.now in
    let own = own_number load number f c.requires.known c.requires.there c.in-Some.ensures in
    let body = first_text number (plain_of s) ++ entries_text s in
    let out = c.args.out.now.items in
    let r3 = c.put_exports.new.out.items in
    let room = c.header_size-room.result in
    let there = at_own load number f.seg_num s (sym own) at in
    let mid = body_there out c.put_room.new.out.items c.put_content.new.out.items r3 room f.seg_num number s own c.in_ok-put_room.ensures (c.in_ok-zeros.ensures.ok s there) (c.in_ok-next.ensures.ok s there) in
    let sizes = after_size out body r3 room mid in
    let start = ap length c.as_slice-start.ensures.value in
    let whole = ap length c.as_slice.ensures.value in
    let is = its_fields load number f s c.in-Some.ensures at in
    let space : c.in_ok-zeros.zeros ≡ (canon_fields number (plain_of s)).res_spc = c.in_ok-zeros.ensures.zeros s there ∙ ap (λ (n : ℕ). (canon_fields n (plain_of s)).res_spc) own in
    let size = length c.as_slice.result.now - length c.as_slice-start.result.now - room in
    let left : size ≡ length r3 - length c.as_slice-start.result.now - room = ap (λ (n : ℕ). n - length c.as_slice-start.result.now - room) whole in
    segment_done number c.in_ok-zeros.zeros size (length c.as_slice-start.result.now) room s f out r3 c.as_slice-2.result.now c.close_segment.new.out.items is own space c.recall_header_size.ensures c.header_size-room.ensures.value start mid left
    (c.as_slice-2.ensures.value ∙ c.in_ok-front.ensures.ok) c.in_ok-close_segment.ensures.ok

pub returns-clause-next : goal.returns-clause-next
returns-clause-next c =
    let load = c.args.load.now in
    let number = c.args.number in
    let f = fields c.in-Some.header.now in
    let own = own_number load number f c.requires.known c.requires.there c.in-Some.ensures in
    subst (λ (n : ℕ). AtExports load (n + 1) c.in_ok-next.next) own c.in_ok-next.ensures.next

pub returns-in_err-close_segment-clause-too_long : goal.returns-in_err-close_segment-clause-too_long
returns-in_err-close_segment-clause-too_long c =
    let p = err_from_is_err_and c.from_residual-in_err-close_segment.result c.from_residual-in_err-close_segment.ensures.1 in
    rw p.1 (λ e s at.
    let load = c.args.load.now in
    let number = c.args.number in
    let f = fields c.in-Some.header.now in
    let own = own_number load number f c.requires.known c.requires.there c.in-Some.ensures in
    let body = first_text number (plain_of s) ++ entries_text s in
    let out = c.args.out.now.items in
    let r3 = c.put_exports.new.out.items in
    let room = c.header_size-room.result in
    let there = at_own load number f.seg_num s (sym own) at in
    let mid = body_there out c.put_room.new.out.items c.put_content.new.out.items r3 room f.seg_num number s own c.in_ok-put_room.ensures (c.in_ok-zeros.ensures.ok s there) (c.in_ok-next.ensures.ok s there) in
    let sizes = after_size out body r3 room mid in
    let start = ap length c.as_slice-start.ensures.value in
    let whole = ap length c.as_slice.ensures.value in
    let is = its_fields load number f s c.in-Some.ensures at in
    long_all number 0x1000000 room out r3 body s f is c.recall_header_size.ensures refl c.header_size-room.ensures.value sizes (c.in_err-close_segment.ensures.too_long (made_long _ _ _ _ p.2 e)))
