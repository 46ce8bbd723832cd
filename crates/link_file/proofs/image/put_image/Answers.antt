use Rattle.std.proofs.Common.{◌≡◌, ◌+◌, ◌-◌, ◌++◌, ◌∙◌, ℕ, List, refl, ap, length, map, replicate, arith}
use Rattle.std.proofs.lemmas.Result.{err_from_is_err_and}
use Rattle.omf_format.specs.Header.{header_bytes}
use Rattle.omf_format.specs.laws.WrittenHeaderLaws.{length-header}
use Rattle.omf_header.specs.View.{fields}
use Rattle.omf_header.specs.Written.{with_reserved_zeros}
use Rattle.load_writer.specs.WrittenParts.{seen}
use Rattle.load_meaning.specs.WrittenFile.{image_text}
use Rattle.load_meaning.specs.WrittenBody.{zeros_after, written_cells, body_text}
use Rattle.link_file.specs.Images.{with_space, image_in}
use Rattle.link_file.proofs.ImageLaws.{zeros_fit, space_writable, spaced_writable, spaced_bytes, text_is, text_size, made_long, after_size, closed, after_room}
use Rattle.link_file.proofs.image.put_image.Goals as goal

pub put_room-requires : goal.put_room-requires
put_room-requires c = omega (arith, ap length c.as_slice-start.ensures.value, c.if-start-gt-MAX_FILE.false, c.header_size-room.ensures.few)

pub header_before-requires : goal.header_before-requires
header_before-requires c =
    let content = c.args.content.now in
    spaced_writable (fields c.args.header.now) c.in_ok-zeros.zeros (space_writable (fields c.args.header.now) c.in_ok-zeros.zeros c.requires.writable (omega (arith, c.in_ok-zeros.ensures.zeros, zeros_fit content.bytes (map seen content.patches) c.requires.patches', c.requires.length')))

pub returns-in_err-front-clause-too_long : goal.returns-in_err-front-clause-too_long
returns-in_err-front-clause-too_long c =
    let p = err_from_is_err_and c.from_residual-in_err-front.result c.from_residual-in_err-front.ensures.1 in
    rw p.1 (λ e records same.
    let content = c.args.content.now in
    let patches = map seen content.patches in
    let f = fields c.args.header.now in
    let text = body_text f.seg_num content.bytes patches in
    let body = text ++ c.args.exports.now in
    let size : length (image_text (image_in f content records)) ≡ 0x37 + length f.name + (length body + 1) = text_size f content.bytes patches records body c.recall_header_size.ensures (ap (λ (l : List ℕ). text ++ l) same) in
    let following = after_size c.args.out.now.items body c.put_after.new.out.items c.as_slice-start.result.now c.as_slice.result.now c.header_size-room.result c.as_slice-start.ensures.value c.as_slice.ensures.value (after_room c.args.out.now.items c.put_room.new.out.items c.put_after.new.out.items (replicate c.header_size-room.result 0) body c.in_ok-put_room.ensures c.in_ok-zeros.ensures.bytes) in
    omega (arith, size, following, c.in_err-front.ensures.too_long (made_long _ _ _ _ p.2 e)))

pub close_segment-requires : goal.close_segment-requires
close_segment-requires c =
    let content = c.args.content.now in
    let f = fields c.args.header.now in
    let body = body_text f.seg_num content.bytes (map seen content.patches) ++ c.args.exports.now in
    let following = after_size c.args.out.now.items body c.put_after.new.out.items c.as_slice-start.result.now c.put_after.new.out.items c.header_size-room.result c.as_slice-start.ensures.value refl (after_room c.args.out.now.items c.put_room.new.out.items c.put_after.new.out.items (replicate c.header_size-room.result 0) body c.in_ok-put_room.ensures c.in_ok-zeros.ensures.bytes) in
    let front = ap length (c.as_slice-2.ensures.value ∙ c.in_ok-front.ensures.ok) ∙ length-header (with_reserved_zeros f c.in_ok-zeros.zeros) _ c.recall_header_size.ensures in
    omega (arith, following, front, c.header_size-room.ensures.value)

pub returns-clause-ok : goal.returns-clause-ok
returns-clause-ok c =
    let content = c.args.content.now in
    let patches = map seen content.patches in
    let f = fields c.args.header.now in
    let text = body_text f.seg_num content.bytes patches in
    let body = text ++ c.args.exports.now in
    let zeros = zeros_after (written_cells content.bytes patches) in
    let following = after_size c.args.out.now.items body c.put_after.new.out.items c.as_slice-start.result.now c.as_slice.result.now c.header_size-room.result c.as_slice-start.ensures.value c.as_slice.ensures.value (after_room c.args.out.now.items c.put_room.new.out.items c.put_after.new.out.items (replicate c.header_size-room.result 0) body c.in_ok-put_room.ensures c.in_ok-zeros.ensures.bytes) in
    let reported = c.as_slice-2.ensures.value ∙ c.in_ok-front.ensures.ok in
    let size = ap length reported ∙ length-header (with_reserved_zeros f c.in_ok-zeros.zeros) _ c.recall_header_size.ensures in
    let room : length c.as_slice-2.result.now ≡ c.header_size-room.result = omega (arith, size, c.header_size-room.ensures.value) in
    let same : length c.as_slice.result.now - length c.as_slice-start.result.now - c.header_size-room.result ≡ length body = omega (arith, following) in
    let front : c.as_slice-2.result.now ≡ header_bytes (with_space f zeros) (length body + 1) =
    reported ∙ spaced_bytes f c.in_ok-zeros.zeros _ ∙ ap (λ (z : ℕ). header_bytes (with_space f z) (length c.as_slice.result.now - length c.as_slice-start.result.now - c.header_size-room.result + 1)) c.in_ok-zeros.ensures.zeros
    ∙ ap (λ (k : ℕ). header_bytes (with_space f zeros) (k + 1)) same in
    λ records spells.
    closed c.args.out.now.items c.as_slice-2.result.now body c.put_after.new.out.items c.as_slice-start.result.now c.close_segment.new.out.items c.header_size-room.result c.as_slice-start.ensures.value (after_room c.args.out.now.items c.put_room.new.out.items c.put_after.new.out.items (replicate c.header_size-room.result 0) body c.in_ok-put_room.ensures c.in_ok-zeros.ensures.bytes) room c.in_ok-close_segment.ensures.ok
    ∙ ap (λ (l : List ℕ). c.args.out.now.items ++ l) (text_is f content.bytes patches records c.as_slice-2.result.now body (ap (λ (l : List ℕ). text ++ l) spells) front)

pub returns-in_err-close_segment-clause-too_long : goal.returns-in_err-close_segment-clause-too_long
returns-in_err-close_segment-clause-too_long c =
    let p = err_from_is_err_and c.from_residual-in_err-close_segment.result c.from_residual-in_err-close_segment.ensures.1 in
    rw p.1 (λ e records same.
    let content = c.args.content.now in
    let patches = map seen content.patches in
    let f = fields c.args.header.now in
    let text = body_text f.seg_num content.bytes patches in
    let body = text ++ c.args.exports.now in
    let size : length (image_text (image_in f content records)) ≡ 0x37 + length f.name + (length body + 1) = text_size f content.bytes patches records body c.recall_header_size.ensures (ap (λ (l : List ℕ). text ++ l) same) in
    let following = after_size c.args.out.now.items body c.put_after.new.out.items c.as_slice-start.result.now c.put_after.new.out.items c.header_size-room.result c.as_slice-start.ensures.value refl (after_room c.args.out.now.items c.put_room.new.out.items c.put_after.new.out.items (replicate c.header_size-room.result 0) body c.in_ok-put_room.ensures c.in_ok-zeros.ensures.bytes) in
    omega (arith, size, following, ap length c.as_slice-start.ensures.value, c.header_size-room.ensures.value, c.in_err-close_segment.ensures.too_long (made_long _ _ _ _ p.2 e)))
