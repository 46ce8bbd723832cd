use Rattle.std.proofs.Common.{◌≡◌, ◌++◌, [], List, ℕ, length, map, sym, ap, subst, ◌∙◌, arith}
use Rattle.load_meaning.specs.Cells.{Patch}
use Rattle.load_meaning.specs.WrittenBody.{AreWritten, zeros_after, written_cells, body_text}
use Rattle.load_writer.specs.Joined.{joined}
use Rattle.load_writer.specs.WrittenParts.{seen}
use Rattle.link_content.specs.declared.content.ByteStorage.{ByteStorage}
use Rattle.link_content.specs.Contents.{IsPlaced}
use Rattle.link_content.proofs.ZerosAfter.{after_by, after_own}
use Rattle.link_file.proofs.image.put_content.Goals as goal

pub overflow_add-result : goal.overflow_add-result
overflow_add-result c =
    let content = c.args.content.now in
    let n = c.place-following.result.1 in
    let placed = subst (λ (p : ByteStorage). IsPlaced p n content) c.in-Borrowed.is c.place-following.ensures in
    let bytes = joined c.in-Borrowed.pieces.now in
    let none : map seen content.patches ≡ [] = ap (map seen) placed.1 in
    let b = after_by c.args.own n bytes content [] placed.0 tt in
    omega (arith, c.in_ok-zeros-in-Borrowed.ensures.zeros, b.within, c.requires.small)

pub put_body-requires-clause-patches : goal.put_body-requires-clause-patches
put_body-requires-clause-patches c =
    let content = c.args.content.now in
    let n = c.place-following.result.1 in
    let placed = subst (λ (p : ByteStorage). IsPlaced p n content) c.in-Own.is c.place-following.ensures in
    let b = after_own c.args.own n c.in-Own.bytes.now content placed.0 placed.1 c.requires.patches in
    let same : map seen c.patches.result.now ≡ map seen content.patches = ap (map seen) c.patches.ensures in
    subst (AreWritten (length c.in-Own.bytes.now) 0) (sym same) b.are

pub overflow_add-result-in-Own : goal.overflow_add-result-in-Own
overflow_add-result-in-Own c =
    let content = c.args.content.now in
    let n = c.place-following.result.1 in
    let placed = subst (λ (p : ByteStorage). IsPlaced p n content) c.in-Own.is c.place-following.ensures in
    let b = after_own c.args.own n c.in-Own.bytes.now content placed.0 placed.1 c.requires.patches in
    let same : map seen c.patches.result.now ≡ map seen content.patches = ap (map seen) c.patches.ensures in
    let reported = ap (λ (ps : List Patch). zeros_after (written_cells c.in-Own.bytes.now ps)) same in
    omega (arith, c.in_ok-zeros-in-Own.ensures.zeros, reported, b.within, c.requires.small)

pub returns-in_ok-zeros-in-Borrowed-clause-bytes : goal.returns-in_ok-zeros-in-Borrowed-clause-bytes
returns-in_ok-zeros-in-Borrowed-clause-bytes c =
    let content = c.args.content.now in
    let n = c.place-following.result.1 in
    let placed = subst (λ (p : ByteStorage). IsPlaced p n content) c.in-Borrowed.is c.place-following.ensures in
    let bytes = joined c.in-Borrowed.pieces.now in
    let none : map seen content.patches ≡ [] = ap (map seen) placed.1 in
    let b = after_by c.args.own n bytes content [] placed.0 tt in
    c.in_ok-zeros-in-Borrowed.ensures.bytes c.args.own ∙ ap (λ (t : List ℕ). c.args.out.now.items ++ t) (sym (ap (body_text c.args.own content.bytes) none ∙ b.body))

pub returns-in_ok-zeros-in-Borrowed-clause-zeros : goal.returns-in_ok-zeros-in-Borrowed-clause-zeros
returns-in_ok-zeros-in-Borrowed-clause-zeros c =
    let content = c.args.content.now in
    let n = c.place-following.result.1 in
    let placed = subst (λ (p : ByteStorage). IsPlaced p n content) c.in-Borrowed.is c.place-following.ensures in
    let bytes = joined c.in-Borrowed.pieces.now in
    let none : map seen content.patches ≡ [] = ap (map seen) placed.1 in
    let b = after_by c.args.own n bytes content [] placed.0 tt in
    let reported = ap (λ (ps : List Patch). zeros_after (written_cells content.bytes ps)) none in
    omega (arith, c.in_ok-zeros-in-Borrowed.ensures.zeros, b.zeros, reported)

pub returns-in_ok-zeros-in-Own-clause-bytes : goal.returns-in_ok-zeros-in-Own-clause-bytes
returns-in_ok-zeros-in-Own-clause-bytes c =
    let content = c.args.content.now in
    let n = c.place-following.result.1 in
    let placed = subst (λ (p : ByteStorage). IsPlaced p n content) c.in-Own.is c.place-following.ensures in
    let b = after_own c.args.own n c.in-Own.bytes.now content placed.0 placed.1 c.requires.patches in
    let same : map seen c.patches.result.now ≡ map seen content.patches = ap (map seen) c.patches.ensures in
    c.in_ok-zeros-in-Own.ensures.bytes ∙ ap (λ (t : List ℕ). c.args.out.now.items ++ t) (ap (body_text c.args.own c.in-Own.bytes.now) same ∙ sym b.body)

pub returns-in_ok-zeros-in-Own-clause-zeros : goal.returns-in_ok-zeros-in-Own-clause-zeros
returns-in_ok-zeros-in-Own-clause-zeros c =
    let content = c.args.content.now in
    let n = c.place-following.result.1 in
    let placed = subst (λ (p : ByteStorage). IsPlaced p n content) c.in-Own.is c.place-following.ensures in
    let b = after_own c.args.own n c.in-Own.bytes.now content placed.0 placed.1 c.requires.patches in
    let same : map seen c.patches.result.now ≡ map seen content.patches = ap (map seen) c.patches.ensures in
    let reported = ap (λ (ps : List Patch). zeros_after (written_cells c.in-Own.bytes.now ps)) same in
    omega (arith, c.in_ok-zeros-in-Own.ensures.zeros, reported, b.zeros)
