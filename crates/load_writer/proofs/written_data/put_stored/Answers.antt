use Rattle.std.proofs.Common.{◌≡◌, ◌-◌, ℕ, length, map, ap, subst, arith}
use Rattle.load_writer.specs.WrittenParts.{seen}
use Rattle.load_meaning.specs.WrittenBody.{AreWritten}
use Rattle.load_writer.proofs.DataLaws.{room, stored_over}
use Rattle.load_writer.proofs.written_data.put_stored.Goals as goal

pub overflow_sub-start : goal.overflow_sub-start
overflow_sub-start c =
    let size : c.len.result ≡ length c.put_record.new.out.items = omega (arith, c.len.ensures, c.put_record.new.out.ok) in
    (room c.args.bytes.now c.args.out.now.items c.put_record.new.out.items c.len.result size c.in_ok-put_record.ensures.ok).0

pub put_patches_from-requires-clause-patches : goal.put_patches_from-requires-clause-patches
put_patches_from-requires-clause-patches c =
    let size : c.len.result ≡ length c.put_record.new.out.items = omega (arith, c.len.ensures, c.put_record.new.out.ok) in
    let fits = (room c.args.bytes.now c.args.out.now.items c.put_record.new.out.items c.len.result size c.in_ok-put_record.ensures.ok).0 in
    let same : length c.args.bytes.now ≡ length c.deref_mut.result.now - (c.len.result - length c.args.bytes.now) = omega (arith, ap length c.deref_mut.ensures.value, size, fits) in
    subst (λ (k : ℕ). AreWritten k 0 (map seen c.args.patches.now)) same c.requires.patches

pub returns-clause-ok : goal.returns-clause-ok
returns-clause-ok c =
    let mid = c.put_record.new.out in
    let size : mid.len ≡ length mid.items = omega (arith, mid.ok) in
    let start : c.len.result - length c.args.bytes.now ≡ mid.len - length c.args.bytes.now = omega (arith, c.len.ensures, mid.ok) in
    stored_over c.args.own (c.len.result - length c.args.bytes.now) mid.len c.args.bytes.now c.args.out.now.items mid.items c.put_patches_from.new.out (map seen c.args.patches.now) c.requires.patches
    c.in_ok-put_record.ensures.ok size start (rw c.deref_mut.ensures.value at c.put_patches_from.ensures)
