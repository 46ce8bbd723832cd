use Rattle.std.proofs.Common.{ℕ, ◌≤◌, List, Vec, Global, length, ap, arith}
use Rattle.link_resolve.specs.Resolved.{all_bytes}
use Rattle.link_resolve.proofs.ResolveLaws.{file_there, room_for, refused_file, gathered_next, gathered_none, all_taken}
use Rattle.link_resolve.proofs.resolving.read_inputs.Goals as goal

pub files-init : goal.files-init
files-init c = gathered_none c.new-gathered.result c.new-gathered.ensures

pub add-requires-clause-short : goal.add-requires-clause-short
add-requires-clause-short c =
    let items = c.args.inputs.now.items in
    let at = file_there c.deref-bytes-items.result.now items c.files.bytes-index c.bytes-item.result c.as_slice.result.now c.deref-bytes-items.ensures.value c.files-test.true c.bytes-item.is c.as_slice.ensures.value in
    (room_for (all_bytes items) c.files.bytes-index c.as_slice.result.now c.files.gathered c.files.invariant at c.requires).0

pub add-requires-clause-few : goal.add-requires-clause-few
add-requires-clause-few c =
    let items = c.args.inputs.now.items in
    let at = file_there c.deref-bytes-items.result.now items c.files.bytes-index c.bytes-item.result c.as_slice.result.now c.deref-bytes-items.ensures.value c.files-test.true c.bytes-item.is c.as_slice.ensures.value in
    (room_for (all_bytes items) c.files.bytes-index c.as_slice.result.now c.files.gathered c.files.invariant at c.requires).1

pub returns-in-Err-clause-refused : goal.returns-in-Err-clause-refused
returns-in-Err-clause-refused c =
    let items = c.args.inputs.now.items in
    let at = file_there c.deref-bytes-items.result.now items c.files.bytes-index c.bytes-item.result c.as_slice.result.now c.deref-bytes-items.ensures.value c.files-test.true c.bytes-item.is c.as_slice.ensures.value in
    refused_file (all_bytes items) c.files.bytes-index c.as_slice.result.now c.files.gathered c.in-Err.fault c.files.invariant at c.in-Err.ensures.refused

pub files-preserved : goal.files-preserved
files-preserved c =
    let items = c.args.inputs.now.items in
    let at = file_there c.deref-bytes-items.result.now items c.files.bytes-index c.bytes-item.result c.as_slice.result.now c.deref-bytes-items.ensures.value c.files-test.true c.bytes-item.is c.as_slice.ensures.value in
    let h = c.files.invariant in
    gathered_next (all_bytes items) c.files.bytes-index c.as_slice.result.now c.files.gathered c.add.new.self h at (c.in-Ok.ensures.added h.0 h.3)

pub returns-clause-read : goal.returns-clause-read
returns-clause-read c =
    let past : length c.args.inputs.now.items ≤ c.files.bytes-index = omega (arith, c.files-test.false, ap (λ (l : List (Vec ℕ Global)). length l) c.deref-bytes-items.ensures.value) in
    all_taken c.args.inputs.now.items c.files.bytes-index c.files.gathered past c.files.invariant
