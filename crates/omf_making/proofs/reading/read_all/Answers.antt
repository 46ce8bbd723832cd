use Rattle.std.proofs.Common.{◌∙◌, sym, ap, add-one, ℕ, inl, inr}
use Rattle.omf_io.specs.Files.{after_reads}
use Rattle.omf_making.specs.Made.{all_bytes}
use Rattle.omf_making.proofs.Readings.{stops, runs_short, reads_one, are_short}
use Rattle.omf_making.proofs.reading.read_all.Goals as goal

pub returns-in-Err-Absent : goal.returns-in-Err-Absent
returns-in-Err-Absent g c =
    let seen = g.F.Files.seen in
    let why = rw c.in-Err-Absent.field-0-is at c.in-Err-Absent.ensures.answer in
    stops c.args.inputs.now c.loop-input.input-index c.input-item.result c.as_str-path.result.now (all_bytes c.loop-input.all.items)
    (seen c.args.files.now) (seen c.loop-input.files) (seen c.read.new.self) c.loop-input-test.true c.input-item.is c.as_str-path.ensures.value
    c.loop-input.invariant.read c.loop-input.invariant.store (inl why.0) why.1

pub returns-in-Err-TooLong : goal.returns-in-Err-TooLong
returns-in-Err-TooLong g c =
    let seen = g.F.Files.seen in
    let why = rw c.in-Err-TooLong.field-0-is at c.in-Err-TooLong.ensures.answer in
    stops c.args.inputs.now c.loop-input.input-index c.input-item.result c.as_str-path.result.now (all_bytes c.loop-input.all.items)
    (seen c.args.files.now) (seen c.loop-input.files) (seen c.read.new.self) c.loop-input-test.true c.input-item.is c.as_str-path.ensures.value
    c.loop-input.invariant.read c.loop-input.invariant.store (inr (inl why.0)) why.1

pub returns-in-Err-Failed : goal.returns-in-Err-Failed
returns-in-Err-Failed g c =
    let seen = g.F.Files.seen in
    let why = rw c.in-Err-Failed.field-0-is at c.in-Err-Failed.ensures.answer in
    stops c.args.inputs.now c.loop-input.input-index c.input-item.result c.as_str-path.result.now (all_bytes c.loop-input.all.items)
    (seen c.args.files.now) (seen c.loop-input.files) (seen c.read.new.self) c.loop-input-test.true c.input-item.is c.as_str-path.ensures.value
    c.loop-input.invariant.read c.loop-input.invariant.store (inr (inr why.0)) why.1

pub returns-in-Err-Memory : goal.returns-in-Err-Memory
returns-in-Err-Memory g c =
    let seen = g.F.Files.seen in
    let why = rw c.in-Err-Memory.field-0-is at c.in-Err-Memory.ensures.answer in
    runs_short c.args.inputs.now c.loop-input.input-index (seen c.args.files.now) (seen c.loop-input.files) (seen c.read.new.self)
    c.loop-input-test.true c.loop-input.invariant.store (why.1 ∙ ap (λ (n : ℕ). record (after_reads 1 (seen c.loop-input.files)) { faults = n }) why.0)

pub returns-in-Err : goal.returns-in-Err
returns-in-Err g c =
    let seen = g.F.Files.seen in
    runs_short c.args.inputs.now c.loop-input.input-index (seen c.args.files.now) (seen c.loop-input.files) (seen c.read.new.self)
    c.loop-input-test.true c.loop-input.invariant.store c.in-Ok.ensures.answer.1

pub loop-input-preserved : goal.loop-input-preserved
loop-input-preserved g c =
    let seen = g.F.Files.seen in
    let all = reads_one c.args.inputs.now c.loop-input.input-index c.input-item.result c.as_str-path.result.now c.loop-input.all.items c.in-Ok.file
    (seen c.args.files.now) (seen c.loop-input.files) c.loop-input-test.true c.input-item.is c.as_str-path.ensures.value
    c.loop-input.invariant.read c.loop-input.invariant.store c.in-Ok.ensures.answer.0 in
    record {
      read = rw c.in-Ok-push.ensures.items all;
      short = rw c.in-Ok-push.ensures.items (are_short _ _ _ all);
      store = c.in-Ok.ensures.answer.1 ∙ ap (after_reads 1) c.loop-input.invariant.store ∙ ap (λ (n : ℕ). after_reads n (seen c.args.files.now)) (sym (add-one c.loop-input.input-index));
    }
