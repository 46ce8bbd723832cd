use Rattle.orca_object.proofs.LoadNames.{one_byte}
use Rattle.orca_object.proofs.segments.pad_load_name.Goals as goal

pub bytes-preserved : goal.bytes-preserved
bytes-preserved c =
    one_byte c.bytes.name c.args.text.now c.bytes.i c.to_ascii_uppercase.result c.bytes.invariant.0 c.requires c.bytes-test.true c.to_ascii_uppercase.ensures.value c.bytes.invariant.1 c.bytes.invariant.2
