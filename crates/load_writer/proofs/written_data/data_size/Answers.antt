use Rattle.std.proofs.Common.{length, map, arith}
use Rattle.load_writer.specs.WrittenParts.{seen}
use Rattle.load_writer.proofs.KeptLaws.{end_within}
use Rattle.load_writer.proofs.written_data.data_size.Goals as goal

pub stored_length-requires : goal.stored_length-requires
stored_length-requires c = omega (arith, c.end_of.ensures, end_within (length c.args.content.now) 0 (map seen c.args.patches.now) (omega arith) c.requires)
