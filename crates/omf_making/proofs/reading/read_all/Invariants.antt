use Rattle.std.proofs.Common.{◌≡◌, take}
use Rattle.omf_making.specs.Words.{words_of}
use Rattle.omf_io.specs.Files.{after_reads}
use Rattle.omf_making.specs.Made.{all_bytes, AreShort}
use Rattle.omf_making.specs.Making.{AreRead}
use Rattle.omf_making.proofs.reading.read_all.Given as goal

-- the inputs so far were read
abbrev pub invariant-loop-input : goal.invariant-loop-input
invariant-loop-input g l =
    let seen = g.F.Files.seen in
    record {
      read : AreRead (seen l.fn.files).held (words_of (take l.input-index l.inputs)) (all_bytes l.all.items);
      short : AreShort (all_bytes l.all.items);
      store : seen l.files ≡ after_reads l.input-index (seen l.fn.files);
    }
