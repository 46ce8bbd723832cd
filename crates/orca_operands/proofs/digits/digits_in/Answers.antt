use Rattle.std.proofs.Common.{◌+◌, get_or, drop}
use Rattle.std.proofs.lemmas.List.{drop_more}
use Rattle.orca_operands.proofs.Packed.{found_other}
use Rattle.orca_operands.proofs.digits.digits_in.Goals as goal

pub returns-in-None : goal.returns-in-None
returns-in-None c =
    let text = c.args.text.now in
    let i = c.bytes.byte-index in
    record {
      found =
          found_other c.args.base text c.bytes.out.items (drop i text) (drop (i + 1) text) (get_or text i 0) c.bytes.invariant (drop_more text i 0 c.bytes-test.true) c.if-byte-eq32.false c.in-None.ensures;
    }
