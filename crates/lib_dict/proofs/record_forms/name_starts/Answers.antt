use Rattle.std.proofs.Common.{arith}
use Rattle.lib_dict.proofs.Forms.{names_init, names_cut, names_next, names_end}
use Rattle.lib_dict.proofs.record_forms.name_starts.Goals as goal

pub names-init : goal.names-init
names-init c = names_init c.args.bytes.now c.new-starts.result.keys c.new-starts.ensures.empty

pub returns-then-bytes-at : goal.returns-then-bytes-at
returns-then-bytes-at c = names_cut c.args.bytes.now c.names.starts.keys c.names.at c.from-size.result c.names.invariant c.names-test.true c.from-size.ensures (omega arith)

pub names-preserved : goal.names-preserved
names-preserved c =
    names_next c.args.bytes.now c.names.starts.keys c.insert.new.self.keys c.names.at c.from-size.result c.names.invariant c.names-test.true c.from-size.ensures (omega arith) c.in_ok-insert.ensures.keys

pub returns : goal.returns
returns c = names_end c.args.bytes.now c.names.starts.keys c.names.at c.names.invariant c.names-test.false
