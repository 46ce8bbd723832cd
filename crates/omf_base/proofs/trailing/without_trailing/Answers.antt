use Rattle.std.proofs.Common.{◌∙◌, sym, arith}
use Rattle.omf_base.proofs.TrimmedLists.{trim-step, trim-end, trim-none}
use Rattle.omf_base.proofs.trailing.without_trailing.Goals as goal
use Rattle.omf_base.proofs.trailing.without_trailing.Goals.{then-trim-test+else-bytes-end, else-trim-test}

pub trim-preserved : goal.trim-preserved
trim-preserved c = record {
  within = omega arith;
  same = trim-step c.args.byte c.trim.end c.args.bytes.now (omega arith) c.trim.invariant.within c.if-bytes-end.true ∙ c.trim.invariant.same;
}

pub returns-clause-value : goal.returns-clause-value
returns-clause-value c =
    elim c.trim-test.branch [
      | then-trim-test+else-bytes-end w ↦ sym (trim-end c.args.byte c.trim.end c.args.bytes.now (omega arith) c.trim.invariant.within w.if-bytes-end.false) ∙ c.trim.invariant.same
      | else-trim-test w ↦ trim-none c.args.byte c.trim.end c.args.bytes.now (omega arith) ∙ c.trim.invariant.same
    ]
