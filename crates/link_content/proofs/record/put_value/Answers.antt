use Rattle.std.proofs.Common.{inl, inr, sym}
use Rattle.std.proofs.lemmas.Result.{on_ok_weaker, IfErr-weaker}
use Rattle.link_meaning.specs.Layout.{load_headers}
use Rattle.link_meaning.specs.LinkedCells.{cells_before}
use Rattle.link_content.proofs.RecordLaws.{value_put, value_refused}
use Rattle.link_content.proofs.record.put_value.Goals as goal

pub returns-clause-ok : goal.returns-clause-ok
returns-clause-ok c =
    on_ok_weaker c.put_formula.result
    (λ p list reported state i front expr stands value.
    value_put list reported state i c.args.context.now c.args.place c.args.table.now c.put_formula.new.table front c.args.content.now c.put_formula.new.content stands c.args.formula expr value c.frame_of-frame.result
    c.frame_of-frame.ensures.own (c.frame_of-frame.ensures.bank (load_headers list) stands.loads') c.frame_of-frame.ensures.place
    (p (load_headers list) (cells_before state i) stands.loads' (sym (c.frame_of-frame.ensures.jsl front (cells_before state i) stands.holds stands.front'))))
    c.put_formula.ensures.ok

pub returns-clause-err : goal.returns-clause-err
returns-clause-err c =
    IfErr-weaker c.put_formula.result _ _
    (λ cause p list reported state i front expr stands value.
    elim (p (load_headers list) (cells_before state i) stands.loads' (sym (c.frame_of-frame.ensures.jsl front (cells_before state i) stands.holds stands.front'))) [
      | inl memory ↦ inl memory
      | inr is ↦ inr (value_refused list reported state i c.args.context.now c.args.place c.args.table.now c.put_formula.new.table front c.args.content.now c.put_formula.new.content stands c.args.formula expr value c.frame_of-frame.result
          c.frame_of-frame.ensures.own (c.frame_of-frame.ensures.bank (load_headers list) stands.loads') c.frame_of-frame.ensures.place cause is)
    ])
    c.put_formula.ensures.err
