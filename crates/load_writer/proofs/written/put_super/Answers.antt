use Rattle.std.proofs.Common.{◌≤◌, length, sym, ◌∙◌, subst, ℕ, List, arith}
use Rattle.std.proofs.lemmas.Bool.{eqb-false}
use Rattle.omf_format.specs.Field.{written_layout}
use Rattle.omf_format.specs.Record.{Super, IsRecord}
use Rattle.load_writer.proofs.written.put_super.Goals as goal

pub put_record-requires : goal.put_record-requires
put_record-requires c =
    let some : 1 ≤ length c.args.locations.now = omega (arith, eqb-false _ _ (sym c.is_empty.ensures ∙ c.if-is_empty.false)) in
    subst (λ (bytes : List ℕ). IsRecord written_layout (Super c.args.form bytes)) (sym (c.deref.ensures.value ∙ c.in_ok-bytes.ensures)) (c.requires.fits some)
