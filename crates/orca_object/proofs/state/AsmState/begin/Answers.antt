use Rattle.std.proofs.Common.{ℕ, ◌+◌, List, None, length, replicate, refl, sym, ap, ◌∙◌}
use Rattle.orca_meaning.specs.Names.{with_name}
use Rattle.asm_meaning.specs.Object.{records_text}
use Rattle.asm_meaning.specs.State.{Names, no_names}
use Rattle.orca_operands.specs.TextView.{text_within_limit, kept_text}
use Rattle.orca_object.proofs.States.{no_records, no_cells, header_begun}
use Rattle.orca_object.proofs.state.AsmState.begin.Goals as goal

pub returns : goal.returns
returns c = λ state l shows f n. record {
  widths = shows.widths;
  msb = shows.msb;
  outside = shows.outside;
  org = refl;
  align = refl;
  front = ap kept_text c.replace-front.ensures.after ∙ c.new.ensures ∙ sym no_records;
  waiting = no_cells;
  segment = record {
    file = f;
    line = n;
    class = refl;
    header = header_begun state c.args.class c.args.name c.args.load_name c.kind_of.result c.args.self.now.org c.args.self.now.align c.args.self.now.number c.kind_of.ensures.kind shows.org shows.align shows.number;
    names = c.in_ok-set.ensures ∙ ap (λ (m : Names). with_name c.bytes.result.now None m) c.new-names.ensures ∙ ap (λ (b : List ℕ). with_name b None no_names) c.bytes.ensures.value;
    body = c.new-2.ensures (0x37 + length c.args.name) state.front
        (c.in_ok-join.ensures (replicate (0x37 + length c.args.name) 0) (records_text state.front)
        (c.in_ok-text.ensures ∙ ap (λ (n : ℕ). text_within_limit (replicate n 0)) c.header_size.ensures.value) (ap kept_text c.replace-front.ensures.value ∙ shows.front)) shows.waiting;
  };
  number = shows.number;
  object = shows.object;
}
