use Rattle.std.proofs.Common.{ℕ, ◌+◌, ◌∷◌, [], None, sym, ap, subst, ◌∙◌}
use Rattle.std.specs.Prelude.{◌%◌}
use Rattle.omf_format.specs.declared.codes.TheConstants.{DIRECTIVE_LABEL}
use Rattle.omf_format.specs.Record.{End}
use Rattle.omf_header.specs.View.{fields}
use Rattle.asm_meaning.specs.State.{with_local_record}
use Rattle.orca_object.specs.StateView.{ShowsOption}
use Rattle.orca_object.proofs.States.{ended_shows}
use Rattle.orca_object.proofs.state.AsmState.end.Goals as goal

pub returns : goal.returns
returns c = λ state shows.
    let made = c.header_of-header.result in
    let done = ended_shows state (with_local_record c.args.label.now DIRECTIVE_LABEL (End ∷ [])) c.args.self.now.segment c.in-Some.open c.mark_record.new.self c.args.self.now.number ((c.from.result + 1) % 0x10000) c.args.self.now.object c.put_segment.new.object
    made.1 (fields made.0) shows.segment (sym c.replace.ensures.value ∙ c.in-Some.is) c.in_ok-mark_record.ensures c.header_of-header.ensures.header c.header_of-header.ensures.text c.in_ok-put_segment.ensures shows.object shows.number
    (ap (λ (k : ℕ). (k + 1) % 0x10000) c.from.ensures) in
    record {
      widths = shows.widths;
      msb = shows.msb;
      outside = shows.outside;
      org = shows.org;
      align = shows.align;
      front = shows.front;
      waiting = shows.waiting;
      segment = subst (ShowsOption None) (sym c.replace.ensures.after) tt;
      number = done.0;
      object = done.1;
    }
