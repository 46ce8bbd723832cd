use Rattle.std.proofs.Common.{◌≡◌, ◌++◌, Ok, inl, inr, refl, sym, ap, ◌∙◌}
use Rattle.omf_records.specs.View.{view}
use Rattle.link_meaning.specs.LinkedCells.{made_by, cells_before}
use Rattle.link_content.specs.Plain.{plain_cells}
use Rattle.link_content.proofs.record.put_record.Goals as goal

pub returns-in-Ok-put_plain-clause-ok : goal.returns-in-Ok-put_plain-clause-ok
returns-in-Ok-put_plain-clause-ok c = λ list reported state i front stands worth.
    let rec = c.args.valued.rec.now in
    let here : made_by list reported state i (view rec) ≡ Ok (plain_cells i.here.location (view rec), state.targets) = elim c.in-End.is [
      | inl e ↦ rw e refl
      | inr (inl e) ↦ rw e.1 refl
      | inr (inr (inl e)) ↦ rw e.1 refl
      | inr (inr (inr (inl e))) ↦ rw e.1 refl
      | inr (inr (inr (inr (inl e)))) ↦ rw e.1 refl
      | inr (inr (inr (inr (inr (inl e))))) ↦ rw e.1 refl
      | inr (inr (inr (inr (inr (inr (inl e)))))) ↦ rw e.4 refl
      | inr (inr (inr (inr (inr (inr (inr (inl e))))))) ↦ rw e.6 refl
      | inr (inr (inr (inr (inr (inr (inr (inr (inl e)))))))) ↦ rw e.4 refl
      | inr (inr (inr (inr (inr (inr (inr (inr (inr (inl e))))))))) ↦ rw e.5 refl
      | inr (inr (inr (inr (inr (inr (inr (inr (inr (inr (inl e)))))))))) ↦ rw e.2 refl
      | inr (inr (inr (inr (inr (inr (inr (inr (inr (inr (inr (inl e))))))))))) ↦ rw e.1 refl
      | inr (inr (inr (inr (inr (inr (inr (inr (inr (inr (inr (inr (inl e)))))))))))) ↦ rw e.1 refl
      | inr (inr (inr (inr (inr (inr (inr (inr (inr (inr (inr (inr (inr (inl e))))))))))))) ↦ rw e.5 refl
      | inr (inr (inr (inr (inr (inr (inr (inr (inr (inr (inr (inr (inr (inr e))))))))))))) ↦ rw e.3 refl
    ] in
    record {
      gives = (plain_cells c.args.place.location (view rec), state.targets);
      is = here ∙ ap (λ at. Ok (plain_cells at (view rec), state.targets)) stands.location';
      targets' = sym stands.targets';
      holds = c.in-Ok-put_plain.ensures (front ++ cells_before state i) stands.holds;
    }
