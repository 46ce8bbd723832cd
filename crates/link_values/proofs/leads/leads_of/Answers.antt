use Rattle.std.proofs.Common.{◌++◌, ◌∷◌, [], ℕ, take, length, List, sym, ap, subst, ◌∙◌}
use Rattle.std.specs.Prelude.{slice_get}
use Rattle.link_program.specs.Outside.{all_found}
use Rattle.link_program.specs.Programs.{symbol_of}
use Rattle.link_values.specs.Equates.{AreRows}
use Rattle.link_values.proofs.EquateLaws.{reported_there, rows_more}
use Rattle.link_values.proofs.leads.leads_of.Goals as goal

pub definitions-preserved : goal.definitions-preserved
definitions-preserved c =
    let list = c.args.program.now in
    let rows = c.definitions.edges in
    let t = reported_there list c.count.result (symbol_of c.in-Some.definition) c.in-Some.ensures in
    let at = ap (slice_get (all_found list)) (sym c.count.ensures) ∙ t.1 in
    subst (λ (l : List (List ℕ)). AreRows list (take (length l) (all_found list)) l) (sym (c.in_ok-add-in-Some.ensures ∙ ap (λ (r : List ℕ). rows ++ r ∷ []) c.as_slice.ensures.value))
    (rows_more list (all_found list) rows t.0 c.find_row.new.row.items c.definitions.invariant at (c.in_ok-find_row-in-Some.ensures c.count.result t.0 t.1 t.2))
