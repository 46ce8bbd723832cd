use Rattle.std.proofs.Common.{ℕ, List, Some, None, length, map, refl, sym, ap, ◌∙◌, arith}
use Rattle.std.proofs.lemmas.List.{length-map}
use Rattle.std.proofs.lemmas.Result.{err_from_is_err_and}
use Rattle.std.specs.Borrow.{Bor}
use Rattle.load_meaning.specs.Loadable.{first_in, target_fault, pathnames_fault, table_fault}
use Rattle.omf_records.specs.Segments.{segment_of_view}
use Rattle.load_content.proofs.NamedFaults.{unless, unless_then}
use Rattle.omf_cells.proofs.Phases.{later_is}
use Rattle.omf_cells.proofs.PathFew.{few_kept}
use Rattle.omf_cells.proofs.reading.check_later.Goals as goal

pub returns-in-Some-clause-refused : goal.returns-in-Some-clause-refused
returns-in-Some-clause-refused c =
    let segments = map segment_of_view c.args.views.now.items in
    let fault = c.in-Some.fault in
    unless fault.cause fault _ c.in-Some.ensures.named
    (later_is segments (Some fault) (first_in (target_fault segments) 1 segments) (first_in (pathnames_fault segments) 1 segments) (first_in (table_fault segments) 1 segments)
    (sym c.check_shapes.ensures.value ∙ c.in-Some.is) refl refl refl)

pub returns-in_err-contents-clause-refused : goal.returns-in_err-contents-clause-refused
returns-in_err-contents-clause-refused c =
    let p = err_from_is_err_and c.from_residual.result c.from_residual.ensures.1 in
    let segments = map segment_of_view c.args.views.now.items in
    let fault = c.in_err-contents.field-0.0 in
    rw (p.1, p.2)
    (unless_then fault.cause fault _ _
    (λ first. later_is segments None (Some fault) (first_in (pathnames_fault segments) 1 segments) (first_in (table_fault segments) 1 segments)
    (sym c.check_shapes.ensures.value ∙ c.in-None.is) first refl refl)
    c.in_err-contents.ensures.refused)

pub returns-in_err-paths-clause-refused : goal.returns-in_err-paths-clause-refused
returns-in_err-paths-clause-refused c =
    let p = err_from_is_err_and c.from_residual-in_err-paths.result c.from_residual-in_err-paths.ensures.1 in
    let segments = map segment_of_view c.args.views.now.items in
    let fault = c.in_err-paths.field-0.0 in
    rw (p.1, p.2)
    (unless_then fault.cause fault _ _
    (λ first. later_is segments None None (Some fault) (first_in (table_fault segments) 1 segments) (sym c.check_shapes.ensures.value ∙ c.in-None.is) c.in_ok-contents.ensures.ok.0 first refl)
    c.in_err-paths.ensures.refused)

pub overflow_cast-len : goal.overflow_cast-len
overflow_cast-len c =
    omega (arith, few_kept c.in_ok-paths.paths.items (map segment_of_view c.args.views.now.items) c.in_ok-paths.ensures.paths, c.len.ensures, c.in_ok-paths.paths.ok)

pub check_tables-requires-clause-few : goal.check_tables-requires-clause-few
check_tables-requires-clause-few c =
    omega (arith, few_kept c.in_ok-paths.paths.items (map segment_of_view c.args.views.now.items) c.in_ok-paths.ensures.paths, c.len.ensures, c.in_ok-paths.paths.ok)

pub check_tables-requires-clause-paths : goal.check_tables-requires-clause-paths
check_tables-requires-clause-paths c =
    let paths = c.in_ok-paths.paths in
    omega (arith, ap length c.in_ok-paths.ensures.paths, length-map paths.items (λ (path : Bor (List ℕ)). path.now), c.len.ensures, paths.ok)

pub returns-in-Some-check_tables-clause-refused : goal.returns-in-Some-check_tables-clause-refused
returns-in-Some-check_tables-clause-refused c =
    let segments = map segment_of_view c.args.views.now.items in
    let fault = c.in-Some-check_tables.fault in
    unless fault.cause fault _ c.in-Some-check_tables.ensures.named
    (later_is segments None None None (Some fault) (sym c.check_shapes.ensures.value ∙ c.in-None.is) c.in_ok-contents.ensures.ok.0 c.in_ok-paths.ensures.sound (sym c.check_tables.ensures.value ∙ c.in-Some-check_tables.is))
