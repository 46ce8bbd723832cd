use Rattle.std.proofs.Common.{ℕ, ◌+◌, ◌*◌, map, ap, sym, ◌∙◌, arith}
use Rattle.std.specs.List.{list_any}
use Rattle.std.proofs.lemmas.Bool.{ne_eqb, eq-eqb}
use Rattle.omf_format.specs.Reading.{Reader, records_of}
use Rattle.load_meaning.specs.Cells.{segment_bytes, patches_of}
use Rattle.omf_format.specs.Header.{first_of}
use Rattle.load_meaning.specs.LoadTable.{entry_count}
use Rattle.load_meaning.specs.laws.Steps.{table_checks}
use Rattle.omf_records.specs.Segments.{segment_of_view}
use Rattle.load_content.specs.Walk.{gives_patch}
use Rattle.load_content.proofs.PatchRuns.{has_some, has_none}
use Rattle.load_tables.proofs.TableRuns.{flaw_patch, flaw_size, flaw_layout, some_items, no_items}
use Rattle.load_tables.proofs.table.table_flaw.Goals as goal

pub returns-then-gives_patches : goal.returns-then-gives_patches
returns-then-gives_patches c =
    let s = segment_of_view c.args.view.now in
    let given = sym (ap (λ (r : Reader). list_any (λ found. gives_patch found.1) (records_of r)) c.records.ensures) ∙ sym c.gives_patches.ensures ∙ c.if-gives_patches.true in
    sym (flaw_patch (map segment_of_view c.args.views.now.items) c.args.number s (sym c.requires.second ∙ c.if-second.false) (sym c.is_dynamic.ensures ∙ c.if-is_dynamic.false) (sym c.is_skip.ensures ∙ c.if-is_skip.false)
    (some_items (patches_of s) (has_some s given)))

pub returns-then-from : goal.returns-then-from
returns-then-from c =
    let s = segment_of_view c.args.view.now in
    let given = sym (ap (λ (r : Reader). list_any (λ found. gives_patch found.1) (records_of r)) c.records.ensures) ∙ sym c.gives_patches.ensures ∙ c.if-gives_patches.false in
    let wrong = ne_eqb c.args.view.now.header.length (12 + 14 * entry_count c.args.view.now.header.length) (λ e. c.if-from.true (omega (arith, e, c.from.ensures, c.from-2.ensures, c.entry_count-count.ensures))) in
    sym (flaw_size (map segment_of_view c.args.views.now.items) c.args.number s (sym c.requires.second ∙ c.if-second.false) (sym c.is_dynamic.ensures ∙ c.if-is_dynamic.false) (sym c.is_skip.ensures ∙ c.if-is_skip.false)
    (no_items (patches_of s) (has_none s given)) wrong)

pub returns : goal.returns
returns c =
    let s = segment_of_view c.args.view.now in
    let given = sym (ap (λ (r : Reader). list_any (λ found. gives_patch found.1) (records_of r)) c.records.ensures) ∙ sym c.gives_patches.ensures ∙ c.if-gives_patches.false in
    let right = eq-eqb c.args.view.now.header.length (12 + 14 * entry_count c.args.view.now.header.length) (omega (arith, c.if-from.false, c.from.ensures, c.from-2.ensures, c.entry_count-count.ensures)) in
    c.layout_flaw.ensures
    ∙ ap (λ (n : ℕ). first_of (table_checks (map segment_of_view c.args.views.now.items) (segment_bytes s) n)) c.entry_count-count.ensures
    ∙ sym (flaw_layout (map segment_of_view c.args.views.now.items) c.args.number s (sym c.requires.second ∙ c.if-second.false) (sym c.is_dynamic.ensures ∙ c.if-is_dynamic.false) (sym c.is_skip.ensures ∙ c.if-is_skip.false)
    (no_items (patches_of s) (has_none s given)) right)
