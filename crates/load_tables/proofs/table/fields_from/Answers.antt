use Rattle.std.proofs.Common.{◌≡◌, ◌+◌, ℕ, ap, ◌∙◌, arith}
use Rattle.omf_format.specs.Number.{number_at}
use Rattle.load_meaning.specs.Cells.{segment_bytes}
use Rattle.omf_records.specs.Segments.{segment_of_view}
use Rattle.load_tables.proofs.EntryNumbers.{two_same, four_same, call_same}
use Rattle.load_tables.proofs.table.fields_from.Goals as goal

pub returns : goal.returns
returns c =
    let v = c.args.view.now in
    let at = c.args.at in
    let bytes = segment_bytes (segment_of_view v) in
    let entry = c.entry_from-entry.result in
    let near = c.entry_from-entry.ensures.near in
    let size = c.entry_from-entry.ensures.size in
    let here : at + 0 ≡ at = omega arith in
    record {
      user = c.user_in.ensures ∙ two_same v at entry 0 near (omega (arith, size)) ∙ ap (λ (k : ℕ). number_at 2 k bytes) here;
      file = c.target_in.ensures.file ∙ two_same v at entry 2 near (omega (arith, size));
      segment = c.target_in.ensures.segment ∙ two_same v at entry 4 near (omega (arith, size));
      offset = c.target_in.ensures.offset ∙ four_same v at entry 6 near (omega (arith, size));
      unloaded = c.is_unloaded.ensures ∙ call_same v at entry 10 near (omega (arith, size));
    }
