use Rattle.std.proofs.Common.{◌≡◌, ℕ, ◌+◌, ◌-◌, suc, ◌∷◌, ap, ◌∙◌, arith}
use Rattle.std.specs.Prelude.{not, ◌==◌}
use Rattle.omf_format.specs.Header.{first_of}
use Rattle.load_meaning.specs.Cells.{segment_bytes}
use Rattle.load_meaning.specs.LoadTable.{zero_checks}
use Rattle.omf_records.specs.Segments.{segment_of_view}
use Rattle.load_tables.proofs.TableRuns.{zeros_next}
use Rattle.load_tables.proofs.table.nonzero_from.Goals as goal

pub zeros-preserved : goal.zeros-preserved
zeros-preserved c =
    let bytes = segment_bytes (segment_of_view c.args.view.now) in
    let passed = c.zeros.passed in
    let left = c.args.count - (passed + 1) in
    let one : c.args.count - passed ≡ suc left = omega (arith, c.zeros-test.true) in
    let place : c.args.at + passed + 1 ≡ c.args.at + (passed + 1) = omega arith in
    record {
      within = omega (arith, c.zeros-test.true);
      same =
          c.zeros.invariant.same
          ∙ zeros_next bytes (c.args.at + passed) (c.args.count - passed) left one
          ∙ ap (λ (n : ℕ). first_of ((not (n == 0), c.args.at + passed) ∷ zero_checks bytes (c.args.at + passed + 1) left)) (c.data_u8.ensures ∙ c.if-data_u8-ne0.false)
          ∙ ap (λ (n : ℕ). first_of (zero_checks bytes n left)) place;
    }
