use Rattle.std.specs.Prelude.{◌≡◌, length}
use Rattle.omf_cells.specs.Load.{table_targets}
use Rattle.loader_users.proofs.Tables.{Entered}
use Rattle.loader_users.proofs.fill.fill_table.Given as goal

-- the first entries are in the table
abbrev pub invariant-entries : goal.invariant-entries
invariant-entries l = record {
  entered : Entered l.user (table_targets l.load) l.place l.out;
  same : length l.out ≡ length l.fn.out;
}
