use Rattle.std.proofs.Common.{map, sym, ◌∙◌}
use Rattle.orca_macro.specs.Parts.{definition}
use Rattle.orca_macro.proofs.Scans.{none_scanned}
use Rattle.orca_macro.proofs.definitions.scan_source.Goals as goal

pub returns : goal.returns
returns c = none_scanned c.args.lines (map definition c.args.definitions.now.items) (sym c.begins_any.ensures ∙ c.if-begins_any.false)
