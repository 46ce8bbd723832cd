use Rattle.std.proofs.Common.{◌∙◌, sym, ap, Some}
use Rattle.std.specs.FinMap as map
use Rattle.omf_io.proofs.Tables.{bytes_of, get_file}
use Rattle.omf_io.proofs.table.FileTable.get.Goals as goal

pub returns-in-Some : goal.returns-in-Some
returns-in-Some c = ap Some c.as_slice.ensures.value
    ∙ sym (ap (λ m. map.get m c.args.path.now) (sym c.self.view_is) ∙ get_file c.self.inside.files c.args.path.now ∙ ap bytes_of (sym c.in-Some.ensures.value))

pub returns-in-None : goal.returns-in-None
returns-in-None c = sym (ap (λ m. map.get m c.args.path.now) (sym c.self.view_is) ∙ get_file c.self.inside.files c.args.path.now ∙ ap bytes_of (sym c.in-None.ensures.value))
