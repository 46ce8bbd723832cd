use Rattle.std.proofs.Common.{◌-◌, ℕ, length, ◌++◌, replicate, sym, ap, ◌∙◌, arith}
use Rattle.load_content.specs.Walk.{content}
use Rattle.omf_cells.proofs.LoadShows.{content_fits, has_length, has_bytes, no_length}
use Rattle.omf_cells.proofs.load.LoadFile.data_into.Goals as goal

pub write_body-requires-clause-fits : goal.write_body-requires-clause-fits
write_body-requires-clause-fits c =
    let fits = content_fits c.args.self.now c.args.segment c.in-Some.view.now c.records.result c.in-Some.ensures c.records.ensures in
    omega (arith, fits, has_length c.args.self.now c.args.segment (length c.args.out.now) c.in-Some.view.now c.requires.length c.in-Some.ensures)

pub unreachable-requires : goal.unreachable-requires
unreachable-requires c = no_length c.args.self.now c.args.segment (length c.args.out.now) c.requires.length c.in-None.ensures

pub returns : goal.returns
returns c =
    let long = has_length c.args.self.now c.args.segment (length c.args.out.now) c.in-Some.view.now c.requires.length c.in-Some.ensures in
    let whole = c.write_body.ensures ∙ ap (λ (n : ℕ). content c.records.result ++ replicate (n - length (content c.records.result)) 0) (sym long) in
    has_bytes c.args.self.now c.args.segment c.in-Some.view.now c.records.result c.write_body.new.out c.in-Some.ensures c.requires.unpatched c.records.ensures whole
