use Rattle.std.proofs.Common.{◌≡◌, [], ◌∷◌, ◌++◌, ℕ, List, sym, ap, ◌∙◌, append-nil}
use Rattle.std.specs.List.{flat_map}
use Rattle.std.proofs.lemmas.Result.{on_ok_weaker}
use Rattle.omf_format.specs.Header.{HeaderFields}
use Rattle.omf_format.specs.Record.{Record, Entry}
use Rattle.link_meaning.specs.Layout.{load_headers}
use Rattle.link_meaning.specs.LinkWritten.{export_at}
use Rattle.link_map.specs.MapText.{export_line}
use Rattle.link_map.proofs.ExportLaws.{record_line}
use Rattle.link_map.proofs.exports.put_export.Goals as goal

pub returns-in-Some : goal.returns-in-Some
returns-in-Some c =
    let name = c.args.name.now in
    let records : export_at (load_headers c.args.program.now) name c.args.answer ≡ Entry c.in-Some.segment c.in-Some.offset name ∷ [] =
    ap (λ (hs : List HeaderFields). export_at hs name c.args.answer) (sym c.load_headers.ensures) ∙ c.in-Some.ensures name in
    on_ok_weaker c.put_export_line.result
    (λ is. is ∙ ap (λ (l : List ℕ). c.args.line.now ++ l) (sym (record_line (Entry c.in-Some.segment c.in-Some.offset name)) ∙ ap (λ (rs : List Record). flat_map export_line rs) (sym records)))
    c.put_export_line.ensures

pub returns-in-None : goal.returns-in-None
returns-in-None c =
    let name = c.args.name.now in
    let records : export_at (load_headers c.args.program.now) name c.args.answer ≡ [] = ap (λ (hs : List HeaderFields). export_at hs name c.args.answer) (sym c.load_headers.ensures) ∙ c.in-None.ensures name in
    sym (append-nil c.args.line.now) ∙ ap (λ (rs : List Record). c.args.line.now ++ flat_map export_line rs) (sym records)
