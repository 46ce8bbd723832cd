use Rattle.std.proofs.Common.{◌++◌, ℕ, List, sym, ap, ◌∙◌, append-nil}
use Rattle.omf_format.specs.Record.{Record}
use Rattle.link_meaning.specs.Layout.{load_headers}
use Rattle.link_meaning.specs.LinkValues.{found_value}
use Rattle.link_meaning.specs.LinkWritten.{export_at}
use Rattle.link_program.specs.Outside.{all_found}
use Rattle.link_file.specs.Images.{spelled_records}
use Rattle.link_values.specs.Slots.{rows_of}
use Rattle.link_values.proofs.AllFound.{outer_at}
use Rattle.link_tables.proofs.OnOks.{on_ok}
use Rattle.link_file.proofs.ExportLaws.{export_public, export_other, exported_more}
use Rattle.link_file.proofs.exports.put_seen.Goals as goal

pub returns-then-seen : goal.returns-then-seen
returns-then-seen c =
    let list = c.args.context.now.link.program.now in
    let reported = rows_of (all_found list) c.args.context.now.slots.now in
    let out = c.args.out.now.items in
    on_ok c.put_export.result _ _
    (λ go f at seen is.
    exported_more list reported c.args.number f out c.put_export.new.out.items at is
    (go list f c.requires.whole.known (outer_at list c.args.number f at) c.requires.whole.loads'
    ∙ ap (λ (n : List ℕ). out ++ spelled_records (export_at (load_headers list) n (found_value list reported f))) (sym seen.name')
    ∙ ap (λ (rs : List Record). out ++ spelled_records rs) (sym (export_public list reported f (seen.public' ∙ c.if-seen.true)))))
    c.put_export.ensures

pub returns : goal.returns
returns c = λ f at seen is.
    let list = c.args.context.now.link.program.now in
    let reported = rows_of (all_found list) c.args.context.now.slots.now in
    let out = c.args.out.now.items in
    exported_more list reported c.args.number f out out at is (sym (append-nil out) ∙ ap (λ (rs : List Record). out ++ spelled_records rs) (sym (export_other list reported f (seen.public' ∙ c.if-seen.false))))
