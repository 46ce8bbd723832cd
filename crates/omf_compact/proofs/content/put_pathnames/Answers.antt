use Rattle.std.proofs.Common.{◌≡◌, ℕ, List, ◌++◌, take, ap, ◌∙◌}
use Rattle.omf_cells.specs.Whole.{data_at}
use Rattle.omf_compact.proofs.ContentLaws.{path_bytes, path_text}
use Rattle.omf_compact.proofs.content.put_pathnames.Goals as goal

pub returns-clause-ok : goal.returns-clause-ok
returns-clause-ok c = λ s at path.
    let load = c.args.load.now in
    let bytes = c.deref.result.now in
    let taken : bytes ≡ take c.args.size (data_at load c.args.number) =
    c.deref.ensures.value ∙ c.in_ok-put_data.ensures ∙ ap (λ (l : List ℕ). l ++ take c.args.size (data_at load c.from.result)) c.new-bytes.ensures.items
    ∙ ap (λ (n : ℕ). take c.args.size (data_at load n)) c.from.ensures in
    let whole = path_bytes load c.args.number s c.requires.known at path bytes c.args.size (c.requires.size s at) taken in
    c.in_ok-put_record.ensures.ok ∙ ap (λ (l : List ℕ). c.args.out.now.items ++ l) (path_text load c.args.number s c.requires.known at path bytes whole)
