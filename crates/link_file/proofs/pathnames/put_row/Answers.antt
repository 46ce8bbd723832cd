use Rattle.std.proofs.Common.{◌++◌, ◌∷◌, [], ℕ, List, length, ap, ◌∙◌, append_assoc}
use Rattle.byteorder.specs.Endian.{little_bytes}
use Rattle.link_file.proofs.pathnames.put_row.Goals as goal

pub returns : goal.returns
returns c =
    let out = c.args.out.now.items in
    let path = c.args.path.now in
    let word = little_bytes 2 c.args.number in
    let mid : List ℕ = 0 ∷ 0 ∷ 0 ∷ 0 ∷ 0 ∷ 0 ∷ 0 ∷ 0 ∷ length path ∷ [] in
    c.in_ok-extend_from_slice-3.ensures.items
    ∙ ap (λ (l : List ℕ). l ++ path) (c.in_ok-extend_from_slice-2.ensures.items ∙ ap (λ (l : List ℕ). l ++ mid) (c.in_ok-extend_from_slice.ensures.items ∙ ap (λ (l : List ℕ). out ++ l) c.word.ensures))
    ∙ append_assoc (out ++ word) mid path
    ∙ append_assoc out word (mid ++ path)
