use Rattle.std.proofs.Common.{◌≡◌, ◌++◌, List, ℕ, length, drop, replicate, ap, ◌∙◌}
use Rattle.std.proofs.lemmas.List.{drop-replicate}
use Rattle.omf_c_files.proofs.fault.zero_padded.Goals as goal

pub returns : goal.returns
returns c =
    let name : List ℕ = c.args.name.now in
    let copied : c.copy_from_slice.new.self ≡ name = c.copy_from_slice.ensures.after in
    ap (λ (front : List ℕ). front ++ drop (length name) (replicate 256 0)) copied ∙ ap (λ (following : List ℕ). name ++ following) (drop-replicate (length name) 256 0)
