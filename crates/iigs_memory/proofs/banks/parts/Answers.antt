use Rattle.std.proofs.Common.{ℕ, List, slice_index, ap, sym, ◌∙◌, arith}
use Rattle.std.proofs.lemmas.List.{length-replicate}
use Rattle.iigs_places.specs.Arranged.{Arrangement}
use Rattle.iigs_memory.proofs.Blank.{all_zeros}
use Rattle.iigs_memory.proofs.banks.parts.Goals as goal

pub invariant_of-result-3 : goal.invariant_of-result-3
invariant_of-result-3 c =
    let bytes = c.in_ok-bytes.ensures in
    let banks = ap (λ (a : Arrangement). a.banks) c.places.view_is in (
      record { room = rw (banks, bytes, length-replicate, c.size.ensures) (omega arith); made_room = c.in_ok-scratch.ensures },
      ap (λ (a : Arrangement). a.banks) c.plan.view_is ∙ c.requires ∙ sym banks,
      λ _ i. ap (λ (l : List ℕ). slice_index l i) bytes ∙ all_zeros _ i,
    )
