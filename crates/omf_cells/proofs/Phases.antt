-- The first fault of the phases after phase 1, from those of each phase.
use Rattle.std.proofs.Common.{◌≡◌, List, Option, ap, ◌∙◌}
use Rattle.std.specs.Option.{option_or}
use Rattle.load_meaning.specs.declared.load.LoadFault.{LoadFault}
use Rattle.omf_format.specs.File.{Segment}
use Rattle.load_meaning.specs.Loadable.{first_in, shape_fault, target_fault, pathnames_fault, table_fault, later_fault}

pub later_is : (segments : List Segment) (shape target paths table : Option LoadFault) → first_in shape_fault 1 segments ≡ shape → first_in (target_fault segments) 1 segments ≡ target
    → first_in (pathnames_fault segments) 1 segments ≡ paths → first_in (table_fault segments) 1 segments ≡ table → later_fault segments ≡ option_or shape (option_or target (option_or paths table))
unfolding later_fault
later_is segments shape target paths table a b c d =
    let last = option_or (first_in (pathnames_fault segments) 1 segments) (first_in (table_fault segments) 1 segments) in
    ap (λ o. option_or o (option_or (first_in (target_fault segments) 1 segments) last)) a
    ∙ ap (λ o. option_or shape (option_or o last)) b
    ∙ ap (λ o. option_or shape (option_or target (option_or o (first_in (table_fault segments) 1 segments)))) c
    ∙ ap (λ o. option_or shape (option_or target (option_or paths o))) d
