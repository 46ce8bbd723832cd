-- The records so far, and those that are left.
use Rattle.std.proofs.Common.{◌≡◌, ℕ, true, List, [], ◌∷◌, ◌++◌, Option, Some, Result, Ok, sym, ap, subst, ◌∙◌}
use Rattle.omf_format.specs.declared.fault.RecordFault.{RecordFault}
use Rattle.omf_format.specs.Record.{Record}
use Rattle.omf_format.specs.Reading.{Reader, next_answer, after_next, HandsOut}
use Rattle.omf_format.specs.laws.FileLaws.{open_at_some, same_found}
use Rattle.omf_format.specs.laws.BodyLaws.{found_by}

abbrev Answer : Type 0
Answer = Result (Option (ℕ × Record)) RecordFault

abbrev gave : ℕ × Record → Answer
gave found = Ok (Some found)

-- first these, then this one, and then others
pub record Rest (all before : List (ℕ × Record)) (found : ℕ × Record) : Type 0 where
  pub following : List (ℕ × Record)
  pub whole : all ≡ before ++ found ∷ following

pub rest_of : (r : Reader) (before all : List (ℕ × Record)) (at last : Reader) (found : ℕ × Record) → HandsOut r before at → HandsOut r all last → last.ended ≡ true → next_answer at ≡ gave found → Rest all before found
rest_of r [] [] at last found run all ended e = absurd (open_at_some last found (subst (λ (x : Reader). next_answer x ≡ gave found) (sym run ∙ all) e) ended)
rest_of r [] (f ∷ founds) at last found run all ended e =
    let same : f ≡ found = same_found f found (sym all.0 ∙ ap next_answer run ∙ e) in
    record { following = founds; whole = ap (λ (x : ℕ × Record). x ∷ founds) same }
rest_of r (f ∷ before) [] at last found run all ended e = absurd (open_at_some last f (subst (λ (x : Reader). next_answer x ≡ gave f) all run.0) ended)
rest_of r (f ∷ before) (g ∷ founds) at last found run all ended e =
    let same : g ≡ f = same_found g f (sym all.0 ∙ run.0) in
    let more = rest_of (after_next r) before founds at last found run.1 all.1 ended e in
    record { following = more.following; whole = ap (λ (x : ℕ × Record). x ∷ founds) same ∙ ap (λ (l : List (ℕ × Record)). f ∷ l) more.whole }

-- names are laid out the same everywhere
pub layout_same : (r : Reader) (before : List (ℕ × Record)) (at : Reader) → HandsOut r before at → at.layout ≡ r.layout
layout_same r [] at run = ap (λ (x : Reader). x.layout) (sym run)
layout_same r (f ∷ before) at run = layout_same (after_next r) before at run.1 ∙ (found_by r f run.0).layout
