-- From the law on one line to the whole text: its lines, its expansion, and what they leave one after another.
use Rattle.std.proofs.Common.{◌≡◌, ℕ, ◌≤◌, List, [], ◌∷◌, length, map, refl, sym, ap, subst, ◌∙◌, append_assoc}
use Rattle.std.specs.List.{AllByRecursion, flat_map}
use Rattle.std.proofs.lemmas.List.Concat.{flat_map-cons}
use Rattle.omf_format.specs.Lines.{lines_of, HasNoEnd}
use Rattle.omf_format.specs.laws.LinesLaws.{lines_of-lf}
use Rattle.orca_meaning.specs.Line.{numbered_lines}
use Rattle.macro_meaning.specs.Expansion.{IsExpanded}
use Rattle.list_laws.specs.laws.Expands.{IsPlainLine, plain_source_expands}
use Rattle.list_meaning.specs.Listed.{ListedStatement, said_text, listing_text}
use Rattle.list_meaning.specs.laws.Steps.{line_text}

-- a line that a listing can contain
pub record IsSaidLine (said : ListedStatement) : Type 0 where
  pub no_end : HasNoEnd (said_text said)
  pub plain : IsPlainLine (said_text said)

-- the lines of the text are those that were written
pub text_lines : (all : List ListedStatement) → AllByRecursion IsSaidLine all → lines_of (listing_text all) ≡ map said_text all
unfolding listing_text lines_of
text_lines [] are = refl
text_lines (said ∷ all) are =
    ap lines_of (flat_map-cons line_text said all ∙ append_assoc (said_text said) (0x0A ∷ []) (flat_map line_text all))
    ∙ lines_of-lf (said_text said) (flat_map line_text all) are.0.no_end ∙ ap (λ (l : List (List ℕ)). said_text said ∷ l) (text_lines all are.1)

plain_lines : (all : List ListedStatement) → AllByRecursion IsSaidLine all → AllByRecursion IsPlainLine (map said_text all)
plain_lines [] are = tt
plain_lines (said ∷ all) are = (are.0.plain, plain_lines all are.1)

length-texts : (all : List ListedStatement) → length (map said_text all) ≡ length all
length-texts [] = refl
length-texts (said ∷ all) = ap suc (length-texts all)
  where
    suc : ℕ → ℕ
    suc n = Rattle.std.specs.Prelude.suc n

pub text_expands : (all : List ListedStatement) → AllByRecursion IsSaidLine all → length all ≤ 65536 → IsExpanded (listing_text all) [] (numbered_lines 0 1 (map said_text all))
text_expands all are few =
    let same = text_lines all are in
    subst (λ (lines : List (List ℕ)). IsExpanded (listing_text all) [] (numbered_lines 0 1 lines)) same
    (plain_source_expands (listing_text all) (subst (AllByRecursion IsPlainLine) (sym same) (plain_lines all are)) (subst (λ (n : ℕ). n ≤ 65536) (sym (ap length same ∙ length-texts all)) few))
