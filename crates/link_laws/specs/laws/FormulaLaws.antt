-- Each formula of a linked list spells a tree.
use Rattle.std.proofs.Common.{ℕ, List, [], ◌∷◌}
use Rattle.std.specs.List.{AllByRecursion}
use Rattle.omf_format.specs.Field.{Layout, layout_of}
use Rattle.omf_format.specs.Record.{Record, Equate, Formula, IsRecord}
use Rattle.omf_format.specs.Expression.{IsExpression}
use Rattle.object_meaning.specs.laws.TreeInLaws.{tree_in-again}
use Rattle.link_meaning.specs.laws.ReadMembers.{members_read, read_records}
use Rattle.link_laws.specs.Formulas.{HasTree, HasTrees, SpelledIsFound, FormulasAreSpelled}

pub spelled_is_found : SpelledIsFound
spelled_is_found lab_len text tree is = tree_in-again lab_len text tree is

has_tree : (lab_len : ℕ) (text : List ℕ) → IsExpression lab_len text → HasTree lab_len text
has_tree lab_len text is = (is.tree, is.spells, tree_in-again lab_len text is.tree is.spells)

has_trees : (l : Layout) (r : Record) → IsRecord l r → HasTrees l.lab_len r
has_trees l (Equate global name size form private text) is = has_tree l.lab_len text is.2
has_trees l (Formula code count n text) is = has_tree l.lab_len text is.3
has_trees l _ is = tt

all_have : (l : Layout) (founds : List (ℕ × Record)) → AllByRecursion (λ found. IsRecord l found.1) founds → AllByRecursion (λ found. HasTrees l.lab_len found.1) founds
all_have l [] all = tt
all_have l (found ∷ founds) all = (has_trees l found.1 all.0, all_have l founds all.1)

pub formulas_are_spelled : FormulasAreSpelled
formulas_are_spelled given list bytes program m is =
    all_have (layout_of m.segment.fields.version m.segment.fields.lab_len) m.segment.records (read_records m.segment (members_read given list m bytes program is))
