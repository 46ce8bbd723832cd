-- Each formula spells a tree, and its value is that of the tree.
use Rattle.std.specs.Prelude.{◌≡◌, ℕ, List, Some}
use Rattle.std.specs.List.{AllByRecursion}
use Rattle.omf_format.specs.Expression.{Tree, Spells}
use Rattle.omf_format.specs.Record.{Record, Equate, Formula}
use Rattle.object_meaning.specs.Terms.{tree_in}
use Rattle.link_meaning.specs.First.{IsIn}
use Rattle.link_meaning.specs.Member.{Member}
use Rattle.link_meaning.specs.LinkFaults.{LinkInput, HasBytes, IsProgram}

-- the bytes spell a tree, which is the one that is found in them
abbrev pub HasTree : ℕ → List ℕ → Type 0
HasTree lab_len text = (tree : Tree) × Spells lab_len text tree × (tree_in lab_len text ≡ Some tree)

-- so it is of the formula of an equate, and of that of a record that becomes bytes
abbrev pub HasTrees : ℕ → Record → Type 0
HasTrees lab_len (Equate global name size form private text) = HasTree lab_len text
HasTrees lab_len (Formula code count n text) = HasTree lab_len text
HasTrees lab_len _ = Unit {0}

-- ---- laws

-- The tree that is found in bytes is the one that they spell.
abbrev pub SpelledIsFound : Type 0
SpelledIsFound = (lab_len : ℕ) (text : List ℕ) (tree : Tree) → Spells lab_len text tree → tree_in lab_len text ≡ Some tree

-- Each formula of the members of a linked list spells one.
abbrev pub FormulasAreSpelled : Type 0
FormulasAreSpelled = (given : LinkInput) (list : List Member) → HasBytes given → IsProgram given list → (m : Member) → IsIn list m
    → AllByRecursion (λ found. HasTrees m.segment.fields.lab_len found.1) m.segment.records
