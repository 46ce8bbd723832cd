-- A statement is found among those with its first letter.
use Rattle.std.proofs.Common.{◌≡◌, ℕ, false, eqb, List, [], ◌∷◌, None, refl, sym, ap, ◌∙◌, length, arith}
use Rattle.std.proofs.lemmas.Bool.{ne_eqb}
use Rattle.std.specs.Char.{to_ascii_uppercase}
use Rattle.orca_meaning.specs.Characters.{folded}
use Rattle.orca_meaning.specs.Operation.{value_of_spelling}
use Rattle.macro_meaning.specs.Statements.{statement_of, statements, other_statements}
use Rattle.orca_symbols.specs.Letters.{with_a, with_s, with_l, with_m, with_g}

pub a_found : (first : ℕ) (following operation : List ℕ) → operation ≡ first ∷ following → to_ascii_uppercase first ≡ 0x41 → value_of_spelling (folded operation) with_a ≡ statement_of operation
unfolding statement_of statements other_statements with_a value_of_spelling
a_found first following operation is upper = rw is (rw upper refl)

pub s_found : (first : ℕ) (following operation : List ℕ) → operation ≡ first ∷ following → to_ascii_uppercase first ≡ 0x53 → value_of_spelling (folded operation) with_s ≡ statement_of operation
unfolding statement_of statements other_statements with_s value_of_spelling
s_found first following operation is upper = rw is (rw upper refl)

pub l_found : (first : ℕ) (following operation : List ℕ) → operation ≡ first ∷ following → to_ascii_uppercase first ≡ 0x4C → value_of_spelling (folded operation) with_l ≡ statement_of operation
unfolding statement_of statements other_statements with_l value_of_spelling
l_found first following operation is upper = rw is (rw upper refl)

pub m_found : (first : ℕ) (following operation : List ℕ) → operation ≡ first ∷ following → to_ascii_uppercase first ≡ 0x4D → value_of_spelling (folded operation) with_m ≡ statement_of operation
unfolding statement_of statements other_statements with_m value_of_spelling
m_found first following operation is upper = rw is (rw upper refl)

pub g_found : (first : ℕ) (following operation : List ℕ) → operation ≡ first ∷ following → to_ascii_uppercase first ≡ 0x47 → value_of_spelling (folded operation) with_g ≡ statement_of operation
unfolding statement_of statements other_statements with_g value_of_spelling
g_found first following operation is upper = rw is (rw upper refl)

pub no_bytes : (operation : List ℕ) → length operation ≡ 0 → None ≡ statement_of operation
unfolding statement_of statements other_statements value_of_spelling
no_bytes [] none = refl
no_bytes (byte ∷ following) none = absurd (omega (arith, none))

flip : (a b : ℕ) → (a ≡ b → ⊥) → eqb b a ≡ false
flip a b apart = ne_eqb b a (λ is. apart (sym is))

none_at : (c : ℕ) (following : List ℕ) → eqb 0x41 c ≡ false → eqb 0x53 c ≡ false → eqb 0x4C c ≡ false → eqb 0x4D c ≡ false → eqb 0x47 c ≡ false → None ≡ value_of_spelling (c ∷ following) statements
unfolding statements other_statements value_of_spelling
none_at c following a s l m g = rw a (rw s (rw l (rw m (rw g refl))))

pub none_found : (first : ℕ) (following operation : List ℕ) → operation ≡ first ∷ following → (to_ascii_uppercase first ≡ 0x41 → ⊥) → (to_ascii_uppercase first ≡ 0x53 → ⊥)
    → (to_ascii_uppercase first ≡ 0x4C → ⊥) → (to_ascii_uppercase first ≡ 0x4D → ⊥) → (to_ascii_uppercase first ≡ 0x47 → ⊥) → None ≡ statement_of operation
unfolding statement_of
none_found first following operation is a s l m g =
    none_at (to_ascii_uppercase first) (folded following) (flip _ _ a) (flip _ _ s) (flip _ _ l) (flip _ _ m) (flip _ _ g) ∙ ap statement_of (sym is)
