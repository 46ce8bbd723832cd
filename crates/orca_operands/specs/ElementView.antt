-- How the parts of DC's elements are seen.
use Rattle.std.specs.Prelude.{◌≤◌, ℕ, List, [], ◌∷◌}
use Rattle.orca_meaning.specs.Token.{Found}
use Rattle.asm_meaning.specs.Elements as meaning
use Rattle.orca_operands.specs.declared.element.ElementKind.{ElementKind}
use Rattle.orca_operands.specs.declared.element.ElementKind.TheVariants.{Number, Hexadecimal, Binary, Characters, References, WeakReferences}

-- the type of an element
abbrev pub element_kind : ElementKind → meaning.ElementType
element_kind (Number width) = meaning.Number width
element_kind Hexadecimal = meaning.Hexadecimal
element_kind Binary = meaning.Binary
element_kind Characters = meaning.Characters
element_kind References = meaning.References
element_kind WeakReferences = meaning.WeakReferences

-- these bytes before a text that was found
abbrev pub with_bytes : List ℕ → Found (List ℕ) → Found (List ℕ)
with_bytes [] found = found
with_bytes (byte ∷ bytes) found = meaning.with_byte byte (with_bytes bytes found)

-- the numbers of I and A have at most four bytes
abbrev pub HasWidth : ElementKind → Type 0
HasWidth (Number width) = width ≤ 4
HasWidth _ = Unit {0}
