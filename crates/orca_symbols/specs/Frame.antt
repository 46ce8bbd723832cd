-- The stack of the expansions that are under way.
use Rattle.std.proofs.Common.{◌≡◌, ℕ, List, [], ◌∷◌, ◌++◌, length, map, Option, sym, ap, ◌∙◌}
use Rattle.std.specs.Prelude.{reverse}
use Rattle.std.proofs.lemmas.List.{reverse-append, map-append, length-reverse, length-map}
use Rattle.macro_meaning.specs.Symbol.{Symbols}
use Rattle.orca_symbols.specs.declared.frames.Frames.{Frames}
use Rattle.orca_symbols.specs.declared.frames.CallScope.{CallScope}
use Rattle.orca_symbols.specs.View.{symbols_of}

-- where an expansion goes back
pub record Frame : Type 0 where
  pub macro : Option ℕ
  pub line : ℕ
  pub root : ℕ
  pub counter : ℕ
  pub symbols : Symbols

-- the frame of an expansion
abbrev pub frame : CallScope → Frame
frame s = record { macro = s.place; line = s.line; root = s.root; counter = s.counter; symbols = symbols_of s.symbols }

-- the stack, its top first
abbrev pub stack_of : Frames → List Frame
stack_of frames = reverse (map frame frames.items.items)

pub pushed : (old new : List CallScope) (x : CallScope) → new ≡ old ++ x ∷ [] → reverse (map frame new) ≡ frame x ∷ reverse (map frame old)
pushed old new x e = ap (λ (l : List CallScope). reverse (map frame l)) e ∙ ap reverse (map-append frame old (x ∷ [])) ∙ reverse-append (map frame old) (map frame (x ∷ []))

pub popped : (old new : List CallScope) (x : CallScope) → old ≡ new ++ x ∷ [] → reverse (map frame old) ≡ frame x ∷ reverse (map frame new)
popped old new x e = pushed new old x e

pub as_long : (l : List CallScope) → length l ≡ length (reverse (map frame l))
as_long l = sym (length-reverse (map frame l) ∙ length-map l frame)
