-- A stack of expansions represents the callers of a visit.
use Rattle.std.proofs.Common.{◌≡◌, ℕ, zero, suc, ◌+◌, List, [], ◌∷◌, Option, Some, None}
use Rattle.std.specs.Prelude.{slice_get}
use Rattle.orca_meaning.specs.Line.{Line}
use Rattle.macro_meaning.specs.Symbol.{SharedTexts}
use Rattle.macro_meaning.specs.Visit.{Visit, Move, On, Ends, Stops}
use Rattle.orca_macro.specs.declared.visits.Flow.{Flow}
use Rattle.orca_macro.specs.declared.visits.Flow.TheVariants as outcomes
use Rattle.orca_symbols.specs.Frame.{Frame}

-- the root of a visit counts in an expansion alone
abbrev pub HasRoot : Option ℕ → ℕ → ℕ → Type 0
HasRoot None root kept = Unit {0}
HasRoot (Some place) root kept = root ≡ kept

-- the stack, its top first, has the calls of these expansions
abbrev pub Stacks : List Visit → ℕ → Option ℕ → List Frame → Type 0
Stacks before zero None [] = Unit {0}
Stacks before (suc depth) (Some place) (f ∷ fs) =
    (v : Visit) × (slice_get before place ≡ Some v) × (v.macro ≡ f.macro) × (v.line + 1 ≡ f.line) × (v.counter ≡ f.counter)
    × (v.symbols ≡ f.symbols) × HasRoot v.caller v.root f.root × (v.depth ≡ depth) × Stacks before depth v.caller fs
Stacks _ _ _ _ = ⊥

-- the visit is here, and the stack has its callers
pub record Stands (before : List Visit) (v : Visit) (f : Frame) (fs : List Frame) (texts : SharedTexts) (calls : ℕ) : Type 0 where
  pub macro : v.macro ≡ f.macro
  pub line : v.line ≡ f.line
  pub counter : v.counter ≡ f.counter
  pub symbols : v.symbols ≡ f.symbols
  pub root : HasRoot v.caller v.root f.root
  pub texts_are : v.texts ≡ texts
  pub calls_are : v.calls ≡ calls
  pub callers : Stacks before v.depth v.caller fs

-- what follows these visits is this: the next one is here, or it is the end, or the line has a fault
abbrev pub MovesTo : Move → List Visit → Line → Flow → Frame → List Frame → SharedTexts → ℕ → Type 0
MovesTo move before line outcomes.Goes f fs texts calls = (w : Visit) × (move ≡ On w) × Stands before w f fs texts calls
MovesTo move before line outcomes.Ends f fs texts calls = move ≡ Ends
MovesTo move before line (outcomes.Stops cause) f fs texts calls = move ≡ Stops line cause

-- an expansion continues after its call
pub record IsBack (before : List Visit) (last w : Visit) (f : Frame) (fs : List Frame) : Type 0 where
  pub macro : w.macro ≡ f.macro
  pub line : w.line ≡ f.line
  pub counter : w.counter ≡ f.counter
  pub symbols : w.symbols ≡ f.symbols
  pub root : HasRoot w.caller w.root f.root
  pub texts : w.texts ≡ last.texts
  pub calls : w.calls ≡ last.calls
  pub callers : Stacks before w.depth w.caller fs
