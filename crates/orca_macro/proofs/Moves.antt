-- What follows a visit, by the code's place.
use Rattle.std.proofs.Common.{◌≡◌, ◌≢◌, ℕ, zero, suc, ◌+◌, ◌-◌, Bool, false, cond, eqb, List, [], ◌∷◌, ◌++◌, length, Option, Some, None, refl, sym, ap, subst, ◌∙◌, arith}
use Rattle.std.proofs.lemmas.Bool.{ne_eqb}
use Rattle.std.specs.Prelude.{slice_get}
use Rattle.orca_meaning.specs.Line.{Line}
use Rattle.macro_meaning.specs.declared.faults.MacroCause.TheVariants.{Counter, TooNested}
use Rattle.macro_meaning.specs.declared.statements.SymbolKind.{SymbolKind}
use Rattle.macro_meaning.specs.declared.statements.Declaration.{Declaration}
use Rattle.macro_meaning.specs.declared.statements.Declaration.TheVariants.{Local, Shared}
use Rattle.macro_meaning.specs.Effect as effects
use Rattle.macro_meaning.specs.Symbol.{Symbol, Own, Common, Symbols, SharedTexts, first_text}
use Rattle.orca_meaning.specs.Names.{with_name}
use Rattle.macro_meaning.specs.Visit.{MacroProgram, Visit, Move, On, Stops, line_at, body_of, target_of, if_line, visit_after, move_after_expansion, next_line, call_of, move_of, root_by, shared_first}
use Rattle.macro_meaning.specs.laws.Steps.{next_visit, branch_to, set_by}
use Rattle.orca_macro.specs.declared.visits.Flow.{Flow}
use Rattle.orca_macro.specs.declared.visits.Flow.TheVariants as outcomes
use Rattle.orca_symbols.specs.Changes.{IsDeclared, IsAssigned}
use Rattle.orca_symbols.specs.Frame.{Frame}
use Rattle.orca_macro.specs.Stacks.{Stacks, Stands, MovesTo, IsBack}

get_front : (before : List Visit) (place : ℕ) (v w : Visit) → slice_get before place ≡ Some v → slice_get (before ++ w ∷ []) place ≡ Some v
get_front [] place v w is = absurd cc
get_front (x ∷ before) zero v w is = is
get_front (x ∷ before) (suc place) v w is = get_front before place v w is

-- one more visit changes nothing for them
pub Stacks-more : (before : List Visit) (depth : ℕ) (caller : Option ℕ) (fs : List Frame) (w : Visit) → Stacks before depth caller fs → Stacks (before ++ w ∷ []) depth caller fs
Stacks-more before zero None [] w is = tt
Stacks-more before zero None (f ∷ fs) w is = absurd is
Stacks-more before zero (Some place) fs w is = absurd is
Stacks-more before (suc depth) None fs w is = absurd is
Stacks-more before (suc depth) (Some place) [] w is = absurd is
Stacks-more before (suc depth) (Some place) (f ∷ fs) w is =
    (is.0, get_front before place is.0 w is.1, is.2, is.3, is.4, is.5, is.6, is.7, Stacks-more before depth is.0.caller fs w is.8)

-- the last visit is there
get_last : (before : List Visit) (v : Visit) → slice_get (before ++ v ∷ []) (length before) ≡ Some v
get_last [] v = refl
get_last (x ∷ before) v = get_last before v

-- as deep as the stack is high
pub depth_is : (before : List Visit) (depth : ℕ) (caller : Option ℕ) (fs : List Frame) → Stacks before depth caller fs → depth ≡ length fs
depth_is before zero None [] is = refl
depth_is before zero None (f ∷ fs) is = absurd is
depth_is before zero (Some place) fs is = absurd is
depth_is before (suc depth) None fs is = absurd is
depth_is before (suc depth) (Some place) [] is = absurd is
depth_is before (suc depth) (Some place) (f ∷ fs) is = ap suc (depth_is before depth is.0.caller fs is.8)

-- ---- the end of an expansion

pub left_goes : (before : List Visit) (v last w : Visit) (line : Line) (move : Move) (f f' : Frame) (fs fs' : List Frame) (texts : SharedTexts) (calls : ℕ) → Stands before v f fs texts calls
    → move ≡ On w → IsBack before v w f' fs' → MovesTo move (before ++ last ∷ []) line outcomes.Goes f' fs' texts calls
left_goes before v last w line move f f' fs fs' texts calls s is back = (
  w,
  is,
  record {
    macro = back.macro;
    line = back.line;
    counter = back.counter;
    symbols = back.symbols;
    root = back.root;
    texts_are = back.texts ∙ s.texts_are;
    calls_are = back.calls ∙ s.calls_are;
    callers = Stacks-more before w.depth w.caller fs' last back.callers;
  },
)

-- ---- the next line

-- the line after a visit, by the code's place
line_after : (program : MacroProgram) (before : List Visit) (v : Visit) (f : Frame) (fs : List Frame) (texts : SharedTexts) (calls : ℕ) → Stands before v f fs texts calls
    → line_at program v.macro (v.line + 1) ≡ line_at program f.macro (f.line + 1)
line_after program before v f fs texts calls s =
    ap (λ (m : Option ℕ). line_at program m (v.line + 1)) s.macro ∙ ap (λ (k : ℕ). line_at program f.macro (k + 1)) s.line

pub onward_goes : (program : MacroProgram) (before : List Visit) (v last : Visit) (line found : Line) (f : Frame) (fs : List Frame) (texts : SharedTexts) (calls : ℕ) → Stands before v f fs texts calls
    → line_at program f.macro (f.line + 1) ≡ Some found
    → MovesTo (next_line program before v) (before ++ last ∷ []) line outcomes.Goes (record f { line = f.line + 1 }) fs texts calls
unfolding next_line
onward_goes program before v last line found f fs texts calls s is =
    let goes : next_line program before v ≡ On (next_visit v) =
    ap (λ (o : Option Line). if_line o (On (next_visit v)) (move_after_expansion program before v v.depth v.caller)) (line_after program before v f fs texts calls s ∙ is) in (
      next_visit v,
      goes,
      record {
        macro = s.macro;
        line = ap (λ (k : ℕ). k + 1) s.line;
        counter = s.counter;
        symbols = s.symbols;
        root = s.root;
        texts_are = s.texts_are;
        calls_are = s.calls_are;
        callers = Stacks-more before v.depth v.caller fs last s.callers;
      },
    )

pub onward_ends : (program : MacroProgram) (before : List Visit) (v : Visit) (f : Frame) (fs : List Frame) (texts : SharedTexts) (calls : ℕ) → Stands before v f fs texts calls
    → line_at program f.macro (f.line + 1) ≡ None → move_after_expansion program before v v.depth v.caller ≡ next_line program before v
unfolding next_line
onward_ends program before v f fs texts calls s is =
    sym (ap (λ (o : Option Line). if_line o (On (next_visit v)) (move_after_expansion program before v v.depth v.caller)) (line_after program before v f fs texts calls s ∙ is))

-- ---- branches

target_by : (program : MacroProgram) (before : List Visit) (v : Visit) (name : List ℕ) (f : Frame) (fs : List Frame) (texts : SharedTexts) (calls : ℕ) (found : Option ℕ) → Stands before v f fs texts calls
    → found ≡ target_of (body_of program f.macro) name → target_of (body_of program v.macro) name ≡ found
target_by program before v name f fs texts calls found s is = ap (λ (m : Option ℕ). target_of (body_of program m) name) s.macro ∙ sym is

pub branch_goes : (program : MacroProgram) (before : List Visit) (v : Visit) (line : Line) (name : List ℕ) (f : Frame) (fs : List Frame) (texts : SharedTexts) (calls place : ℕ) → Stands before v f fs texts calls
    → Some place ≡ target_of (body_of program f.macro) name → f.counter ≢ 0
    → MovesTo (branch_to v line (target_of (body_of program v.macro) name)) (before ++ v ∷ []) line outcomes.Goes (record f { line = place; counter = f.counter - 1 }) fs texts calls
branch_goes program before v line name f fs texts calls place s is some =
    let goes : branch_to v line (target_of (body_of program v.macro) name) ≡ On (record v { line = place; counter = v.counter - 1 }) =
    ap (branch_to v line) (target_by program before v name f fs texts calls (Some place) s is)
    ∙ ap (λ (b : Bool). cond b (Stops line Counter) (On (record v { line = place; counter = v.counter - 1 }))) (ap (λ (k : ℕ). eqb k 0) s.counter ∙ ne_eqb f.counter 0 some) in (
      record v { line = place; counter = v.counter - 1 },
      goes,
      record {
        macro = s.macro;
        line = refl;
        counter = ap (λ (k : ℕ). k - 1) s.counter;
        symbols = s.symbols;
        root = s.root;
        texts_are = s.texts_are;
        calls_are = s.calls_are;
        callers = Stacks-more before v.depth v.caller fs v s.callers;
      },
    )

-- ---- calls

pub call_deep : (before : List Visit) (v : Visit) (line : Line) (place : ℕ) (symbols : Symbols) (f : Frame) (fs : List Frame) (texts : SharedTexts) (calls : ℕ) → Stands before v f fs texts calls
    → length fs ≡ 32 → call_of before v line place symbols ≡ Stops line TooNested
call_deep before v line place symbols f fs texts calls s deep = rw (depth_is before v.depth v.caller fs s.callers ∙ deep) refl

called_visit : List Visit → Visit → ℕ → Symbols → ℕ → Visit
called_visit before v place symbols root = record {
  macro = Some place;
  line = 0;
  depth = v.depth + 1;
  caller = Some (length before);
  root = root;
  counter = 255;
  symbols = symbols;
  texts = v.texts;
  calls = v.calls + 1;
}

pub call_goes : (before : List Visit) (v : Visit) (line : Line) (place : ℕ) (symbols : Symbols) (f : Frame) (fs : List Frame) (texts : SharedTexts) (calls root : ℕ) → Stands before v f fs texts calls
    → length fs ≢ 32 → root ≡ root_by v.caller v.root line.number
    → MovesTo (call_of before v line place symbols) (before ++ v ∷ []) line outcomes.Goes
    (record { macro = Some place; line = 0; root = root; counter = 255; symbols = symbols }) (record f { line = f.line + 1 } ∷ fs) texts (calls + 1)
unfolding called_visit
call_goes before v line place symbols f fs texts calls root s few root_is =
    let shallow : eqb v.depth 32 ≡ false = ap (λ (d : ℕ). eqb d 32) (depth_is before v.depth v.caller fs s.callers) ∙ ne_eqb (length fs) 32 few in
    let goes : call_of before v line place symbols ≡ On (called_visit before v place symbols (root_by v.caller v.root line.number)) =
    ap (λ (b : Bool). cond b (Stops line TooNested) (On (called_visit before v place symbols (root_by v.caller v.root line.number)))) shallow in (
      called_visit before v place symbols (root_by v.caller v.root line.number),
      goes,
      record {
        macro = refl;
        line = refl;
        counter = refl;
        symbols = refl;
        root = sym root_is;
        texts_are = s.texts_are;
        calls_are = ap (λ (k : ℕ). k + 1) s.calls_are;
        callers = subst (λ (d : ℕ). Stacks (before ++ v ∷ []) d (Some (length before)) (record f { line = f.line + 1 } ∷ fs)) (one_more v.depth)
            (v, get_last before v, s.macro, ap (λ (k : ℕ). k + 1) s.line, s.counter, s.symbols, s.root, refl, Stacks-more before v.depth v.caller fs v s.callers);
      },
    )
  where
    one_more : (n : ℕ) → suc n ≡ n + 1
    one_more n = omega arith

-- ---- symbols

pub declared_stands : (before : List Visit) (v : Visit) (name : List ℕ) (declaration : Declaration) (f : Frame) (fs : List Frame) (texts texts' : SharedTexts) (calls : ℕ) (symbols' : Symbols)
    → Stands before v f fs texts calls → IsDeclared name declaration f.symbols symbols' texts texts'
    → Stands before (visit_after v (effects.DeclareSymbol name declaration)) (record f { symbols = symbols' }) fs texts' calls
declared_stands before v name (Local kind) f fs texts texts' calls symbols' s is = record {
  macro = s.macro;
  line = s.line;
  counter = s.counter;
  root = s.root;
  calls_are = s.calls_are;
  callers = s.callers;
  symbols = ap (λ (m : Symbols). with_name name (Own kind (first_text kind)) m) s.symbols ∙ sym is.0;
  texts_are = s.texts_are ∙ sym is.1;
}
declared_stands before v name (Shared kind) f fs texts texts' calls symbols' s is = record {
  macro = s.macro;
  line = s.line;
  counter = s.counter;
  root = s.root;
  calls_are = s.calls_are;
  callers = s.callers;
  symbols = ap (λ (m : Symbols). with_name name (Common kind) m) s.symbols ∙ sym is.0;
  texts_are = ap (λ (t : SharedTexts). shared_first name kind t) s.texts_are ∙ sym is.1;
}

pub assigned_stands : (before : List Visit) (v : Visit) (name : List ℕ) (kind : SymbolKind) (text : List ℕ) (f : Frame) (fs : List Frame) (texts texts' : SharedTexts) (calls : ℕ) (symbols' : Symbols)
    → Stands before v f fs texts calls → IsAssigned name kind text (f.symbols name) f.symbols symbols' texts texts'
    → Stands before (visit_after v (effects.SetSymbol name kind text)) (record f { symbols = symbols' }) fs texts' calls
assigned_stands before v name kind text f fs texts texts' calls symbols' s is =
    by_symbol (v.symbols name) (subst (λ (o : Option Symbol). IsAssigned name kind text o f.symbols symbols' texts texts') (sym (ap (λ (m : Symbols). m name) s.symbols)) is)
  where
    by_symbol : (o : Option Symbol) → IsAssigned name kind text o f.symbols symbols' texts texts' → Stands before (set_by name kind text v o) (record f { symbols = symbols' }) fs texts' calls
    by_symbol None is = record {
      macro = s.macro;
      line = s.line;
      counter = s.counter;
      root = s.root;
      calls_are = s.calls_are;
      callers = s.callers;
      symbols = s.symbols ∙ sym is.0;
      texts_are = s.texts_are ∙ sym is.1;
    }
    by_symbol (Some (Own other was)) is = record {
      macro = s.macro;
      line = s.line;
      counter = s.counter;
      root = s.root;
      calls_are = s.calls_are;
      callers = s.callers;
      symbols = ap (λ (m : Symbols). with_name name (Own kind text) m) s.symbols ∙ sym is.0;
      texts_are = s.texts_are ∙ sym is.1;
    }
    by_symbol (Some (Common other)) is = record {
      macro = s.macro;
      line = s.line;
      counter = s.counter;
      root = s.root;
      calls_are = s.calls_are;
      callers = s.callers;
      symbols = s.symbols ∙ sym is.0;
      texts_are = ap (λ (t : SharedTexts). with_name name (kind, text) t) s.texts_are ∙ sym is.1;
    }

pub counted_stands : (before : List Visit) (v : Visit) (n : ℕ) (f : Frame) (fs : List Frame) (texts : SharedTexts) (calls : ℕ) → Stands before v f fs texts calls
    → Stands before (visit_after v (effects.SetCounter n)) (record f { counter = n }) fs texts calls
counted_stands before v n f fs texts calls s = record {
  macro = s.macro;
  line = s.line;
  counter = refl;
  symbols = s.symbols;
  root = s.root;
  texts_are = s.texts_are;
  calls_are = s.calls_are;
  callers = s.callers;
}

-- what follows, by what the code has as its effect
pub at_effect : (program : MacroProgram) (before : List Visit) (v : Visit) (line : Line) (d e : effects.Effect) (outcome : Flow) (f : Frame) (fs : List Frame) (texts : SharedTexts) (calls : ℕ) → d ≡ e
    → MovesTo (move_of program before v line e) (before ++ v ∷ []) line outcome f fs texts calls → MovesTo (move_of program before v line d) (before ++ v ∷ []) line outcome f fs texts calls
at_effect program before v line d e outcome f fs texts calls is moves =
    subst (λ (x : effects.Effect). MovesTo (move_of program before v line x) (before ++ v ∷ []) line outcome f fs texts calls) (sym is) moves

-- a call, as the code leaves the stack
pub called : (program : MacroProgram) (before : List Visit) (v : Visit) (line : Line) (place : ℕ) (symbols : Symbols) (f f' : Frame) (fs fs' : List Frame) (texts : SharedTexts) (calls calls' root : ℕ) → Stands before v f fs texts calls
    → length fs ≢ 32 → root ≡ root_by v.caller v.root line.number → f' ≡ record { macro = Some place; line = 0; root = root; counter = 255; symbols = symbols } → fs' ≡ record f { line = f.line + 1 } ∷ fs → calls' ≡ calls + 1
    → MovesTo (move_of program before v line (effects.CallMacro place symbols)) (before ++ v ∷ []) line outcomes.Goes f' fs' texts calls'
unfolding move_of
called program before v line place symbols f f' fs fs' texts calls calls' root s few root_is now stack more =
    subst (λ (n : ℕ). MovesTo (call_of before v line place symbols) (before ++ v ∷ []) line outcomes.Goes f' fs' texts n) (sym more)
    (subst (λ (x : List Frame). MovesTo (call_of before v line place symbols) (before ++ v ∷ []) line outcomes.Goes f' x texts (calls + 1)) (sym stack)
    (subst (λ (x : Frame). MovesTo (call_of before v line place symbols) (before ++ v ∷ []) line outcomes.Goes x (record f { line = f.line + 1 } ∷ fs) texts (calls + 1)) (sym now)
    (call_goes before v line place symbols f fs texts calls root s few root_is)))
