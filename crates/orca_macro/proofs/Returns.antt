-- What follows an expansion, by the stack.
use Rattle.std.proofs.Common.{◌≡◌, ℕ, zero, suc, ◌+◌, List, [], ◌∷◌, Option, Some, None, refl, sym, ap, subst, ◌∙◌}
use Rattle.std.specs.Prelude.{slice_get}
use Rattle.orca_meaning.specs.Line.{Line}
use Rattle.macro_meaning.specs.Visit.{MacroProgram, Visit, On, Ends, line_at, if_line, move_after_expansion}
use Rattle.macro_meaning.specs.laws.Steps.{visit_after_call}
use Rattle.orca_symbols.specs.Frame.{Frame}
use Rattle.orca_macro.specs.Stacks.{Stacks, HasRoot, IsBack}

-- an empty stack is the source's
pub ended : (program : MacroProgram) (before : List Visit) (last : Visit) (depth : ℕ) (caller : Option ℕ) (frames : List Frame) → frames ≡ [] → Stacks before depth caller frames → move_after_expansion program before last depth caller ≡ Ends
unfolding move_after_expansion
ended program before last zero None [] e is = refl
ended program before last zero None (frame ∷ frames) e is = absurd is
ended program before last zero (Some place) frames e is = absurd is
ended program before last (suc depth) None frames e is = absurd is
ended program before last (suc depth) (Some place) [] e is = absurd is
ended program before last (suc depth) (Some place) (frame ∷ frames) e is = absurd cc

-- the expansion around it, by the top of the stack
pub record Around (program : MacroProgram) (before : List Visit) (last : Visit) (depth : ℕ) (caller : Option ℕ) (f : Frame) (rest : List Frame) : Type 0 where
  pub v : Visit
  pub macro : v.macro ≡ f.macro
  pub line : v.line + 1 ≡ f.line
  pub counter : v.counter ≡ f.counter
  pub symbols : v.symbols ≡ f.symbols
  pub root : HasRoot v.caller v.root f.root
  pub callers : Stacks before v.depth v.caller rest
  pub is : move_after_expansion program before last depth caller ≡ if_line (line_at program f.macro f.line) (On (visit_after_call v last)) (move_after_expansion program before last v.depth v.caller)

pub around : (program : MacroProgram) (before : List Visit) (last : Visit) (depth : ℕ) (caller : Option ℕ) (f : Frame) (frames rest : List Frame) → frames ≡ f ∷ rest → Stacks before depth caller frames
    → Around program before last depth caller f rest
unfolding move_after_expansion
around program before last depth caller f frames rest e is = by_depth depth caller (subst (Stacks before depth caller) e is)
  where
    by_top : (depth place : ℕ) (v : Visit) → slice_get before place ≡ Some v → v.macro ≡ f.macro → v.line + 1 ≡ f.line → v.depth ≡ depth
        → move_after_expansion program before last (suc depth) (Some place) ≡ if_line (line_at program f.macro f.line) (On (visit_after_call v last)) (move_after_expansion program before last v.depth v.caller)
    by_top depth place v is macro line deep =
        let first : move_after_expansion program before last (suc depth) (Some place) ≡ if_line (line_at program v.macro (v.line + 1)) (On (visit_after_call v last)) (move_after_expansion program before last depth v.caller) = rw (is, move_after_expansion) refl in
        first ∙ ap (λ (m : Option ℕ). if_line (line_at program m (v.line + 1)) (On (visit_after_call v last)) (move_after_expansion program before last depth v.caller)) macro
        ∙ ap (λ (k : ℕ). if_line (line_at program f.macro k) (On (visit_after_call v last)) (move_after_expansion program before last depth v.caller)) line
        ∙ ap (λ (d : ℕ). if_line (line_at program f.macro f.line) (On (visit_after_call v last)) (move_after_expansion program before last d v.caller)) (sym deep)

    of : (depth place : ℕ) (s : Stacks before (suc depth) (Some place) (f ∷ rest)) → Around program before last (suc depth) (Some place) f rest
    of depth place s = record {
      v = s.0;
      macro = s.2;
      line = s.3;
      counter = s.4;
      symbols = s.5;
      root = s.6;
      callers = subst (λ (d : ℕ). Stacks before d s.0.caller rest) (sym s.7) s.8;
      is = by_top depth place s.0 s.1 s.2 s.3 s.7;
    }

    by_depth : (depth : ℕ) (caller : Option ℕ) → Stacks before depth caller (f ∷ rest) → Around program before last depth caller f rest
    by_depth zero None s = absurd s
    by_depth zero (Some place) s = absurd s
    by_depth (suc depth) None s = absurd s
    by_depth (suc depth) (Some place) s = of depth place s

-- these expansions end as those of this stack do
pub record ComesTo (program : MacroProgram) (before : List Visit) (last : Visit) (depth : ℕ) (caller : Option ℕ) (frames : List Frame) : Type 0 where
  pub depth' : ℕ
  pub caller' : Option ℕ
  pub callers : Stacks before depth' caller' frames
  pub same : move_after_expansion program before last depth caller ≡ move_after_expansion program before last depth' caller'

-- a line is there
pub comes_back : (program : MacroProgram) (before : List Visit) (last : Visit) (depth : ℕ) (caller : Option ℕ) (f : Frame) (frames rest : List Frame) (l : Line) → ComesTo program before last depth caller frames
    → frames ≡ f ∷ rest → line_at program f.macro f.line ≡ Some l → (w : Visit) × (move_after_expansion program before last depth caller ≡ On w) × IsBack before last w f rest
comes_back program before last depth caller f frames rest l come e is =
    let a = around program before last come.depth' come.caller' f frames rest e come.callers in
    let goes : if_line (line_at program f.macro f.line) (On (visit_after_call a.v last)) (move_after_expansion program before last a.v.depth a.v.caller) ≡ On (visit_after_call a.v last) = rw is refl in (
      visit_after_call a.v last,
      come.same ∙ a.is ∙ goes,
      record { macro = a.macro; line = a.line; counter = a.counter; symbols = a.symbols; root = a.root; texts = refl; calls = refl; callers = a.callers },
    )

-- no line is there
pub goes_further : (program : MacroProgram) (before : List Visit) (last : Visit) (depth : ℕ) (caller : Option ℕ) (f : Frame) (frames rest : List Frame) → ComesTo program before last depth caller frames
    → frames ≡ f ∷ rest → line_at program f.macro f.line ≡ None → ComesTo program before last depth caller rest
goes_further program before last depth caller f frames rest come e is =
    let a = around program before last come.depth' come.caller' f frames rest e come.callers in
    let on : if_line (line_at program f.macro f.line) (On (visit_after_call a.v last)) (move_after_expansion program before last a.v.depth a.v.caller) ≡ move_after_expansion program before last a.v.depth a.v.caller = rw is refl in
    record { depth' = a.v.depth; caller' = a.v.caller; callers = a.callers; same = come.same ∙ a.is ∙ on }

-- the stack is empty
pub ended_so : (program : MacroProgram) (before : List Visit) (last : Visit) (depth : ℕ) (caller : Option ℕ) (frames : List Frame) → ComesTo program before last depth caller frames → frames ≡ [] → move_after_expansion program before last depth caller ≡ Ends
ended_so program before last depth caller frames come e = come.same ∙ ended program before last come.depth' come.caller' frames e come.callers
