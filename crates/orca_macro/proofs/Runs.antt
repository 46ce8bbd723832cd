-- The run of the visits.
use Rattle.std.proofs.Common.{◌≡◌, ◌≢◌, ◌≤◌, ℕ, ◌+◌, Bool, true, false, eqb, List, [], ◌∷◌, ◌++◌, length, Option, Some, None, refl, sym, ap, subst, ◌∙◌, arith, append_assoc, append-nil, length-append}
use Rattle.std.proofs.lemmas.Bool.{eq-eqb, ne_eqb}
use Rattle.std.specs.Prelude.{◌==◌}
use Rattle.orca_meaning.specs.Line.{Line}
use Rattle.macro_meaning.specs.declared.faults.MacroCause.{MacroCause}
use Rattle.macro_meaning.specs.declared.faults.MacroCause.TheVariants.{TooManyLines}
use Rattle.macro_meaning.specs.declared.faults.MacroFault.{MacroFault}
use Rattle.macro_meaning.specs.Call.{no_symbols}
use Rattle.macro_meaning.specs.Effect.{Effect, IsEffect}
use Rattle.macro_meaning.specs.Expansion.{HasVisits, fault_at}
use Rattle.macro_meaning.specs.Visit.{MacroProgram, Visit, Move, Ends, Stops, line_at, setting_of, move_of, most_visits, IsVisit, Follow, no_texts, first_visit}
use Rattle.macro_meaning.specs.laws.Steps.{given_by, IsVisitOf, IsVisitAt}
use Rattle.orca_symbols.specs.declared.frames.ExpansionState.{ExpansionState}
use Rattle.orca_macro.specs.declared.visits.Flow.TheVariants as outcomes
use Rattle.orca_macro.specs.Files.{IsStopped}
use Rattle.orca_symbols.specs.Frame.{Frame, frame, stack_of}
use Rattle.orca_macro.specs.Stacks.{Stacks}
use Rattle.orca_macro.specs.StateView.{StandsIn, Visited}
use Rattle.orca_symbols.specs.View.{texts_of}

-- ---- where a line is

-- what a visit gives, and what follows it
pub visit_is : (program : MacroProgram) (before : List Visit) (v : Visit) (line : Line) (effect_done : Effect) → line_at program v.macro v.line ≡ Some line → (length before == most_visits) ≡ false
    → IsEffect (setting_of program v line.number) line effect_done → IsVisit program before v (given_by line effect_done) (move_of program before v line effect_done)
visit_is program before v line effect_done here few is =
    subst (λ (o : Option Line). IsVisitAt program before v o (given_by line effect_done) (move_of program before v line effect_done)) (sym here)
    (subst (λ (b : Bool). IsVisitOf program before v line b (given_by line effect_done) (move_of program before v line effect_done)) (sym few) (effect_done, is, refl, refl))

-- ---- the visits so far

-- `count` visits gave these lines, and the next one is where the state says
pub record UnderWay (program : MacroProgram) (s : ExpansionState) (count : ℕ) (out : List Line) : Type 0 where
  pub before : List Visit
  pub v : Visit
  pub stands : StandsIn before v s
  pub count_is : count ≡ length before
  pub few : count ≤ 1000000
  pub calls : s.calls ≤ count
  pub short : length out ≤ count
  pub goes_on : (ws : List Visit) (rest : List Line) (end : Move) → Follow program before v ws rest end → HasVisits program (out ++ rest) end

pub starts : (program : MacroProgram) (s : ExpansionState) (out : List Line) → frame s.scope ≡ record { macro = None; line = 0; root = 0; counter = 255; symbols = no_symbols } → stack_of s.frames ≡ [] → texts_of s.texts ≡ no_texts → s.calls ≡ 0 → out ≡ []
    → UnderWay program s 0 out
starts program s out now none texts calls empty = record {
  before = [];
  v = first_visit;
  stands = record {
    macro = sym (ap (λ (f : Frame). f.macro) now);
    line = sym (ap (λ (f : Frame). f.line) now);
    counter = sym (ap (λ (f : Frame). f.counter) now);
    symbols = sym (ap (λ (f : Frame). f.symbols) now);
    root = tt;
    texts_are = sym texts;
    calls_are = sym calls;
    callers = subst (λ (fs : List Frame). Stacks [] 0 None fs) (sym none) tt;
  };
  count_is = refl;
  few = omega arith;
  calls = omega (arith, calls);
  short = omega (arith, ap length empty);
  goes_on = λ ws rest end follow. subst (λ (o : List Line). HasVisits program (o ++ rest) end) (sym empty) (record { visits = ws; follow = follow });
}

here : (program : MacroProgram) (s : ExpansionState) (count : ℕ) (out : List Line) (u : UnderWay program s count out) (o : Option Line) → line_at program s.scope.place s.scope.line ≡ o → line_at program u.v.macro u.v.line ≡ o
here program s count out u o is = ap (λ (m : Option ℕ). line_at program m u.v.line) u.stands.macro ∙ ap (λ (k : ℕ). line_at program s.scope.place k) u.stands.line ∙ is

pub here_line : (program : MacroProgram) (s : ExpansionState) (count : ℕ) (out : List Line) (u : UnderWay program s count out) (l : Line) → line_at program s.scope.place s.scope.line ≡ Some l → line_at program u.v.macro u.v.line ≡ Some l
here_line program s count out u l is = here program s count out u (Some l) is

pub not_full : (program : MacroProgram) (s : ExpansionState) (count : ℕ) (out : List Line) (u : UnderWay program s count out) → count ≢ 1000000 → (length u.before == most_visits) ≡ false
not_full program s count out u few = ap (λ (k : ℕ). eqb k 1000000) (sym u.count_is) ∙ ne_eqb count 1000000 few

-- no line is there
pub finished : (program : MacroProgram) (s : ExpansionState) (count : ℕ) (out : List Line) → UnderWay program s count out → line_at program s.scope.place s.scope.line ≡ None → HasVisits program out Ends
finished program s count out u is =
    subst (λ (o : List Line). HasVisits program o Ends) (append-nil out)
    (u.goes_on [] [] Ends (subst (λ (o : Option Line). IsVisitAt program u.before u.v o [] Ends) (sym (here program s count out u None is)) (refl, refl)))

-- one visit too many
pub full : (program : MacroProgram) (s : ExpansionState) (count : ℕ) (out : List Line) (l : Line) (fault : MacroFault) → UnderWay program s count out → line_at program s.scope.place s.scope.line ≡ Some l → count ≡ 1000000
    → fault ≡ fault_at l TooManyLines → IsStopped program fault
full program s count out l fault u is all fault_is =
    let spent : (length u.before == most_visits) ≡ true = ap (λ (k : ℕ). eqb k 1000000) (sym u.count_is) ∙ eq-eqb count 1000000 all in
    let visit : IsVisit program u.before u.v [] (Stops l TooManyLines) =
    subst (λ (o : Option Line). IsVisitAt program u.before u.v o [] (Stops l TooManyLines)) (sym (here program s count out u (Some l) is))
    (subst (λ (b : Bool). IsVisitOf program u.before u.v l b [] (Stops l TooManyLines)) (sym spent) (refl, refl)) in
    record { line = l; cause = TooManyLines; stops = record { given = out ++ []; visited = u.goes_on [] [] (Stops l TooManyLines) visit }; is = fault_is }

-- the visits go on
pub goes : (program : MacroProgram) (s s' : ExpansionState) (count : ℕ) (out out' : List Line) (l : Line) (u : UnderWay program s count out) → count ≢ 1000000 → s'.calls ≤ s.calls + 1 → length out' ≤ length out + 1
    → Visited program u.before u.v l outcomes.Goes s' out out' → UnderWay program s' (count + 1) out'
goes program s s' count out out' l u few calls short vd =
    let w = vd.moves.0 in
    record {
      before = u.before ++ u.v ∷ [];
      v = w;
      stands = vd.moves.2;
      count_is = omega (arith, u.count_is, length-append u.before (u.v ∷ []));
      few = omega (arith, few, u.few);
      calls = omega (arith, calls, u.calls);
      short = omega (arith, short, u.short);
      goes_on = λ ws rest end follow.
          subst (λ (o : List Line). HasVisits program o end) (sym (append_assoc out vd.given rest) ∙ ap (λ (o : List Line). o ++ rest) (sym vd.new_is))
          (u.goes_on (w ∷ ws) (vd.given ++ rest) end (vd.given, rest, subst (λ (m : Move). IsVisit program u.before u.v vd.given m) vd.moves.1 vd.is, refl, follow));
    }

-- they end
pub ended : (program : MacroProgram) (s s' : ExpansionState) (count : ℕ) (out out' : List Line) (l : Line) (u : UnderWay program s count out) → Visited program u.before u.v l outcomes.Ends s' out out' → HasVisits program out' Ends
ended program s s' count out out' l u vd =
    subst (λ (o : List Line). HasVisits program o Ends) (sym vd.new_is) (u.goes_on [] vd.given Ends (subst (λ (m : Move). IsVisit program u.before u.v vd.given m) vd.moves vd.is))

-- a line has a fault
pub stopped : (program : MacroProgram) (s s' : ExpansionState) (count : ℕ) (out out' : List Line) (l : Line) (cause : MacroCause) (fault : MacroFault) (u : UnderWay program s count out)
    → Visited program u.before u.v l (outcomes.Stops cause) s' out out' → fault ≡ fault_at l cause → IsStopped program fault
stopped program s s' count out out' l cause fault u vd fault_is = record {
  line = l;
  cause = cause;
  is = fault_is;
  stops = record { given = out ++ vd.given; visited = u.goes_on [] vd.given (Stops l cause) (subst (λ (m : Move). IsVisit program u.before u.v vd.given m) vd.moves vd.is) };
}
