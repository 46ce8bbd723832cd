-- One visit after others.
use Rattle.std.proofs.Common.{◌≡◌, ◌≢◌, ◌≤◌, ℕ, ◌+◌, Bool, true, false, eqb, List, [], ◌∷◌, ◌++◌, length, Option, Some, refl, sym, ap, subst, ◌∙◌, arith, append-nil, length-append}
use Rattle.std.proofs.lemmas.Bool.{eq-eqb, ne_eqb}
use Rattle.std.specs.Prelude.{◌==◌}
use Rattle.orca_meaning.specs.Line.{Line}
use Rattle.macro_meaning.specs.declared.faults.MacroCause.TheVariants.{TooManyLines}
use Rattle.macro_meaning.specs.Visit.{MacroProgram, Visit, Move, Stops, line_at, most_visits}
use Rattle.macro_meaning.specs.laws.Steps.{IsVisitOf, IsVisitAt}
use Rattle.orca_symbols.specs.declared.frames.ExpansionState.{ExpansionState}
use Rattle.orca_symbols.specs.Frame.{frame, stack_of}
use Rattle.orca_symbols.specs.View.{texts_of}
use Rattle.orca_text.specs.View.{line}
use Rattle.orca_macro.specs.declared.next_visit.VisitedLine.{VisitedLine}
use Rattle.orca_macro.specs.declared.visits.Flow.{Flow}
use Rattle.orca_macro.specs.declared.visits.Flow.TheVariants as outcomes
use Rattle.orca_macro.specs.NextVisit.{ExpansionPlace, IsNext, IsFollowed, IsSeen}
use Rattle.orca_macro.specs.StateView.{MovesIn, Visited}
use Rattle.orca_macro.proofs.Moves.{depth_is}

-- the place of a state after `count` visits
abbrev pub place_in : ExpansionState → ℕ → ExpansionPlace
place_in s count = record { scope = frame s.scope; callers = stack_of s.frames; texts = texts_of s.texts; calls = s.calls; count = count }

module _ (program : MacroProgram) (before : List Visit) (v : Visit) (s : ExpansionState) (count : ℕ) (n : IsNext before v (place_in s count)) where
  -- its line is where the state says
  pub here : (o : Option Line) → line_at program s.scope.place s.scope.line ≡ o → line_at program v.macro v.line ≡ o
  here o is = ap (λ (m : Option ℕ). line_at program m v.line) n.stands.macro ∙ ap (λ (k : ℕ). line_at program s.scope.place k) n.stands.line ∙ is

  -- and so deep is its expansion
  pub deep : (depth : ℕ) → depth ≡ length (stack_of s.frames) → depth ≡ v.depth
  deep depth is = is ∙ sym (depth_is before v.depth v.caller (stack_of s.frames) n.stands.callers)

  -- it isn't one too many
  pub not_full : count ≢ 1000000 → (length before == most_visits) ≡ false
  not_full more = ap (λ (k : ℕ). eqb k 1000000) (sym n.count_is) ∙ ne_eqb count 1000000 more

  -- it is one too many
  pub full : (seen : VisitedLine) (at : ExpansionPlace) (out : List Line) → line_at program s.scope.place s.scope.line ≡ Some (line seen.line.now) → count ≡ 1000000 → seen.depth ≡ length (stack_of s.frames)
      → seen.flow ≡ outcomes.Stops TooManyLines → IsSeen program before v seen at out out
  full seen at out is all depth flow =
      let spent : (length before == most_visits) ≡ true = ap (λ (k : ℕ). eqb k 1000000) (sym n.count_is) ∙ eq-eqb count 1000000 all in
      let l = line seen.line.now in
      record {
        given = [];
        move = Stops l TooManyLines;
        is =
            subst (λ (o : Option Line). IsVisitAt program before v o [] (Stops l TooManyLines)) (sym (here (Some l) is))
            (subst (λ (b : Bool). IsVisitOf program before v l b [] (Stops l TooManyLines)) (sym spent) (refl, refl));
        of = here (Some l) is;
        depth = deep seen.depth depth;
        new_is = sym (append-nil out);
        follows = subst (λ (f : Flow). IsFollowed (before ++ v ∷ []) l f (Stops l TooManyLines) at) (sym flow) refl;
      }

  -- what follows it is where the state says
  follows : (of : Line) (flow : Flow) (move : Move) (new : ExpansionState) → count ≢ 1000000 → new.calls ≤ s.calls + 1 → MovesIn move (before ++ v ∷ []) of flow new → IsFollowed (before ++ v ∷ []) of flow move (place_in new (count + 1))
  follows of outcomes.Goes move new more calls m = (
    m.0,
    m.1,
    record {
      stands = m.2;
      count_is = omega (arith, n.count_is, length-append before (v ∷ []));
      few = omega (arith, more, n.few);
      calls = omega (arith, calls, n.calls);
    },
  )
  follows of outcomes.Ends move new more calls m = m
  follows of (outcomes.Stops cause) move new more calls m = m

  -- it is made
  pub made : (seen : VisitedLine) (new : ExpansionState) (old out : List Line) → line_at program s.scope.place s.scope.line ≡ Some (line seen.line.now) → count ≢ 1000000 → seen.depth ≡ length (stack_of s.frames)
      → new.calls ≤ s.calls + 1 → Visited program before v (line seen.line.now) seen.flow new old out → IsSeen program before v seen (place_in new (count + 1)) old out
  made seen new old out is more depth calls vd = record {
    given = vd.given;
    move = vd.move;
    is = vd.is;
    of = here (Some (line seen.line.now)) is;
    depth = deep seen.depth depth;
    new_is = vd.new_is;
    follows = follows (line seen.line.now) seen.flow vd.move new more calls vd.moves;
  }
