-- Visits and the lines that are shown of them.
use Rattle.std.proofs.Common.{◌≡◌, List, [], ◌∷◌, ◌++◌, Option, Some, None, refl, sym, ap, subst, ◌∙◌, append-nil}
use Rattle.orca_meaning.specs.Line.{Line}
use Rattle.macro_meaning.specs.Visit.{MacroProgram, Visit, Move, On, Ends, Stops, IsVisit, Follow, line_at}
use Rattle.macro_meaning.specs.laws.Steps.{IsVisitAt}
use Rattle.listing_meaning.specs.ListingLaws.{IsEnd, given_by_all, AllAreShown, NoneElseIsShown}
use Rattle.listing_meaning.specs.Seen.{SeenLine, ShowAfter, Show}

-- visits of which these lines are shown
shown_visits : (program : MacroProgram) (before : List Visit) (v : Visit) (seen : List SeenLine) (end : Move) → Show program before v seen end
    → (visits : List Visit) × Follow program before v visits (given_by_all seen) end
shown_visits program before v [] end show = ([], subst (λ (o : Option Line). IsVisitAt program before v o [] end) (sym show.0) (refl, show.1))
shown_visits program before v (first ∷ seen) end show =
    by_move (λ w more. shown_visits program (before ++ v ∷ []) w seen end more) show.1 (subst (λ (w : Visit). IsVisit program before w first.given show.1) show.0 show.2.is) show.3
  where
    alone : seen ≡ [] → first.given ≡ first.given ++ given_by_all seen
    alone none = sym (ap (λ (s : List SeenLine). first.given ++ given_by_all s) none ∙ append-nil first.given)

    by_move : ((w : Visit) → Show program (before ++ v ∷ []) w seen end → (visits : List Visit) × Follow program (before ++ v ∷ []) w visits (given_by_all seen) end) → (move : Move) → IsVisit program before v first.given move → ShowAfter move (λ (w : Visit). Show program (before ++ v ∷ []) w seen end) seen end
        → (visits : List Visit) × Follow program before v visits (first.given ++ given_by_all seen) end
    by_move others (On w) is after =
        let rest = others w after in
        (w ∷ rest.0, (first.given, given_by_all seen, is, refl, rest.1))
    by_move others Ends is after =
        ([], subst (λ (e : Move). IsVisit program before v (first.given ++ given_by_all seen) e) (sym after.1) (subst (λ (given : List Line). IsVisit program before v given Ends) (alone after.0) is))
    by_move others (Stops line cause) is after =
        ([], subst (λ (e : Move). IsVisit program before v (first.given ++ given_by_all seen) e) (sym after.1) (subst (λ (given : List Line). IsVisit program before v given (Stops line cause)) (alone after.0) is))

-- the lines that are shown of visits
record Shown (program : MacroProgram) (before : List Visit) (v : Visit) (given : List Line) (end : Move) : Type 0 where
  seen : List SeenLine
  show : Show program before v seen end
  gives : given_by_all seen ≡ given

visits_shown : (program : MacroProgram) (before : List Visit) (v : Visit) (visits : List Visit) (given : List Line) (end : Move) → Follow program before v visits given end → IsEnd end → Shown program before v given end
visits_shown program before v [] given end is last = by_line (line_at program v.macro v.line) refl is
  where
    after : (e : Move) → IsEnd e → ShowAfter e (λ (w : Visit). Show program (before ++ v ∷ []) w [] e) [] e
    after (On w) none = absurd none
    after Ends none = (refl, refl)
    after (Stops line cause) none = (refl, refl)

    by_line : (o : Option Line) → line_at program v.macro v.line ≡ o → IsVisitAt program before v o given end → Shown program before v given end
    by_line None none is = record { seen = []; show = (none, is.1); gives = sym is.0 }
    by_line (Some line) there is = record {
      seen = record { visit = v; line = line; given = given } ∷ [];
      show = (refl, end, record { of = there; is = subst (λ (o : Option Line). IsVisitAt program before v o given end) (sym there) is }, after end last);
      gives = append-nil given;
    }
visits_shown program before v (w ∷ ws) given end follow last =
    by_line (visits_shown program (before ++ v ∷ []) w ws follow.1 end follow.4 last) (line_at program v.macro v.line) refl follow.2
  where
    by_line : Shown program (before ++ v ∷ []) w follow.1 end → (o : Option Line) → line_at program v.macro v.line ≡ o → IsVisitAt program before v o follow.0 (On w) → Shown program before v given end
    by_line more None none is = absurd cc
    by_line more (Some line) there is = record {
      seen = record { visit = v; line = line; given = follow.0 } ∷ more.seen;
      show = (refl, On w, record { of = there; is = subst (λ (o : Option Line). IsVisitAt program before v o follow.0 (On w)) (sym there) is }, more.show);
      gives = ap (λ (lines : List Line). follow.0 ++ lines) more.gives ∙ sym follow.3;
    }

pub all_are_shown : AllAreShown
all_are_shown program lines end has last =
    let found = visits_shown program [] Rattle.macro_meaning.specs.Visit.first_visit has.visits lines end has.follow last in
    (found.seen, found.show, found.gives)

pub none_else_is_shown : NoneElseIsShown
none_else_is_shown program seen end show =
    let found = shown_visits program [] Rattle.macro_meaning.specs.Visit.first_visit seen end show in
    record { visits = found.0; follow = found.1 }
