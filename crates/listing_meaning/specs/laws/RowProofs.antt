-- The rows of a source are those of its object.
use Rattle.std.proofs.Common.{◌≡◌, ◌≤◌, ℕ, List, [], ◌∷◌, ◌++◌, length, Option, refl, sym, ap, subst, ◌∙◌, append_assoc, append-nil}
use Rattle.std.specs.List.{flat_map}
use Rattle.std.proofs.lemmas.Grind.{flat_map-append}
use Rattle.omf_format.specs.Record.{Record}
use Rattle.orca_meaning.specs.Line.{Line}
use Rattle.macro_meaning.specs.Expansion as expansion
use Rattle.macro_meaning.specs.Expansion.{IsExpanded, AreGoodFiles, program_of, fault_at}
use Rattle.macro_meaning.specs.Visit.{Ends, Stops, first_visit}
use Rattle.asm_meaning.specs.Object.{AreSteps, most_bytes}
use Rattle.asm_meaning.specs.State.{StartedSegment, State, start}
use Rattle.source_meaning.specs.Object as sources
use Rattle.source_meaning.specs.Object.{HasLines, HasBadLine}
use Rattle.listing_meaning.specs.Given.{open_records, records_of_ended, records_in, given_records}
use Rattle.listing_meaning.specs.Listing.{row_text, segment_line, HasBadRow, InText, InDefinition, InVisit, InLine, InSegment, InLength}
use Rattle.listing_meaning.specs.ListingLaws.{given_by_all, EachObjectIsListed, RowsGiveObject, FaultIsFirst}
use Rattle.listing_meaning.specs.Rows.{Row, row_of, AreRows, IsListed}
use Rattle.listing_meaning.specs.Seen.{SeenLine, Show}
use Rattle.listing_meaning.specs.laws.GivenProofs.{given_are, steps_grow}
use Rattle.listing_meaning.specs.laws.SeenProofs.{all_are_shown, none_else_is_shown}

-- ---- steps

steps_join : (state middle last : State) (a b : List Line) → AreSteps state a middle → AreSteps middle b last → AreSteps state (a ++ b) last
steps_join state middle last [] b p q = subst (λ (s : State). AreSteps s b last) (sym p) q
steps_join state middle last (line ∷ a) b p q = (p.0, p.1, steps_join p.0 middle last a b p.2 q)

steps_part : (state last : State) (a b : List Line) → AreSteps state (a ++ b) last → (middle : State) × AreSteps state a middle × AreSteps middle b last
steps_part state last [] b p = (state, refl, p)
steps_part state last (line ∷ a) b p = let rest = steps_part p.0 last a b p.2 in (rest.0, (p.0, p.1, rest.1), rest.2)

-- ---- rows

rows_step : (state last : State) (seen : List SeenLine) (rows : List Row) → AreRows state seen rows last → AreSteps state (given_by_all seen) last
rows_step state last [] [] are = are
rows_step state last [] (row ∷ rows) are = absurd are
rows_step state last (first ∷ seen) [] are = absurd are
rows_step state last (first ∷ seen) (row ∷ rows) are = steps_join state are.0 last first.given (given_by_all seen) are.1 (rows_step are.0 last seen rows are.3)

steps_rows : (state last : State) (seen : List SeenLine) → AreSteps state (given_by_all seen) last → (rows : List Row) × AreRows state seen rows last
steps_rows state last [] steps = ([], steps)
steps_rows state last (first ∷ seen) steps =
    let one = steps_part state last first.given (given_by_all seen) steps in
    let rest = steps_rows one.0 last seen one.2 in
    (row_of state one.0 first ∷ rest.0, (one.0, one.1, refl, rest.1))

-- the records of rows
abbrev records_of_rows : List Row → List Record
records_of_rows rows = flat_map (λ (row : Row). row.records) rows

rows_records : (state last : State) (seen : List SeenLine) (rows : List Row) → AreRows state seen rows last → records_in last ≡ records_in state ++ records_of_rows rows
rows_records state last [] [] are = ap records_in (sym are) ∙ sym (append-nil (records_in state))
rows_records state last [] (row ∷ rows) are = absurd are
rows_records state last (first ∷ seen) [] are = absurd are
rows_records state last (first ∷ seen) (row ∷ rows) are =
    rows_records are.0 last seen rows are.3
    ∙ ap (λ (r : List Record). r ++ records_of_rows rows) (given_are state are.0 (steps_grow state are.0 first.given are.1))
    ∙ append_assoc (records_in state) (given_records state are.0) (records_of_rows rows)
    ∙ ap (λ (r : List Record). records_in state ++ (r ++ records_of_rows rows)) (sym (ap (λ (x : Row). x.records) are.2))

-- ---- sources

module _ (source : List ℕ) (macros : List (List ℕ)) where
  expanded : AreGoodFiles source macros → (seen : List SeenLine) → Show (program_of source macros) [] first_visit seen Ends → IsExpanded source macros (given_by_all seen)
  expanded good seen show = record { good = good; visited = none_else_is_shown (program_of source macros) seen Ends show }

  has_lines : (rows : List Row) (last : State) → IsListed source macros rows last → HasLines source macros last
  has_lines rows last listed = record {
    lines = given_by_all listed.seen;
    expanded = expanded listed.good listed.seen listed.show;
    steps = rows_step start last listed.seen rows listed.are;
  }

  bad_line : (bad : Line) (cause : Rattle.asm_meaning.specs.declared.faults.AsmCause.AsmCause) (text : List ℕ) → HasBadRow source macros bad cause text → HasBadLine source macros bad cause
  bad_line bad cause text has = record {
    before = given_by_all has.before;
    following = given_by_all has.following;
    last = has.last;
    expanded = subst (IsExpanded source macros) lines_are (expanded has.good (has.before ++ has.wrong ∷ has.following) has.show);
    steps = rows_step start has.last has.before has.rows has.are;
    wrong = has.faulty;
  }
    where
      lines_are : given_by_all (has.before ++ has.wrong ∷ has.following) ≡ given_by_all has.before ++ bad ∷ given_by_all has.following
      lines_are =
          flat_map-append (λ (s : SeenLine). s.given) has.before (has.wrong ∷ has.following)
          ∙ ap (λ (lines : List Line). given_by_all has.before ++ (lines ++ given_by_all has.following)) has.gives

pub each_object_is_listed : EachObjectIsListed
each_object_is_listed source macros object is =
    let has = is.has in
    let shown = all_are_shown (program_of source macros) has.lines Ends has.expanded.visited tt in
    let rows = steps_rows start is.last shown.0 (subst (λ (lines : List Line). AreSteps start lines is.last) (sym shown.2) has.steps) in (
      flat_map row_text rows.0 ++ flat_map segment_line is.last.ended,
      record {
        rows = rows.0;
        last = is.last;
        listed = record { good = has.expanded.good; seen = shown.0; show = shown.1; are = rows.1 };
        ended = is.ended;
        fits = subst (λ (text : List ℕ). length text ≤ most_bytes) is.text is.fits;
        is = refl;
      },
    )

pub rows_give_object : RowsGiveObject
rows_give_object source macros rows last listed none =
    let all : records_in last ≡ records_of_rows rows = rows_records start last listed.seen rows listed.are in (
      has_lines source macros rows last listed,
      sym all ∙ ap (λ (o : Option StartedSegment). records_of_ended last.ended ++ open_records o) none ∙ append-nil (records_of_ended last.ended),
    )

pub fault_is_first : FaultIsFirst
fault_is_first source macros fault text (InText found first is text_is) = sources.InExpansion found (expansion.InText first) is
fault_is_first source macros fault text (InDefinition found good first is text_is) = sources.InExpansion found (expansion.InDefinition good first) is
fault_is_first source macros fault text (InVisit good seen of cause show is text_is) =
    sources.InExpansion (fault_at of cause)
    (expansion.InVisit good of cause (record { given = given_by_all seen; visited = none_else_is_shown (program_of source macros) seen (Stops of cause) show }) refl) is
fault_is_first source macros fault text (InLine bad cause has is) = sources.InLine bad cause (bad_line source macros bad cause text has) is
fault_is_first source macros fault text (InSegment rows last s listed open_ is text_is) = sources.InSegment last s (has_lines source macros rows last listed) open_ is
fault_is_first source macros fault text (InLength rows last listed ended long is text_is) = sources.InLength last (has_lines source macros rows last listed) ended long is
