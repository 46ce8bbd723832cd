-- What lines leave, as it is kept.
use Rattle.std.proofs.Common.{◌≡◌, ℕ, ◌+◌, subst, List, [], ◌∷◌, ◌++◌, length, replicate, true, false, Option, Some, None, refl, sym, ap, ◌∙◌, arith}
use Rattle.std.specs.Prelude.{◌%◌}
use Rattle.omf_format.specs.declared.codes.TheConstants.{DIRECTIVE_LABEL}
use Rattle.omf_format.specs.Expression.{Leaf, Constant}
use Rattle.omf_format.specs.Field.{written_layout}
use Rattle.omf_format.specs.Header.{HeaderFields}
use Rattle.omf_format.specs.Record.{Equate, spelling}
use Rattle.asm_meaning.specs.declared.directives.Class.{Class}
use Rattle.asm_meaning.specs.Formulas.{expression_text}
use Rattle.asm_meaning.specs.Object.{records_text, object_text}
use Rattle.asm_meaning.specs.Pieces.{place_after}
use Rattle.asm_meaning.specs.State.{StartedSegment, FinishedSegment, State, start, no_constants, kind_of, bank_size_of, header_of, state_after_end, cells_of, in_segment}
use Rattle.asm_meaning.specs.laws.Steps.{ended_of}
use Rattle.std.specs.Option.{option_map}
use Rattle.std.proofs.lemmas.List.{length-append}
use Rattle.asm_meaning.specs.Statement.{equate}
use Rattle.orca_operands.specs.declared.names.OutsideConstants.{OutsideConstants}
use Rattle.orca_operands.specs.declared.record_bytes.RecordBytes.{RecordBytes}
use Rattle.orca_object.specs.EquateView.{with_constant}
use Rattle.orca_operands.specs.NamesView.{outside_of}
use Rattle.orca_object.specs.StateView.{ShowsState, ShowsOption, ShowsSegment, header_view}
use Rattle.orca_object.specs.EndView.{ended_header}
use Rattle.orca_object.specs.declared.state.OpenSegment.{OpenSegment}
use Rattle.orca_operands.specs.TextView.{text_within_limit, kept_text}
use Rattle.orca_object.proofs.Bodies.{records_text-one, cells-one}

abbrev header_with : Class → List ℕ → List ℕ → ℕ → ℕ → ℕ → ℕ → HeaderFields
header_with class name load_name kind org align number = record {
  byte_count = 0;
  res_spc = 0;
  length = 0;
  lab_len = 0;
  version = 2;
  bank_size = bank_size_of class;
  kind = kind;
  org = org;
  align = align;
  seg_num = number;
  entry = 0;
  disp_name = 0;
  disp_data = 0;
  load_name = load_name;
  name = name;
}

pub no_records : text_within_limit (records_text []) ≡ text_within_limit []
unfolding records_text
no_records = refl

no_object : text_within_limit (object_text []) ≡ text_within_limit []
unfolding object_text
no_object = refl

pub no_cells : place_after 0 [] ≡ 0
unfolding place_after
no_cells = refl

pub shows_start : (outside : OutsideConstants) (front object : RecordBytes) → outside_of outside ≡ no_constants → kept_text front ≡ text_within_limit [] → kept_text object ≡ text_within_limit []
    → ShowsState start (record { widths = record { long_a = true; long_i = true }; msb = false; outside = outside; org = 0; align = 0; front = front; segment = None; number = 1; object = object })
shows_start outside front object none first all = record {
  widths = refl;
  msb = refl;
  outside = none;
  org = refl;
  align = refl;
  front = first ∙ sym no_records;
  waiting = no_cells;
  segment = tt;
  number = refl;
  object = all ∙ sym no_object;
}

-- ---- a constant from outside

pub constant_more : (state : State) (old new : RecordBytes) (name : List ℕ) (n : ℕ) (expr : List ℕ) → expr ≡ expression_text (Leaf (Constant n)) → kept_text old ≡ text_within_limit (records_text state.front)
    → ((text : List ℕ) → kept_text old ≡ text_within_limit text → kept_text new ≡ text_within_limit (text ++ spelling written_layout (Equate true name 0 DIRECTIVE_LABEL 0 expr)))
    → kept_text new ≡ text_within_limit (records_text (with_constant name n state).front)
constant_more state old new name n expr is shows put =
    put (records_text state.front) shows ∙ ap (λ (e : List ℕ). text_within_limit (records_text state.front ++ spelling written_layout (Equate true name 0 DIRECTIVE_LABEL 0 e))) is
    ∙ ap text_within_limit (sym (records_text-one state.front (equate true name (Leaf (Constant n)))))

pub constant_waits : (state : State) (name : List ℕ) (n : ℕ) → place_after 0 state.front ≡ 0 → place_after 0 (with_constant name n state).front ≡ 0
constant_waits state name n none = omega (arith, cells-one 0 state.front (equate true name (Leaf (Constant n))), none)

-- ---- a segment begins

pub header_begun : (state : State) (class : Class) (name load_name : List ℕ) (kind org align number : ℕ) → kind ≡ kind_of class → org ≡ state.org → align ≡ state.align → number ≡ (length state.ended + 1) % 0x10000
    → header_of state class name load_name ≡ header_with class name load_name kind org align number
header_begun state class name load_name kind org align number k o a n =
    sym (ap (λ (x : ℕ). header_with class name load_name x org align number) k ∙ ap (λ (x : ℕ). header_with class name load_name (kind_of class) x align number) o
    ∙ ap (λ (x : ℕ). header_with class name load_name (kind_of class) state.org x number) a ∙ ap (λ (x : ℕ). header_with class name load_name (kind_of class) state.org state.align x) n)

-- ---- a segment ends

pub ended_shows : (state : State) (change : StartedSegment → StartedSegment) (k : Option OpenSegment) (o last : OpenSegment) (number next : ℕ) (object new text : RecordBytes) (f : HeaderFields) → ShowsOption state.segment k → k ≡ Some o
    → ((s : StartedSegment) → ShowsSegment s o → ShowsSegment (change s) last) → f ≡ ended_header last → text ≡ last.body.writer.text
    → ((segments : List FinishedSegment) (e : FinishedSegment) → e.header ≡ f → kept_text text ≡ text_within_limit (replicate (0x37 + length e.header.name) 0 ++ records_text e.body) → kept_text object ≡ text_within_limit (object_text segments) → kept_text new ≡ text_within_limit (object_text (segments ++ e ∷ [])))
    → kept_text object ≡ text_within_limit (object_text state.ended) → number ≡ (length state.ended + 1) % 0x10000 → next ≡ (number + 1) % 0x10000
    → (next ≡ (length (state_after_end (in_segment change state)).ended + 1) % 0x10000) × (kept_text new ≡ text_within_limit (object_text (state_after_end (in_segment change state)).ended))
ended_shows state change k o last number next object new text f shown is changes header same put before n m = by_segment state.segment (subst (ShowsOption state.segment) is shown)
  where
    ended : StartedSegment → FinishedSegment
    ended s = record { header = record (change s).header { length = cells_of (change s) }; body = (change s).body }

    by_segment : (found : Option StartedSegment) → ShowsOption found (Some o)
        → (next ≡ (length (state.ended ++ ended_of (option_map change found)) + 1) % 0x10000) × (kept_text new ≡ text_within_limit (object_text (state.ended ++ ended_of (option_map change found))))
    by_segment None shows = absurd shows
    by_segment (Some s) shows =
        let then = changes s shows in
        let fields_are : (ended s).header ≡ f =
        ap (λ (h : HeaderFields). record h { length = cells_of (change s) }) then.header ∙ ap (λ (c : ℕ). record (header_view last) { length = c }) (sym then.body.cells) ∙ sym header in (
          omega (arith, n, m, length-append state.ended (ended s ∷ [])),
          put state.ended (ended s) fields_are (ap kept_text same ∙ then.body.text) before,
        )
