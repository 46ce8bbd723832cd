-- Starts of lines whose label and operation are known.
use Rattle.std.proofs.Common.{◌≡◌, ◌≤◌, ◌<◌, ◌+◌, ◌-◌, ℕ, Bool, true, false, eqb, not, List, [], ◌∷◌, ◌++◌, length, take, drop, Option, Some, None, refl, sym, ap, subst, ◌∙◌, arith, length-drop, length-append}
use Rattle.std.specs.Prelude.{Result, Ok, Err, IfOk, IfSome, nat_lt, is_some, ◌||◌, ◌&&◌}
use Rattle.std.specs.List.{position_or_len, list_all}
use Rattle.std.proofs.lemmas.Bool.{ne_eqb, le-ltb}
use Rattle.std.proofs.lemmas.List.{drop-append-le, take-append-le, length-take}
use Rattle.std.proofs.lemmas.List.Folds.{prefix_len-append, list_all-append}
use Rattle.std.proofs.lemmas.List.Sums.{prefix_len-le-length}
use Rattle.orca_meaning.specs.declared.lines.Span.{Span}
use Rattle.orca_meaning.specs.Characters.{is_blank, folded}
use Rattle.orca_meaning.specs.Line.{LineFields, Line, part, three_fields, is_comment, next_blank, next_ink, span}
use Rattle.orca_meaning.specs.laws.Steps.{is_ink}
use Rattle.macro_meaning.specs.declared.statements.Statement.{Statement}
use Rattle.macro_meaning.specs.Effect.{SymbolSetting, without_sequence_symbol, operation_or_anop, IsDone, IsStatement, IsAfterText, calling_at}
use Rattle.macro_meaning.specs.laws.Steps.{IsDoneBy, IsAfterCut, IsShort, begins_definition}
use Rattle.macro_meaning.specs.Definition.{first_named}
use Rattle.macro_meaning.specs.Statements.{statement_of, sequence_name}
use Rattle.orca_macro.specs.EffectView.{effect_view}
use Rattle.orca_symbols.specs.Template.{BeginWith, text_before}
use Rattle.orca_macro.specs.Head.{HasFields, HasHead, IsHead, MayHaveHead, BeginsSo}
use Rattle.orca_macro.specs.declared.effect.Effect.{Effect}
use Rattle.orca_macro.specs.declared.head.LineHead.{LineHead}
use Rattle.orca_symbols.specs.declared.template.TemplatePart.{TemplatePart}

-- ---- a place that is found in a prefix

first_within : (p : ℕ → Bool) (xs ys : List ℕ) → position_or_len p xs < length xs → position_or_len p (xs ++ ys) ≡ position_or_len p xs
first_within p xs ys within =
    rw (prefix_len-append (λ (x : ℕ). not (p x)) xs ys, ne_eqb (position_or_len p xs) (length xs) (λ e. omega (arith, within, e))) refl

next_within : (p : ℕ → Bool) (at : ℕ) (xs ys : List ℕ) → at + position_or_len p (drop at xs) < length xs → at + position_or_len p (drop at (xs ++ ys)) ≡ at + position_or_len p (drop at xs)
next_within p at xs ys within =
    let few : at ≤ length xs = omega (arith, within) in
    rw (drop-append-le at xs ys few) (ap (λ (n : ℕ). at + n) (first_within p (drop at xs) ys (omega (arith, within, length-drop at xs))))

part_within : (s : Span) (xs ys : List ℕ) → s.from ≤ s.to → s.to ≤ length xs → part (xs ++ ys) s ≡ part xs s
part_within s xs ys order within =
    rw (drop-append-le s.from xs ys (omega (arith, order, within)))
    (take-append-le (s.to - s.from) (drop s.from xs) ys (omega (arith, order, within, length-drop s.from xs)))

-- a prefix in which the operation ends has the label and the operation of every text that begins with it
pub record Same (xs ys : List ℕ) : Type 0 where
  pub label : (three_fields (xs ++ ys)).label ≡ (three_fields xs).label
  pub operation : (three_fields (xs ++ ys)).operation ≡ (three_fields xs).operation

same : (xs ys : List ℕ) → (three_fields xs).operation.to < length xs → Same xs ys
unfolding three_fields
same xs ys within =
    let a : next_blank (xs ++ ys) 0 ≡ next_blank xs 0 = next_within is_blank 0 xs ys (omega (arith, within)) in
    let b : next_ink (xs ++ ys) (next_blank xs 0) ≡ next_ink xs (next_blank xs 0) = next_within is_ink (next_blank xs 0) xs ys (omega (arith, within)) in
    let c : next_blank (xs ++ ys) (next_ink xs (next_blank xs 0)) ≡ next_blank xs (next_ink xs (next_blank xs 0)) = next_within is_blank (next_ink xs (next_blank xs 0)) xs ys within in
    record { label = ap (λ (n : ℕ). span 0 n) a; operation = rw (a, b, c) refl }

label_before : (xs : List ℕ) → (three_fields xs).label.to ≤ (three_fields xs).operation.to
unfolding three_fields
label_before xs = omega arith

operation_order : (xs : List ℕ) → (three_fields xs).operation.from ≤ (three_fields xs).operation.to
unfolding three_fields
operation_order xs = omega arith

label_from : (xs : List ℕ) → (three_fields xs).label.from ≡ 0
unfolding three_fields
label_from xs = refl

operation_part : (xs ys : List ℕ) → (three_fields xs).operation.to < length xs → part (xs ++ ys) (three_fields (xs ++ ys)).operation ≡ part xs (three_fields xs).operation
operation_part xs ys within =
    ap (part (xs ++ ys)) (same xs ys within).operation ∙ part_within (three_fields xs).operation xs ys (operation_order xs) (omega (arith, within))

-- a prefix that is no comment begins none
no_comment : (xs ys : List ℕ) → is_comment xs ≡ false → is_comment (xs ++ ys) ≡ false
no_comment [] ys other = absurd cc
no_comment (x ∷ xs) ys other = by (eqb x 0x2A) (eqb x 0x3B) (eqb x 0x21) (list_all is_blank (x ∷ xs)) (list_all is_blank ys) (list_all-append is_blank (x ∷ xs) ys) other
  where
    by : (a b c d e : Bool) → list_all is_blank ((x ∷ xs) ++ ys) ≡ (d && e) → (a || b || c || d) ≡ false → (a || b || c || list_all is_blank ((x ∷ xs) ++ ys)) ≡ false
    by true b c d e all other = absurd cc
    by false true c d e all other = absurd cc
    by false false true d e all other = absurd cc
    by false false false true e all other = absurd cc
    by false false false false e all other = all

-- ---- what is cut off

-- the sequence symbol of a prefix
record Cuts (xs rest : List ℕ) (n : ℕ) : Type 0 where
  within : n ≤ length xs
  front : drop n xs ≡ rest
  all : (ys : List ℕ) → without_sequence_symbol (xs ++ ys) ≡ drop n (xs ++ ys)

minus_zero : (n : ℕ) → n - 0 ≡ n
minus_zero n = omega arith

label_of : (xs : List ℕ) → part xs (three_fields xs).label ≡ take (next_blank xs 0) xs
unfolding three_fields
label_of xs = ap (λ (n : ℕ). take n xs) (minus_zero (next_blank xs 0))

-- where the label ends in the prefix
label_alike : (xs ys : List ℕ) → next_blank xs 0 < length xs → part (xs ++ ys) (three_fields (xs ++ ys)).label ≡ part xs (three_fields xs).label
label_alike xs ys within =
    label_of (xs ++ ys) ∙ ap (λ (n : ℕ). take n (xs ++ ys)) (next_within is_blank 0 xs ys within) ∙ take-append-le (next_blank xs 0) xs ys (omega (arith, within)) ∙ sym (label_of xs)

cuts_here : (xs rest : List ℕ) (n : ℕ) → next_blank xs 0 < length xs → rest ≡ without_sequence_symbol xs → n ≡ length xs - length rest → Cuts xs rest n
unfolding without_sequence_symbol
cuts_here xs rest n within rest_is n_is = by (is_some (sequence_name label)) refl
  where
    label : List ℕ
    label = part xs (three_fields xs).label

    by : (b : Bool) → is_some (sequence_name label) ≡ b → Cuts xs rest n
    by true is =
        let cut_is : rest ≡ drop (length label) xs = rest_is ∙ rw is refl in
        let few : length label ≤ length xs = omega (arith, ap length (label_of xs), length-take (next_blank xs 0) xs) in
        let size : n ≡ length label = omega (arith, n_is, ap length cut_is, length-drop (length label) xs, few) in
        record {
          within = omega (arith, size, few);
          front = rw size (sym cut_is);
          all = λ ys. rw (label_alike xs ys within, is, size) refl;
        }
    by false is =
        let cut_is : rest ≡ xs = rest_is ∙ rw is refl in
        let size : n ≡ 0 = omega (arith, n_is, ap length cut_is) in
        record {
          within = omega (arith, size);
          front = rw size (sym cut_is);
          all = λ ys. rw (label_alike xs ys within, is, size) refl;
        }

label_to : (xs : List ℕ) → (three_fields xs).label.to ≡ next_blank xs 0
unfolding three_fields
label_to xs = refl

-- the label ends in a prefix in which an operation ends after the sequence symbol
label_ends : (xs rest : List ℕ) → rest ≡ without_sequence_symbol xs → (three_fields rest).operation.to < length rest → next_blank xs 0 < length xs
unfolding without_sequence_symbol
label_ends xs rest rest_is within = by (is_some (sequence_name label)) refl
  where
    label : List ℕ
    label = part xs (three_fields xs).label

    most : next_blank xs 0 ≤ length xs
    most = omega (arith, prefix_len-le-length (λ (x : ℕ). not (is_blank x)) xs)

    by : (b : Bool) → is_some (sequence_name label) ≡ b → next_blank xs 0 < length xs
    by true is =
        let cut_is : rest ≡ drop (length label) xs = rest_is ∙ rw is refl in
        omega (arith, most, within, ap length cut_is, length-drop (length label) xs, ap length (label_of xs), length-take (next_blank xs 0) xs)
    by false is =
        let cut_is : rest ≡ xs = rest_is ∙ rw is refl in
        let same_to : (three_fields rest).operation.to ≡ (three_fields xs).operation.to = ap (λ (t : List ℕ). (three_fields t).operation.to) cut_is in
        omega (arith, most, within, ap length cut_is, same_to, label_before xs, label_to xs)

-- ---- a prefix is a head

some_operation : (operation : List ℕ) → eqb (length operation) 0 ≡ false → operation_or_anop operation ≡ statement_of operation
some_operation [] some = absurd cc
some_operation (byte ∷ following) some = refl

fields_after : (h : LineHead) (rest ys : List ℕ) → (three_fields rest).operation.to < length rest → eqb (length (part rest (three_fields rest).operation)) 0 ≡ false
    → h.label ≡ (three_fields rest).label.to → h.end ≡ (three_fields rest).operation.to → h.operation ≡ folded (part rest (three_fields rest).operation)
    → h.statement ≡ statement_of (part rest (three_fields rest).operation) → HasFields h (rest ++ ys)
fields_after h rest ys within some label_is end_is operation_is statement_is =
    record {
      within = omega (arith, label_is, label_before rest, within, length-append rest ys);
      label = rw ((same rest ys within).label, label_is) (label_take (rest ++ ys) (three_fields rest).label (label_from rest));
      end = ap (λ (s : Span). s.to) (same rest ys within).operation ∙ sym end_is;
      operation = ap folded (operation_part rest ys within) ∙ sym operation_is;
      statement = ap operation_or_anop (operation_part rest ys within) ∙ some_operation (part rest (three_fields rest).operation) some ∙ sym statement_is;
    }
  where
    label_take : (t : List ℕ) (s : Span) → s.from ≡ 0 → part t s ≡ take s.to t
    label_take t s from = rw from (ap (λ (n : ℕ). take n t) (minus_zero s.to))

pub head_is : (h : LineHead) (front rest : List ℕ) (fields : LineFields) (operation : List ℕ) → rest ≡ without_sequence_symbol front → is_comment rest ≡ false → fields ≡ three_fields rest → operation ≡ part rest fields.operation
    → fields.operation.to < length rest → eqb (length operation) 0 ≡ false → h.sequence ≡ length front - length rest → h.label ≡ fields.label.to → h.end ≡ fields.operation.to → h.operation ≡ folded operation
    → h.statement ≡ statement_of operation → IsHead h front
head_is h front rest fields operation rest_is other fields_are operation_is within some sequence_is label_is end_is folded_is statement_is =
    let ends : (three_fields rest).operation.to < length rest = subst (λ (f : LineFields). f.operation.to < length rest) fields_are within in
    let c : Cuts front rest h.sequence = cuts_here front rest h.sequence (label_ends front rest rest_is ends) rest_is sequence_is in
    let part_is : operation ≡ part rest (three_fields rest).operation = operation_is ∙ ap (λ (f : LineFields). part rest f.operation) fields_are in
    let following : (ys : List ℕ) → drop h.sequence (front ++ ys) ≡ rest ++ ys = λ ys. drop-append-le h.sequence front ys c.within ∙ ap (λ (t : List ℕ). t ++ ys) c.front in
    record {
      is = λ ys. record {
        within = omega (arith, c.within, length-append front ys);
        cuts = c.all ys;
        other = ap is_comment (following ys) ∙ no_comment rest ys other;
        fields = subst (HasFields h) (sym (following ys))
            (fields_after h rest ys ends (subst (λ (o : List ℕ). eqb (length o) 0 ≡ false) part_is some) (label_is ∙ ap (λ (f : LineFields). f.label.to) fields_are)
            (end_is ∙ ap (λ (f : LineFields). f.operation.to) fields_are) (folded_is ∙ ap folded part_is) (statement_is ∙ ap statement_of part_is));
      };
    }

-- ---- a line with a head

pub heads_begin : {E : Type 0} (parts : List TemplatePart) (front : List ℕ) (r : Result (Option LineHead) E) → BeginWith parts front → IfOk r (λ (head : Option LineHead). IfSome head (λ (h : LineHead). IsHead h front))
    → IfOk r (λ (head : Option LineHead). BeginsSo parts head)
heads_begin parts front (Err e) begin is = is
heads_begin parts front (Ok None) begin is = record { is = λ text_of text are. tt }
heads_begin parts front (Ok (Some h)) begin is = record { is = λ text_of text are. subst (HasHead h) (sym (begin.is text_of text are)) (is.is (drop (length front) text)) }

pub no_head : (parts : List TemplatePart) → BeginsSo parts None
no_head parts = record { is = λ text_of text are. tt }

pub begins_so : (parts : List TemplatePart) (head : Option LineHead) (text_of : List ℕ → Option (List ℕ)) (text shown : List ℕ) → BeginsSo parts head → text_before text_of parts (Some []) ≡ Some text → shown ≡ text → MayHaveHead head shown
begins_so parts head text_of text shown begin are same = subst (MayHaveHead head) (sym same) (begin.is text_of text are)

pub after_has : (h : LineHead) (text rest : List ℕ) → HasHead h text → rest ≡ drop h.sequence text → HasFields h rest
after_has h text rest head is = subst (HasFields h) (sym is) head.fields

pub statement_ok : {E : Type 0} (s : SymbolSetting) (h : LineHead) (text label operand : List ℕ) (found : Statement) (r : Result Effect E) → HasFields h text → h.statement ≡ Some found → label ≡ take h.label text
    → operand ≡ part text (three_fields text).operand → IfOk r (λ (d : Effect). IsDone s.values found text label operand (effect_view d)) → IfOk r (λ (d : Effect). IsStatement s text (three_fields text) (effect_view d))
statement_ok s h text label operand found (Err e) fields is label_is operand_is done = done
statement_ok s h text label operand found (Ok d) fields is label_is operand_is done =
    subst (λ (o : Option Statement). IsDoneBy s text (three_fields text) o (effect_view d)) (sym (fields.statement ∙ is))
    (subst (λ (l : List ℕ). IsDone s.values found text l (part text (three_fields text).operand) (effect_view d)) (label_is ∙ sym fields.label)
    (subst (λ (o : List ℕ). IsDone s.values found text label o (effect_view d)) operand_is done))

pub call_ok : {E : Type 0} (s : SymbolSetting) (h : LineHead) (text : List ℕ) (r : Result Effect E) → HasFields h text → h.statement ≡ None
    → IfOk r (λ (d : Effect). effect_view d ≡ calling_at s.definitions s.root text (first_named h.operation s.definitions) (take h.label text) (part text (three_fields text).operand))
    → IfOk r (λ (d : Effect). IsStatement s text (three_fields text) (effect_view d))
call_ok s h text (Err e) fields is called = called
call_ok s h text (Ok d) fields is called =
    subst (λ (o : Option Statement). IsDoneBy s text (three_fields text) o (effect_view d)) (sym (fields.statement ∙ is)) (rw (fields.operation, fields.label) called)

short_text : (text : List ℕ) → length text ≤ 255 → nat_lt 255 (length text) ≡ false
short_text text few = le-ltb 255 (length text) few

pub after_cut : {E : Type 0} (s : SymbolSetting) (l : Line) (h : LineHead) (text rest : List ℕ) (r : Result Effect E) → HasHead h text → length text ≤ 255 → begins_definition s l ≡ false → rest ≡ drop h.sequence text
    → IfOk r (λ (d : Effect). IsStatement s rest (three_fields rest) (effect_view d)) → IfOk r (λ (d : Effect). IsShort s l (nat_lt 255 (length text)) text (effect_view d))
after_cut s l h text rest (Err e) head few other rest_is statement = statement
after_cut s l h text rest (Ok d) head few other rest_is statement =
    subst (λ (b : Bool). IsShort s l b text (effect_view d)) (sym (short_text text few))
    (subst (λ (b : Bool). IsAfterText s b text (effect_view d)) (sym other)
    (subst (λ (t : List ℕ). IsAfterCut s (is_comment t) t (effect_view d)) (sym head.cuts)
    (subst (λ (b : Bool). IsAfterCut s b (drop h.sequence text) (effect_view d)) (sym head.other) (subst (λ (t : List ℕ). IsStatement s t (three_fields t) (effect_view d)) rest_is statement))))
