-- A line that is written with single spaces is read again as its three fields.
use Rattle.std.proofs.Common.{◌≡◌, ℕ, zero, suc, ◌+◌, ◌-◌, Bool, true, false, cond, List, [], ◌∷◌, ◌++◌, length, take, drop, Option, None, refl, sym, ap, subst, ◌∙◌, arith, append_assoc, append-nil, is_none}
use Rattle.std.specs.Prelude.{◌&&◌, slice_index, ◌==◌}
use Rattle.std.specs.List.{AllByRecursion, position_or_len}
use Rattle.std.proofs.lemmas.List.{length-append, drop_at, take_at, append-nil}
use Rattle.orca_meaning.specs.declared.forms.OperandUse.{OperandUse}
use Rattle.orca_meaning.specs.declared.forms.OperandUse.TheVariants.{Never, Accumulator, Signature, Always}
use Rattle.orca_meaning.specs.Characters.{is_blank}
use Rattle.orca_meaning.specs.Operation.{operation_use}
use Rattle.orca_meaning.specs.Quotes.{outside_from, quote_following}
use Rattle.list_meaning.specs.Listed.{statement_text}
use Rattle.orca_meaning.specs.Line.{LineFields, is_comment, next_blank, next_ink, three_fields, operand_span, fields_of, part, span}
use Rattle.orca_meaning.specs.laws.Steps.{is_ink, next_outside}
use Rattle.list_meaning.specs.laws.Steps.{with_leading_space}

-- no blank is among the bytes
abbrev pub HasNoBlank : List ℕ → Type 0
HasNoBlank text = AllByRecursion (λ byte. is_blank byte ≡ false) text

-- what an operation does with this operand
abbrev pub IsTaken : OperandUse → List ℕ → Type 0
IsTaken Never operand = operand ≡ []
IsTaken Accumulator operand = (slice_index operand 0 == 0x3B) ≡ false
IsTaken Signature operand = (slice_index operand 0 == 0x3B) ≡ false
IsTaken Always operand = Unit {0}

abbrev pub IsOperation : List ℕ → Type 0
IsOperation [] = ⊥
IsOperation (byte ∷ operation) = HasNoBlank (byte ∷ operation)

-- ---- where its fields are

blank_at : (front rest : List ℕ) → HasNoBlank front → position_or_len is_blank (front ++ 0x20 ∷ rest) ≡ length front
blank_at [] rest none = refl
blank_at (byte ∷ front) rest none = rw none.0 (omega (arith, blank_at front rest none.1))

no_blank : (front : List ℕ) → HasNoBlank front → position_or_len is_blank front ≡ length front
no_blank [] none = refl
no_blank (byte ∷ front) none = rw none.0 (omega (arith, no_blank front none.1))

all_outside : (quote : Option ℕ) (text : List ℕ) → HasNoBlank text → outside_from is_blank quote text ≡ length text
unfolding outside_from
all_outside quote [] none = refl
all_outside quote (byte ∷ text) none = by (is_none quote) (all_outside (quote_following quote byte) text none.1)
  where
    by : (b : Bool) → outside_from is_blank (quote_following quote byte) text ≡ length text
        → cond (b && is_blank byte) 0 (outside_from is_blank (quote_following quote byte) text + 1) ≡ length (byte ∷ text)
    by true same = rw none.0 (omega (arith, same))
    by false same = omega (arith, same)

-- the fields of such a line
abbrev pub laid_out : List ℕ → List ℕ → List ℕ → LineFields
laid_out label operation operand =
    let a = length label in
    let b = a + 1 in
    let c = b + length operation in
    let d = c + (length (with_leading_space operand) - length operand) in
    record { label = span 0 a; operation = span b c; operand = span d (d + length operand) }

ink_first : (byte : ℕ) (rest : List ℕ) → is_blank byte ≡ false → position_or_len is_ink (byte ∷ rest) ≡ 0
ink_first byte rest none = rw none refl

drop-past : (front rest : List ℕ) (byte : ℕ) → drop (length front + 1) (front ++ byte ∷ rest) ≡ rest
drop-past [] rest byte = refl
drop-past (x ∷ front) rest byte = let more : length (x ∷ front) + 1 ≡ suc (length front + 1) = omega arith in ap (λ (k : ℕ). drop k (x ∷ (front ++ byte ∷ rest))) more ∙ drop-past front rest byte

drop-more : (a b : ℕ) (text : List ℕ) → drop (a + b) text ≡ drop b (drop a text)
drop-more zero b text = let same : 0 + b ≡ b = omega arith in ap (λ (k : ℕ). drop k text) same
drop-more (suc a) b [] = drop-none (suc a + b) ∙ sym (drop-none b)
  where
    drop-none : (k : ℕ) → drop {A = ℕ} k [] ≡ []
    drop-none zero = refl
    drop-none (suc k) = refl
drop-more (suc a) b (byte ∷ text) = let same : suc a + b ≡ suc (a + b) = omega arith in ap (λ (k : ℕ). drop k (byte ∷ text)) same ∙ drop-more a b text

module _ (label operation operand : List ℕ) (label_is : HasNoBlank label) (operation_is : IsOperation operation) (operand_is : HasNoBlank operand) where
  abbrev pub text : List ℕ
  text = statement_text label operation operand

  abbrev pub a : ℕ
  a = length label

  abbrev pub c : ℕ
  c = length operation

  label_end : next_blank text 0 ≡ a
  label_end = let found : position_or_len is_blank text ≡ length label = blank_at label (operation ++ with_leading_space operand) label_is in omega (arith, found)

  after_label : drop (a + 1) text ≡ operation ++ with_leading_space operand
  after_label = drop-past label (operation ++ with_leading_space operand) 0x20

  at_label : drop a text ≡ 0x20 ∷ (operation ++ with_leading_space operand)
  at_label = drop_at label (0x20 ∷ (operation ++ with_leading_space operand)) a refl

  first_ink : (op more : List ℕ) → IsOperation op → position_or_len is_ink (0x20 ∷ (op ++ more)) ≡ 1
  first_ink [] more is = absurd is
  first_ink (byte ∷ op) more is = let here : position_or_len is_ink (byte ∷ (op ++ more)) ≡ 0 = ink_first byte (op ++ more) is.0 in omega (arith, here)

  operation_from : next_ink text a ≡ a + 1
  operation_from = ap (λ (l : List ℕ). a + position_or_len is_ink l) at_label ∙ ap (λ (k : ℕ). a + k) (first_ink operation (with_leading_space operand) operation_is)

  all_ink : (op : List ℕ) → IsOperation op → HasNoBlank op
  all_ink [] is = absurd is
  all_ink (byte ∷ op) is = is

  end_of : (op more : List ℕ) → HasNoBlank op → position_or_len is_blank (op ++ with_leading_space more) ≡ length op
  end_of op [] is = ap (position_or_len is_blank) (append-nil op) ∙ no_blank op is
  end_of op (byte ∷ more) is = blank_at op (byte ∷ more) is

  operation_end : next_blank text (a + 1) ≡ a + 1 + c
  operation_end = ap (λ (l : List ℕ). a + 1 + position_or_len is_blank l) after_label ∙ ap (λ (k : ℕ). a + 1 + k) (end_of operation operand (all_ink operation operation_is))

  after_operation : drop (a + 1 + c) text ≡ with_leading_space operand
  after_operation = drop-more (a + 1) c text ∙ ap (drop c) after_label ∙ drop_at operation (with_leading_space operand) c refl

  abbrev pub gap : ℕ
  gap = length (with_leading_space operand) - length operand

  first_of_operand : (more : List ℕ) → HasNoBlank more → position_or_len is_ink (with_leading_space more) ≡ length (with_leading_space more) - length more
  first_of_operand [] is = refl
  first_of_operand (byte ∷ more) is = let here : position_or_len is_ink (byte ∷ more) ≡ 0 = ink_first byte more is.0 in omega (arith, here)

  operand_from : next_ink text (a + 1 + c) ≡ a + 1 + c + gap
  operand_from = ap (λ (l : List ℕ). a + 1 + c + position_or_len is_ink l) after_operation ∙ ap (λ (k : ℕ). a + 1 + c + k) (first_of_operand operand operand_is)

  dropped : (more : List ℕ) → drop (length (with_leading_space more) - length more) (with_leading_space more) ≡ more
  dropped [] = refl
  dropped (byte ∷ more) = let one : length (with_leading_space (byte ∷ more)) - length (byte ∷ more) ≡ 1 = omega arith in ap (λ (k : ℕ). drop k (0x20 ∷ byte ∷ more)) one

  pub at_operand : drop (a + 1 + c + gap) text ≡ operand
  at_operand = drop-more (a + 1 + c) gap text ∙ ap (drop gap) after_operation ∙ dropped operand

  operand_end : next_outside text (a + 1 + c + gap) ≡ a + 1 + c + gap + length operand
  operand_end = ap (λ (l : List ℕ). a + 1 + c + gap + outside_from is_blank None l) at_operand ∙ ap (λ (k : ℕ). a + 1 + c + gap + k) (all_outside None operand operand_is)

  pub three_are : three_fields text ≡ laid_out label operation operand
  unfolding three_fields
  three_are = rw (label_end, operation_from, operation_end, operand_from, operand_end) refl

-- ---- its fields

-- a label or none: its first byte begins no comment and is no dot
abbrev pub IsLabelFront : List ℕ → Type 0
IsLabelFront [] = Unit {0}
IsLabelFront (byte ∷ label) =
    ((byte == 0x2A) ≡ false) × ((byte == 0x3B) ≡ false) × ((byte == 0x21) ≡ false) × ((byte == 0x2E) ≡ false) × HasNoBlank (byte ∷ label)

label_ink : (label : List ℕ) → IsLabelFront label → HasNoBlank label
label_ink [] is = tt
label_ink (byte ∷ label) is = is.4

pub no_comment : (label operation operand : List ℕ) → IsLabelFront label → IsOperation operation → is_comment (statement_text label operation operand) ≡ false
no_comment label [] operand is op = absurd op
no_comment [] (byte ∷ operation) operand is op = rw op.0 refl
no_comment (first ∷ label) (byte ∷ operation) operand is op = rw (is.0, is.1, is.2, is.4.0) refl

part_at : (front middle rest : List ℕ) (from to : ℕ) → length front ≡ from → from + length middle ≡ to → part (front ++ (middle ++ rest)) (span from to) ≡ middle
part_at front middle rest from to starts ends =
    let size : to - from ≡ length middle = omega (arith, ends) in
    ap (λ (l : List ℕ). take (to - from) l) (drop_at front (middle ++ rest) from starts) ∙ ap (λ (k : ℕ). take k (middle ++ rest)) size ∙ take_at middle rest (length middle) refl

empty_part : (text : List ℕ) (from : ℕ) → part text (span from from) ≡ []
empty_part text from = let none : from - from ≡ 0 = omega arith in ap (λ (k : ℕ). take k (drop from text)) none

-- the fields of the line are these
pub record IsLaid (text label operation operand : List ℕ) (fields : LineFields) : Type 0 where
  pub label_is : part text fields.label ≡ label
  pub operation_is : part text fields.operation ≡ operation
  pub operand_is : part text fields.operand ≡ operand

index_drop : (k : ℕ) (bytes : List ℕ) → slice_index bytes k ≡ slice_index (drop k bytes) 0
index_drop zero bytes = refl
index_drop (suc k) [] = refl
index_drop (suc k) (byte ∷ bytes) = index_drop k bytes

module _ (label operation operand : List ℕ) where
  abbrev pub whole : List ℕ
  whole = statement_text label operation operand

  third : (more : List ℕ) → part (statement_text label operation more) (laid_out label operation more).operand ≡ more
  third [] = ap (λ (k : ℕ). take k (drop (length label + 1 + length operation + 0) (statement_text label operation []))) none
    where
      none : length label + 1 + length operation + 0 + 0 - (length label + 1 + length operation + 0) ≡ 0
      none = omega arith
  third (byte ∷ more) =
      let front = label ++ (0x20 ∷ (operation ++ 0x20 ∷ [])) in
      let same : statement_text label operation (byte ∷ more) ≡ front ++ ((byte ∷ more) ++ []) =
      ap (λ (l : List ℕ). label ++ 0x20 ∷ l) (sym (append_assoc operation (0x20 ∷ []) (byte ∷ more))) ∙ sym (append_assoc label (0x20 ∷ (operation ++ 0x20 ∷ [])) (byte ∷ more)) ∙ ap (λ (l : List ℕ). front ++ l) (sym (append-nil (byte ∷ more))) in
      let size : length front ≡ (laid_out label operation (byte ∷ more)).operand.from = omega (arith, length-append label (0x20 ∷ (operation ++ 0x20 ∷ [])), length-append operation (0x20 ∷ [])) in
      ap (λ (l : List ℕ). part l (laid_out label operation (byte ∷ more)).operand) same
      ∙ part_at front (byte ∷ more) [] (laid_out label operation (byte ∷ more)).operand.from (laid_out label operation (byte ∷ more)).operand.to size refl

  pub laid_three : IsLabelFront label → IsOperation operation → HasNoBlank operand → IsLaid whole label operation operand (three_fields whole)
  laid_three front op none =
      subst (λ (f : LineFields). IsLaid whole label operation operand f) (sym (three_are label operation operand (label_ink label front) op none)) (record {
        label_is = part_at [] label (0x20 ∷ (operation ++ with_leading_space operand)) 0 (length label) refl (omega arith);
        operation_is =
            ap (λ (l : List ℕ). part l (laid_out label operation operand).operation) (sym (append_assoc label (0x20 ∷ []) (operation ++ with_leading_space operand)))
            ∙ part_at (label ++ 0x20 ∷ []) operation (with_leading_space operand) (length label + 1) (length label + 1 + length operation) (omega (arith, length-append label (0x20 ∷ []))) refl;
        operand_is = third operand;
      })

  by_front : (more : List ℕ) (b : Bool) → (b ≡ true → more ≡ []) → (f : LineFields) → f ≡ laid_out label operation more
      → part (statement_text label operation more) (cond b (span f.operand.from f.operand.from) f.operand) ≡ more
  by_front more true none f same = empty_part (statement_text label operation more) f.operand.from ∙ sym (none refl)
  by_front more false none f same = ap (λ (g : LineFields). part (statement_text label operation more) g.operand) same ∙ third more

  taken : (way : OperandUse) (f : LineFields) → f ≡ laid_out label operation operand → drop f.operand.from whole ≡ operand → IsTaken way operand
      → part whole (operand_span way whole f.operand) ≡ operand
  taken Never f same there is = empty_part whole f.operand.from ∙ sym is
  taken Accumulator f same there is = by_front operand (slice_index whole f.operand.from == 0x3B) (λ e. absurd (differs (slice_index whole f.operand.from) e (index_drop f.operand.from whole ∙ ap (λ (l : List ℕ). slice_index l 0) there))) f same
    where
      differs : (byte : ℕ) → (byte == 0x3B) ≡ true → byte ≡ slice_index operand 0 → ⊥
      differs byte e here = let clash : true ≡ false = sym e ∙ ap (λ (x : ℕ). x == 0x3B) here ∙ is in absurd cc
  taken Signature f same there is = by_front operand (slice_index whole f.operand.from == 0x3B) (λ e. absurd (differs (slice_index whole f.operand.from) e (index_drop f.operand.from whole ∙ ap (λ (l : List ℕ). slice_index l 0) there))) f same
    where
      differs : (byte : ℕ) → (byte == 0x3B) ≡ true → byte ≡ slice_index operand 0 → ⊥
      differs byte e here = let clash : true ≡ false = sym e ∙ ap (λ (x : ℕ). x == 0x3B) here ∙ is in absurd cc
  taken Always f same there is = ap (λ (g : LineFields). part whole g.operand) same ∙ third operand

  -- the fields of the line as the assembler reads it
  pub laid : IsLabelFront label → IsOperation operation → HasNoBlank operand → IsTaken (operation_use operation) operand → IsLaid whole label operation operand (fields_of whole)
  unfolding fields_of
  laid front op none is =
      let three = laid_three front op none in
      let same = three_are label operation operand (label_ink label front) op none in
      let there = ap (λ (f : LineFields). drop f.operand.from whole) same ∙ at_operand label operation operand (label_ink label front) op none in
      let used = ap operation_use three.operation_is in
      rw (no_comment label operation operand front op) (record {
        label_is = three.label_is;
        operation_is = three.operation_is;
        operand_is = ap (λ (way : OperandUse). part whole (operand_span way whole (three_fields whole).operand)) used ∙ taken (operation_use operation) (three_fields whole) same there is;
      })
