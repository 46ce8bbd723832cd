-- How far a source has been read.
use Rattle.std.proofs.Common.{◌≡◌, ℕ, ◌+◌, ◌≤◌, Bool, true, false, cond, ltb, List, [], ◌∷◌, ◌++◌, length, Option, Some, None, refl, sym, ap, ◌∙◌, append_assoc, append-nil, arith}
use Rattle.std.proofs.lemmas.Bool.{ltb-false}
use Rattle.std.proofs.lemmas.List.{length-append}
use Rattle.omf_format.specs.Lines.{lines_of}
use Rattle.omf_format.specs.laws.LinesLaws.{lines_of-nil}
use Rattle.orca_meaning.specs.declared.lines.TextCause.{TextCause}
use Rattle.orca_meaning.specs.declared.lines.TextCause.TheVariants.{LineTooLong, TooManyLines, BadOperand, BadNumber, Memory}
use Rattle.orca_meaning.specs.Line.{Line, line_of, line_fault, numbered_lines, first_line_fault}
use Rattle.orca_meaning.specs.laws.Steps.{or_later}
use Rattle.orca_text.specs.Refusals.{IsRefused, IsRefusedFor}

-- these lines were read, and the line with this number is the next
pub record HasRead (file : ℕ) (source rest : List ℕ) (number : ℕ) (lines : List Line) : Type 0 where
  pub all : lines ++ numbered_lines file number (lines_of rest) ≡ numbered_lines file 1 (lines_of source)
  pub fault : first_line_fault number (lines_of rest) ≡ first_line_fault 1 (lines_of source)
  pub count : length lines + 1 ≡ number
  pub few : number ≤ 65537

numbered-cons : (file number : ℕ) (text : List ℕ) (texts : List (List ℕ)) → numbered_lines file number (text ∷ texts) ≡ line_of file number text ∷ numbered_lines file (number + 1) texts
unfolding numbered_lines
numbered-cons file number text texts = refl

numbered-nil : (file number : ℕ) → numbered_lines file number [] ≡ []
unfolding numbered_lines
numbered-nil file number = refl

fault-cons : (number : ℕ) (text : List ℕ) (texts : List (List ℕ)) → first_line_fault number (text ∷ texts) ≡ or_later number (line_fault number text) (first_line_fault (number + 1) texts)
unfolding first_line_fault
fault-cons number text texts = refl

fault-nil : (number : ℕ) → first_line_fault number [] ≡ None
unfolding first_line_fault
fault-nil number = refl

-- a line without fault has a number that is allowed
number-le : (number : ℕ) (text : List ℕ) → line_fault number text ≡ None → number ≤ 65536
number-le number text none = by_tests (ltb 255 (length text)) (ltb 65536 number) refl none
  where
    by_tests : (a b : Bool) → ltb 65536 number ≡ b → cond a (Some LineTooLong) (cond b (Some TooManyLines) None) ≡ None → number ≤ 65536
    by_tests true b is e = absurd cc
    by_tests false true is e = absurd cc
    by_tests false false is e = ltb-false 65536 number is

pub read_on : (file : ℕ) (source rest text following : List ℕ) (number : ℕ) (lines new : List Line) → HasRead file source rest number lines
    → lines_of rest ≡ text ∷ lines_of following → line_fault number text ≡ None → new ≡ lines ++ line_of file number text ∷ []
    → HasRead file source following (number + 1) new
read_on file source rest text following number lines new read first none pushed = record {
  all = ap (λ (l : List Line). l ++ numbered_lines file (number + 1) (lines_of following)) pushed ∙ append_assoc lines (line_of file number text ∷ []) (numbered_lines file (number + 1) (lines_of following))
      ∙ ap (λ (l : List Line). lines ++ l) (sym (numbered-cons file number text (lines_of following)) ∙ ap (numbered_lines file number) (sym first)) ∙ read.all;
  fault = sym (ap (λ (f : Option TextCause). or_later number f (first_line_fault (number + 1) (lines_of following))) none) ∙ sym (fault-cons number text (lines_of following))
      ∙ ap (first_line_fault number) (sym first) ∙ read.fault;
  count = omega (arith, read.count, ap length pushed, length-append lines (line_of file number text ∷ []));
  few = omega (arith, number-le number text none);
}

-- the fault of a line is one of two
bad_cause : (number at : ℕ) (text source : List ℕ) (cause : TextCause) → line_fault number text ≡ Some cause → first_line_fault 1 (lines_of source) ≡ Some (at, cause)
    → IsRefusedFor cause at source
bad_cause number at text source cause is first = by_cause cause is first
  where
    neither : (a b : Bool) (c : TextCause) → (c ≡ LineTooLong → ⊥) → (c ≡ TooManyLines → ⊥) → cond a (Some LineTooLong) (cond b (Some TooManyLines) None) ≡ Some c → ⊥
    neither true b c p q e = p cc
    neither false true c p q e = q cc
    neither false false c p q e = absurd cc

    by_cause : (c : TextCause) → line_fault number text ≡ Some c → first_line_fault 1 (lines_of source) ≡ Some (at, c) → IsRefusedFor c at source
    by_cause LineTooLong is first = first
    by_cause TooManyLines is first = first
    by_cause BadOperand is first = neither _ _ BadOperand (λ e. absurd cc) (λ e. absurd cc) is
    by_cause BadNumber is first = neither _ _ BadNumber (λ e. absurd cc) (λ e. absurd cc) is
    by_cause Memory is first = absurd (neither _ _ Memory (λ e. absurd cc) (λ e. absurd cc) is)

pub read_bad : (file : ℕ) (source rest text following : List ℕ) (number : ℕ) (lines : List Line) (cause : TextCause) → HasRead file source rest number lines
    → lines_of rest ≡ text ∷ lines_of following → line_fault number text ≡ Some cause → IsRefused file source (record { cause = cause; file = file; line = number })
read_bad file source rest text following number lines cause read first bad =
    let found : first_line_fault number (text ∷ lines_of following) ≡ Some (number, cause) =
    fault-cons number text (lines_of following) ∙ ap (λ (f : Option TextCause). or_later number f (first_line_fault (number + 1) (lines_of following))) bad in
    record { file_is = refl; cause_is = bad_cause number number text source cause bad (sym read.fault ∙ ap (first_line_fault number) first ∙ found) }

pub read_all : (file : ℕ) (source rest : List ℕ) (number : ℕ) (lines : List Line) → HasRead file source rest number lines → length rest ≡ 0
    → (lines ≡ numbered_lines file 1 (lines_of source)) × (first_line_fault 1 (lines_of source) ≡ None)
read_all file source [] number lines read none =
    let last : numbered_lines file number (lines_of []) ≡ [] = ap (numbered_lines file number) lines_of-nil ∙ numbered-nil file number in
    (sym (append-nil lines) ∙ ap (λ (l : List Line). lines ++ l) (sym last) ∙ read.all, sym read.fault ∙ ap (first_line_fault number) lines_of-nil ∙ fault-nil number)
read_all file source (byte ∷ rest) number lines read none = absurd (omega arith)
