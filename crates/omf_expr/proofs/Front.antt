-- What `Expr::of` answers, from what reading to the end answers.
use Rattle.std.proofs.Common.{◌≡◌, ℕ, ◌-◌, List, length, get_or, take, drop, Fits, w8, Result, Ok, Err, refl, sym, ap, ◌∙◌}
use Rattle.std.proofs.lemmas.List.{drop_at}
use Rattle.omf_format.specs.declared.fault.Flaw.{Flaw}
use Rattle.omf_format.specs.declared.expression.ExprFault.{ExprFault}
use Rattle.omf_format.specs.Number.{IsBytes}
use Rattle.omf_format.specs.Expression.{BeginsWith, flaw_of, expression_field}
use Rattle.omf_format.specs.laws.TermSteps.{read_all, split_of}
use Rattle.omf_format.specs.laws.ExpressionLaws.{read-all-takes, read-all-again, text_before}

pub are_bytes : (bytes : List ℕ) → ((i : ℕ) → Fits w8 (get_or bytes i 0)) → IsBytes bytes
are_bytes bytes each i = (each i).fits

abbrev pub front : List ℕ → List ℕ → List ℕ
front bytes rest = take (length bytes - length rest) bytes

pub begins : (l : ℕ) (bytes rest : List ℕ) → IsBytes bytes → read_all l bytes ≡ Ok rest → BeginsWith l bytes (front bytes rest)
begins l bytes rest fits read =
    let t = read-all-takes l bytes rest fits read in
    let text = text_before bytes t.0 rest t.2 in
    rw text (record { expression = t.1; rest = rest; parts = t.2 })

-- where an expression is at the start, reading ends after it
pub ends_after : (l : ℕ) (bytes text : List ℕ) (b : BeginsWith l bytes text) → read_all l bytes ≡ Ok b.rest
ends_after l bytes text b = ap (read_all l) b.parts ∙ read-all-again l text b.rest b.expression

pub front_is : (l : ℕ) (bytes rest text : List ℕ) → read_all l bytes ≡ Ok rest → BeginsWith l bytes text → front bytes rest ≡ text
front_is l bytes rest text read b =
    let again = ends_after l bytes text b in
    let same : rest ≡ b.rest = cc in
    ap (front bytes) same ∙ text_before bytes text b.rest b.parts

pub none_begins : (l : ℕ) (bytes text : List ℕ) (fault : ExprFault) → read_all l bytes ≡ Err fault → BeginsWith l bytes text → ⊥
none_begins l bytes text fault read b =
    let again = ends_after l bytes text b in
    absurd cc

pub drop-front : (bytes rest : List ℕ) (l : ℕ) → IsBytes bytes → read_all l bytes ≡ Ok rest → drop (length (front bytes rest)) bytes ≡ rest
drop-front bytes rest l fits read =
    let b = begins l bytes rest fits read in
    let t = read-all-takes l bytes rest fits read in
    let text = text_before bytes t.0 rest t.2 in
    rw text (ap (drop (length t.0)) t.2 ∙ drop_at t.0 rest (length t.0) refl)

abbrev pair : List ℕ → List ℕ → Result (List ℕ × List ℕ) Flaw
pair text rest = Ok (text, rest)

pub field_is : (l : ℕ) (bytes rest : List ℕ) → IsBytes bytes → read_all l bytes ≡ Ok rest → Ok (front bytes rest, drop (length (front bytes rest)) bytes) ≡ expression_field l bytes
unfolding expression_field
field_is l bytes rest fits read = ap (pair (front bytes rest)) (drop-front bytes rest l fits read) ∙ sym (ap (split_of bytes) read)

pub flaw_is : (l : ℕ) (bytes : List ℕ) (fault : ExprFault) → read_all l bytes ≡ Err fault → Err (flaw_of fault) ≡ expression_field l bytes
unfolding expression_field
flaw_is l bytes fault read = sym (ap (split_of bytes) read)
