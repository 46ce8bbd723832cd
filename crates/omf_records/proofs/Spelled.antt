-- The laws of records, from those of the definitions.
use Rattle.std.proofs.Common.{◌≡◌, ℕ, List, Result, Ok, sym, ap, ◌∙◌}
use Rattle.omf_format.specs.declared.fault.Flaw.{Flaw}
use Rattle.omf_format.specs.Record.{Record}
use Rattle.omf_format.specs.laws.RecordLaws.{front-takes, front-again}
use Rattle.omf_format.specs.Reading.{first_record}
use Rattle.omf_records.specs.Laws.{ReadIsSpelled, SpelledIsRead, NoneBeginsAnother}

pub read_is_spelled : ReadIsSpelled
read_is_spelled layout bytes rest r fits e =
    let takes = front-takes layout bytes (r, rest) fits e in
    (takes.record', takes.taken.parts)

pub spelled_is_read : SpelledIsRead
spelled_is_read = front-again

abbrev read_as : Record × List ℕ → Result (Record × List ℕ) Flaw
read_as found = Ok found

same_found : (a b : Record × List ℕ) → read_as a ≡ read_as b → a ≡ b
same_found a b e = cc

pub none_begins_another : NoneBeginsAnother
none_begins_another layout a b x y fits_a fits_b same =
    let both : read_as (a, x) ≡ read_as (b, y) = sym (front-again layout a x fits_a) ∙ ap (first_record layout) same ∙ front-again layout b y fits_b in
    let pair = same_found (a, x) (b, y) both in
    (ap (λ (p : Record × List ℕ). p.0) pair, ap (λ (p : Record × List ℕ). p.1) pair)
