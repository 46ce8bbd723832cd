-- The first fault of records, where some were read.
use Rattle.std.proofs.Common.{◌≡◌, ℕ, List, Option, Some, None, sym, ap, ◌∙◌}
use Rattle.std.specs.Prelude.{option_map}
use Rattle.std.specs.Option.{option_or}
use Rattle.omf_format.specs.Record.{Record}
use Rattle.omf_format.specs.Reading.{Reader}
use Rattle.link_meaning.specs.declared.fault.LinkCause.{LinkCause}
use Rattle.link_meaning.specs.LinkFaults.{record_fault}
use Rattle.link_meaning.specs.laws.Steps.{with_place, records_fault}
use Rattle.link_tables.specs.Coming.{Coming, Walks}

-- those so far have none, so the first is that of those that remain
pub record FirstLeft (align : ℕ) (all : List (ℕ × Record)) (at : Reader) : Type 0 where
  pub back : List (ℕ × Record)
  pub coming : Coming at back
  pub whole : records_fault align all ≡ records_fault align back

pub first_end : (align : ℕ) (all : List (ℕ × Record)) (at after : Reader) (f : FirstLeft align all at) → Walks after f.back None → None ≡ records_fault align all
first_end align all at after f w = sym (f.whole ∙ ap (records_fault align) w)

pub first_here : (align : ℕ) (all : List (ℕ × Record)) (at after : Reader) (found : ℕ × Record) (cause : LinkCause) (f : FirstLeft align all at) → Walks after f.back (Some found)
    → record_fault align found.1 ≡ Some cause → Some (cause, found.0) ≡ records_fault align all
first_here align all at after found cause f w e =
    sym (f.whole ∙ ap (records_fault align) w.1 ∙ ap (λ (o : Option LinkCause). option_or (option_map (with_place found.0) o) (records_fault align w.0)) e)

unfoldable pub first_more : (align : ℕ) (all : List (ℕ × Record)) (at after : Reader) (found : ℕ × Record) (f : FirstLeft align all at) → Walks after f.back (Some found)
    → record_fault align found.1 ≡ None → FirstLeft align all after
first_more align all at after found f w e = record {
  back = w.0;
  coming = w.2;
  whole = f.whole ∙ ap (records_fault align) w.1 ∙ ap (λ (o : Option LinkCause). option_or (option_map (with_place found.0) o) (records_fault align w.0)) e;
}
