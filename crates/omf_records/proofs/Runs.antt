-- A reader's way from record to record.
use Rattle.std.proofs.Common.{◌≡◌, ℕ, ◌+◌, ◌≤◌, List, [], ◌∷◌, ◌++◌, length, Some, None, Ok, refl, sym, subst, arith}
use Rattle.std.proofs.lemmas.List.{length-append}
use Rattle.omf_format.specs.Record.{Record}
use Rattle.omf_format.specs.Reading.{Reader, next_answer, after_next, HandsOut, records_of, IsBody}
use Rattle.omf_format.specs.laws.FileLaws.{HandsOut-append, ended_at_none}
use Rattle.omf_format.specs.laws.BodyLaws.{records_of-run}

-- some records, each of a byte at least, led from one reader to another
pub record Ran (start at : Reader) : Type 0 where
  pub before : List (ℕ × Record)
  pub run : HandsOut start before at
  pub few : length before + length at.left ≤ length start.left

pub ran_more : (start at : Reader) (found : ℕ × Record) → Ran start at → next_answer at ≡ Ok (Some found) → length (after_next at).left + 1 ≤ length at.left → Ran start (after_next at)
ran_more start at found ran e less = record {
  before = ran.before ++ found ∷ [];
  run = HandsOut-append start ran.before (found ∷ []) at (after_next at) ran.run (e, refl);
  few = omega (arith, length-append ran.before (found ∷ []), ran.few);
}

pub comes_to_end : (start at : Reader) → Ran start at → next_answer at ≡ Ok None → IsBody start
comes_to_end start at ran e =
    let ended = ended_at_none at e in
    let same : records_of start ≡ ran.before = records_of-run start ran.before at ran.run ended (omega (arith, ran.few)) in
    record { last = at; run = subst (λ (l : List (ℕ × Record)). HandsOut start l at) (sym same) ran.run; ended = ended }
