-- Going over a body's records as far as a load segment may have them.
use Rattle.std.proofs.Common.{◌≡◌, ℕ, ◌+◌, ◌≤◌, List, [], ◌∷◌, ◌++◌, length, Some, None, Ok, refl, sym, subst, arith}
use Rattle.std.specs.List.{AllByRecursion}
use Rattle.std.proofs.lemmas.List.{length-append}
use Rattle.omf_format.specs.Record.{Record}
use Rattle.omf_format.specs.Reading.{Reader, next_answer, after_next, HandsOut, records_of}
use Rattle.omf_format.specs.laws.FileLaws.{HandsOut-append, ended_at_none}
use Rattle.omf_format.specs.laws.BodyLaws.{records_of-run}
use Rattle.load_meaning.specs.Loadable.{record_refusal}
use Rattle.load_content.specs.Walk.{IsLoadBody}

abbrev IsAllowed : ℕ × Record → Type 0
IsAllowed found = record_refusal found.1 ≡ None

-- records that a load segment may have led from one reader to another, each of a byte at least
pub record Ran (start at : Reader) : Type 0 where
  pub before : List (ℕ × Record)
  pub run : HandsOut start before at
  pub pass : AllByRecursion (λ (found : ℕ × Record). record_refusal found.1 ≡ None) before
  pub few : length before + length at.left ≤ length start.left

all-append : (founds : List (ℕ × Record)) (found : ℕ × Record) → AllByRecursion IsAllowed founds → IsAllowed found → AllByRecursion IsAllowed (founds ++ found ∷ [])
all-append [] found all one = (one, tt)
all-append (f ∷ founds) found all one = (all.0, all-append founds found all.1 one)

pub ran_more : (start at : Reader) (found : ℕ × Record) → Ran start at → next_answer at ≡ Ok (Some found) → record_refusal found.1 ≡ None → length (after_next at).left + 1 ≤ length at.left → Ran start (after_next at)
ran_more start at found ran e allowed less = record {
  before = ran.before ++ found ∷ [];
  run = HandsOut-append start ran.before (found ∷ []) at (after_next at) ran.run (e, refl);
  pass = all-append ran.before found ran.pass allowed;
  few = omega (arith, length-append ran.before (found ∷ []), ran.few);
}

pub is_load_body : (start at : Reader) → Ran start at → next_answer at ≡ Ok None → IsLoadBody start
is_load_body start at ran e =
    let ended = ended_at_none at e in
    let same : records_of start ≡ ran.before = records_of-run start ran.before at ran.run ended (omega (arith, ran.few)) in
    record {
      body = record { last = at; run = subst (λ (l : List (ℕ × Record)). HandsOut start l at) (sym same) ran.run; ended = ended };
      pass = subst (AllByRecursion IsAllowed) (sym same) ran.pass;
    }
