-- A reader comes to END, or to a record that stops it, or to a fault.
use Rattle.std.proofs.Common.{◌≡◌, ℕ, zero, suc, ◌<◌, true, List, [], ◌∷◌, length, Option, Some, None, Result, Ok, Err, refl, sym, ap, subst, arith}
use Rattle.std.specs.List.{AllByRecursion}
use Rattle.std.proofs.lemmas.List.{length-append}
use Rattle.omf_format.specs.declared.fault.RecordFault.{RecordFault}
use Rattle.omf_format.specs.Number.{IsBytes}
use Rattle.omf_format.specs.Record.{Record, spelling}
use Rattle.omf_format.specs.Reading.{Reader, next_answer, after_next, HandsOut}
use Rattle.omf_format.specs.laws.RecordLaws.{front-takes}
use Rattle.omf_format.specs.laws.FileLaws.{ended_at_none}
use Rattle.omf_format.specs.laws.BodyLaws.{found_by, spelling-some}

-- what a reader comes to, where some records stop it
pub data Comes {C : Type 0} (stop : Record → Option C) (r : Reader) : Type 0 where
  Ends : (founds : List (ℕ × Record)) (last : Reader) → HandsOut r founds last → last.ended ≡ true
      → AllByRecursion (λ found. stop found.1 ≡ None) founds → Comes stop r
  Stops : (before : List (ℕ × Record)) (reader : Reader) (found : ℕ × Record) (why : C) → HandsOut r before reader
      → AllByRecursion (λ found. stop found.1 ≡ None) before → next_answer reader ≡ Ok (Some found) → stop found.1 ≡ Some why → Comes stop r
  Fails : (before : List (ℕ × Record)) (reader : Reader) (fault : RecordFault) → HandsOut r before reader
      → AllByRecursion (λ found. stop found.1 ≡ None) before → next_answer reader ≡ Err fault → Comes stop r

-- one record before
one_before : {C : Type 0} (stop : Record → Option C) (r : Reader) (found : ℕ × Record) → next_answer r ≡ Ok (Some found) → stop found.1 ≡ None
    → Comes stop (after_next r) → Comes stop r
one_before stop r found is passes (Ends founds last run ended all) = Ends (found ∷ founds) last (is, run) ended (passes, all)
one_before stop r found is passes (Stops before reader other why run all next stops) = Stops (found ∷ before) reader other why (is, run) (passes, all) next stops
one_before stop r found is passes (Fails before reader fault run all next) = Fails (found ∷ before) reader fault (is, run) (passes, all) next

-- a record has a byte at least
pub shorter_after : (r : Reader) (found : ℕ × Record) → IsBytes r.left → next_answer r ≡ Ok (Some found)
    → IsBytes (after_next r).left × (length (after_next r).left < length r.left)
shorter_after r found fits is =
    let f = found_by r found is in
    let takes = front-takes r.layout r.left (found.1, f.rest) fits f.front' in
    let parts = ap length takes.taken.parts in (
      subst IsBytes (sym f.left) takes.taken.rest_fits,
      omega (arith, ap length f.left, parts, length-append (spelling r.layout found.1) f.rest, spelling-some r.layout found.1),
    )

-- every reader with fewer bytes comes to something
abbrev ShorterComes : {C : Type 0} → (Record → Option C) → ℕ → Type 0
ShorterComes stop n = (next : Reader) → IsBytes next.left → length next.left < n → Comes stop next

come_within : {C : Type 0} (stop : Record → Option C) (n : ℕ) (r : Reader) → IsBytes r.left → length r.left < n → Comes stop r
come_within stop zero r fits small = absurd (omega arith)
come_within {C = C} stop (suc n) r fits small = by_answer (λ (next : Reader) its less. come_within stop n next its less) (next_answer r) refl
  where
    by_stop : ShorterComes stop n → (found : ℕ × Record) (stops : Option C) → next_answer r ≡ Ok (Some found) → stop found.1 ≡ stops → Comes stop r
    by_stop later found (Some why) is e = Stops [] r found why refl tt is e
    by_stop later found None is e =
        let rest = shorter_after r found fits is in
        one_before stop r found is e (later (after_next r) rest.0 (omega (arith, rest.1)))

    by_answer : ShorterComes stop n → (answer : Result (Option (ℕ × Record)) RecordFault) → next_answer r ≡ answer → Comes stop r
    by_answer later (Err fault) is = Fails [] r fault refl tt is
    by_answer later (Ok None) is = Ends [] r refl (ended_at_none r is) tt
    by_answer later (Ok (Some found)) is = by_stop later found (stop found.1) is refl

-- a reader comes to END, to a record that stops it, or to a fault
pub reader_comes : {C : Type 0} (stop : Record → Option C) (r : Reader) → IsBytes r.left → Comes stop r
reader_comes stop r fits = come_within stop (suc (length r.left)) r fits (omega arith)
