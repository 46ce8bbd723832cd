-- A table written entry by entry.
use Rattle.std.proofs.Common.{◌≡◌, ℕ, zero, suc, ◌+◌, ◌-◌, ◌*◌, ◌<◌, ◌≤◌, List, [], ◌∷◌, ◌++◌, length, take, drop, map, replicate, Some, None, refl, sym, ap, ◌∙◌, arith, append_assoc, append-nil}
use Rattle.std.specs.Prelude.{slice_get}
use Rattle.std.specs.List.{flat_map}
use Rattle.std.proofs.lemmas.Option.{same_Some}
use Rattle.std.proofs.lemmas.Grind.{flat_map-append}
use Rattle.std.proofs.lemmas.List.{take_at, take_all, length-append, length-replicate, drop-replicate, replicate-append-replicate, map-append, drop_at, drop-drop, length-take-le, length-drop}
use Rattle.omf_io.specs.Counts.{IsFront}
use Rattle.load_meaning.specs.declared.table.Target.{Target}
use Rattle.load_meaning.specs.Table.{entry_bytes, table_bytes, written_at}
use Rattle.load_meaning.specs.laws.TableLaws.{length-entry_bytes}
use Rattle.loader_users.specs.Filling.{own_entry}

abbrev entries : ℕ → List Target → List ℕ
entries user ts = flat_map entry_bytes (map (own_entry user) ts)

length-entries : (user : ℕ) (ts : List Target) → length (entries user ts) ≡ 14 * length ts
length-entries user [] = refl
length-entries user (t ∷ ts) =
    length-append (entry_bytes (own_entry user t)) (entries user ts) ∙ omega (arith, length-entry_bytes (own_entry user t), length-entries user ts)

-- the first `k` entries follow 8 zeros, and zeros follow them
pub record Entered (user : ℕ) (ts : List Target) (k : ℕ) (out : List ℕ) : Type 0 where
  pub few : k ≤ length ts
  pub rest : ℕ
  pub size : 8 + 14 * k + rest ≡ length out
  pub is : out ≡ (replicate 8 0 ++ entries user (take k ts)) ++ replicate rest 0

pub entered_none : (user : ℕ) (ts : List Target) (size : ℕ) → 12 + 14 * length ts ≤ size → Entered user ts 0 (replicate size 0)
entered_none user ts size room = record {
  few = omega arith;
  rest = size - 8;
  size = omega (arith, room, length-replicate {A = ℕ} size 0);
  is =
      let sum : 8 + (size - 8) ≡ size = omega (arith, room) in
      ap (λ (n : ℕ). replicate n 0) (sym sum) ∙ sym (replicate-append-replicate 8 (size - 8) 0)
      ∙ ap (λ (l : List ℕ). l ++ replicate (size - 8) 0) (sym (append-nil (replicate 8 0)));
}

take_next : (ts : List Target) (i : ℕ) (t : Target) → slice_get ts i ≡ Some t → take (suc i) ts ≡ take i ts ++ t ∷ []
take_next [] i t is = absurd cc
take_next (d ∷ ts) zero t is = ap (λ (x : Target). x ∷ []) (same_Some d t is)
take_next (d ∷ ts) (suc i) t is = ap (λ (l : List Target). d ∷ l) (take_next ts i t is)

put_next : (front piece : List ℕ) (rest at : ℕ) → length front ≡ at → length piece ≤ rest
    → written_at at piece (front ++ replicate rest 0) ≡ (front ++ piece) ++ replicate (rest - length piece) 0
put_next front piece rest at long room =
    ap (λ (l : List ℕ). l ++ (piece ++ drop (at + length piece) (front ++ replicate rest 0))) (take_at front (replicate rest 0) at long)
    ∙ ap (λ (l : List ℕ). front ++ (piece ++ l)) (following ∙ drop-replicate (length piece) rest 0)
    ∙ sym (append_assoc front piece (replicate (rest - length piece) 0))
  where
    following : drop (at + length piece) (front ++ replicate rest 0) ≡ drop (length piece) (replicate rest 0)
    following = sym (drop-drop (length piece) at (front ++ replicate rest 0)) ∙ ap (drop (length piece)) (drop_at front (replicate rest 0) at long)

length-front : (user : ℕ) (ts : List Target) (k : ℕ) → k ≤ length ts → length (replicate 8 0 ++ entries user (take k ts)) ≡ 8 + 14 * k
length-front user ts k few =
    let size : length (take k ts) ≡ k = taken ts k few in
    length-append (replicate 8 0) (entries user (take k ts)) ∙ omega (arith, length-entries user (take k ts), size)
  where
    taken : (xs : List Target) (n : ℕ) → n ≤ length xs → length (take n xs) ≡ n
    taken xs zero le = refl
    taken [] (suc n) le = absurd (omega (arith, le))
    taken (x ∷ xs) (suc n) le = ap suc (taken xs n (omega (arith, le)))

inside_get : (ts : List Target) (k : ℕ) (t : Target) → slice_get ts k ≡ Some t → k < length ts
inside_get [] k t is = absurd cc
inside_get (x ∷ ts) zero t is = omega arith
inside_get (x ∷ ts) (suc k) t is = omega (arith, inside_get ts k t is)

pub entered_more : (user : ℕ) (ts : List Target) (k : ℕ) (out : List ℕ) (t : Target) → 12 + 14 * length ts ≤ length out → slice_get ts k ≡ Some t → Entered user ts k out
    → Entered user ts (k + 1) (written_at (8 + 14 * k) (entry_bytes (own_entry user t)) out)
entered_more user ts k out t room has so_far =
    let piece = entry_bytes (own_entry user t) in
    let size : length piece ≡ 14 = length-entry_bytes (own_entry user t) in
    let inside = inside_get ts k t has in
    let more : k + 1 ≡ suc k = omega arith in
    let front = replicate 8 0 ++ entries user (take k ts) in
    let long = length-front user ts k so_far.few in
    let made : written_at (8 + 14 * k) piece out ≡ (front ++ piece) ++ replicate (so_far.rest - length piece) 0 =
    ap (written_at (8 + 14 * k) piece) so_far.is ∙ put_next front piece so_far.rest (8 + 14 * k) long (omega (arith, size, room, so_far.size, inside)) in
    let next : front ++ piece ≡ replicate 8 0 ++ entries user (take (k + 1) ts) =
    append_assoc (replicate 8 0) (entries user (take k ts)) piece
    ∙ ap (λ (l : List ℕ). replicate 8 0 ++ l) (
    ap (λ (l : List ℕ). entries user (take k ts) ++ l) (sym (append-nil piece))
    ∙ sym (flat_map-append entry_bytes (map (own_entry user) (take k ts)) (own_entry user t ∷ []))
    ∙ ap (flat_map entry_bytes) (sym (map-append (own_entry user) (take k ts) (t ∷ [])))
    ∙ ap (λ (l : List Target). entries user l) (sym (take_next ts k t has))
    ∙ ap (λ (n : ℕ). entries user (take n ts)) (sym more)) in
    record {
      few = omega (arith, inside);
      rest = so_far.rest - length piece;
      size = omega (arith, size, room, so_far.size, inside, ap length made, length-append (front ++ piece) (replicate (so_far.rest - length piece) 0), length-append front piece, long, length-replicate {A = ℕ} (so_far.rest - length piece) 0);
      is = made ∙ ap (λ (l : List ℕ). l ++ replicate (so_far.rest - length piece) 0) next;
    }

-- where all are there, the bytes begin with the table
pub entered_all : (user : ℕ) (ts : List Target) (k : ℕ) (out : List ℕ) → 12 + 14 * length ts ≤ length out → length ts ≤ k → Entered user ts k out → IsFront (table_bytes (map (own_entry user) ts)) out
unfolding table_bytes
entered_all user ts k out room all so_far =
    let same : k ≡ length ts = omega (arith, all, so_far.few) in
    let left : 4 + (so_far.rest - 4) ≡ so_far.rest = omega (arith, so_far.size, room, same) in
    let whole : take k ts ≡ ts = take_all k ts (omega (arith, same)) in (
      replicate (so_far.rest - 4) 0,
      so_far.is
          ∙ ap (λ (l : List Target). (replicate 8 0 ++ entries user l) ++ replicate so_far.rest 0) whole
          ∙ ap (λ (n : ℕ). (replicate 8 0 ++ entries user ts) ++ replicate n 0) (sym left)
          ∙ ap (λ (l : List ℕ). (replicate 8 0 ++ entries user ts) ++ l) (sym (replicate-append-replicate 4 (so_far.rest - 4) 0))
          ∙ sym (append_assoc (replicate 8 0 ++ entries user ts) (replicate 4 0) (replicate (so_far.rest - 4) 0)),
    )

pub no_target : (ts : List Target) (k : ℕ) → k < length ts → slice_get ts k ≡ None → ⊥
no_target [] k inside none = omega (arith, inside)
no_target (t ∷ ts) zero inside none = absurd cc
no_target (t ∷ ts) (suc k) inside none = no_target ts k (omega (arith, inside)) none

-- an entry that is written leaves the length
pub written_long : (user : ℕ) (ts : List Target) (k : ℕ) (out : List ℕ) (t : Target) → 12 + 14 * length ts ≤ length out → k < length ts
    → length (written_at (8 + 14 * k) (entry_bytes (own_entry user t)) out) ≡ length out
written_long user ts k out t room inside =
    let piece = entry_bytes (own_entry user t) in
    let size : length piece ≡ 14 = length-entry_bytes (own_entry user t) in
    let at : 8 + 14 * k ≤ length out = omega (arith, room, inside) in
    length-append (take (8 + 14 * k) out) (piece ++ drop (8 + 14 * k + length piece) out)
    ∙ omega (arith, size, room, inside, length-append piece (drop (8 + 14 * k + length piece) out), length-take-le (8 + 14 * k) out at, length-drop (8 + 14 * k + length piece) out)
