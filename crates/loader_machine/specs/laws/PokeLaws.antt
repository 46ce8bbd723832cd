-- A byte that is poked: the pokes and the bytes change alike.
use Rattle.std.proofs.Common.{◌≡◌, ◌≢◌, ℕ, zero, suc, Bool, true, false, cond, ◌==◌, ◌+◌, ◌<◌, List, [], ◌∷◌, length, Some, refl, ap, ◌∙◌, arith}
use Rattle.std.specs.Prelude.{slice_set}
use Rattle.std.specs.FinMap.{get, insert, get-insert, get-empty}
use Rattle.std.specs.Ordering.{nat_cmp}
use Rattle.std.specs.Cmp.{unsigned_tied}
use Rattle.std.proofs.lemmas.Cmp.{nat_cmp_total}
use Rattle.std.proofs.lemmas.List.{set-append_left}
use Rattle.omf_format.specs.File.{Segment}
use Rattle.omf_io.specs.Counts.{IsFront}
use Rattle.loader_machine.specs.State.{Pokes, no_pokes}
use Rattle.loader_machine.specs.Stands.{AddressSetting, over_from, stands}
use Rattle.loader_machine.specs.laws.Words.{with_pokes, read_bytes}

poked : (pokes : Pokes) (k b q : ℕ) → get (insert pokes k b) q ≡ cond (q == k) (Some b) (get pokes q)
poked pokes k b q = get-insert nat_cmp_total pokes k b q ∙ ap (λ (t : Bool). cond t (Some b) (get pokes q)) (unsigned_tied q k)

poked_here : (pokes : Pokes) (k b q : ℕ) → q ≡ k → get (insert pokes k b) q ≡ Some b
poked_here pokes k b q is = let t : (q == k) ≡ true = grind arith in poked pokes k b q ∙ ap (λ (t : Bool). cond t (Some b) (get pokes q)) t

poked_apart : (pokes : Pokes) (k b q : ℕ) → q ≢ k → get (insert pokes k b) q ≡ get pokes q
poked_apart pokes k b q isnt = let t : (q == k) ≡ false = grind arith in poked pokes k b q ∙ ap (λ (t : Bool). cond t (Some b) (get pokes q)) t

before : (at k b : ℕ) (pokes : Pokes) (bytes : List ℕ) → k < at → over_from at (insert pokes k b) bytes ≡ over_from at pokes bytes
before at k b pokes [] lt = refl
before at k b pokes (x ∷ bytes) lt =
    let ne : at ≢ k = λ e. omega arith in
    cc (poked_apart pokes k b at ne, before (at + 1) k b pokes bytes (omega arith))

from_set : (at j k b : ℕ) (pokes : Pokes) (bytes : List ℕ) → j ≡ at + k → over_from at (insert pokes j b) bytes ≡ slice_set (over_from at pokes bytes) k b
from_set at j k b pokes [] is = refl
from_set at j zero b pokes (x ∷ bytes) is = cc (poked_here pokes j b at (omega arith), before (at + 1) j b pokes bytes (omega arith))
from_set at j (suc k) b pokes (x ∷ bytes) is =
    let ne : at ≢ j = λ e. omega arith in
    cc (poked_apart pokes j b at ne, from_set (at + 1) j k b pokes bytes (omega arith))

-- the bytes with one poke more are those with that byte set
pub over_set : (pokes : Pokes) (bytes : List ℕ) (k b : ℕ) → with_pokes (insert pokes k b) bytes ≡ slice_set (with_pokes pokes bytes) k b
over_set pokes bytes k b = from_set 0 k k b pokes bytes (omega arith)

pub stands_set : (at : AddressSetting) (s : Segment) (pokes : Pokes) (k b : ℕ) → stands at (insert pokes k b) s ≡ slice_set (stands at pokes s) k b
unfolding stands
stands_set at s pokes k b = over_set pokes (read_bytes at s) k b

-- and so does a block that begins with them
pub front_set : (front bytes : List ℕ) (k b : ℕ) → k < length front → IsFront front bytes → IsFront (slice_set front k b) (slice_set bytes k b)
front_set front bytes k b within is = (is.0, ap (λ (bs : List ℕ). slice_set bs k b) is.1 ∙ set-append_left front is.0 k b within)

pub poked_begins : (at : AddressSetting) (s : Segment) (pokes : Pokes) (k b : ℕ) (bytes : List ℕ) → k < length (stands at pokes s) → IsFront (stands at pokes s) bytes
    → IsFront (stands at (insert pokes k b) s) (slice_set bytes k b)
poked_begins at s pokes k b bytes within is = rw (stands_set at s pokes k b) (front_set (stands at pokes s) bytes k b within is)

length_from : (at : ℕ) (pokes : Pokes) (bytes : List ℕ) → length (over_from at pokes bytes) ≡ length bytes
length_from at pokes [] = refl
length_from at pokes (x ∷ bytes) = ap (λ (n : ℕ). suc n) (length_from (at + 1) pokes bytes)

pub length_over : (pokes : Pokes) (bytes : List ℕ) → length (with_pokes pokes bytes) ≡ length bytes
length_over pokes bytes = length_from 0 pokes bytes

none_from : (at : ℕ) (bytes : List ℕ) → over_from at no_pokes bytes ≡ bytes
none_from at [] = refl
none_from at (x ∷ bytes) = cc (get-empty nat_cmp at, none_from (at + 1) bytes)

-- without pokes it is the bytes themselves
pub over_none : (bytes : List ℕ) → with_pokes no_pokes bytes ≡ bytes
over_none bytes = none_from 0 bytes
