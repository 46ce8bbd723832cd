-- The search for an entry that leads nowhere.
use Rattle.std.proofs.Common.{◌≡◌, ◌⊎◌, inl, inr, ℕ, zero, suc, Bool, true, false, ◌+◌, ◌-◌, ◌≤◌, ◌<◌, List, [], ◌∷◌, length, map, drop, Option, Some, None, refl, sym, ap, subst, ◌∙◌, arith}
use Rattle.std.specs.Prelude.{slice_get, IsSomeAnd, nat_le, nat_lt, if◌then◌else◌}
use Rattle.std.specs.Option.{option_map, option_map_or, option_and_then}
use Rattle.std.proofs.lemmas.Bool.Decides.{nat_tests}
use Rattle.std.proofs.lemmas.Option.{slice_get-map, same_Some}
use Rattle.omf_io.specs.Files.{FileMap}
use Rattle.omf_format.specs.Header.{HeaderFields}
use Rattle.omf_format.specs.File.{Segment, segment_at}
use Rattle.load_meaning.specs.declared.load.LoadFault.{LoadFault}
use Rattle.load_meaning.specs.declared.table.Target.{Target}
use Rattle.load_meaning.specs.LoadTable.{entry_count, is_table, targets_of, table_of, table_from}
use Rattle.omf_cells.specs.Load.{IsOutside, HasFields, HasLength, table_targets}
use Rattle.loader_machine.specs.declared.seen.SegmentHead.{SegmentHead}
use Rattle.loader_machine.specs.Heads.{at_number}
use Rattle.loader_machine.specs.declared.faults.LoaderFault.TheVariants.{BadFile}
use Rattle.loader_machine.specs.Found.{HoldsLoad}
use Rattle.loader_machine.specs.State.{first_id}
use Rattle.loader_machine.specs.Steps.{lost_from, lost_in, lost_refusal}
use Rattle.loader_machine.specs.laws.Words.{is_reached}
use Rattle.loader_agrees.specs.Agrees.{LoadedUser, outline, AreAttached, LeadsFar}
use Rattle.loader_agrees.specs.laws.Words.{EntriesLead}
use Rattle.loader_agrees.specs.laws.RowUsers.{user_there}
use Rattle.loader_agrees.specs.laws.Seeing.{user_is}
use Rattle.loader_agrees.specs.laws.EntryReads.{targets_count, number_within}
use Rattle.loader_users.specs.declared.user.UserSegment as users
use Rattle.loader_users.specs.Users.{lost_entry, heads_in, kept_heads}
use Rattle.loader_users.proofs.Families.{drop_at, drop_past}

-- the header of the segment with a number
pub head_number : (items : List users.UserSegment) (n : ℕ) → at_number (map (λ (s : users.UserSegment). s.head) items) n ≡ option_map (λ (s : users.UserSegment). s.head) (at_number items n)
head_number items zero = refl
head_number items (suc k) = slice_get-map (λ (s : users.UserSegment). s.head) items k

module _ (heads : List (List SegmentHead)) (ts : List Target) where
  pub lost_here : (k : ℕ) (t : Target) → slice_get ts k ≡ Some t → is_reached heads t ≡ false → lost_from heads k (drop k ts) ≡ Some k
  lost_here k t is out = ap (lost_from heads k) (drop_at ts k t is) ∙ rw out refl

  pub lost_next : (k : ℕ) (t : Target) → slice_get ts k ≡ Some t → is_reached heads t ≡ true → lost_from heads k (drop k ts) ≡ lost_from heads (k + 1) (drop (k + 1) ts)
  lost_next k t is inside = ap (lost_from heads k) (drop_at ts k t is) ∙ rw inside refl

  pub lost_past : (k : ℕ) → length ts ≤ k → lost_from heads k (drop k ts) ≡ None
  lost_past k le = ap (lost_from heads k) (drop_past ts k le)

module _ (heads : List (List SegmentHead)) (load : List Segment) where
  -- in the table of a file
  lost_is : (number : ℕ) → table_of load ≡ Some number → (o : Option ℕ) → lost_from heads 0 (table_targets load) ≡ o → option_map (lost_entry number) o ≡ option_and_then (lost_in heads load) (table_of load)
  lost_is number is o from = rw is (go (segment_at load number) refl)
    where
      go : (s : Option Segment) → segment_at load number ≡ s → option_map (lost_entry number) o ≡ option_and_then (λ (x : Segment). option_map (lost_entry number) (lost_from heads 0 (targets_of x))) s
      go None none = let empty : lost_from heads 0 [] ≡ o = (rw (is, none) at from) in ap (option_map (lost_entry number)) (sym empty)
      go (Some x) there = let its : lost_from heads 0 (targets_of x) ≡ o = (rw (is, there) at from) in ap (option_map (lost_entry number)) (sym its)

  pub lost_some : (number k : ℕ) (fault : LoadFault) → table_of load ≡ Some number → fault ≡ lost_entry number k → lost_from heads 0 (table_targets load) ≡ Some k
      → Some fault ≡ option_and_then (lost_in heads load) (table_of load)
  lost_some number k fault is same from = ap (λ (f : LoadFault). Some f) same ∙ lost_is number is (Some k) from

  pub lost_none : (number : ℕ) → table_of load ≡ Some number → lost_from heads 0 (table_targets load) ≡ None → None ≡ option_and_then (lost_in heads load) (table_of load)
  lost_none number is from = lost_is number is None from

-- the refusal, by what is lost
pub refusal_of : (heads : List (List SegmentHead)) (load : List Segment) (o : Option LoadFault) → o ≡ option_and_then (lost_in heads load) (table_of load) → lost_refusal heads load ≡ option_map BadFile o
unfolding lost_refusal
refusal_of heads load o is = ap (option_map BadFile) (sym is)

-- how many entries a file's table has, by its length
module _ (load : List Segment) (number : ℕ) where
  pub length_is : (f : HeaderFields) (n : ℕ) → n ≡ f.length → HasFields load number f → HasLength load number n
  length_is f n is has = go (segment_at load number) has
    where
      go : (o : Option Segment) → IsSomeAnd o (λ s. s.fields ≡ f) → IsSomeAnd o (λ s. s.fields.length ≡ n)
      go None e = e
      go (Some s) e = ap (λ (x : HeaderFields). x.length) e ∙ sym is

  pub entry_inside : (size k : ℕ) → table_of load ≡ Some number → IsOutside load number ⊎ HasLength load number size → k < length (table_targets load) → k < entry_count size
  entry_inside size k is known inside = go (segment_at load number) refl known
    where
      no_zero : (s : Segment) → segment_at load number ≡ Some s → number ≡ 0 → ⊥
      no_zero s there e = let clash : None ≡ Some s = ap (segment_at load) (sym e) ∙ there in absurd cc

      go : (o : Option Segment) → segment_at load number ≡ o → IsOutside load number ⊎ IsSomeAnd o (λ s. s.fields.length ≡ size) → k < entry_count size
      go None none (inl out) = let none' : k < 0 = (rw (is, none) at inside) in absurd (omega (arith, none'))
      go None none (inr e) = absurd e
      go (Some s) there (inl (inl low)) = absurd (no_zero s there low)
      go (Some s) there (inl (inr high)) = absurd (omega (arith, high, number_within load number s there))
      go (Some s) there (inr e) =
          let its : k < length (targets_of s) = (rw (is, there) at inside) in
          subst (λ (n : ℕ). k < entry_count n) e (omega (arith, its, targets_count s))

-- ---- none is lost

-- the segment with the number of a file's table is a table
from_table : (number k : ℕ) (segments : List Segment) (s : Segment) → table_from number segments ≡ Some (number + k) → slice_get segments k ≡ Some s → is_table s ≡ true
from_table number k [] s is found = absurd cc
from_table number zero (t ∷ segments) s is found = go (is_table t) refl is
  where
    above : (n m : ℕ) (ss : List Segment) → table_from n ss ≡ Some m → n ≤ m
    above n m [] e = absurd cc
    above n m (x ∷ ss) e = by (is_table x) e (above (n + 1) m ss)
      where
        by : (b : Bool) → (if b then Some n else table_from (n + 1) ss) ≡ Some m → (table_from (n + 1) ss ≡ Some m → n + 1 ≤ m) → n ≤ m
        by true e' rest = let same : n ≡ m = same_Some n m e' in omega (arith, same)
        by false e' rest = omega (arith, rest e')

    go : (b : Bool) → is_table t ≡ b → (if b then Some number else table_from (number + 1) segments) ≡ Some (number + 0) → is_table s ≡ true
    go true here e = ap is_table (sym (same_Some t s found)) ∙ here
    go false other e = absurd (omega (arith, above (number + 1) (number + 0) segments e))
from_table number (suc k) (t ∷ segments) s is found = go (is_table t) is (λ e. from_table (number + 1) k segments s (e ∙ ap (λ (n : ℕ). Some n) (omega arith)) found)
  where
    go : (b : Bool) → (if b then Some number else table_from (number + 1) segments) ≡ Some (number + suc k) → (table_from (number + 1) segments ≡ Some (number + suc k) → is_table s ≡ true) → is_table s ≡ true
    go true e rest = let same : number ≡ number + suc k = same_Some number (number + suc k) e in absurd (omega (arith, same))
    go false e rest = rest e

table_there : (segments : List Segment) (n : ℕ) (s : Segment) → table_of segments ≡ Some n → segment_at segments n ≡ Some s → is_table s ≡ true
table_there segments zero s is found = absurd cc
table_there segments (suc k) s is found = from_table 1 k segments s (is ∙ ap (λ (n : ℕ). Some n) (omega arith)) found

-- where each entry for another file leads somewhere, none is lost
none_from : (heads : List (List SegmentHead)) (k : ℕ) (ts : List Target) → ((i : ℕ) (t : Target) → slice_get ts i ≡ Some t → is_reached heads t ≡ true) → lost_from heads k ts ≡ None
none_from heads k [] all = refl
none_from heads k (t ∷ ts) all = rw (all 0 t refl) (none_from heads (k + 1) ts (λ i u is. all (suc i) u is))

-- a target that leads to an attached user is reached
far_reached : (users : List (Option LoadedUser)) (place : ℕ) (kept : LoadedUser) (t : Target) → slice_get users place ≡ Some (Some kept) → 2 ≤ t.file → LeadsFar users (first_id + place) t → is_reached (kept_heads users kept.attached) t ≡ true
far_reached users place kept t made above far =
    let own : nat_le t.file 1 ≡ false = grind (arith, nat_tests, above) in
    let row : slice_get kept.attached (t.file - 2) ≡ Some far.other =
    sym (rw (user_is outline users (first_id + place), user_there users place kept made) refl) ∙ far.named in
    let heads : slice_get (kept_heads users kept.attached) (t.file - 2) ≡ Some far.kept.heads =
    slice_get-map (heads_in users) kept.attached (t.file - 2) ∙ ap (option_map (heads_in users)) row ∙ ap (λ (o : Option LoadedUser). Some (option_map_or (λ (k : LoadedUser). k.heads) o [])) far.made in
    let inside : nat_lt t.offset far.head.length ≡ true = grind (arith, nat_tests, far.inside) in
    rw (own, heads, far.head') inside

-- so it is in a file of a user that agrees
pub entries_none : (users : List (Option LoadedUser)) (place : ℕ) (kept : LoadedUser) (held : FileMap) (segments : List Segment) → HoldsLoad held kept.path segments → AreAttached users → EntriesLead held users
    → slice_get users place ≡ Some (Some kept) → lost_refusal (kept_heads users kept.attached) segments ≡ None
unfolding lost_refusal
entries_none users place kept held segments holds attached entries made = go (table_of segments) refl
  where
    heads : List (List SegmentHead)
    heads = kept_heads users kept.attached

    low : (t : Target) → nat_lt 1 t.file ≡ false → is_reached heads t ≡ true
    low t e = let own : nat_le t.file 1 ≡ true = grind (arith, nat_tests, e) in rw own refl

    reached : (n : ℕ) (s : Segment) → segment_at segments n ≡ Some s → is_table s ≡ true → (i : ℕ) (t : Target) → slice_get (targets_of s) i ≡ Some t → is_reached heads t ≡ true
    reached n s there table i t found = by (nat_lt 1 t.file) refl
      where
        by : (b : Bool) → nat_lt 1 t.file ≡ b → is_reached heads t ≡ true
        by true e = let above : 2 ≤ t.file = grind (arith, nat_tests, e) in far_reached users place kept t made above (entries place n i kept segments s t made holds there table found above)
        by false e = low t e

    in_table : (n : ℕ) (o : Option Segment) → segment_at segments n ≡ o → table_of segments ≡ Some n → option_and_then (λ (s : Segment). option_map (lost_entry n) (lost_from heads 0 (targets_of s))) o ≡ None
    in_table n None e is = refl
    in_table n (Some s) e is = ap (option_map (lost_entry n)) (none_from heads 0 (targets_of s) (reached n s e (table_there segments n s is e)))

    go : (o : Option ℕ) → table_of segments ≡ o → option_map BadFile (option_and_then (lost_in heads segments) o) ≡ None
    go None e = refl
    go (Some n) e = ap (option_map BadFile) (in_table n (segment_at segments n) refl e)
