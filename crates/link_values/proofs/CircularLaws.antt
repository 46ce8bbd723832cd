-- The definition with a number among all.
use Rattle.std.proofs.Common.{◌≡◌, ◌⊎◌, inl, inr, ℕ, zero, suc, ◌+◌, ◌<◌, ◌≤◌, List, [], ◌∷◌, ◌++◌, length, map, Some, None, refl, sym, ap, subst, ◌∙◌, append_assoc, append-nil, arith}
use Rattle.std.specs.Prelude.{slice_get, option_map}
use Rattle.std.specs.List.{flat_map}
use Rattle.std.proofs.lemmas.List.{length-append, length-map}
use Rattle.std.proofs.lemmas.List.Concat.{flat_map-cons}
use Rattle.omf_format.specs.Record.{Record}
use Rattle.omf_format.specs.Reading.{Reader}
use Rattle.omf_format.specs.Header.{is_private}
use Rattle.omf_format.specs.File.{Segment}
use Rattle.object_meaning.specs.Sizes.{Located, size_at, located_from, records_with_offsets, place_after}
use Rattle.link_meaning.specs.Member.{Member}
use Rattle.object_meaning.specs.Defines.{Definition, outer_scope, title_of, defined_by, defined_in}
use Rattle.link_meaning.specs.Search.{FoundDefinition, entries_from, entries}
use Rattle.omf_base.specs.declared.spot.Spot.{Spot}
use Rattle.link_meaning.specs.declared.fault.LinkCause.TheVariants.{Circular}
use Rattle.link_meaning.specs.declared.fault.LinkFault.{LinkFault}
use Rattle.link_meaning.specs.LinkFaults.{spot_in}
use Rattle.link_tables.specs.Coming.{Coming}
use Rattle.link_program.specs.Linked.{member_at}
use Rattle.link_program.specs.Memory.{memory_fault}
use Rattle.link_values.specs.Circulars.{DefinesName, IsAfterTitle, defined_so_far, Counting, CountsTo, IsCircularAt}
use Rattle.link_values.proofs.FileFacts.{parts_there}
use Rattle.link_values.proofs.LocatedLaws.{one_located, located-append, located-more}

abbrev pub of_located : Located → List Definition
of_located r = defined_by r.at r.location r.content

flat-append : (xs ys : List Located) → flat_map of_located (xs ++ ys) ≡ flat_map of_located xs ++ flat_map of_located ys
flat-append [] ys = refl
flat-append (x ∷ xs) ys =
    flat_map-cons of_located x (xs ++ ys)
    ∙ ap (λ (l : List Definition). of_located x ++ l) (flat-append xs ys)
    ∙ sym (append_assoc (of_located x) (flat_map of_located xs) (flat_map of_located ys))
    ∙ ap (λ (l : List Definition). l ++ flat_map of_located ys) (sym (flat_map-cons of_located x xs))

-- one record more
pub so_far-more : (s : Segment) (done : List (ℕ × Record)) (found : ℕ × Record) → defined_so_far s (done ++ found ∷ []) ≡ defined_so_far s done ++ defined_by found.0 (place_after 0 done) found.1
so_far-more s done found =
    let r = one_located found (place_after 0 done) in
    ap (λ (l : List Located). title_of s ++ flat_map of_located l) (located-append 0 done found)
    ∙ ap (λ (l : List Definition). title_of s ++ l) (flat-append (located_from 0 done) (r ∷ [])
    ∙ ap (λ (l : List Definition). flat_map of_located (located_from 0 done) ++ l) (flat_map-cons of_located r [] ∙ append-nil (of_located r)))
    ∙ sym (append_assoc (title_of s) (flat_map of_located (located_from 0 done)) (of_located r))

-- all of them
pub so_far-all : (s : Segment) (done back : List (ℕ × Record)) → s.records ≡ done ++ back → defined_in s ≡ defined_so_far s done ++ flat_map of_located (located_from (place_after 0 done) back)
unfolding defined_in records_with_offsets
so_far-all s done back parts =
    ap (λ (l : List (ℕ × Record)). title_of s ++ flat_map of_located (located_from 0 l)) parts
    ∙ ap (λ (l : List Located). title_of s ++ flat_map of_located l) (located-more 0 done back)
    ∙ ap (λ (l : List Definition). title_of s ++ l) (flat-append (located_from 0 done) (located_from (place_after 0 done) back))
    ∙ sym (append_assoc (title_of s) (flat_map of_located (located_from 0 done)) (flat_map of_located (located_from (place_after 0 done) back)))

pub get_at : {A : Type 0} (xs ys : List A) (x : A) (n : ℕ) → n ≡ length xs → slice_get (xs ++ x ∷ ys) n ≡ Some x
get_at [] ys x n is = ap (slice_get (x ∷ ys)) is
get_at (y ∷ xs) ys x zero is = absurd (omega (arith, is))
get_at (y ∷ xs) ys x (suc n) is = get_at xs ys x n (omega (arith, is))

-- ---- a segment

pub title_empty : (s : Segment) → s.fields.name ≡ [] → title_of s ≡ []
unfolding title_of
title_empty s e = by_name s.fields.name e
  where
    by_name : (name : List ℕ) → name ≡ [] → (elim name as (λ n. List Definition) [
      | [] ↦ []
      | b ∷ bs ↦ record { name = b ∷ bs; scope = outer_scope (is_private s.fields.kind); place = 0; at = s.start; expr = None; size = 0; form = 0x4E } ∷ []
    ]) ≡ []
    by_name [] e = refl
    by_name (b ∷ bs) e = absurd cc

title_full : (s : Segment) → (s.fields.name ≡ [] → ⊥) → (d : Definition) × (title_of s ≡ d ∷ []) × (d.name ≡ s.fields.name) × (d.at ≡ s.start)
unfolding title_of
title_full s some = by_name s.fields.name some
  where
    by_name : (name : List ℕ) → (name ≡ [] → ⊥) → (d : Definition) × ((elim name as (λ n. List Definition) [
      | [] ↦ []
      | b ∷ bs ↦ record { name = b ∷ bs; scope = outer_scope (is_private s.fields.kind); place = 0; at = s.start; expr = None; size = 0; form = 0x4E } ∷ []
    ]) ≡ d ∷ []) × (d.name ≡ name) × (d.at ≡ s.start)
    by_name [] some = absurd (some refl)
    by_name (b ∷ bs) some = (_, refl, refl, refl)

pub untitled : (s : Segment) (number : ℕ) → s.fields.name ≡ [] → IsAfterTitle s number (Some number)
untitled s number none = omega (arith, ap length (title_empty s none))

pub titled : (s : Segment) (number left : ℕ) → (s.fields.name ≡ [] → ⊥) → number ≡ left + 1 → IsAfterTitle s number (Some left)
titled s number left some is = let t = title_full s some in omega (arith, ap length t.1, is)

-- the segment's name
pub title_is : (s : Segment) (number : ℕ) (name : List ℕ) (at : ℕ) → IsAfterTitle s number None → name ≡ s.fields.name → at ≡ s.start → (d : Definition) × (slice_get (defined_in s) number ≡ Some d) × (name ≡ d.name) × (at ≡ d.at)
title_is s number name at is named there =
    let t = title_full s is.1 in
    let whole = so_far-all s [] s.records refl in (
      t.0,
      ap (slice_get (defined_in s)) is.0 ∙ ap (λ (l : List Definition). slice_get l 0) (whole ∙ append_assoc (title_of s) [] (flat_map of_located (located_from 0 s.records)) ∙ ap (λ (l : List Definition). l ++ flat_map of_located (located_from 0 s.records)) t.1),
      named ∙ sym t.2,
      there ∙ sym t.3,
    )

pub counting_all : (s : Segment) (number left : ℕ) (at : Reader) → IsAfterTitle s number (Some left) → Coming at s.records → Counting s number left at
counting_all s number left at is coming = record { done = []; back = s.records; parts = refl; coming = coming; count = omega (arith, is, length-append (title_of s) []) }

-- a record that defines nothing
pub counting_more : (s : Segment) (number left : ℕ) (at after : Reader) (found : ℕ × Record) (more : List (ℕ × Record)) (c : Counting s number left at) → c.back ≡ found ∷ more → Coming after more
    → ((loc : ℕ) → DefinesName found.0 (defined_by found.0 loc found.1) None) → Counting s number left after
counting_more s number left at after found more c back coming none = record {
  done = c.done ++ found ∷ [];
  back = more;
  parts = c.parts ∙ ap (λ (l : List (ℕ × Record)). c.done ++ l) back ∙ sym (append_assoc c.done (found ∷ []) more);
  coming = coming;
  count = omega (arith, c.count, ap length (so_far-more s c.done found), length-append (defined_so_far s c.done) (defined_by found.0 (place_after 0 c.done) found.1), ap length (none (place_after 0 c.done)));
}

-- one that defines a name, after which numbers are left
pub counting_named : (s : Segment) (number left rest : ℕ) (at after : Reader) (found : ℕ × Record) (more : List (ℕ × Record)) (name : List ℕ) (c : Counting s number left at) → left ≡ rest + 1 → c.back ≡ found ∷ more → Coming after more
    → ((loc : ℕ) → DefinesName found.0 (defined_by found.0 loc found.1) (Some name)) → Counting s number rest after
counting_named s number left rest at after found more name c less back coming some = record {
  done = c.done ++ found ∷ [];
  back = more;
  parts = c.parts ∙ ap (λ (l : List (ℕ × Record)). c.done ++ l) back ∙ sym (append_assoc c.done (found ∷ []) more);
  coming = coming;
  count = omega (arith, c.count, ap length (so_far-more s c.done found), length-append (defined_so_far s c.done) (defined_by found.0 (place_after 0 c.done) found.1), ap length (some (place_after 0 c.done)).1, less);
}

-- the one with the number
pub counted : (s : Segment) (number left : ℕ) (at : Reader) (found : ℕ × Record) (more : List (ℕ × Record)) (name : List ℕ) (c : Counting s number left at) → left ≡ 0 → c.back ≡ found ∷ more
    → ((loc : ℕ) → DefinesName found.0 (defined_by found.0 loc found.1) (Some name)) → (d : Definition) × (slice_get (defined_in s) number ≡ Some d) × (name ≡ d.name) × (found.0 ≡ d.at)
counted s number left at found more name c none back some =
    let own = some (place_after 0 c.done) in
    let loc = place_after 0 c.done in
    let rest = flat_map of_located (located_from (loc + size_at loc found.1) more) in
    let whole : defined_in s ≡ defined_so_far s c.done ++ own.0 ∷ rest =
    so_far-all s c.done (found ∷ more) (c.parts ∙ ap (λ (l : List (ℕ × Record)). c.done ++ l) back)
    ∙ ap (λ (l : List Definition). defined_so_far s c.done ++ l) (flat_map-cons of_located (one_located found loc) (located_from (loc + size_at loc found.1) more) ∙ ap (λ (l : List Definition). l ++ rest) own.1) in
    (own.0, ap (λ (l : List Definition). slice_get l number) whole ∙ get_at (defined_so_far s c.done) rest own.0 number (omega (arith, c.count, none)), sym own.2, sym own.3)

-- after the last
pub counted_all : (s : Segment) (number left : ℕ) (at : Reader) (c : Counting s number left at) → c.back ≡ [] → number ≡ length (defined_in s) + left
counted_all s number left at c none =
    let whole = so_far-all s c.done [] (c.parts ∙ ap (λ (l : List (ℕ × Record)). c.done ++ l) none) in
    omega (arith, c.count, ap length whole, length-append (defined_so_far s c.done) [])

-- ---- members

abbrev founds : ℕ → Member → List Definition → List FoundDefinition
founds place m ds = map (λ (d : Definition). record { place = place; member = m; definition = d }) ds

pub entries-append : (place : ℕ) (front back : List Member) → entries_from defined_in place (front ++ back) ≡ entries_from defined_in place front ++ entries_from defined_in (place + length front) back
entries-append place [] back = ap (λ (n : ℕ). entries_from defined_in n back) (omega arith)
entries-append place (m ∷ front) back =
    let next : place + 1 + length front ≡ place + length (m ∷ front) = omega arith in
    ap (λ (l : List FoundDefinition). founds place m (defined_in m.segment) ++ l) (entries-append (place + 1) front back)
    ∙ sym (append_assoc (founds place m (defined_in m.segment)) (entries_from defined_in (place + 1) front) (entries_from defined_in (place + 1 + length front) back))
    ∙ ap (λ (n : ℕ). (founds place m (defined_in m.segment) ++ entries_from defined_in (place + 1) front) ++ entries_from defined_in n back) next

pub member_size : (place : ℕ) (m : Member) → length (entries_from defined_in place (m ∷ [])) ≡ length (defined_in m.segment)
member_size place m = ap length (append-nil (founds place m (defined_in m.segment))) ∙ length-map (defined_in m.segment) (λ (d : Definition). record { place = place; member = m; definition = d })

pub counts_more : (list : List Member) (number place left rest : ℕ) (c : CountsTo list number place left) (m : Member) (back : List Member) → c.back ≡ m ∷ back → left ≡ length (defined_in m.segment) + rest
    → CountsTo list number (place + 1) rest
counts_more list number place left rest c m back is size = record {
  front = c.front ++ m ∷ [];
  back = back;
  parts = c.parts ∙ ap (λ (l : List Member). c.front ++ l) is ∙ sym (append_assoc c.front (m ∷ []) back);
  place' = omega (arith, c.place', length-append c.front (m ∷ []));
  count = omega (arith, c.count, size, ap length (entries-append 1 c.front (m ∷ [])), length-append (entries_from defined_in 1 c.front) (entries_from defined_in (1 + length c.front) (m ∷ [])), member_size (1 + length c.front) m);
}

get_map : (place : ℕ) (m : Member) (ds : List Definition) (k : ℕ) (d : Definition) → slice_get ds k ≡ Some d → slice_get (founds place m ds) k ≡ Some (record { place = place; member = m; definition = d })
get_map place m [] k d e = absurd cc
get_map place m (x ∷ ds) zero d e = let same : x ≡ d = cc in ap (λ (y : Definition). Some (record { place = place; member = m; definition = y })) same
get_map place m (x ∷ ds) (suc k) d e = get_map place m ds k d e

get_front : (xs ys : List FoundDefinition) (k : ℕ) (f : FoundDefinition) → slice_get xs k ≡ Some f → slice_get (xs ++ ys) k ≡ Some f
get_front [] ys k f e = absurd cc
get_front (x ∷ xs) ys zero f e = e
get_front (x ∷ xs) ys (suc k) f e = get_front xs ys k f e

get_back : (xs ys : List FoundDefinition) (n k : ℕ) → n ≡ length xs + k → slice_get (xs ++ ys) n ≡ slice_get ys k
get_back [] ys n k is = let same : n ≡ k = omega (arith, is) in ap (slice_get ys) same
get_back (x ∷ xs) ys zero k is = absurd (omega (arith, is))
get_back (x ∷ xs) ys (suc n) k is = get_back xs ys n k (omega (arith, is))

-- the definition of the member with the number that is left is the one with the number among all
pub counts_there : (list : List Member) (number place left : ℕ) (c : CountsTo list number place left) (m : Member) (back : List Member) (d : Definition) → c.back ≡ m ∷ back → slice_get (defined_in m.segment) left ≡ Some d
    → slice_get (entries list) number ≡ Some (record { place = 1 + length c.front; member = m; definition = d })
unfolding entries
counts_there list number place left c m back d is at =
    ap (λ (l : List Member). slice_get (entries_from defined_in 1 l) number) (c.parts ∙ ap (λ (l : List Member). c.front ++ l) is)
    ∙ ap (λ (l : List FoundDefinition). slice_get l number) (entries-append 1 c.front (m ∷ back))
    ∙ get_back (entries_from defined_in 1 c.front) (entries_from defined_in (1 + length c.front) (m ∷ back)) number left c.count
    ∙ get_front (founds (1 + length c.front) m (defined_in m.segment)) (entries_from defined_in (1 + length c.front + 1) back) left _ (get_map (1 + length c.front) m (defined_in m.segment) left d at)

-- and after the last member no number is left
pub counts_all : (list : List Member) (number place left : ℕ) → CountsTo list number place left → length list ≤ place → number < length (entries list) → ⊥
unfolding entries
counts_all list number place left c past less =
    let size = length-append c.front c.back in
    let none : c.back ≡ [] = empty c.back (omega (arith, ap length c.parts, size, c.place', past)) in
    let same : entries_from defined_in 1 list ≡ entries_from defined_in 1 c.front = ap (entries_from defined_in 1) (c.parts ∙ ap (λ (l : List Member). c.front ++ l) none ∙ append-nil c.front) in
    omega (arith, less, ap length same, c.count)
  where
    empty : (l : List Member) → length l ≡ 0 → l ≡ []
    empty [] e = refl
    empty (x ∷ l) e = absurd (omega (arith, e))

-- the member after the first `place` ones
pub next_member : (list : List Member) (number place left : ℕ) (c : CountsTo list number place left) → place < length list → (m : Member) × (back : List Member) × (c.back ≡ m ∷ back)
next_member list number place left c less = some c.back (omega (arith, ap length c.parts, length-append c.front c.back, c.place', less))
  where
    some : (l : List Member) → 0 < length l → (m : Member) × (back : List Member) × (l ≡ m ∷ back)
    some [] lt = absurd (omega (arith, lt))
    some (m ∷ back) lt = (m, back, refl)

pub segment_is : (list : List Member) (place : ℕ) (m : Member) (s : Segment) → member_at list place ≡ Some m → Some s ≡ option_map (λ (o : Member). o.segment) (member_at list place) → s ≡ m.segment
segment_is list place m s there is = same s m.segment (is ∙ ap (option_map (λ (o : Member). o.segment)) there)
  where
    same : (x y : Segment) → Some x ≡ Some y → x ≡ y
    same x y e = cc

member_is : (list : List Member) (number place left : ℕ) (c : CountsTo list number place left) (m : Member) (back : List Member) → c.back ≡ m ∷ back → member_at list (place + 1) ≡ Some m
member_is list number place left c m back is =
    ap (λ (n : ℕ). member_at list (n + 1)) c.place' ∙ parts_there list c.front m back (c.parts ∙ ap (λ (l : List Member). c.front ++ l) is)

-- a member without the number
pub cycle_step : (list : List Member) (number place left rest : ℕ) (s : Segment) → CountsTo list number place left → place < length list → Some s ≡ option_map (λ (o : Member). o.segment) (member_at list (place + 1))
    → left ≡ length (defined_in s) + rest → CountsTo list number (place + 1) rest
cycle_step list number place left rest s c less shown size =
    let n = next_member list number place left c less in
    let same = segment_is list (place + 1) n.0 s (member_is list number place left c n.0 n.1 n.2) shown in
    counts_more list number place left rest c n.0 n.1 n.2 (size ∙ ap (λ (t : Segment). length (defined_in t) + rest) same)

-- the member with it
pub cycle_here : (list : List Member) (number place left : ℕ) (s : Segment) (name : List ℕ) (at : ℕ) (fault : LinkFault) → CountsTo list number place left → place < length list
    → Some s ≡ option_map (λ (o : Member). o.segment) (member_at list (place + 1)) → (d : Definition) × (slice_get (defined_in s) left ≡ Some d) × (name ≡ d.name) × (at ≡ d.at)
    → ((m : Member) → member_at list (place + 1) ≡ Some m → (fault ≡ memory_fault) ⊎ (fault ≡ record { cause = Circular; name = Some name; spot = spot_in m at })) → IsCircularAt list number fault
cycle_here list number place left s name at fault c less shown d reported e entry =
    let n = next_member list number place left c less in
    let there = member_is list number place left c n.0 n.1 n.2 in
    let same = segment_is list (place + 1) n.0 s there shown in
    let here = counts_there list number place left c n.0 n.1 d.0 n.2 (subst (λ (t : Segment). slice_get (defined_in t) left ≡ Some d.0) same d.1) in
    by_fault e (same_found (record { place = 1 + length c.front; member = n.0; definition = d.0 }) e (sym here ∙ entry)) (reported n.0 there)
  where
    same_found : (x y : FoundDefinition) → Some x ≡ Some y → x ≡ y
    same_found x y e = cc

    fault_by : List ℕ → Spot → LinkFault
    fault_by its spot = record { cause = Circular; name = Some its; spot = spot }

    by_fault : (e : FoundDefinition) → record { place = 1 + length c.front; member = (next_member list number place left c less).0; definition = d.0 } ≡ e
        → (fault ≡ memory_fault) ⊎ (fault ≡ record { cause = Circular; name = Some name; spot = spot_in (next_member list number place left c less).0 at })
        → (fault ≡ memory_fault) ⊎ (fault ≡ record { cause = Circular; name = Some e.definition.name; spot = spot_in e.member e.definition.at })
    by_fault e is (inl memory) = inl memory
    by_fault e is (inr reported) = inr (reported ∙ ap (λ (n : List ℕ). fault_by n (spot_in (next_member list number place left c less).0 at)) d.2 ∙ ap (λ (n : ℕ). fault_by d.0.name (spot_in (next_member list number place left c less).0 n)) d.3
        ∙ ap (λ (f : FoundDefinition). fault_by f.definition.name (spot_in f.member f.definition.at)) is)
