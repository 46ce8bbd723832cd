-- The cells of members and of load segments: LENGTH of them, bytes and whole places.
use Rattle.std.proofs.Common.{◌≡◌, ℕ, ◌+◌, ◌-◌, ◌^◌, ◌<◌, ◌≤◌, Bool, true, false, eqb, leb, List, [], ◌∷◌, ◌++◌, length, map, take, filter, Result, Ok, Err, refl, sym, ap, subst, ◌∙◌, append_assoc, arith, inl, inr}
use Rattle.std.specs.Prelude.{cond}
use Rattle.std.specs.Str.{bytes_eq}
use Rattle.std.proofs.lemmas.Bool.{cases_Bool, eq-eqb, ne_eqb, le-leb, lt-leb}
use Rattle.std.proofs.lemmas.List.{length-append, take_at}
use Rattle.std.proofs.lemmas.Slice.Eq.{bytes_eq-Decides}
use Rattle.omf_format.specs.Record.{Record}
use Rattle.omf_format.specs.Header.{alignment_of}
use Rattle.load_meaning.specs.Cells.{Cell}
use Rattle.link_meaning.specs.declared.fault.LinkCause.{LinkCause}
use Rattle.object_meaning.specs.Sizes.{Located, size_at, located_from, place_after, records_with_offsets, body_size}
use Rattle.link_meaning.specs.Member.{Member}
use Rattle.link_meaning.specs.Layout.{in_load, end_from, load_length, offset_of}
use Rattle.link_meaning.specs.laws.Steps.{aligned_from}
use Rattle.link_meaning.specs.laws.LayoutLaws.{aligned_from-least, alignment-some}
use Rattle.link_meaning.specs.LinkValues.{EquateAnswer}
use Rattle.link_meaning.specs.LinkedCells.{Item, LinkState, Made, zeros, items_from, items, cells_before, made, state_after_item, state_from, state_after, member_cells, cells_from, linked, table_number}
use Rattle.link_meaning.specs.LinkWritten.{AreMade, start}
use Rattle.link_meaning.specs.laws.RunCells.{AreRuns}
use Rattle.link_meaning.specs.laws.MadeLaws.{no_runs, both_runs, zero_runs, length-zeros, length-made, IsSoundAt, runs-made, Few}

-- ---- records one after another

abbrev pub item : ℕ → Member → Located → Item
item place m r = record { place = place; member = m; here = r }

-- each of these records is sound
abbrev pub AreSoundItems : List Member → List EquateAnswer → List Item → Type 0
AreSoundItems list table [] = Unit {0}
AreSoundItems list table (i ∷ is) = IsSoundAt list table i i.here.content × AreSoundItems list table is

pub state_from-append : (list : List Member) (table : List EquateAnswer) (state : LinkState) (xs ys : List Item) → state_from list table state (xs ++ ys) ≡ state_from list table (state_from list table state xs) ys
state_from-append list table state [] ys = refl
state_from-append list table state (x ∷ xs) ys = state_from-append list table (state_after_item state x (made list table state x)) xs ys

pub made-append : (list : List Member) (table : List EquateAnswer) (state : LinkState) (xs ys : List Item) → AreMade list table state (xs ++ ys) → AreMade list table state xs × AreMade list table (state_from list table state xs) ys
made-append list table state [] ys are = (tt, are)
made-append list table state (x ∷ xs) ys are = let rest = made-append list table (state_after_item state x (made list table state x)) xs ys are.2 in ((are.0, are.1, rest.0), rest.1)

sound-append : (list : List Member) (table : List EquateAnswer) (xs ys : List Item) → AreSoundItems list table (xs ++ ys) → AreSoundItems list table xs × AreSoundItems list table ys
sound-append list table [] ys are = (tt, are)
sound-append list table (x ∷ xs) ys are = let rest = sound-append list table xs ys are.1 in ((are.0, rest.0), rest.1)

-- these records belong to members at no later place
abbrev pub Below : ℕ → List Item → Type 0
Below n [] = Unit {0}
Below n (i ∷ is) = (i.place ≤ n) × Below n is

-- a state is at no later place than its records
pub state_place : (list : List Member) (table : List EquateAnswer) (state : LinkState) (n : ℕ) (is : List Item) → state.place ≤ n → Below n is → (state_from list table state is).place ≤ n
state_place list table state n [] le below = le
state_place list table state n (i ∷ is) le below = state_place list table (state_after_item state i (made list table state i)) n is (by_made (made list table state i)) below.1
  where
    by_made : (r : Result Made LinkCause) → (state_after_item state i r).place ≤ n
    by_made (Err cause) = le
    by_made (Ok x) = below.0

-- what a walk over a member's records has made
record Walked (place : ℕ) (loc : ℕ) (state : LinkState) : Type 0 where
  at : state.place ≡ place
  size : length state.cells ≡ loc
  runs : AreRuns state.cells
  few : Few state.targets

-- one record more
one_more : (list : List Member) (table : List EquateAnswer) (place : ℕ) (m : Member) (state : LinkState) (r : Located) (done : List Cell) → table_number list < 2 ^ 16
    → cells_before state (item place m r) ≡ done → length done ≡ r.location → AreRuns done → Few state.targets → IsSoundAt list table (item place m r) r.content
    → (x : Made) → made list table state (item place m r) ≡ Ok x → Walked place (r.location + size_at r.location r.content) (state_after_item state (item place m r) (made list table state (item place m r)))
unfolding made
one_more list table place m state r done small before size runs few sound x e =
    let i = item place m r in
    let both = runs-made list table state i r.content x small few sound e in
    let more = length-made list table state i r.content x e in
    let front : AreRuns (cells_before state i) = subst AreRuns (sym before) runs in
    let walked : Walked place (r.location + size_at r.location r.content) (record { targets = x.1; place = place; cells = cells_before state i ++ x.0 }) = record {
      at = refl;
      size = omega (arith, length-append (cells_before state i) x.0, ap length before, size, more);
      runs = both_runs (cells_before state i) x.0 front both.0;
      few = both.1;
    } in
    subst (λ (g : Result Made LinkCause). Walked place (r.location + size_at r.location r.content) (state_after_item state i g)) (sym e) walked

walk : (list : List Member) (table : List EquateAnswer) (place : ℕ) (m : Member) (state : LinkState) (loc : ℕ) (founds : List (ℕ × Record)) → table_number list < 2 ^ 16 → Walked place loc state
    → AreMade list table state (map (item place m) (located_from loc founds)) → AreSoundItems list table (map (item place m) (located_from loc founds))
    → Walked place (place_after loc founds) (state_from list table state (map (item place m) (located_from loc founds)))
walk list table place m state loc [] small walked are sound = walked
walk list table place m state loc (found ∷ founds) small walked are sound =
    let r : Located = record { at = found.0; location = loc; content = found.1 } in
    let here : eqb state.place place ≡ true = eq-eqb state.place place walked.at in
    let before : cells_before state (item place m r) ≡ state.cells = ap (λ (b : Bool). cond b state.cells []) here in
    walk list table place m (state_after_item state (item place m r) (made list table state (item place m r))) (loc + size_at loc found.1) founds small
    (one_more list table place m state r state.cells small before walked.size walked.runs walked.few sound.0 are.0 are.1) are.2 sound.1

-- from a state at an earlier place on
walk_all : (list : List Member) (table : List EquateAnswer) (place : ℕ) (m : Member) (state : LinkState) (found : ℕ × Record) (founds : List (ℕ × Record)) → table_number list < 2 ^ 16 → state.place < place → Few state.targets
    → AreMade list table state (map (item place m) (located_from 0 (found ∷ founds))) → AreSoundItems list table (map (item place m) (located_from 0 (found ∷ founds)))
    → Walked place (place_after 0 (found ∷ founds)) (state_from list table state (map (item place m) (located_from 0 (found ∷ founds))))
walk_all list table place m state found founds small earlier few are sound =
    let r : Located = record { at = found.0; location = 0; content = found.1 } in
    let other : eqb state.place place ≡ false = ne_eqb state.place place (λ (e : state.place ≡ place). absurd (omega (arith, e, earlier))) in
    let before : cells_before state (item place m r) ≡ [] = ap (λ (b : Bool). cond b state.cells []) other in
    walk list table place m (state_after_item state (item place m r) (made list table state (item place m r))) (0 + size_at 0 found.1) founds small
    (one_more list table place m state r [] small before refl no_runs few sound.0 are.0 are.1) are.2 sound.1

-- the targets stay few
pub few_on : (list : List Member) (table : List EquateAnswer) (state : LinkState) (is : List Item) → table_number list < 2 ^ 16 → Few state.targets → AreMade list table state is → AreSoundItems list table is → Few (state_from list table state is).targets
unfolding made
few_on list table state [] small few are sound = few
few_on list table state (i ∷ is) small few are sound =
    let both = runs-made list table state i i.here.content are.0 small few sound.0 are.1 in
    few_on list table (state_after_item state i (made list table state i)) is small (subst (λ (g : Result Made LinkCause). Few (state_after_item state i g).targets) (sym are.1) both.1) are.2 sound.1

-- ---- members

pub items_from-append : (place : ℕ) (xs ys : List Member) → items_from place (xs ++ ys) ≡ items_from place xs ++ items_from (place + length xs) ys
items_from-append place [] ys = ap (λ (n : ℕ). items_from n ys) (omega arith)
items_from-append place (x ∷ xs) ys =
    let own = map (item place x) (records_with_offsets x.segment) in
    ap (λ (l : List Item). own ++ l) (items_from-append (place + 1) xs ys ∙ ap (λ (n : ℕ). items_from (place + 1) xs ++ items_from n ys) (omega arith))
    ∙ sym (append_assoc own (items_from (place + 1) xs) (items_from (place + length (x ∷ xs)) ys))

filter-append : (n : ℕ) (xs ys : List Item) → filter (λ (i : Item). leb i.place n) (xs ++ ys) ≡ filter (λ (i : Item). leb i.place n) xs ++ filter (λ (i : Item). leb i.place n) ys
filter-append n [] ys = refl
filter-append n (x ∷ xs) ys = elim (cases_Bool (leb x.place n)) [
  | inl passes ↦ rw passes (ap (λ (l : List Item). x ∷ l) (filter-append n xs ys))
  | inr other ↦ rw other (filter-append n xs ys)
]

all_pass : (n : ℕ) (is : List Item) → Below n is → filter (λ (i : Item). leb i.place n) is ≡ is
all_pass n [] below = refl
all_pass n (i ∷ is) below = rw (le-leb i.place n below.0) (ap (λ (l : List Item). i ∷ l) (all_pass n is below.1))

abbrev Above : ℕ → List Item → Type 0
Above n [] = Unit {0}
Above n (i ∷ is) = (n < i.place) × Above n is

none_pass : (n : ℕ) (is : List Item) → Above n is → filter (λ (i : Item). leb i.place n) is ≡ []
none_pass n [] above = refl
none_pass n (i ∷ is) above = rw (lt-leb i.place n above.0) (none_pass n is above.1)

below-append : (n : ℕ) (xs ys : List Item) → Below n xs → Below n ys → Below n (xs ++ ys)
below-append n [] ys p q = q
below-append n (x ∷ xs) ys p q = (p.0, below-append n xs ys p.1 q)

above-append : (n : ℕ) (xs ys : List Item) → Above n xs → Above n ys → Above n (xs ++ ys)
above-append n [] ys p q = q
above-append n (x ∷ xs) ys p q = (p.0, above-append n xs ys p.1 q)

own_below : (n place : ℕ) (m : Member) (rs : List Located) → place ≤ n → Below n (map (item place m) rs)
own_below n place m [] le = tt
own_below n place m (r ∷ rs) le = (le, own_below n place m rs le)

own_above : (n place : ℕ) (m : Member) (rs : List Located) → n < place → Above n (map (item place m) rs)
own_above n place m [] lt = tt
own_above n place m (r ∷ rs) lt = (lt, own_above n place m rs lt)

pub are_below : (n place : ℕ) (ms : List Member) → place + length ms ≤ n + 1 → Below n (items_from place ms)
are_below n place [] le = tt
are_below n place (m ∷ ms) le = below-append n (map (item place m) (records_with_offsets m.segment)) (items_from (place + 1) ms) (own_below n place m (records_with_offsets m.segment) (omega arith)) (are_below n (place + 1) ms (omega (arith, le)))

are_above : (n place : ℕ) (ms : List Member) → n < place → Above n (items_from place ms)
are_above n place [] lt = tt
are_above n place (m ∷ ms) lt = above-append n (map (item place m) (records_with_offsets m.segment)) (items_from (place + 1) ms) (own_above n place m (records_with_offsets m.segment) lt) (are_above n (place + 1) ms (omega (arith, lt)))

-- the records of the members up to one
pub up_to : (front : List Member) (m : Member) (back : List Member) → filter (λ (i : Item). leb i.place (length front + 1)) (items_from 1 (front ++ m ∷ back))
    ≡ items_from 1 front ++ map (item (length front + 1) m) (records_with_offsets m.segment)
up_to front m back =
    let n = length front + 1 in
    let own = map (item n m) (records_with_offsets m.segment) in
    let parts : items_from 1 (front ++ m ∷ back) ≡ items_from 1 front ++ (own ++ items_from (n + 1) back) =
    items_from-append 1 front (m ∷ back) ∙ ap (λ (k : ℕ). items_from 1 front ++ (map (item k m) (records_with_offsets m.segment) ++ items_from (k + 1) back)) (omega arith) in
    ap (filter (λ (i : Item). leb i.place n)) parts
    ∙ filter-append n (items_from 1 front) (own ++ items_from (n + 1) back)
    ∙ ap (λ (l : List Item). l ++ filter (λ (i : Item). leb i.place n) (own ++ items_from (n + 1) back)) (all_pass n (items_from 1 front) (are_below n 1 front (omega arith)))
    ∙ ap (λ (l : List Item). items_from 1 front ++ l) (filter-append n own (items_from (n + 1) back)
    ∙ ap (λ (l : List Item). l ++ filter (λ (i : Item). leb i.place n) (items_from (n + 1) back)) (all_pass n own (own_below n n m (records_with_offsets m.segment) (omega arith)))
    ∙ ap (λ (l : List Item). own ++ l) (none_pass n (items_from (n + 1) back) (are_above n (n + 1) back (omega arith)))
    ∙ append-none own)
  where
    append-none : (l : List Item) → l ++ [] ≡ l
    append-none [] = refl
    append-none (i ∷ l) = ap (λ (k : List Item). i ∷ k) (append-none l)

-- what the walk over a member's records ends with
member_walked : (list : List Member) (table : List EquateAnswer) (front : List Member) (m : Member) (back : List Member) → table_number list < 2 ^ 16 → list ≡ front ++ m ∷ back
    → AreMade list table start (items list) → AreSoundItems list table (items list) → (found : ℕ × Record) (founds : List (ℕ × Record)) → m.segment.records ≡ found ∷ founds
    → Walked (length front + 1) (body_size m.segment) (state_after list table (filter (λ (i : Item). leb i.place (length front + 1)) (items list)))
unfolding items state_after records_with_offsets body_size
member_walked list table front m back small parts are sound found founds records =
    let n = length front + 1 in
    let own = map (item n m) (located_from 0 m.segment.records) in
    let rest = items_from (1 + length front + 1) back in
    let whole : items_from 1 list ≡ items_from 1 front ++ (own ++ rest) =
    ap (items_from 1) parts ∙ items_from-append 1 front (m ∷ back) ∙ ap (λ (k : ℕ). items_from 1 front ++ (map (item k m) (located_from 0 m.segment.records) ++ rest)) (omega arith) in
    let kept : filter (λ (i : Item). leb i.place n) (items_from 1 list) ≡ items_from 1 front ++ own = ap (λ (l : List Member). filter (λ (i : Item). leb i.place n) (items_from 1 l)) parts ∙ up_to front m back in
    let made1 = made-append list table start (items_from 1 front) (own ++ rest) (subst (AreMade list table start) whole are) in
    let sound1 = sound-append list table (items_from 1 front) (own ++ rest) (subst (AreSoundItems list table) whole sound) in
    let before = state_from list table start (items_from 1 front) in
    let made2 = made-append list table before own rest made1.1 in
    let sound2 = sound-append list table own rest sound1.1 in
    let earlier : before.place ≤ length front = state_place list table start (length front) (items_from 1 front) (omega arith) (are_below (length front) 1 front (omega arith)) in
    let few = few_on list table start (items_from 1 front) small (omega arith) made1.0 sound1.0 in
    let walked = walk_all list table n m before found founds small (omega (arith, earlier)) few
    (subst (λ (l : List (ℕ × Record)). AreMade list table before (map (item n m) (located_from 0 l))) records made2.0)
    (subst (λ (l : List (ℕ × Record)). AreSoundItems list table (map (item n m) (located_from 0 l))) records sound2.0) in
    let again : Walked n (place_after 0 m.segment.records) (state_from list table before own) = subst (λ (l : List (ℕ × Record)). Walked n (place_after 0 l) (state_from list table before (map (item n m) (located_from 0 l)))) (sym records) walked in
    subst (Walked n (place_after 0 m.segment.records)) (sym (ap (state_from list table start) kept ∙ state_from-append list table start (items_from 1 front) own)) again

-- the member's cells: those of its records, and RESSPC zeros
pub record HasCells (size : ℕ) (cells : List Cell) : Type 0 where
  pub size' : length cells ≡ size
  pub runs : AreRuns cells

member_has : (list : List Member) (table : List EquateAnswer) (front : List Member) (m : Member) (back : List Member) → table_number list < 2 ^ 16 → list ≡ front ++ m ∷ back
    → AreMade list table start (items list) → AreSoundItems list table (items list) → (found : ℕ × Record) (founds : List (ℕ × Record)) → m.segment.records ≡ found ∷ founds
    → HasCells (body_size m.segment + m.segment.fields.res_spc) (member_cells list table (length front + 1) m)
unfolding member_cells
member_has list table front m back small parts are sound found founds records =
    let walked = member_walked list table front m back small parts are sound found founds records in
    let state = state_after list table (filter (λ (i : Item). leb i.place (length front + 1)) (items list)) in
    record {
      size' = omega (arith, length-append state.cells (zeros m.segment.fields.res_spc), walked.size, length-zeros m.segment.fields.res_spc);
      runs = both_runs state.cells (zeros m.segment.fields.res_spc) walked.runs (zero_runs m.segment.fields.res_spc);
    }

-- ---- load segments

-- each member has LENGTH cells
abbrev pub MembersHave : List Member → List EquateAnswer → Type 0
MembersHave list table = (front : List Member) (m : Member) (back : List Member) → list ≡ front ++ m ∷ back → HasCells m.segment.fields.length (member_cells list table (length front + 1) m)

-- where LENGTH of each member counts its records' cells and RESSPC, and each has a record
abbrev pub AreSized : List Member → Type 0
AreSized list = (front : List Member) (m : Member) (back : List Member) → list ≡ front ++ m ∷ back
    → (m.segment.fields.length ≡ body_size m.segment + m.segment.fields.res_spc) × ((found : ℕ × Record) × (founds : List (ℕ × Record)) × (m.segment.records ≡ found ∷ founds))

pub members_have : (list : List Member) (table : List EquateAnswer) → table_number list < 2 ^ 16 → AreMade list table start (items list) → AreSoundItems list table (items list) → AreSized list → MembersHave list table
members_have list table small are sound sized front m back parts =
    let of = sized front m back parts in
    subst (λ (n : ℕ). HasCells n (member_cells list table (length front + 1) m)) (sym of.0) (member_has list table front m back small parts are sound of.1.0 of.1.1 of.1.2)

end_from-append : (end : ℕ) (load_name : List ℕ) (xs ys : List Member) → end_from end load_name (xs ++ ys) ≡ end_from (end_from end load_name xs) load_name ys
end_from-append end load_name [] ys = refl
end_from-append end load_name (x ∷ xs) ys = end_from-append (cond (in_load load_name x) (aligned_from (alignment_of x.segment.fields.align) end + x.segment.fields.length) end) load_name xs ys

same_name : (xs ys : List ℕ) → bytes_eq xs ys ≡ true → xs ≡ ys
same_name xs ys e = (bytes_eq-Decides xs ys).0 e

-- the offset of a member is counted from the end of the cells so far
offset_is : (list front : List Member) (m : Member) (back : List Member) (load_name : List ℕ) (end : ℕ) → list ≡ front ++ m ∷ back → in_load load_name m ≡ true → end ≡ end_from 0 load_name front
    → offset_of list (length front + 1) m ≡ aligned_from (alignment_of m.segment.fields.align) end
unfolding offset_of
offset_is list front m back load_name end parts here is =
    let before : take (length front + 1 - 1) list ≡ front = ap (take (length front + 1 - 1)) parts ∙ take_at front (m ∷ back) (length front + 1 - 1) (omega arith) in
    ap (λ (l : List Member). aligned_from (alignment_of m.segment.fields.align) (end_from 0 m.segment.fields.load_name l)) before
    ∙ ap (λ (n : List ℕ). aligned_from (alignment_of m.segment.fields.align) (end_from 0 n front)) (same_name m.segment.fields.load_name load_name here)
    ∙ ap (aligned_from (alignment_of m.segment.fields.align)) (sym is)

-- one member more
abbrev Goes : List Member → List EquateAnswer → List ℕ → List Member → List Member → Type 0
Goes list table load_name front members = (cells : List Cell) → length cells ≡ end_from 0 load_name front → AreRuns cells
    → HasCells (end_from 0 load_name list) (cells_from list table load_name cells (length front + 1) members)

end_one : (end : ℕ) (load_name : List ℕ) (m : Member) (b : Bool) → in_load load_name m ≡ b → end_from end load_name (m ∷ []) ≡ cond b (aligned_from (alignment_of m.segment.fields.align) end + m.segment.fields.length) end
end_one end load_name m b is = ap (λ (t : Bool). cond t (aligned_from (alignment_of m.segment.fields.align) end + m.segment.fields.length) end) is

load_step : (list : List Member) (table : List EquateAnswer) (load_name : List ℕ) (front : List Member) (m : Member) (members : List Member) (cells : List Cell) → MembersHave list table → list ≡ front ++ m ∷ members
    → length cells ≡ end_from 0 load_name front → AreRuns cells → Goes list table load_name (front ++ m ∷ []) members → HasCells (end_from 0 load_name list) (cells_from list table load_name cells (length front + 1) (m ∷ members))
load_step list table load_name front m members cells have parts size runs go = by_bool (in_load load_name m) refl
  where
    place : ℕ
    place = length front + 1

    next : length (front ++ m ∷ []) + 1 ≡ place + 1
    next = ap (λ (n : ℕ). n + 1) (length-append front (m ∷ []))

    grown : List Cell
    grown = cells ++ zeros (offset_of list place m - length cells) ++ member_cells list table place m

    after : (b : Bool) → in_load load_name m ≡ b → (new : List Cell) → length new ≡ cond b (aligned_from (alignment_of m.segment.fields.align) (length cells) + m.segment.fields.length) (length cells) → AreRuns new
        → HasCells (end_from 0 load_name list) (cells_from list table load_name new (place + 1) members)
    after b is new len all =
        let end : length new ≡ end_from 0 load_name (front ++ m ∷ []) =
        len ∙ ap (λ (n : ℕ). cond b (aligned_from (alignment_of m.segment.fields.align) n + m.segment.fields.length) n) size ∙ sym (end_one (end_from 0 load_name front) load_name m b is) ∙ sym (end_from-append 0 load_name front (m ∷ [])) in
        subst (λ (n : ℕ). HasCells (end_from 0 load_name list) (cells_from list table load_name new n members)) next (go new end all)

    by_test : (b : Bool) → in_load load_name m ≡ b → HasCells (end_from 0 load_name list) (cells_from list table load_name (cond b grown cells) (place + 1) members)
        → HasCells (end_from 0 load_name list) (cells_from list table load_name cells place (m ∷ members))
    by_test b is given = subst (λ (t : Bool). HasCells (end_from 0 load_name list) (cells_from list table load_name (cond t grown cells) (place + 1) members)) (sym is) given

    by_bool : (b : Bool) → in_load load_name m ≡ b → HasCells (end_from 0 load_name list) (cells_from list table load_name cells place (m ∷ members))
    by_bool true is =
        let own = have front m members parts in
        let offset = offset_is list front m members load_name (length cells) parts is size in
        let le = (aligned_from-least (length cells) (alignment_of m.segment.fields.align) (alignment-some m.segment.fields.align)).not_below in
        by_test true is (after true is grown
        (omega (arith, length-append (cells ++ zeros (offset_of list place m - length cells)) (member_cells list table place m), length-append cells (zeros (offset_of list place m - length cells)), length-zeros (offset_of list place m - length cells), own.size', offset, le))
        (both_runs (cells ++ zeros (offset_of list place m - length cells)) (member_cells list table place m) (both_runs cells (zeros (offset_of list place m - length cells)) runs (zero_runs (offset_of list place m - length cells))) own.runs))
    by_bool false is = by_test false is (after false is cells refl runs)

load_has : (list : List Member) (table : List EquateAnswer) (load_name : List ℕ) (front members : List Member) (cells : List Cell) → MembersHave list table → list ≡ front ++ members
    → length cells ≡ end_from 0 load_name front → AreRuns cells → HasCells (end_from 0 load_name list) (cells_from list table load_name cells (length front + 1) members)
load_has list table load_name front [] cells have parts size runs =
    record { size' = size ∙ ap (end_from 0 load_name) (sym (parts ∙ append-none front)); runs = runs }
  where
    append-none : (l : List Member) → l ++ [] ≡ l
    append-none [] = refl
    append-none (m ∷ l) = ap (λ (k : List Member). m ∷ k) (append-none l)
load_has list table load_name front (m ∷ members) cells have parts size runs =
    load_step list table load_name front m members cells have parts size runs
    (λ c s r. load_has list table load_name (front ++ m ∷ []) members c have (parts ∙ sym (append_assoc front (m ∷ []) members)) s r)

-- a load segment has LENGTH cells, bytes and whole places
pub linked_has : (list : List Member) (table : List EquateAnswer) (load_name : List ℕ) → MembersHave list table → HasCells (load_length load_name list) (linked list table load_name)
unfolding load_length linked
linked_has list table load_name have = load_has list table load_name [] list [] have refl refl no_runs
