-- Marks of blocks, and the block that has a byte.
use Rattle.std.proofs.Common.{◌≡◌, ◌≢◌, ◌⊎◌, inl, inr, ℕ, zero, suc, ◌+◌, ◌^◌, ◌-◌, ◌<◌, ◌≤◌, List, [], ◌∷◌, ◌++◌, All, Contains, length, get_or, true, false, Bool, cond, not, ◌==◌, leb, leb-true, Option, Some, None, IsSomeAnd, IfSome, is_some, take, drop, unwrap_or, arith, refl, sym, ap, subst, ◌∙◌}
use Rattle.std.specs.List.{filter, remove}
use Rattle.std.specs.Prelude.{option_map, MatchOption}
use Rattle.std.specs.Option.{option_to_list}
use Rattle.std.specs.List.Sorted.{IsPermutation, IsNonDecreasingBy, IsPartitionPoint}
use Rattle.std.proofs.Math.ListN.{set, get_or-eq_default}
use Rattle.std.proofs.lemmas.Bool.{cases_lt, cases_eq, leb-false}
use Rattle.std.proofs.lemmas.Bool.Decides.{nat_tests}
use Rattle.std.proofs.lemmas.List.{append-nil, get_or_default}
use Rattle.std.proofs.lemmas.List.Edits.{length-remove, get_or-remove_below, get_or-remove_above}
use Rattle.std.proofs.lemmas.List.Elements.{Contains-get_or, Contains-append_left, Contains-push, Contains-push_cases, All-contains, All-contains_itself, All-filter, filter_passes, All-head, All-tail, All-append, All-take, All-drop}
use Rattle.std.proofs.lemmas.List.Sorted.{Contains-permutation, IsPermutation-sym}
use Rattle.std.proofs.lemmas.Option.{same_Some}
use Rattle.iigs_meaning.specs.declared.handles.Handle.{Handle}
use Rattle.iigs_meaning.specs.declared.slots.Slot.{Slot}
use Rattle.iigs_meaning.specs.declared.wants.Block.{Block}
use Rattle.iigs_meaning.specs.Slots.{slot_at, new_slot, used_value, get, released, after_release}
use Rattle.iigs_meaning.specs.Fits.{HoldsByte, block_in}
use Rattle.iigs_meaning.specs.Blocks.{AreApart, address_in}
use Rattle.iigs_places.specs.declared.marks.BlockMark.{BlockMark}
use Rattle.iigs_places.specs.Spots.{IsBoundedSlot}
use Rattle.iigs_places.specs.declared.layout.BlockLayout.{BlockLayout}
use Rattle.iigs_places.specs.Extent.{extent, Spans}
use Rattle.iigs_places.specs.Arranged.{IsArranged}
use Rattle.iigs_places.specs.Runs.{IsLayout}
use Rattle.iigs_places.specs.Marks.{mark, mark_in, AreGathered, HaveMarks, IsMarked, IsSized, CountsUpTo, CountsBefore, IsLast}
use Rattle.iigs_places.specs.Holder.{Has, IsHolder}
use Rattle.iigs_places.proofs.Extents.{holds_to, holds_from, bounded_extent, each_slot, start_extent}
use Rattle.iigs_places.proofs.Stays.{released_none}
use Rattle.iigs_places.proofs.Once.{once_filter, once_moved, once_more, once_push}
use Rattle.iigs_places.proofs.Changed.{set_other, set_here, live_block, live_in, with_is}

-- ---- marks that are gathered

module _ (slots : List (Slot Block)) (place : ℕ) (marks : List BlockMark) (g : AreGathered slots place marks) where
  gathered_none : extent (slot_at slots place) ≡ None → AreGathered slots (place + 1) marks
  gathered_none none = record {
    each = λ k e lt is. elim (cases_lt k place) [
      | inl before ↦ g.each k e before is
      | inr after ↦ absurd (clash k e (omega (arith, lt, after)) is)
    ];
    are = λ m has. (omega (arith, (g.are m has).0), (g.are m has).1, (g.are m has).2, (g.are m has).3);
    once = g.once;
  }
    where
      clash : (k : ℕ) (e : ℕ × ℕ) → k ≡ place → extent (slot_at slots k) ≡ Some e → ⊥
      clash k e at is = let no : None ≡ Some e = sym none ∙ ap (λ n. extent (slot_at slots n)) (sym at) ∙ is in absurd cc

  gathered_one : (e : ℕ × ℕ) → extent (slot_at slots place) ≡ Some e → AreGathered slots (place + 1) (marks ++ mark place e ∷ [])
  gathered_one e here = record {
    each = λ k f lt is. elim (cases_lt k place) [
      | inl before ↦ Contains-append_left marks (mark place e ∷ []) (mark k f) (g.each k f before is)
      | inr after ↦ subst (λ x. Contains (marks ++ mark place e ∷ []) x) (same k f (omega (arith, lt, after)) is) (Contains-push marks (mark place e))
    ];
    are = λ m has. elim (Contains-push_cases marks (mark place e) m has) [
      | inl old ↦ (omega (arith, (g.are m old).0), (g.are m old).1, (g.are m old).2, (g.are m old).3)
      | inr new ↦ subst (λ (x : BlockMark). (x.slot < place + 1) × (f : ℕ × ℕ) × (extent (slot_at slots x.slot) ≡ Some f) × (x ≡ mark x.slot f)) new (omega arith, e, here, refl)
    ];
    once = once_push marks (mark place e) (λ k d inside eq. absurd (omega (arith, (g.are (get_or marks k d) (Contains-get_or marks k d inside)).0, eq))) g.once;
  }
    where
      same : (k : ℕ) (f : ℕ × ℕ) → k ≡ place → extent (slot_at slots k) ≡ Some f → mark place e ≡ mark k f
      same k f at is =
          let one : e ≡ f = same_Some e f (sym here ∙ ap (λ n. extent (slot_at slots n)) (sym at) ∙ is) in
          ap (λ n. mark n e) (sym at) ∙ ap (mark k) one

  pub gather_more : AreGathered slots (place + 1) (marks ++ option_to_list (mark_in place (slot_at slots place)))
  gather_more = go (extent (slot_at slots place)) refl
    where
      go : (o : Option (ℕ × ℕ)) → extent (slot_at slots place) ≡ o → AreGathered slots (place + 1) (marks ++ option_to_list (option_map (mark place) o))
      go None is = rw (append-nil marks) (gathered_none is)
      go (Some e) is = gathered_one e is

pub past_none : (slots : List (Slot Block)) (place : ℕ) (e : ℕ × ℕ) → extent (slot_at slots place) ≡ Some e → place < length slots
past_none slots place e is = elim (cases_lt place (length slots)) [
  | inl lt ↦ lt
  | inr le ↦ let no : None ≡ Some e = ap extent (sym (get_or-eq_default slots new_slot le)) ∙ is in absurd cc
]

-- where the other slots were never used those are all marks
pub gathered_all : (slots : List (Slot Block)) (count : ℕ) (marks : List BlockMark) → AreGathered slots count marks → ((place : ℕ) → count ≤ place → slot_at slots place ≡ new_slot) → count ≤ length slots
    → AreGathered slots (length slots) marks
gathered_all slots count marks g unused le = record {
  each = λ place e lt is. elim (cases_lt place count) [
    | inl before ↦ g.each place e before is
    | inr following ↦ (let no : None ≡ Some e = ap extent (sym (unused place following)) ∙ is in absurd cc)
  ];
  are = λ m has. (omega (arith, (g.are m has).0, le), (g.are m has).1, (g.are m has).2, (g.are m has).3);
  once = g.once;
}

pub sorted_marks : (slots : List (Slot Block)) (marks sorted : List BlockMark) → AreGathered slots (length slots) marks → IsPermutation marks sorted → HaveMarks slots sorted
sorted_marks slots marks sorted g moved = record {
  each = λ place e is. Contains-permutation marks sorted (mark place e) moved (g.each place e (past_none slots place e is) is);
  are = λ m has. let one = g.are m (Contains-permutation sorted marks m (IsPermutation-sym marks sorted moved) has) in (one.1, one.2, one.3);
  once = once_moved marks sorted moved g.once;
}

-- ---- changes of marks

pub have_moved : (slots : List (Slot Block)) (marks moved : List BlockMark) → IsPermutation marks moved → HaveMarks slots marks → HaveMarks slots moved
have_moved slots marks moved same have = record {
  each = λ place e is. Contains-permutation marks moved (mark place e) same (have.each place e is);
  are = λ m has. have.are m (Contains-permutation moved marks m (IsPermutation-sym marks moved same) has);
  once = once_moved marks moved same have.once;
}

pub have_same : (old new : List (Slot Block)) (marks : List BlockMark) → ((place : ℕ) → extent (slot_at new place) ≡ extent (slot_at old place)) → HaveMarks old marks → HaveMarks new marks
have_same old new marks same have = record {
  each = λ place e is. have.each place e (sym (same place) ∙ is);
  are = λ m has. let one = have.are m has in (one.0, same m.slot ∙ one.1, one.2);
  once = have.once;
}

pub cons_cases : {X : Type 0} (y : X) (xs : List X) (x : X) → Contains (y ∷ xs) x → (y ≡ x) ⊎ Contains xs x
cons_cases y xs x has = go has.0 has.1 has.2
  where
    go : (k : ℕ) → k < length (y ∷ xs) → get_or (y ∷ xs) k x ≡ x → (y ≡ x) ⊎ Contains xs x
    go zero lt is = inl is
    go (suc k) lt is = inr (k, omega (arith, lt), is)

pub cons_first : {X : Type 0} (y : X) (xs : List X) → Contains (y ∷ xs) y
cons_first y xs = (0, omega arith, refl)

pub cons_rest : {X : Type 0} (y : X) (xs : List X) (x : X) → Contains xs x → Contains (y ∷ xs) x
cons_rest y xs x has = (suc has.0, omega (arith, has.1), has.2)

-- a block more in a slot that had none
pub have_set : (slots : List (Slot Block)) (at : ℕ) (slot : Slot Block) (e : ℕ × ℕ) (marks : List BlockMark) → at < length slots → extent (slot_at slots at) ≡ None → extent slot ≡ Some e
    → HaveMarks slots marks → HaveMarks (set slots at slot) (mark at e ∷ marks)
have_set slots at slot e marks inside none is have = record {
  each = λ place f there. elim (cases_eq place at) [
    | inl eq ↦ (let one : Some e ≡ Some f = sym is ∙ ap extent (sym (set_here slots at slot inside)) ∙ ap (λ n. extent (slot_at (set slots at slot) n)) (sym eq) ∙ there in
        subst (λ (x : BlockMark). Contains (mark at e ∷ marks) x) (ap (λ n. mark n e) (sym eq) ∙ ap (mark place) (same_Some e f one)) (cons_first (mark at e) marks))
    | inr ne ↦ cons_rest (mark at e) marks (mark place f) (have.each place f (ap extent (sym (set_other slots at slot place ne)) ∙ there))
  ];
  are = λ m has. elim (cons_cases (mark at e) marks m has) [
    | inl new ↦ subst (λ (x : BlockMark). (f : ℕ × ℕ) × (extent (slot_at (set slots at slot) x.slot) ≡ Some f) × (x ≡ mark x.slot f)) new (e, ap extent (set_here slots at slot inside) ∙ is, refl)
    | inr old ↦ (let one = have.are m old in
        let ne : m.slot ≢ at = λ eq. clash one.0 (sym none ∙ ap (λ n. extent (slot_at slots n)) (sym eq) ∙ one.1) in
        (one.0, ap extent (set_other slots at slot m.slot ne) ∙ one.1, one.2))
  ];
  once = once_more marks (mark at e) (λ k d inside eq.
      let one = have.are (get_or marks k d) (Contains-get_or marks k d inside) in
      clash one.0 (sym none ∙ ap (λ n. extent (slot_at slots n)) (sym eq) ∙ one.1)) have.once;
}
  where
    clash : (f : ℕ × ℕ) → None ≡ Some f → ⊥
    clash f e = cc

-- ---- marks that are dropped

pub filter_has : {X : Type 0} (p : X → Bool) (xs : List X) (x : X) → p x ≡ true → Contains xs x → Contains (filter p xs) x
filter_has p [] x passes has = absurd (omega (arith, has.1))
filter_has p (y ∷ ys) x passes has = elim (cons_cases y ys x has) [
  | inl same ↦ (let first : p y ≡ true = ap p same ∙ passes in rw first (subst (λ z. Contains (y ∷ filter p ys) z) same (cons_first y (filter p ys))))
  | inr rest ↦ more (p y) (filter_has p ys x passes rest)
]
  where
    more : (b : Bool) → Contains (filter p ys) x → Contains (cond b (y ∷ filter p ys) (filter p ys)) x
    more true has = cons_rest y (filter p ys) x has
    more false has = has

pub filter_from : {X : Type 0} (p : X → Bool) (xs : List X) (x : X) → Contains (filter p xs) x → Contains xs x
filter_from p xs x has = All-contains (Contains xs) (filter p xs) x (All-filter p (Contains xs) xs (All-contains_itself xs)) has

pub filter_pass : {X : Type 0} (p : X → Bool) (xs : List X) (x : X) → Contains (filter p xs) x → p x ≡ true
filter_pass p xs x has = All-contains (λ y. p y ≡ true) (filter p xs) x (filter_passes p xs) has

pub filter_remove : {X : Type 0} (p : X → Bool) (xs : List X) (i : ℕ) (d : X) → i < length xs → p (get_or xs i d) ≡ false → filter p (remove xs i) ≡ filter p xs
filter_remove p [] i d inside fails = absurd (omega (arith, inside))
filter_remove p (x ∷ xs) zero d inside fails = rw fails refl
filter_remove p (x ∷ xs) (suc i) d inside fails = ap (λ ys. cond (p x) (x ∷ ys) ys) (filter_remove p xs i d (omega (arith, inside)) fails)

filter_all : {X : Type 0} (p : X → Bool) (xs : List X) → All (λ x. p x ≡ true) xs → filter p xs ≡ xs
filter_all p [] all = refl
filter_all p (x ∷ xs) all = rw (All-head (λ y. p y ≡ true) x xs all) (ap (λ ys. x ∷ ys) (filter_all p xs (All-tail (λ y. p y ≡ true) x xs all)))

module _ (slot : ℕ) where
  -- a mark of the slot fewer
  pub drop_one : (marks : List BlockMark) (place : ℕ) (d : BlockMark) → place < length marks → (get_or marks place d).slot ≡ slot
      → filter (λ (m : BlockMark). not (m.slot == slot)) (remove marks place) ≡ filter (λ (m : BlockMark). not (m.slot == slot)) marks
  drop_one marks place d inside is =
      let test : ((get_or marks place d).slot == slot) ≡ true = grind (arith, nat_tests) in
      filter_remove (λ (m : BlockMark). not (m.slot == slot)) marks place d inside (rw test refl)

  pub drop_none : (marks : List BlockMark) → All (λ m. m.slot ≢ slot) marks → filter (λ (m : BlockMark). not (m.slot == slot)) marks ≡ marks
  drop_none marks all = filter_all (λ (m : BlockMark). not (m.slot == slot)) marks
      (λ k d inside. let ne : (get_or marks k d).slot ≢ slot = all k d inside in let test : ((get_or marks k d).slot == slot) ≡ false = grind (arith, nat_tests) in rw test refl)

-- the marks of a live handle's slot are at its block's address
pub marks_at : (slots : List (Slot Block)) (h : Handle) (block : Block) (marks : List BlockMark) → get slots h ≡ Some block → HaveMarks slots marks
    → All (λ (m : BlockMark). m.slot ≡ h.slot → m.at ≡ unwrap_or block.at 0) marks
marks_at slots h block marks was have = λ k d inside same.
    let m : BlockMark = get_or marks k d in
    let one = have.are m (Contains-get_or marks k d inside) in
    let there : block_in (slot_at slots h.slot) ≡ Some block = live_block slots h block was in
    let is : extent (slot_at slots h.slot) ≡ Some one.0 = ap (λ n. extent (slot_at slots n)) (sym same) ∙ one.1 in
    let start : unwrap_or (address_in (slot_at slots h.slot)) 0 ≡ one.0.0 = start_extent (slot_at slots h.slot) one.0 is in
    ap (λ (x : BlockMark). x.at) one.2 ∙ sym (rw there at start)

-- where no mark before a place is the slot's, and the mark at the place lies after the address, no mark is the slot's
pub none_after : (marks : List BlockMark) (slot address count place : ℕ) (d : BlockMark) → IsNonDecreasingBy (λ m. m.at) marks → All (λ m. m.slot ≡ slot → m.at ≡ address) marks
    → CountsBefore marks address count → count ≤ place → place < length marks → (get_or marks place d).at ≢ address
    → ((k : ℕ) (e : BlockMark) → k < place → (get_or marks k e).slot ≢ slot) → All (λ m. m.slot ≢ slot) marks
none_after marks slot address count place d order same counts from inside ne before = λ k e lt. elim (cases_lt k place) [
  | inl lt' ↦ before k e lt'
  | inr ge ↦ λ is.
      let up : (get_or marks place e).at ≤ (get_or marks k e).at = order place k e ge lt in
      let one : (get_or marks place d).at ≡ (get_or marks place e).at = ap (λ (m : BlockMark). m.at) (get_or_default marks place d e inside) in
      let low : address ≤ (get_or marks place d).at = counts.following place d from inside in
      ne (omega (arith, up, one, low, same k e lt is))
]

-- an item less
pub order_remove : {X : Type 0} (n : X → ℕ) (xs : List X) (i : ℕ) → i < length xs → IsNonDecreasingBy n xs → IsNonDecreasingBy n (remove xs i)
order_remove n xs i inside up a b d le lt =
    let lt' : b + 1 < length xs = omega (arith, length-remove xs i inside, lt) in
    elim (cases_lt b i) [
      | inl before ↦ rw (get_or-remove_below xs i d a (omega (arith, le, before)) inside, get_or-remove_below xs i d b before inside) (up a b d le (omega (arith, lt')))
      | inr following ↦ elim (cases_lt a i) [
        | inl before ↦ rw (get_or-remove_below xs i d a before inside, get_or-remove_above xs i d b following inside) (up a (b + 1) d (omega (arith, le)) lt')
        | inr following' ↦ rw (get_or-remove_above xs i d a following' inside, get_or-remove_above xs i d b following inside) (up (a + 1) (b + 1) d (omega (arith, le)) lt')
      ]
    ]

pub All-remove : {X : Type 0} (P : X → Type 0) (xs : List X) (i : ℕ) → All P xs → All P (remove xs i)
All-remove P xs i all = All-append P (take i xs) (drop (suc i) xs) (All-take P i xs all) (All-drop P (suc i) xs all)

-- a slot's block is gone
pub have_gone : (slots : List (Slot Block)) (at : ℕ) (slot : Slot Block) (marks : List BlockMark) → at < length slots → extent slot ≡ None → HaveMarks slots marks
    → HaveMarks (set slots at slot) (filter (λ (m : BlockMark). not (m.slot == at)) marks)
have_gone slots at slot marks inside gone have = record {
  each = λ place e there. elim (cases_eq place at) [
    | inl eq ↦ absurd (clash e (sym gone ∙ ap extent (sym (set_here slots at slot inside)) ∙ ap (λ n. extent (slot_at (set slots at slot) n)) (sym eq) ∙ there))
    | inr ne ↦ filter_has (λ (m : BlockMark). not (m.slot == at)) marks (mark place e) (differ place ne)
        (have.each place e (ap extent (sym (set_other slots at slot place ne)) ∙ there))
  ];
  are = λ m has.
      let one = have.are m (filter_from (λ (m : BlockMark). not (m.slot == at)) marks m has) in
      let ne : m.slot ≢ at = other m.slot (filter_pass (λ (m : BlockMark). not (m.slot == at)) marks m has) in
      (one.0, ap extent (set_other slots at slot m.slot ne) ∙ one.1, one.2);
  once = once_filter (λ (m : BlockMark). not (m.slot == at)) marks have.once;
}
  where
    clash : (f : ℕ × ℕ) → None ≡ Some f → ⊥
    clash f e = cc

    differ : (place : ℕ) → place ≢ at → not (place == at) ≡ true
    differ place ne = let test : (place == at) ≡ false = grind (arith, nat_tests) in rw test refl

    other : (place : ℕ) → not (place == at) ≡ true → place ≢ at
    other place is = go (place == at) refl is
      where
        go : (b : Bool) → (place == at) ≡ b → not b ≡ true → place ≢ at
        go true eq e = absurd (cc)
        go false ne e = grind (arith, nat_tests)

pub have_released : (slots : List (Slot Block)) (h : Handle) (marks : List BlockMark) → is_some (get slots h) ≡ true → HaveMarks slots marks
    → HaveMarks (after_release slots h) (filter (λ (m : BlockMark). not (m.slot == h.slot)) marks)
have_released slots h marks live have = rw (with_is slots h (released h.generation) live)
    (have_gone slots h.slot (released h.generation) marks (live_in slots h live) (released_none h.generation) have)

-- ---- their sizes

pub marks_sized : (slots : List (Slot Block)) (marks : List BlockMark) → All IsBoundedSlot slots → HaveMarks slots marks → All IsSized marks
marks_sized slots marks bounded have = λ k d inside.
    let m : BlockMark = get_or marks k d in
    let one = have.are m (Contains-get_or marks k d inside) in
    let limit : IfSome (extent (slot_at slots m.slot)) (λ f. (0 < f.1) × (f.0 + f.1 ≤ 2 ^ 24)) = bounded_extent (slot_at slots m.slot) (each_slot IsBoundedSlot slots tt bounded m.slot) in
    let some : (0 < one.0.1) × (one.0.0 + one.0.1 ≤ 2 ^ 24) = rw one.1 at limit in
    let at_is : m.at ≡ one.0.0 = ap (λ (x : BlockMark). x.at) one.2 in
    let end_is : m.end ≡ one.0.0 + one.0.1 = ap (λ (x : BlockMark). x.end) one.2 in
    (omega (arith, at_is, end_is, some.0), omega (arith, end_is, some.1))

-- ---- the last mark

pub counted : (marks : List BlockMark) (address count : ℕ) → IsPartitionPoint (λ (m : BlockMark). leb m.at address ≡ true) (λ (m : BlockMark). leb m.at address ≡ false) marks count → count ≤ length marks
    → CountsUpTo marks address count
counted marks address count point within = record {
  before = λ i d lt. leb-true (get_or marks i d).at address (point.0 i d (omega (arith, lt, within)) lt);
  following = λ i d le inside. leb-false (get_or marks i d).at address (point.1 i d le inside);
}

module _ (marks : List BlockMark) (address count : ℕ) (c : CountsUpTo marks address count) where
  before_it : (m : BlockMark) → (has : Contains marks m) → m.at ≤ address → has.0 < count
  before_it m has le = elim (cases_lt has.0 count) [
    | inl lt ↦ lt
    | inr following ↦ absurd (omega (arith, c.following has.0 m following has.1, ap (λ (x : BlockMark). x.at) has.2, le))
  ]

  pub last_at : (d : BlockMark) → 0 < count → count ≤ length marks → IsNonDecreasingBy (λ m. m.at) marks → IsLast marks address (get_or marks (count - 1) d)
  last_at d some within order = record {
    is = Contains-get_or marks (count - 1) d (omega (arith, some, within));
    before = c.before (count - 1) d (omega (arith, some));
    most = λ m has le.
        let before = before_it m has le in
        let both = order has.0 (count - 1) d (omega (arith, before)) (omega (arith, some, within)) in
        let one : get_or marks has.0 d ≡ m = get_or_default marks has.0 d m has.1 ∙ has.2 in
        omega (arith, both, ap (λ (x : BlockMark). x.at) one);
  }

-- ---- marks of a store

marked_of : (banks : List ℕ) (slots : List (Slot Block)) (marks : List BlockMark) → length slots ≡ 4096 → All IsBoundedSlot slots → AreApart banks slots
    → IsNonDecreasingBy (λ m. m.at) marks → HaveMarks slots marks → IsMarked slots marks
marked_of banks slots marks count bounded sound order have = record {
  order = order;
  small = λ m has. let one = have.are m has in omega (arith, count, past_none slots m.slot one.0 one.1);
  each = have.each;
  apart = λ place e m is has not spans. let one = have.are m has in
      let limit : IfSome (extent (slot_at slots m.slot)) (λ f. (0 < f.1) × (f.0 + f.1 ≤ 2 ^ 24)) = bounded_extent (slot_at slots m.slot) (each_slot IsBoundedSlot slots tt bounded m.slot) in
      let some : (0 < one.0.1) × (one.0.0 + one.0.1 ≤ 2 ^ 24) = rw one.1 at limit in
      let at_is : m.at ≡ one.0.0 = ap (λ (x : BlockMark). x.at) one.2 in
      let own : Spans m.at one.0 = (omega (arith, at_is), omega (arith, at_is, some.0)) in
      not (sound.apart m.slot place m.at (holds_from m.at (slot_at slots m.slot) (rw one.1 own)) (holds_from m.at (slot_at slots place) (rw is spans)));
}

pub is_marked : (banks : List ℕ) (slots : List (Slot Block)) (layout : BlockLayout) → IsArranged banks slots → IsLayout slots layout → IsMarked slots layout.marks.items
is_marked banks slots layout arranged lies = marked_of banks slots layout.marks.items arranged.count arranged.bounded arranged.sound lies.laid.order lies.have

-- ---- the block that has a byte

pub extent_in : (i : ℕ) (slot : Slot Block) → IsSomeAnd (extent slot) (Spans i) → (e : ℕ × ℕ) × (extent slot ≡ Some e) × Spans i e
extent_in i slot spans = go (extent slot) refl spans
  where
    go : (o : Option (ℕ × ℕ)) → extent slot ≡ o → IsSomeAnd o (Spans i) → (e : ℕ × ℕ) × (extent slot ≡ Some e) × Spans i e
    go None is spans = absurd spans
    go (Some e) is spans = (e, is, spans)

module _ (slots : List (Slot Block)) (marks : List BlockMark) (made : IsMarked slots marks) (address : ℕ) where
  pub no_block : ((m : BlockMark) → Contains marks m → address < m.at) → (place : ℕ) → ¬ HoldsByte address (slot_at slots place)
  no_block following place holds =
      let e = extent_in address (slot_at slots place) (holds_to address (slot_at slots place) holds) in
      absurd (omega (arith, following (mark place e.0) (made.each place e.0 e.1), e.2.0))

  pub last_block : (last : BlockMark) → IsLast marks address last → (place : ℕ) → HoldsByte address (slot_at slots place) → place ≡ last.slot
  last_block last is place holds = go (last.slot == place) refl
    where
      go : (b : Bool) → (last.slot == place) ≡ b → place ≡ last.slot
      go true same = grind arith
      go false other =
          let e = extent_in address (slot_at slots place) (holds_to address (slot_at slots place) holds) in
          let not : last.slot ≢ place = grind arith in
          let from = is.most (mark place e.0) (made.each place e.0 e.1) e.2.0 in
          absurd (made.apart place e.0 last e.1 is.is not (from, omega (arith, is.before, e.2.1)))

-- ---- handles of slots

module _ (slots : List (Slot Block)) (address : ℕ) where
  in_live : (slot : Slot Block) (b : Bool) → IsSomeAnd (cond b (used_value slot.content) None) (λ block. IsSomeAnd block.at (λ first. (first ≤ address) × (address < first + block.want.size)))
      → (b ≡ true) × HoldsByte address slot
  in_live slot true has = (refl, has)
  in_live slot false has = absurd has

  pub has_byte : (h : Handle) → Has slots address h → ((slot_at slots h.slot).generation ≡ h.generation) × HoldsByte address (slot_at slots h.slot)
  has_byte h has =
      let both = in_live (slot_at slots h.slot) ((slot_at slots h.slot).generation == h.generation) has in
      let same : ((slot_at slots h.slot).generation == h.generation) ≡ true = both.0 in
      (grind arith, both.1)

  pub holder_is : (place : ℕ) (h : Handle) → ((other : ℕ) → HoldsByte address (slot_at slots other) → other ≡ place) → h.slot ≡ place → Has slots address h → IsHolder slots address h
  holder_is place h only slot has = record {
    has = has;
    only = λ k other.
        let one = has_byte h has in
        let two = has_byte k other in
        let same : k.slot ≡ h.slot = only k.slot two.1 ∙ sym slot in
        let generation : k.generation ≡ h.generation = sym two.0 ∙ ap (λ n. (slot_at slots n).generation) same ∙ one.0 in
        ap (λ n. record { slot = n; generation = k.generation }) same ∙ ap (λ n. record { slot = h.slot; generation = n }) generation;
  }

module _ (slots : List (Slot Block)) (marks : List BlockMark) (made : IsMarked slots marks) (address : ℕ) where
  pub no_holder : ((m : BlockMark) → Contains marks m → address < m.at) → (h : Handle) → ¬ Has slots address h
  no_holder following h has = no_block slots marks made address following h.slot (has_byte slots address h has).1

  -- the result for the last mark's slot holds for all slots
  pub held_is : (last : BlockMark) → IsLast marks address last → (result : Option Handle)
      → MatchOption result (¬ HoldsByte address (slot_at slots last.slot)) (λ h. (h.slot ≡ last.slot) × Has slots address h)
      → MatchOption result ((h : Handle) → ¬ Has slots address h) (IsHolder slots address)
  held_is last is None none = λ h has.
      let one = has_byte slots address h has in
      none (subst (λ n. HoldsByte address (slot_at slots n)) (last_block slots marks made address last is h.slot one.1) one.1)
  held_is last is (Some h) found = holder_is slots address last.slot h (last_block slots marks made address last is) found.0 found.1
