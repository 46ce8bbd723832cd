-- The walk over members: each gives its cells to its load segment.
use Rattle.std.proofs.Common.{◌≡◌, ◌⊎◌, inl, inr, ℕ, zero, suc, ◌+◌, ◌-◌, ◌≤◌, ◌<◌, Bool, true, false, not, cond, List, [], ◌∷◌, ◌++◌, length, map, Option, Some, None, Result, Err, refl, sym, ap, subst, ◌∙◌, append_assoc, append-nil, arith}
use Rattle.std.specs.Prelude.{slice_get, slice_set, filter, take, option_map}
use Rattle.std.specs.List.{AllByRecursion}
use Rattle.std.specs.Str.{bytes_eq}
use Rattle.std.proofs.lemmas.Bool.{cases_Bool}
use Rattle.std.proofs.lemmas.List.{length-append, take_at}
use Rattle.std.proofs.lemmas.Slice.Eq.{bytes_eq-Decides}
use Rattle.omf_format.specs.Header.{alignment_of}
use Rattle.omf_format.specs.File.{Segment}
use Rattle.load_meaning.specs.Cells.{Cell}
use Rattle.load_meaning.specs.declared.table.Target.{Target}
use Rattle.link_meaning.specs.declared.fault.LinkCause.{LinkCause}
use Rattle.link_meaning.specs.declared.fault.LinkFault.{LinkFault}
use Rattle.link_meaning.specs.First.{IsIn, IsFirst}
use Rattle.link_meaning.specs.Member.{Member}
use Rattle.link_meaning.specs.Layout.{in_load, end_from, offset_of, distinct, load_names, number_in, load_of}
use Rattle.link_meaning.specs.laws.Steps.{aligned_from}
use Rattle.link_meaning.specs.laws.LayoutLaws.{aligned_from-least, alignment-some}
use Rattle.link_meaning.specs.LinkValues.{EquateAnswer}
use Rattle.link_meaning.specs.LinkedCells.{Item, LinkState, Made, zeros, items_from, items, made, state_after, member_cells}
use Rattle.link_meaning.specs.LinkWritten.{AreMade, start}
use Rattle.link_meaning.specs.LinkFaults.{spot_in}
use Rattle.link_meaning.specs.laws.MadeLaws.{length-zeros}
use Rattle.link_meaning.specs.laws.LinkedRuns.{items_from-append, state_from-append}
use Rattle.link_meaning.specs.laws.LinkedWalk.{state_of, linked_after, own_items, none_after, all_following, all_targets, member_after}
use Rattle.link_meaning.specs.EmitFaults.{HasValueFault}
use Rattle.link_meaning.specs.laws.EmitFaultLaws.{made_none, fine_failed}
use Rattle.link_meaning.specs.laws.PlaceFits.{in_parts, name_there}
use Rattle.link_content.specs.Holding.{Holding}
use Rattle.link_program.specs.declared.member_place.MemberPlace.{MemberPlace}
use Rattle.link_content.specs.Contents.{HoldsCells}
use Rattle.link_file.specs.Images.{HoldLinked}
use Rattle.link_program.specs.Linked.{member_at}
use Rattle.link_program.specs.MemberPlaces.{IsMemberPlace, MemberPlaceOf}
use Rattle.link_file.specs.Walks.{Unmade, StandsAfter, PutsMember, HoldsAfter, HoldAfter, IsWalkedTo, AreEmpty, IsFilled}
use Rattle.link_values.proofs.FileFacts.{parts_there}
use Rattle.link_values.proofs.LocatedLaws.{made-append}

-- ---- texts

bytes_same : (x y : List ℕ) → bytes_eq x y ≡ true → x ≡ y
bytes_same x y e = (bytes_eq-Decides x y).0 e

bytes_refl : (x : List ℕ) → bytes_eq x x ≡ true
bytes_refl x = (bytes_eq-Decides x x).1 refl

true_false : true ≡ false → ⊥
true_false e = cc

bytes_other : (x y : List ℕ) → bytes_eq x y ≡ false → bytes_eq y x ≡ false
bytes_other x y e = by_test (bytes_eq y x) refl
  where
    by_test : (b : Bool) → bytes_eq y x ≡ b → bytes_eq y x ≡ false
    by_test false is = is
    by_test true is = absurd (true_false (sym (bytes_refl x) ∙ ap (bytes_eq x) (sym (bytes_same y x is)) ∙ e))

-- no text occurs twice
abbrev Apart : List (List ℕ) → Type 0
Apart [] = Unit {0}
Apart (x ∷ xs) = AllByRecursion (λ (y : List ℕ). bytes_eq y x ≡ false) xs × Apart xs

all_filter : (P : List ℕ → Type 0) (keeps : List ℕ → Bool) (xs : List (List ℕ)) → AllByRecursion P xs → AllByRecursion P (filter keeps xs)
all_filter P keeps [] all = tt
all_filter P keeps (x ∷ xs) all = by_test (keeps x) (all_filter P keeps xs all.1)
  where
    by_test : (b : Bool) → AllByRecursion P (filter keeps xs) → AllByRecursion P (cond b (x ∷ filter keeps xs) (filter keeps xs))
    by_test true rest = (all.0, rest)
    by_test false rest = rest

apart_filter : (keeps : List ℕ → Bool) (xs : List (List ℕ)) → Apart xs → Apart (filter keeps xs)
apart_filter keeps [] apart = tt
apart_filter keeps (x ∷ xs) apart = by_test (keeps x) (apart_filter keeps xs apart.1)
  where
    by_test : (b : Bool) → Apart (filter keeps xs) → Apart (cond b (x ∷ filter keeps xs) (filter keeps xs))
    by_test true rest = (all_filter (λ (y : List ℕ). bytes_eq y x ≡ false) keeps xs apart.0, rest)
    by_test false rest = rest

none_kept : (x : List ℕ) (xs : List (List ℕ)) → AllByRecursion (λ (y : List ℕ). bytes_eq y x ≡ false) (filter (λ (y : List ℕ). not (bytes_eq y x)) xs)
none_kept x [] = tt
none_kept x (y ∷ xs) = by_test (bytes_eq y x) refl (none_kept x xs)
  where
    by_test : (b : Bool) → bytes_eq y x ≡ b → AllByRecursion (λ (z : List ℕ). bytes_eq z x ≡ false) (filter (λ (z : List ℕ). not (bytes_eq z x)) xs)
        → AllByRecursion (λ (z : List ℕ). bytes_eq z x ≡ false) (cond (not b) (y ∷ filter (λ (z : List ℕ). not (bytes_eq z x)) xs) (filter (λ (z : List ℕ). not (bytes_eq z x)) xs))
    by_test true is rest = rest
    by_test false is rest = (is, rest)

distinct_apart : (xs : List (List ℕ)) → Apart (distinct xs)
distinct_apart [] = tt
distinct_apart (x ∷ xs) = (none_kept x (distinct xs), apart_filter (λ (y : List ℕ). not (bytes_eq y x)) (distinct xs) (distinct_apart xs))

-- ---- one member more

module _ (list : List Member) (reported : List EquateAnswer) (front : List Member) (m : Member) where
  abbrev its_name : List ℕ
  its_name = m.segment.fields.load_name

  end_one : (x : List ℕ) → end_from 0 x (front ++ m ∷ []) ≡ cond (in_load x m) (aligned_from (alignment_of m.segment.fields.align) (end_from 0 x front) + m.segment.fields.length) (end_from 0 x front)
  end_one x = end-append 0 front
    where
      end-append : (end : ℕ) (xs : List Member) → end_from end x (xs ++ m ∷ []) ≡ cond (in_load x m) (aligned_from (alignment_of m.segment.fields.align) (end_from end x xs) + m.segment.fields.length) (end_from end x xs)
      end-append end [] = refl
      end-append end (o ∷ xs) = end-append (cond (in_load x o) (aligned_from (alignment_of o.segment.fields.align) end + o.segment.fields.length) end) xs

  -- another load segment stays
  other_holds : (x : List ℕ) (content : Holding) → in_load x m ≡ false → HoldsAfter list reported front x content → HoldsAfter list reported (front ++ m ∷ []) x content
  other_holds x content other holds =
      let same : linked_after list reported x (front ++ m ∷ []) ≡ linked_after list reported x front =
      member_after list reported x front m ∙ ap (λ (b : Bool). cond b (linked_after list reported x front ++ zeros (offset_of list (length front + 1) m - length (linked_after list reported x front)) ++ member_cells list reported (length front + 1) m) (linked_after list reported x front)) other in
      record {
        cells' = subst (λ (l : List Cell). HoldsCells l content) (sym same) holds.cells';
        size = ap length same ∙ holds.size ∙ sym (end_one x ∙ ap (λ (b : Bool). cond b (aligned_from (alignment_of m.segment.fields.align) (end_from 0 x front) + m.segment.fields.length) (end_from 0 x front)) other);
      }

  -- the member's own one grows
  own_holds : (x : List ℕ) (content : Holding) → in_load x m ≡ true → length (linked_after list reported x front) ≡ end_from 0 x front
      → offset_of list (length front + 1) m ≡ aligned_from (alignment_of m.segment.fields.align) (end_from 0 x front) → length (member_cells list reported (length front + 1) m) ≡ m.segment.fields.length
      → HoldsCells (linked_after list reported x front ++ zeros (offset_of list (length front + 1) m - length (linked_after list reported x front)) ++ member_cells list reported (length front + 1) m) content
      → HoldsAfter list reported (front ++ m ∷ []) x content
  own_holds x content own size offset its holds =
      let cells = linked_after list reported x front in
      let gap = zeros (offset_of list (length front + 1) m - length cells) in
      let same : linked_after list reported x (front ++ m ∷ []) ≡ cells ++ gap ++ member_cells list reported (length front + 1) m =
      member_after list reported x front m ∙ ap (λ (b : Bool). cond b (cells ++ gap ++ member_cells list reported (length front + 1) m) cells) own in
      let end : end_from 0 x (front ++ m ∷ []) ≡ aligned_from (alignment_of m.segment.fields.align) (end_from 0 x front) + m.segment.fields.length =
      end_one x ∙ ap (λ (b : Bool). cond b (aligned_from (alignment_of m.segment.fields.align) (end_from 0 x front) + m.segment.fields.length) (end_from 0 x front)) own in
      let le = (aligned_from-least (end_from 0 x front) (alignment_of m.segment.fields.align) (alignment-some m.segment.fields.align)).not_below in
      record {
        cells' = subst (λ (l : List Cell). HoldsCells l content) (sym same) holds;
        size = omega (arith, ap length same, length-append (cells ++ gap) (member_cells list reported (length front + 1) m), length-append cells gap, length-zeros (offset_of list (length front + 1) m - length cells), its, end, size, offset, le);
      }

  others_hold : (xs : List (List ℕ)) (contents : List Holding) → AllByRecursion (λ (y : List ℕ). bytes_eq y its_name ≡ false) xs → HoldAfter list reported front xs contents → HoldAfter list reported (front ++ m ∷ []) xs contents
  others_hold [] [] all hold = tt
  others_hold [] (content ∷ contents) all hold = absurd hold
  others_hold (x ∷ xs) [] all hold = absurd hold
  others_hold (x ∷ xs) (content ∷ contents) all hold = (other_holds x content (bytes_other x its_name all.0) hold.0, others_hold xs contents all.1 hold.1)

  pub hold_more : (xs : List (List ℕ)) (contents : List Holding) (content : Holding) → Apart xs → HoldAfter list reported front xs contents
      → ((x : List ℕ) → bytes_eq x its_name ≡ true → length (linked_after list reported x front) ≡ end_from 0 x front → HoldsAfter list reported (front ++ m ∷ []) x content)
      → HoldAfter list reported (front ++ m ∷ []) xs (slice_set contents (number_in xs its_name - 1) content)
  hold_more [] [] content apart hold own = tt
  hold_more [] (c ∷ contents) content apart hold own = absurd hold
  hold_more (x ∷ xs) [] content apart hold own = absurd hold
  hold_more (x ∷ xs) (c ∷ contents) content apart hold own = by_test (bytes_eq x its_name) refl (hold_more xs contents content apart.1 hold.1 own)
    where
      moved : (n : ℕ) → suc (n - 1) ≡ 1 + n - 1 ⊎ (n ≡ 0)
      moved zero = inr refl
      moved (suc n) = inl (omega arith)

      some : (ys : List (List ℕ)) → number_in ys its_name ≡ 0 → ⊥
      some [] e = omega (arith, e)
      some (y ∷ ys) e = by_name (bytes_eq y its_name) e
        where
          by_name : (b : Bool) → cond b 1 (1 + number_in ys its_name) ≡ 0 → ⊥
          by_name true e = omega (arith, e)
          by_name false e = omega (arith, e)

      by_test : (b : Bool) → bytes_eq x its_name ≡ b → HoldAfter list reported (front ++ m ∷ []) xs (slice_set contents (number_in xs its_name - 1) content)
          → HoldAfter list reported (front ++ m ∷ []) (x ∷ xs) (slice_set (c ∷ contents) (cond b 1 (1 + number_in xs its_name) - 1) content)
      by_test true is rest =
          let same = bytes_same x its_name is in
          (own x is hold.0.size, others_hold xs contents (subst (λ (n : List ℕ). AllByRecursion (λ (y : List ℕ). bytes_eq y n ≡ false) xs) same apart.0) hold.1)
      by_test false is rest = elim (moved (number_in xs its_name)) [
        | inl e ↦ subst (λ (k : ℕ). HoldAfter list reported (front ++ m ∷ []) (x ∷ xs) (slice_set (c ∷ contents) k content)) e (other_holds x c (bytes_other x its_name is) hold.0, rest)
        | inr e ↦ absurd (some xs e)
      ]

-- ---- at the start and at the end

pub hold_none : (list : List Member) (reported : List EquateAnswer) (xs : List (List ℕ)) (contents : List Holding) → length contents ≡ length xs → AllByRecursion (HoldsCells []) contents → HoldAfter list reported [] xs contents
hold_none list reported [] [] size all = tt
hold_none list reported [] (c ∷ contents) size all = absurd (omega (arith, size))
hold_none list reported (x ∷ xs) [] size all = absurd (omega (arith, size))
hold_none list reported (x ∷ xs) (c ∷ contents) size all =
    let none = none_after list reported x in
    (record { cells' = subst (λ (l : List Cell). HoldsCells l c) (sym none) all.0; size = ap length none }, hold_none list reported xs contents (omega (arith, size)) all.1)

pub hold_all : (list : List Member) (reported : List EquateAnswer) (xs : List (List ℕ)) (contents : List Holding) → HoldAfter list reported list xs contents → HoldLinked list reported xs contents
hold_all list reported [] [] hold = tt
hold_all list reported [] (c ∷ contents) hold = absurd hold
hold_all list reported (x ∷ xs) [] hold = absurd hold
hold_all list reported (x ∷ xs) (c ∷ contents) hold = (subst (λ (l : List Cell). HoldsCells l c) (all_following list reported x) hold.0.cells', hold_all list reported xs contents hold.1)

pub walked_none : (list : List Member) (reported : List EquateAnswer) (contents : List Holding) → AreEmpty (length (load_names list)) contents → IsWalkedTo list reported 0 [] contents
unfolding state_of
walked_none list reported contents empty = record {
  front = [];
  back = list;
  parts = refl;
  count' = refl;
  walked = record { made' = tt; targets' = refl; holds = hold_none list reported (load_names list) contents empty.0 empty.1 };
}

pub walked_all : (list : List Member) (reported : List EquateAnswer) (count : ℕ) (targets : List Target) (contents : List Holding) → IsWalkedTo list reported count targets contents → length list ≤ count → IsFilled list reported targets contents
unfolding items
walked_all list reported count targets contents w past =
    let none : w.back ≡ [] = empty w.back (omega (arith, ap length w.parts, length-append w.front w.back, w.count', past)) in
    let same : w.front ≡ list = sym (append-nil w.front) ∙ ap (λ (l : List Member). w.front ++ l) (sym none) ∙ sym w.parts in
    record {
      made' = subst (λ (l : List Member). AreMade list reported start (items_from 1 l)) same w.walked.made';
      targets' = w.walked.targets' ∙ ap (λ (l : List Member). (state_of list reported l).targets) same ∙ all_targets list reported;
      holds = hold_all list reported (load_names list) contents (subst (λ (l : List Member). HoldAfter list reported l (load_names list) contents) same w.walked.holds);
    }
  where
    empty : (l : List Member) → length l ≡ 0 → l ≡ []
    empty [] e = refl
    empty (x ∷ l) e = absurd (omega (arith, e))

-- ---- a member

-- the load segment of a member
number_there : (xs : List (List ℕ)) (x : List ℕ) → IsIn xs x → number_in xs x - 1 < length xs
number_there [] x is = absurd is
number_there (y ∷ ys) x (inl e) =
    let own : bytes_eq y x ≡ true = ap (λ (z : List ℕ). bytes_eq z x) e ∙ bytes_refl x in
    rw own (omega arith)
number_there (y ∷ ys) x (inr more) = elim (cases_Bool (bytes_eq y x)) [
  | inl own ↦ rw own (omega arith)
  | inr other ↦ rw other (omega (arith, number_there ys x more))
]

hold_at : (list : List Member) (reported : List EquateAnswer) (front : List Member) (xs : List (List ℕ)) (contents : List Holding) (x : List ℕ) (content : Holding) → HoldAfter list reported front xs contents → IsIn xs x
    → slice_get contents (number_in xs x - 1) ≡ Some content → HoldsAfter list reported front x content
hold_at list reported front [] contents x content hold is at = absurd is
hold_at list reported front (y ∷ ys) [] x content hold is at = absurd hold
hold_at list reported front (y ∷ ys) (c ∷ contents) x content hold is at = by_test (bytes_eq y x) refl at is (λ more there. hold_at list reported front ys contents x content hold.1 more there)
  where
    same : (a b : Holding) → Some a ≡ Some b → a ≡ b
    same a b e = cc

    pos : (ys : List (List ℕ)) → 1 ≤ number_in ys x
    pos [] = omega arith
    pos (z ∷ ys) = by_name (bytes_eq z x)
      where
        by_name : (b : Bool) → 1 ≤ cond b 1 (1 + number_in ys x)
        by_name true = omega arith
        by_name false = omega arith

    down : (n : ℕ) → 1 ≤ n → 1 + n - 1 ≡ suc (n - 1)
    down n le = omega (arith, le)

    by_test : (b : Bool) → bytes_eq y x ≡ b → slice_get (c ∷ contents) (cond b 1 (1 + number_in ys x) - 1) ≡ Some content → (y ≡ x) ⊎ IsIn ys x
        → (IsIn ys x → slice_get contents (number_in ys x - 1) ≡ Some content → HoldsAfter list reported front x content) → HoldsAfter list reported front x content
    by_test true e there is go = subst (HoldsAfter list reported front x) (same c content there) (subst (λ (z : List ℕ). HoldsAfter list reported front z c) (bytes_same y x e) hold.0)
    by_test false e there (inl is) go = absurd (true_false (sym (bytes_refl x) ∙ ap (λ (z : List ℕ). bytes_eq z x) (sym is) ∙ e))
    by_test false e there (inr more) go = go more (ap (slice_get (c ∷ contents)) (sym (down (number_in ys x) (pos ys))) ∙ there)

length-hold : (list : List Member) (reported : List EquateAnswer) (front : List Member) (xs : List (List ℕ)) (contents : List Holding) → HoldAfter list reported front xs contents → length contents ≡ length xs
length-hold list reported front [] [] hold = refl
length-hold list reported front [] (c ∷ contents) hold = absurd hold
length-hold list reported front (x ∷ xs) [] hold = absurd hold
length-hold list reported front (x ∷ xs) (c ∷ contents) hold = ap suc (length-hold list reported front xs contents hold.1)

module _ (list : List Member) (reported : List EquateAnswer) (count : ℕ) (targets : List Target) (contents : List Holding) (w : IsWalkedTo list reported count targets contents) (m : Member) (back : List Member) (member_place : MemberPlace) (s : Segment)
    (back_is : w.back ≡ m ∷ back) (member_place_place : member_place.place ≡ count + 1) (is : IsMemberPlace list m member_place) (segment : m.segment ≡ s) where
  parts : list ≡ w.front ++ m ∷ back
  parts = w.parts ∙ ap (λ (l : List Member). w.front ++ l) back_is

  named_there : IsIn (load_names list) m.segment.fields.load_name
  named_there = name_there list m (in_parts list w.front m back parts)

  -- its load segment is there
  pub load_within : member_place.load_segment - 1 < length contents
  unfolding load_of
  load_within = omega (arith, number_there (load_names list) m.segment.fields.load_name named_there, length-hold list reported w.front (load_names list) contents w.walked.holds, is.load)

  offset_is : offset_of list (length w.front + 1) m ≡ aligned_from (alignment_of m.segment.fields.align) (end_from 0 m.segment.fields.load_name w.front)
  unfolding offset_of
  offset_is =
      let n : length w.front + 1 - 1 ≡ length w.front = omega arith in
      ap (λ (k : ℕ). aligned_from (alignment_of m.segment.fields.align) (end_from 0 m.segment.fields.load_name (take k list))) n
      ∙ ap (λ (l : List Member). aligned_from (alignment_of m.segment.fields.align) (end_from 0 m.segment.fields.load_name (take (length w.front) l))) parts
      ∙ ap (λ (l : List Member). aligned_from (alignment_of m.segment.fields.align) (end_from 0 m.segment.fields.load_name l)) (take_at w.front (m ∷ back) (length w.front) refl)

  member_place_offset : member_place.offset ≡ offset_of list (length w.front + 1) m
  member_place_offset = let n : member_place.place ≡ length w.front + 1 = omega (arith, member_place_place, w.count') in is.offset' ∙ ap (λ (k : ℕ). offset_of list k m) n

  -- and holds what the members before it gave
  pub stands_after : (content : Holding) → slice_get contents (member_place.load_segment - 1) ≡ Some content
      → StandsAfter list reported w.front m back member_place s targets (linked_after list reported m.segment.fields.load_name w.front) content
  unfolding load_of
  stands_after content at =
      let hold = hold_at list reported w.front (load_names list) contents m.segment.fields.load_name content w.walked.holds named_there (ap (λ (n : ℕ). slice_get contents (n - 1)) (sym is.load) ∙ at) in
      let le = (aligned_from-least (end_from 0 m.segment.fields.load_name w.front) (alignment_of m.segment.fields.align) (alignment-some m.segment.fields.align)).not_below in
      record {
        parts = parts;
        place = omega (arith, member_place_place, w.count');
        is = is;
        segment = segment;
        targets' = w.walked.targets';
        cells' = refl;
        size = omega (arith, hold.size, member_place_offset, offset_is, le);
        holds = hold.cells';
      }

  -- one member more was walked
  pub walked_more : (new : List Target) (content : Holding) → PutsMember list reported w.front m new (linked_after list reported m.segment.fields.load_name w.front) content
      → IsWalkedTo list reported (count + 1) new (slice_set contents (member_place.load_segment - 1) content)
  unfolding load_of load_names state_of
  walked_more new content p = record {
    front = w.front ++ m ∷ [];
    back = back;
    parts = parts ∙ sym (append_assoc w.front (m ∷ []) back);
    count' = omega (arith, w.count', length-append w.front (m ∷ []));
    walked = record {
      made' = subst (AreMade list reported start) (sym items') (made-append list reported start (items_from 1 w.front) (own_items (length w.front + 1) m) w.walked.made' p.made');
      targets' = p.targets';
      holds = subst (λ (k : ℕ). HoldAfter list reported (w.front ++ m ∷ []) (load_names list) (slice_set contents (k - 1) content)) (sym is.load)
          (hold_more list reported w.front m (load_names list) contents content (distinct_apart (map (λ (o : Member). o.segment.fields.load_name) list)) w.walked.holds own);
    };
  }
    where
      items' : items_from 1 (w.front ++ m ∷ []) ≡ items_from 1 w.front ++ own_items (length w.front + 1) m
      items' =
          let n : 1 + length w.front ≡ length w.front + 1 = omega arith in
          items_from-append 1 w.front (m ∷ []) ∙ ap (λ (l : List Item). items_from 1 w.front ++ l) (append-nil (own_items (1 + length w.front) m)) ∙ ap (λ (k : ℕ). items_from 1 w.front ++ own_items k m) n

      own : (x : List ℕ) → bytes_eq x m.segment.fields.load_name ≡ true → length (linked_after list reported x w.front) ≡ end_from 0 x w.front → HoldsAfter list reported (w.front ++ m ∷ []) x content
      own x same size =
          let name : x ≡ m.segment.fields.load_name = bytes_same x m.segment.fields.load_name same in
          subst (λ (y : List ℕ). HoldsAfter list reported (w.front ++ m ∷ []) y content) (sym name)
          (own_holds list reported w.front m m.segment.fields.load_name content (bytes_refl m.segment.fields.load_name) (subst (λ (y : List ℕ). length (linked_after list reported y w.front) ≡ end_from 0 y w.front) name size) offset_is p.size p.holds)

  -- a record that gives no cells is the first at fault
  pub first_fault : (cause : LinkCause) (at : ℕ) (fault : LinkFault) → Unmade list reported w.front m cause at → fault.cause ≡ cause → fault.name ≡ None → fault.spot ≡ spot_in m at → IsFirst (HasValueFault list reported) (items list) fault
  unfolding items state_after state_of
  first_fault cause at fault u cause_is name spot = record {
    before = items_from 1 w.front ++ u.before;
    item = u.item';
    after = u.after ++ items_from (length w.front + 1 + 1) back;
    parts = whole;
    none = λ front other rest its split has. let found = made_none list reported [] (items_from 1 w.front ++ u.before) made' front other rest split in fine_failed found.0 its.cause (sym found.1 ∙ has.cause);
    here = record {
      cause = ap (λ (t : LinkState). made list reported t u.item') (state_from-append list reported start (items_from 1 w.front) u.before) ∙ u.fails ∙ ap failed (sym cause_is);
      name = name;
      spot = spot ∙ ap (λ (o : Member). spot_in o at) (sym u.member') ∙ ap (spot_in u.item'.member) (sym u.at');
    };
  }
    where
      failed : LinkCause → Result Made LinkCause
      failed c = Err c

      made' : AreMade list reported start (items_from 1 w.front ++ u.before)
      made' = made-append list reported start (items_from 1 w.front) u.before w.walked.made' u.made'

      whole : items_from 1 list ≡ (items_from 1 w.front ++ u.before) ++ u.item' ∷ (u.after ++ items_from (length w.front + 1 + 1) back)
      whole =
          let n : 1 + length w.front ≡ length w.front + 1 = omega arith in
          ap (items_from 1) parts ∙ items_from-append 1 w.front (m ∷ back)
          ∙ ap (λ (k : ℕ). items_from 1 w.front ++ (own_items k m ++ items_from (k + 1) back)) n
          ∙ ap (λ (l : List Item). items_from 1 w.front ++ (l ++ items_from (length w.front + 1 + 1) back)) u.parts
          ∙ ap (λ (l : List Item). items_from 1 w.front ++ l) (append_assoc u.before (u.item' ∷ u.after) (items_from (length w.front + 1 + 1) back))
          ∙ sym (append_assoc (items_from 1 w.front) u.before (u.item' ∷ (u.after ++ items_from (length w.front + 1 + 1) back)))

-- ---- the next member

pub load_some : (list : List Member) (m : Member) → 1 ≤ load_of list m
unfolding load_of
load_some list m = some (load_names list) m.segment.fields.load_name
  where
    by_name : (b : Bool) (n : ℕ) → 1 ≤ cond b 1 (1 + n)
    by_name true n = omega arith
    by_name false n = omega arith

    some : (xs : List (List ℕ)) (x : List ℕ) → 1 ≤ number_in xs x
    some [] x = omega arith
    some (y ∷ ys) x = by_name (bytes_eq y x) (number_in ys x)

pub next_walked : (list : List Member) (reported : List EquateAnswer) (count : ℕ) (targets : List Target) (contents : List Holding) (w : IsWalkedTo list reported count targets contents) → count < length list
    → (m : Member) × (back : List Member) × (w.back ≡ m ∷ back) × (member_at list (count + 1) ≡ Some m)
next_walked list reported count targets contents w less =
    let n = some w.back (omega (arith, ap length w.parts, length-append w.front w.back, w.count', less)) in
    (n.0, n.1, n.2, ap (λ (k : ℕ). member_at list (k + 1)) w.count' ∙ parts_there list w.front n.0 n.1 (w.parts ∙ ap (λ (l : List Member). w.front ++ l) n.2))
  where
    some : (l : List Member) → 0 < length l → (m : Member) × (back : List Member) × (l ≡ m ∷ back)
    some [] lt = absurd (omega (arith, lt))
    some (m ∷ back) lt = (m, back, refl)

pub segment_is : (list : List Member) (place : ℕ) (m : Member) (s : Segment) → member_at list place ≡ Some m → Some s ≡ option_map (λ (o : Member). o.segment) (member_at list place) → m.segment ≡ s
segment_is list place m s there is = same m.segment s (sym (ap (option_map (λ (o : Member). o.segment)) there) ∙ sym is)
  where
    same : (x y : Segment) → Some x ≡ Some y → x ≡ y
    same x y e = cc

pub member_place_there : (list : List Member) (place : ℕ) (m : Member) (member_place : MemberPlace) → member_at list place ≡ Some m → MemberPlaceOf list place (member_at list place) (Some member_place) → (member_place.place ≡ place) × IsMemberPlace list m member_place
member_place_there list place m member_place there is = subst (λ (o : Option Member). MemberPlaceOf list place o (Some member_place)) there is

pub member_place_gone : (list : List Member) (place : ℕ) (m : Member) → member_at list place ≡ Some m → MemberPlaceOf list place (member_at list place) None → ⊥
member_place_gone list place m there is = subst (λ (o : Option Member). MemberPlaceOf list place o None) there is
