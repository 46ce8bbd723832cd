-- One more member of the load segments.
use Rattle.std.proofs.Common.{◌≡◌, ◌⊎◌, inl, inr, ℕ, zero, suc, ◌+◌, ◌-◌, ◌%◌, ◌≤◌, ◌<◌, min, max, Bool, true, false, List, [], ◌∷◌, ◌++◌, length, map, take, Option, Some, None, refl, sym, ap, subst, ◌∙◌, append-nil, append_assoc, arith}
use Rattle.std.specs.Prelude.{slice_get, option_map, filter, ◌||◌, ◌==◌, if◌then◌else◌}
use Rattle.std.specs.List.{list_any}
use Rattle.std.specs.Str.{bytes_eq}
use Rattle.std.proofs.Math.ListN.{set}
use Rattle.std.proofs.Math.Seq.{take-append_seam}
use Rattle.std.proofs.lemmas.Bool.{eq-eqb, ne_eqb, eqb-true}
use Rattle.std.proofs.lemmas.List.{map-append, length-map, length-append, take-append-le}
use Rattle.std.proofs.lemmas.Option.{slice_get-map, slice_get_within}
use Rattle.std.proofs.lemmas.List.Elements.{filter-append}
use Rattle.omf_base.specs.declared.spot.Spot.{Spot}
use Rattle.omf_format.specs.Header.{HeaderFields, alignment_of}
use Rattle.omf_format.specs.File.{Segment}
use Rattle.link_meaning.specs.First.{IsFirst}
use Rattle.link_meaning.specs.laws.FirstLaws.{none_more, none_yet}
use Rattle.link_meaning.specs.Member.{Member}
use Rattle.link_meaning.specs.Layout.{in_load, end_from, load_length, load_names, load_members, load_segment_kind, least_bank, greatest_align, of_first, number_in, load_of, offset_of}
use Rattle.link_meaning.specs.laws.Steps.{aligned_from, lesser_bank}
use Rattle.link_meaning.specs.laws.LayoutLaws.{aligned_from-least, alignment-some}
use Rattle.link_meaning.specs.LinkFaults.{HasOrgFault, spot_in, first_spot}
use Rattle.link_tables.specs.declared.layout.LoadLayout.{LoadLayout}
use Rattle.link_tables.specs.declared.layout.LoadOffset.{LoadOffset}
use Rattle.link_tables.specs.declared.layout.LinkLayout as kept
use Rattle.link_tables.specs.declared.definitions.Origin.{Origin}
use Rattle.link_tables.specs.declared.names.Matches.{Matches}
use Rattle.link_tables.specs.declared.names.Matches.TheVariants.{Nothing, One, Several}
use Rattle.link_tables.specs.Definitions.{IsOf}
use Rattle.link_tables.specs.Offers.{number_of}
use Rattle.link_tables.specs.Names.{Row, Indexes, outcome}
use Rattle.link_tables.specs.Laid.{IsFresh, IsJoined, IsLoadOf, IsLoad, load_rows, IsPlace, org_fault, conflict_with, IsConflict, Laid, contains_text}
use Rattle.link_tables.proofs.NameTables.{bytes_same}
use Rattle.link_tables.proofs.LoadNames.{bytes_refl, has_names, has_at, names_new, names_same, load_number, number_stays, name_key, load_rows-snoc, IsNumber, looked}

abbrev name_of : Member → List ℕ
name_of m = m.segment.fields.load_name

abbrev offset_after : ℕ → Member → ℕ
offset_after end m = aligned_from (alignment_of m.segment.fields.align) end

-- ---- the members of a load segment

members_more : (x : List ℕ) (list : List Member) (m : Member) → load_members x (list ++ m ∷ []) ≡ load_members x list ++ (if in_load x m then m ∷ [] else [])
unfolding load_members
members_more x list m = filter-append (in_load x) list (m ∷ [])

end_more : (x : List ℕ) (end : ℕ) (list : List Member) (m : Member) → end_from end x (list ++ m ∷ []) ≡ (if in_load x m then offset_after (end_from end x list) m + m.segment.fields.length else end_from end x list)
end_more x end [] m = refl
end_more x end (y ∷ list) m = end_more x (if in_load x y then offset_after end y + y.segment.fields.length else end) list m

length_more : (x : List ℕ) (list : List Member) (m : Member) → load_length x (list ++ m ∷ []) ≡ (if in_load x m then offset_after (load_length x list) m + m.segment.fields.length else load_length x list)
unfolding load_length
length_more x list m = end_more x 0 list m

length_is : (x : List ℕ) (list : List Member) → load_length x list ≡ end_from 0 x list
unfolding load_length
length_is x list = refl

no_members : (x : List ℕ) (list : List Member) → list_any (in_load x) list ≡ false → load_members x list ≡ []
unfolding load_members
no_members x [] none = refl
no_members x (y ∷ list) none = settle (in_load x y) none (λ rest. no_members x list rest)
  where
    settle : (b : Bool) → (b || list_any (in_load x) list) ≡ false → (list_any (in_load x) list ≡ false → filter (in_load x) list ≡ []) → (if b then y ∷ filter (in_load x) list else filter (in_load x) list) ≡ []
    settle true e go = absurd cc
    settle false e go = go e

no_end : (x : List ℕ) (end : ℕ) (list : List Member) → list_any (in_load x) list ≡ false → end_from end x list ≡ end
no_end x end [] none = refl
no_end x end (y ∷ list) none = settle (in_load x y) none (λ rest. no_end x end list rest)
  where
    settle : (b : Bool) → (b || list_any (in_load x) list) ≡ false → (list_any (in_load x) list ≡ false → end_from end x list ≡ end) → end_from (if b then offset_after end y + y.segment.fields.length else end) x list ≡ end
    settle true e go = absurd cc
    settle false e go = go e

some_members : (x : List ℕ) (list : List Member) → list_any (in_load x) list ≡ true → load_members x list ≡ [] → ⊥
unfolding load_members
some_members x [] some none = let clash : false ≡ true = some in cc
some_members x (y ∷ list) some none = settle (in_load x y) some none (λ is empty. some_members x list is empty)
  where
    settle : (b : Bool) → (b || list_any (in_load x) list) ≡ true → (if b then y ∷ filter (in_load x) list else filter (in_load x) list) ≡ [] → (list_any (in_load x) list ≡ true → filter (in_load x) list ≡ [] → ⊥) → ⊥
    settle true e none go = absurd cc
    settle false e none go = go e none

-- ---- fields of one member more

lesser_zero : (a : ℕ) → lesser_bank a 0 ≡ a
lesser_zero a = settle (a == 0) refl
  where
    settle : (b : Bool) → (a == 0) ≡ b → (if b then 0 else a) ≡ a
    settle true e = sym (eqb-true a 0 e)
    settle false e = refl

zero_or_some : (a : ℕ) → (a ≡ 0) ⊎ (0 < a)
zero_or_some zero = inl refl
zero_or_some (suc a) = inr (omega arith)

some_lesser : (a b : ℕ) → 0 < a → 0 < b → lesser_bank a b ≡ min a b
some_lesser a b p q = rw (ne_eqb a 0 (λ e. omega (arith, e, p)), ne_eqb b 0 (λ e. omega (arith, e, q))) refl

lesser_assoc : (a b c : ℕ) → lesser_bank a (lesser_bank b c) ≡ lesser_bank (lesser_bank a b) c
lesser_assoc a b c = settle (zero_or_some a) (zero_or_some b) (zero_or_some c)
  where
    settle : (a ≡ 0) ⊎ (0 < a) → (b ≡ 0) ⊎ (0 < b) → (c ≡ 0) ⊎ (0 < c) → lesser_bank a (lesser_bank b c) ≡ lesser_bank (lesser_bank a b) c
    settle (inl e) q r = subst (λ (x : ℕ). lesser_bank x (lesser_bank b c) ≡ lesser_bank (lesser_bank x b) c) (sym e) refl
    settle (inr p) (inl e) r = subst (λ (x : ℕ). lesser_bank a (lesser_bank x c) ≡ lesser_bank (lesser_bank a x) c) (sym e) (ap (λ (x : ℕ). lesser_bank x c) (sym (lesser_zero a)))
    settle (inr p) (inr q) (inl e) = subst (λ (x : ℕ). lesser_bank a (lesser_bank b x) ≡ lesser_bank (lesser_bank a b) x) (sym e) (ap (lesser_bank a) (lesser_zero b) ∙ sym (lesser_zero (lesser_bank a b)))
    settle (inr p) (inr q) (inr r) =
        let bc = some_lesser b c q r in
        let ab = some_lesser a b p q in
        let left = some_lesser a (lesser_bank b c) p (omega (arith, bc, q, r)) in
        let right = some_lesser (lesser_bank a b) c (omega (arith, ab, p, q)) r in
        omega (arith, left, right, bc, ab)

banks_more : (members : List Member) (m : Member) → least_bank (members ++ m ∷ []) ≡ lesser_bank (least_bank members) m.segment.fields.bank_size
banks_more [] m = lesser_zero m.segment.fields.bank_size
banks_more (x ∷ members) m =
    ap (lesser_bank x.segment.fields.bank_size) (banks_more members m)
    ∙ lesser_assoc x.segment.fields.bank_size (least_bank members) m.segment.fields.bank_size

aligns_more : (members : List Member) (m : Member) → greatest_align (members ++ m ∷ []) ≡ max (greatest_align members) m.segment.fields.align
aligns_more [] m = omega arith
aligns_more (x ∷ members) m = ap (max x.segment.fields.align) (aligns_more members m) ∙ max_assoc x.segment.fields.align (greatest_align members) m.segment.fields.align
  where
    max_assoc : (a b c : ℕ) → max a (max b c) ≡ max (max a b) c
    max_assoc a b c = omega arith

first_more : (field : HeaderFields → ℕ) (members : List Member) (m : Member) → (members ≡ [] → ⊥) → of_first field (members ++ m ∷ []) ≡ of_first field members
first_more field [] m some = absurd (some refl)
first_more field (x ∷ members) m some = refl

spot_more : (members : List Member) (m : Member) → (members ≡ [] → ⊥) → first_spot (members ++ m ∷ []) ≡ first_spot members
spot_more [] m some = absurd (some refl)
spot_more (x ∷ members) m some = refl

-- ends past the most are one
capped : (align end len : ℕ) → min (aligned_from (alignment_of align) (min end 16777216) + len) 16777216 ≡ min (aligned_from (alignment_of align) end + len) 16777216
capped align end len = settle (le_or_less end 16777216)
  where
    le_or_less : (a b : ℕ) → (a ≤ b) ⊎ (b < a)
    le_or_less zero b = inl (omega arith)
    le_or_less (suc a) zero = inr (omega arith)
    le_or_less (suc a) (suc b) = next (le_or_less a b)
      where
        next : (a ≤ b) ⊎ (b < a) → (suc a ≤ suc b) ⊎ (suc b < suc a)
        next (inl p) = inl (omega arith)
        next (inr p) = inr (omega arith)

    both : (x y : ℕ) → 16777216 ≤ x → 16777216 ≤ y → min (x + len) 16777216 ≡ min (y + len) 16777216
    both x y p q = omega arith

    settle : (end ≤ 16777216) ⊎ (16777216 < end) → min (aligned_from (alignment_of align) (min end 16777216) + len) 16777216 ≡ min (aligned_from (alignment_of align) end + len) 16777216
    settle (inl p) = let same : min end 16777216 ≡ end = omega arith in ap (λ (e : ℕ). min (aligned_from (alignment_of align) e + len) 16777216) same
    settle (inr p) =
        let same : min end 16777216 ≡ 16777216 = omega arith in
        let least = aligned_from-least 16777216 (alignment_of align) (alignment-some align) in
        let more = aligned_from-least end (alignment_of align) (alignment-some align) in
        ap (λ (e : ℕ). min (aligned_from (alignment_of align) e + len) 16777216) same ∙ both (aligned_from (alignment_of align) 16777216) (aligned_from (alignment_of align) end) least.not_below (omega (arith, more.not_below, p))

start_zero : (align : ℕ) → aligned_from (alignment_of align) 0 ≡ 0
start_zero align =
    let least = aligned_from-least 0 (alignment_of align) (alignment-some align) in
    let small = least.least 0 (zero_mod (alignment_of align) (alignment-some align)) (omega arith) in
    omega (arith, small)
  where
    zero_mod : (n : ℕ) → 0 < n → 0 % n ≡ 0
    zero_mod n some = omega arith

-- ---- the load segment

fresh_load : (m : Member) (spot : Spot) (load : LoadLayout) → spot ≡ spot_in m m.segment.start → IsFresh m.segment.fields spot load → IsLoadOf (m ∷ []) (m.segment.fields.length) load
fresh_load m spot load at f = record {
  first = f.first ∙ at;
  kind = f.kind;
  org = f.org;
  entry = f.entry;
  align = omega (arith, f.align);
  bank_size = f.bank_size ∙ sym (lesser_zero m.segment.fields.bank_size);
  length' = f.length';
}

joined_load : (members : List Member) (end offset : ℕ) (m : Member) (old new : LoadLayout) → (members ≡ [] → ⊥) → IsLoadOf members end old → offset ≡ offset_after old.length m → IsJoined m.segment.fields offset old new
    → IsLoadOf (members ++ m ∷ []) (offset_after end m + m.segment.fields.length) new
joined_load members end offset m old new some is at j = record {
  first = j.first ∙ is.first ∙ sym (spot_more members m some);
  kind = ap (λ k. k.bits) j.kind ∙ is.kind ∙ ap load_segment_kind (sym (first_more (λ f. f.kind) members m some));
  org = j.org ∙ is.org ∙ sym (first_more (λ f. f.org) members m some);
  entry = j.entry ∙ is.entry ∙ sym (first_more (λ f. f.entry) members m some);
  align = j.align ∙ ap (λ (n : ℕ). max n m.segment.fields.align) is.align ∙ sym (aligns_more members m);
  bank_size = j.bank_size ∙ ap (λ (n : ℕ). lesser_bank n m.segment.fields.bank_size) is.bank_size ∙ sym (banks_more members m);
  length' =
      j.length' ∙ ap (λ (n : ℕ). min (n + m.segment.fields.length) 16777216) (at ∙ ap (λ (n : ℕ). offset_after n m) is.length')
      ∙ capped m.segment.fields.align end m.segment.fields.length;
}

-- a load segment of another name stays
other_stays : (list : List Member) (m : Member) (load : LoadLayout) → in_load load.load_name m ≡ false → IsLoad list load → IsLoad (list ++ m ∷ []) load
other_stays list m load other is =
    let members : load_members load.load_name (list ++ m ∷ []) ≡ load_members load.load_name list =
    members_more load.load_name list m ∙ ap (λ (b : Bool). load_members load.load_name list ++ (if b then m ∷ [] else [])) other ∙ append-nil (load_members load.load_name list) in
    let ends : load_length load.load_name (list ++ m ∷ []) ≡ load_length load.load_name list =
    length_more load.load_name list m ∙ ap (λ (b : Bool). if b then offset_after (load_length load.load_name list) m + m.segment.fields.length else load_length load.load_name list) other in
    subst (λ (l : List Member). IsLoadOf l (load_length load.load_name (list ++ m ∷ [])) load) (sym members)
    (subst (λ (n : ℕ). IsLoadOf (load_members load.load_name list) n load) (sym ends) is)

-- that of its own name
own_load : (list : List Member) (m : Member) (load : LoadLayout) → in_load load.load_name m ≡ true → IsLoadOf (load_members load.load_name list ++ m ∷ []) (offset_after (load_length load.load_name list) m + m.segment.fields.length) load
    → IsLoad (list ++ m ∷ []) load
own_load list m load own is =
    let members : load_members load.load_name (list ++ m ∷ []) ≡ load_members load.load_name list ++ m ∷ [] =
    members_more load.load_name list m ∙ ap (λ (b : Bool). load_members load.load_name list ++ (if b then m ∷ [] else [])) own in
    let ends : load_length load.load_name (list ++ m ∷ []) ≡ offset_after (load_length load.load_name list) m + m.segment.fields.length =
    length_more load.load_name list m ∙ ap (λ (b : Bool). if b then offset_after (load_length load.load_name list) m + m.segment.fields.length else load_length load.load_name list) own in
    subst (λ (l : List Member). IsLoadOf l (load_length load.load_name (list ++ m ∷ [])) load) (sym members)
    (subst (λ (n : ℕ). IsLoadOf (load_members load.load_name list ++ m ∷ []) n load) (sym ends) is)

-- ---- lists with one more item

pub at_snoc : {A : Type 0} → (xs : List A) (y : A) (k : ℕ) (z : A) → slice_get (xs ++ y ∷ []) k ≡ Some z → (slice_get xs k ≡ Some z) ⊎ ((k ≡ length xs) × (y ≡ z))
at_snoc {A} [] y zero z e = let same : y ≡ z = cc in inr (refl, same)
at_snoc [] y (suc k) z e = absurd cc
at_snoc (x ∷ xs) y zero z e = inl e
at_snoc {A} (x ∷ xs) y (suc k) z e = settle (at_snoc xs y k z e)
  where
    settle : (slice_get xs k ≡ Some z) ⊎ ((k ≡ length xs) × (y ≡ z)) → (slice_get xs k ≡ Some z) ⊎ ((suc k ≡ suc (length xs)) × (y ≡ z))
    settle (inl is) = inl is
    settle (inr is) = inr (ap suc is.0, is.1)

pub snoc_at : {A : Type 0} → (xs : List A) (y : A) → slice_get (xs ++ y ∷ []) (length xs) ≡ Some y
snoc_at [] y = refl
snoc_at (x ∷ xs) y = snoc_at xs y

set_at : {A : Type 0} → (xs : List A) (i k : ℕ) (y z : A) → slice_get (set xs i y) k ≡ Some z → ((k ≡ i) × (y ≡ z)) ⊎ ((k ≡ i → ⊥) × (slice_get xs k ≡ Some z))
set_at [] i k y z e = absurd cc
set_at {A} (x ∷ xs) zero zero y z e = let same : y ≡ z = cc in inl (refl, same)
set_at (x ∷ xs) zero (suc k) y z e = inr (λ p. omega (arith, p), e)
set_at (x ∷ xs) (suc i) zero y z e = inr (λ p. omega (arith, p), e)
set_at {A} (x ∷ xs) (suc i) (suc k) y z e = settle (set_at xs i k y z e)
  where
    settle : ((k ≡ i) × (y ≡ z)) ⊎ ((k ≡ i → ⊥) × (slice_get xs k ≡ Some z)) → ((suc k ≡ suc i) × (y ≡ z)) ⊎ ((suc k ≡ suc i → ⊥) × (slice_get xs k ≡ Some z))
    settle (inl is) = inl (ap suc is.0, is.1)
    settle (inr is) = inr (λ p. is.0 (omega (arith, p)), is.1)

map_set : {A B : Type 0} → (f : A → B) (xs : List A) (i : ℕ) (x y : A) → slice_get xs i ≡ Some x → f y ≡ f x → map f (set xs i y) ≡ map f xs
map_set f [] i x y e same = refl
map_set {A} {B} f (z ∷ xs) zero x y e same = let is : z ≡ x = cc in ap (λ (b : B). b ∷ map f xs) (same ∙ ap f (sym is))
map_set {A} {B} f (z ∷ xs) (suc i) x y e same = ap (λ (l : List B). f z ∷ l) (map_set f xs i x y e same)

-- ---- names

-- the name of a load segment is one of the list's
named_at : (list : List Member) (loads : List LoadLayout) (k : ℕ) (load : LoadLayout) → map (λ l. l.load_name) loads ≡ load_names list → slice_get loads k ≡ Some load → slice_get (load_names list) k ≡ Some load.load_name
named_at list loads k load named there =
    ap (λ (l : List (List ℕ)). slice_get l k) (sym named) ∙ slice_get-map (λ (l : LoadLayout). l.load_name) loads k ∙ ap (option_map (λ (l : LoadLayout). l.load_name)) there

apart_from : (list : List Member) (m : Member) (load : LoadLayout) (k : ℕ) → slice_get (load_names list) k ≡ Some load.load_name → contains_text (name_of m) (load_names list) ≡ false → in_load load.load_name m ≡ false
apart_from list m load k there none = settle (in_load load.load_name m) refl
  where
    settle : (b : Bool) → in_load load.load_name m ≡ b → b ≡ false
    settle false e = refl
    settle true e =
        let same = bytes_same (name_of m) load.load_name e in
        let clash : false ≡ true = sym none ∙ ap (λ (x : List ℕ). contains_text x (load_names list)) same ∙ has_at (load_names list) k load.load_name there in
        absurd cc

-- ---- places

any_at : (list : List Member) (n : Member) (k : ℕ) → slice_get list k ≡ Some n → list_any (in_load (name_of n)) list ≡ true
any_at [] n k e = absurd cc
any_at (x ∷ list) n zero e =
    let same : x ≡ n = cc in
    ap (λ (b : Bool). b || list_any (in_load (name_of n)) list) (ap (λ (y : Member). bytes_eq (name_of y) (name_of n)) same ∙ bytes_refl (name_of n))
any_at (x ∷ list) n (suc k) e = ap (λ (b : Bool). in_load (name_of n) x || b) (any_at list n k e) ∙ or_true (in_load (name_of n) x)
  where
    or_true : (b : Bool) → (b || true) ≡ true
    or_true true = refl
    or_true false = refl

-- a member's load name is one of the list's
pub name_there : (list : List Member) (n : Member) (k : ℕ) → slice_get list k ≡ Some n → contains_text (name_of n) (load_names list) ≡ true
name_there list n k at = has_names (name_of n) list ∙ any_at list n k at

number_same : (list : List Member) (m n : Member) (k : ℕ) → slice_get list k ≡ Some n → number_in (load_names (list ++ m ∷ [])) (name_of n) ≡ number_in (load_names list) (name_of n)
number_same list m n k at = settle (contains_text (name_of m) (load_names list)) refl
  where
    settle : (b : Bool) → contains_text (name_of m) (load_names list) ≡ b → number_in (load_names (list ++ m ∷ [])) (name_of n) ≡ number_in (load_names list) (name_of n)
    settle true e = ap (λ (xs : List (List ℕ)). number_in xs (name_of n)) (names_same list m e)
    settle false e =
        ap (λ (xs : List (List ℕ)). number_in xs (name_of n)) (names_new list m e)
        ∙ number_stays (load_names list) (name_of m ∷ []) (name_of n) (name_there list n k at)

place_stays : (list : List Member) (m n : Member) (k : ℕ) (p : LoadOffset) → slice_get list k ≡ Some n → IsPlace list k n p → IsPlace (list ++ m ∷ []) k n p
unfolding load_of offset_of
place_stays list m n k p at is =
    let within = slice_get_within list k n at in
    let front : take k (list ++ m ∷ []) ≡ take k list = take-append-le k list (m ∷ []) (omega (arith, within)) in
    let less : k + 1 - 1 ≡ k = omega arith in
    let before : take (k + 1 - 1) (list ++ m ∷ []) ≡ take (k + 1 - 1) list = ap (λ (i : ℕ). take i (list ++ m ∷ [])) less ∙ front ∙ sym (ap (λ (i : ℕ). take i list) less) in
    record {
      load = is.load ∙ sym (number_same list m n k at);
      offset = λ small. is.offset (subst (λ (l : List Member). end_from 0 (name_of n) l ≤ 16777216) front small) ∙ sym (ap (λ (l : List Member). offset_after (end_from 0 (name_of n) l) n) before);
    }

-- the place of one more member
place_last : (list : List Member) (m : Member) (p : LoadOffset) (i : ℕ) → slice_get (load_names (list ++ m ∷ [])) i ≡ Some (name_of m) → p.load ≡ i
    → (end_from 0 (name_of m) list ≤ 16777216 → p.offset ≡ offset_after (end_from 0 (name_of m) list) m) → IsPlace (list ++ m ∷ []) (length list) m p
unfolding load_of offset_of
place_last list m p i there load offset =
    let all : take (length list) (list ++ m ∷ []) ≡ list = take-append_seam list (m ∷ []) in
    let less : length list + 1 - 1 ≡ length list = omega arith in
    let before : take (length list + 1 - 1) (list ++ m ∷ []) ≡ list = ap (λ (n : ℕ). take n (list ++ m ∷ [])) less ∙ all in
    record {
      load = ap (λ (n : ℕ). n + 1) load ∙ sym (load_number (list ++ m ∷ []) i (name_of m) there);
      offset = λ small. offset (subst (λ (l : List Member). end_from 0 (name_of m) l ≤ 16777216) all small) ∙ sym (ap (λ (l : List Member). offset_after (end_from 0 (name_of m) l) m) before);
    }

-- ---- conflicts

first_stays : {A B : Type 0} → (Has : List A → A → B → Type 0) (items : List A) (x : A) (what : B) → IsFirst Has items what → IsFirst Has (items ++ x ∷ []) what
first_stays {A} Has items x what is = record {
  before = is.before;
  item = is.item;
  after = is.after ++ x ∷ [];
  parts = ap (λ (l : List A). l ++ x ∷ []) is.parts ∙ append_assoc is.before (is.item ∷ is.after) (x ∷ []);
  none = is.none;
  here = is.here;
}

pub conflict_none : (list : List Member) (m : Member) (so_far : Option Spot) → list_any (in_load (name_of m)) list ≡ false → IsConflict list so_far → IsConflict (list ++ m ∷ []) so_far
conflict_none list m None none is = none_more HasOrgFault list m is (λ its conflict. absurd (not_both (list_any (in_load (name_of m)) list) none conflict.later))
  where
    not_both : (b : Bool) → b ≡ false → b ≡ true → ⊥
    not_both b p q = let clash : false ≡ true = sym p ∙ q in cc
conflict_none list m (Some spot) none is = first_stays HasOrgFault list m (org_fault spot) is

pub conflict_more : (list : List Member) (m : Member) (so_far : Option Spot) (spot : Spot) → list_any (in_load (name_of m)) list ≡ true → spot ≡ spot_in m m.segment.start → IsConflict list so_far
    → IsConflict (list ++ m ∷ []) (conflict_with so_far m.segment.fields.org spot)
conflict_more list m (Some first) spot there at is = first_stays HasOrgFault list m (org_fault first) is
conflict_more list m None spot there at is = settle (m.segment.fields.org == 0) refl
  where
    settle : (b : Bool) → (m.segment.fields.org == 0) ≡ b → IsConflict (list ++ m ∷ []) (if b then None else Some spot)
    settle true e = none_more HasOrgFault list m is (λ its conflict. conflict.asks (eqb-true m.segment.fields.org 0 e))
    settle false e = record {
      before = list;
      item = m;
      after = [];
      parts = refl;
      none = is;
      here = record { later = there; asks = λ z. asked z; reported = ap org_fault at };
    }
      where
        asked : m.segment.fields.org ≡ 0 → ⊥
        asked z = let clash : false ≡ true = sym e ∙ eq-eqb m.segment.fields.org 0 z in cc

-- ---- one more member

pub laid_new : (list : List Member) (m : Member) (old new : kept.LinkLayout) (spot : Spot) (load : LoadLayout) (p : LoadOffset) → Laid list old → contains_text (name_of m) (load_names list) ≡ false → spot ≡ spot_in m m.segment.start → IsFresh m.segment.fields spot load
    → p.load ≡ length old.loads.items → p.offset ≡ 0 → new.loads.items ≡ old.loads.items ++ load ∷ [] → new.places.items ≡ old.places.items ++ p ∷ [] → new.conflict ≡ old.conflict
    → Indexes (load_rows 0 (load_names list) ++ (name_key (name_of m), length old.loads.items) ∷ []) new.names → Laid (list ++ m ∷ []) new
laid_new list m old new spot load p laid none at fresh number start loads places conflict names =
    let whole = names_new list m none in
    let size : length old.loads.items ≡ length (load_names list) = sym (length-map old.loads.items (λ (l : LoadLayout). l.load_name)) ∙ ap length laid.named in
    let rows : load_rows 0 (load_names list) ++ (name_key (name_of m), length old.loads.items) ∷ [] ≡ load_rows 0 (load_names (list ++ m ∷ [])) =
    ap (λ (n : ℕ). load_rows 0 (load_names list) ++ (name_key (name_of m), n) ∷ []) (omega (arith, size)) ∙ sym (load_rows-snoc 0 (load_names list) (name_of m)) ∙ ap (load_rows 0) (sym whole) in
    record {
      named = ap (map (λ (l : LoadLayout). l.load_name)) loads ∙ map-append (λ (l : LoadLayout). l.load_name) old.loads.items (load ∷ [])
          ∙ ap (λ (l : List (List ℕ)). l ++ load.load_name ∷ []) laid.named ∙ ap (λ (x : List ℕ). load_names list ++ x ∷ []) fresh.load_name ∙ sym whole;
      names = subst (λ (l : List Row). Indexes l new.names) rows names;
      loads = λ k l there. load_at k l (at_snoc old.loads.items load k l (ap (λ (ls : List LoadLayout). slice_get ls k) (sym loads) ∙ there));
      count = ap length places ∙ length-append old.places.items (p ∷ []) ∙ ap (λ (n : ℕ). n + 1) laid.count ∙ sym (length-append list (m ∷ []));
      places = λ k n q there here. place_at k n q (at_snoc list m k n there) (at_snoc old.places.items p k q (ap (λ (ps : List LoadOffset). slice_get ps k) (sym places) ∙ here));
      conflict = subst (IsConflict (list ++ m ∷ [])) (sym conflict) (conflict_none list m old.conflict (sym (has_names (name_of m) list) ∙ none) laid.conflict);
    }
  where
    absent : list_any (in_load (name_of m)) list ≡ false
    absent = sym (has_names (name_of m) list) ∙ none

    of_fresh : IsLoadOf (load_members load.load_name list ++ m ∷ []) (offset_after (load_length load.load_name list) m + m.segment.fields.length) load
    of_fresh =
        let none' : list_any (in_load load.load_name) list ≡ false = subst (λ (x : List ℕ). list_any (in_load x) list ≡ false) (sym fresh.load_name) absent in
        let members : load_members load.load_name list ++ m ∷ [] ≡ m ∷ [] = ap (λ (l : List Member). l ++ m ∷ []) (no_members load.load_name list none') in
        let ends : offset_after (end_from 0 load.load_name list) m + m.segment.fields.length ≡ m.segment.fields.length =
        omega (arith, ap (λ (n : ℕ). offset_after n m) (no_end load.load_name 0 list none'), start_zero m.segment.fields.align) in
        subst (λ (n : ℕ). IsLoadOf (load_members load.load_name list ++ m ∷ []) (offset_after n m + m.segment.fields.length) load) (sym (length_is load.load_name list))
        (subst (λ (l : List Member). IsLoadOf l (offset_after (end_from 0 load.load_name list) m + m.segment.fields.length) load) (sym members)
        (subst (λ (n : ℕ). IsLoadOf (m ∷ []) n load) (sym ends) (fresh_load m spot load at fresh)))

    load_at : (k : ℕ) (l : LoadLayout) → (slice_get old.loads.items k ≡ Some l) ⊎ ((k ≡ length old.loads.items) × (load ≡ l)) → IsLoad (list ++ m ∷ []) l
    load_at k l (inl there) = other_stays list m l (apart_from list m l k (named_at list old.loads.items k l laid.named there) none) (laid.loads k l there)
    load_at k l (inr is) = subst (IsLoad (list ++ m ∷ [])) is.1 (own_load list m load (ap (λ (x : List ℕ). bytes_eq (name_of m) x) fresh.load_name ∙ bytes_refl (name_of m)) of_fresh)

    place_at : (k : ℕ) (n : Member) (q : LoadOffset) → (slice_get list k ≡ Some n) ⊎ ((k ≡ length list) × (m ≡ n)) → (slice_get old.places.items k ≡ Some q) ⊎ ((k ≡ length old.places.items) × (p ≡ q)) → IsPlace (list ++ m ∷ []) k n q
    place_at k n q (inl a) (inl b) = place_stays list m n k q a (laid.places k n q a b)
    place_at k n q (inl a) (inr b) = let within = slice_get_within list k n a in absurd (omega (arith, within, b.0, laid.count))
    place_at k n q (inr a) (inl b) = let within = slice_get_within old.places.items k q b in absurd (omega (arith, within, a.0, laid.count))
    place_at k n q (inr a) (inr b) =
        let size : length old.loads.items ≡ length (load_names list) = sym (length-map old.loads.items (λ (l : LoadLayout). l.load_name)) ∙ ap length laid.named in
        let there : slice_get (load_names (list ++ m ∷ [])) (length (load_names list)) ≡ Some (name_of m) = ap (λ (l : List (List ℕ)). slice_get l (length (load_names list))) (names_new list m none) ∙ snoc_at (load_names list) (name_of m) in
        let is = place_last list m p (length (load_names list)) there (number ∙ size) (λ small. start ∙ sym (ap (λ (i : ℕ). offset_after i m) (no_end (name_of m) 0 list absent) ∙ start_zero m.segment.fields.align)) in
        subst (λ (i : ℕ). IsPlace (list ++ m ∷ []) i n q) (sym a.0) (subst (λ (x : Member). IsPlace (list ++ m ∷ []) (length list) x q) a.1 (subst (λ (x : LoadOffset). IsPlace (list ++ m ∷ []) (length list) m x) b.1 is))

pub laid_same : (list : List Member) (m : Member) (old new : kept.LinkLayout) (spot : Spot) (i : ℕ) (was now : LoadLayout) (p : LoadOffset) → Laid list old → slice_get (load_names list) i ≡ Some (name_of m) → slice_get old.loads.items i ≡ Some was
    → spot ≡ spot_in m m.segment.start → p.load ≡ i → p.offset ≡ offset_after was.length m → IsJoined m.segment.fields p.offset was now → new.loads.items ≡ set old.loads.items i now → new.places.items ≡ old.places.items ++ p ∷ []
    → new.conflict ≡ conflict_with old.conflict m.segment.fields.org spot → new.names ≡ old.names → Laid (list ++ m ∷ []) new
laid_same list m old new spot i was now p laid here is_was at number offset joined loads places conflict names =
    record {
      named = ap (map (λ (l : LoadLayout). l.load_name)) loads ∙ map_set (λ (l : LoadLayout). l.load_name) old.loads.items i was now is_was joined.load_name ∙ laid.named ∙ sym whole;
      names = subst (λ (l : List (List ℕ)). Indexes (load_rows 0 l) new.names) (sym whole) (subst (Indexes (load_rows 0 (load_names list))) (sym names) laid.names);
      loads = λ k l there. load_at k l (set_at old.loads.items i k now l (ap (λ (ls : List LoadLayout). slice_get ls k) (sym loads) ∙ there));
      count = ap length places ∙ length-append old.places.items (p ∷ []) ∙ ap (λ (n : ℕ). n + 1) laid.count ∙ sym (length-append list (m ∷ []));
      places = λ k n q there here. place_at k n q (at_snoc list m k n there) (at_snoc old.places.items p k q (ap (λ (ps : List LoadOffset). slice_get ps k) (sym places) ∙ here));
      conflict = subst (IsConflict (list ++ m ∷ [])) (sym conflict) (conflict_more list m old.conflict spot present at laid.conflict);
    }
  where
    there : contains_text (name_of m) (load_names list) ≡ true
    there = has_at (load_names list) i (name_of m) here

    whole : load_names (list ++ m ∷ []) ≡ load_names list
    whole = names_same list m there

    present : list_any (in_load (name_of m)) list ≡ true
    present = sym (has_names (name_of m) list) ∙ there

    text_same : (a b : List ℕ) → Some a ≡ Some b → a ≡ b
    text_same a b e = cc

    was_name : was.load_name ≡ name_of m
    was_name = text_same was.load_name (name_of m) (sym (named_at list old.loads.items i was laid.named is_was) ∙ here)

    now_name : now.load_name ≡ name_of m
    now_name = joined.load_name ∙ was_name

    of_joined : IsLoadOf (load_members now.load_name list ++ m ∷ []) (offset_after (load_length now.load_name list) m + m.segment.fields.length) now
    of_joined =
        let some : load_members was.load_name list ≡ [] → ⊥ = some_members was.load_name list (ap (λ (x : List ℕ). list_any (in_load x) list) was_name ∙ present) in
        subst (λ (x : List ℕ). IsLoadOf (load_members x list ++ m ∷ []) (offset_after (load_length x list) m + m.segment.fields.length) now) (sym joined.load_name)
        (joined_load (load_members was.load_name list) (load_length was.load_name list) p.offset m was now some (laid.loads i was is_was) offset joined)

    load_at : (k : ℕ) (l : LoadLayout) → ((k ≡ i) × (now ≡ l)) ⊎ ((k ≡ i → ⊥) × (slice_get old.loads.items k ≡ Some l)) → IsLoad (list ++ m ∷ []) l
    load_at k l (inl is) = subst (IsLoad (list ++ m ∷ [])) is.1 (own_load list m now (ap (λ (x : List ℕ). bytes_eq (name_of m) x) now_name ∙ bytes_refl (name_of m)) of_joined)
    load_at k l (inr is) = other_stays list m l (settle (in_load l.load_name m) refl) (laid.loads k l is.1)
      where
        at_k : slice_get (load_names list) k ≡ Some l.load_name
        at_k = named_at list old.loads.items k l laid.named is.1

        settle : (b : Bool) → in_load l.load_name m ≡ b → b ≡ false
        settle false e = refl
        settle true e =
            let same : name_of m ≡ l.load_name = bytes_same (name_of m) l.load_name e in
            let a = load_number list i (name_of m) here in
            let b = load_number list k l.load_name at_k in
            absurd (is.0 (omega (arith, a, b, ap (number_in (load_names list)) same)))

    place_at : (k : ℕ) (n : Member) (q : LoadOffset) → (slice_get list k ≡ Some n) ⊎ ((k ≡ length list) × (m ≡ n)) → (slice_get old.places.items k ≡ Some q) ⊎ ((k ≡ length old.places.items) × (p ≡ q)) → IsPlace (list ++ m ∷ []) k n q
    place_at k n q (inl a) (inl b) = place_stays list m n k q a (laid.places k n q a b)
    place_at k n q (inl a) (inr b) = let within = slice_get_within list k n a in absurd (omega (arith, within, b.0, laid.count))
    place_at k n q (inr a) (inl b) = let within = slice_get_within old.places.items k q b in absurd (omega (arith, within, a.0, laid.count))
    place_at k n q (inr a) (inr b) =
        let is = place_last list m p i (ap (λ (l : List (List ℕ)). slice_get l i) whole ∙ here) number
        (λ small. offset ∙ ap (λ (e : ℕ). offset_after e m) ((laid.loads i was is_was).length' ∙ ap (λ (x : List ℕ). min (load_length x list) 16777216) was_name ∙ least small)) in
        subst (λ (j : ℕ). IsPlace (list ++ m ∷ []) j n q) (sym a.0) (subst (λ (x : Member). IsPlace (list ++ m ∷ []) (length list) x q) a.1 (subst (λ (x : LoadOffset). IsPlace (list ++ m ∷ []) (length list) m x) b.1 is))
      where
        least : end_from 0 (name_of m) list ≤ 16777216 → min (load_length (name_of m) list) 16777216 ≡ end_from 0 (name_of m) list
        least small = omega (arith, small, length_is (name_of m) list)

pub laid_none : (new : kept.LinkLayout) → Indexes [] new.names → new.loads.items ≡ [] → new.places.items ≡ [] → new.conflict ≡ None → Laid [] new
unfolding load_names
laid_none new names loads places conflict = record {
  named = ap (map (λ (l : LoadLayout). l.load_name)) loads;
  names = names;
  loads = λ k l there. absurd (nothing k l (ap (λ (ls : List LoadLayout). slice_get ls k) (sym loads) ∙ there));
  count = ap length places;
  places = λ k m p there here. absurd (no_member k m there);
  conflict = subst (IsConflict []) (sym conflict) (none_yet HasOrgFault);
}
  where
    nothing : (k : ℕ) (l : LoadLayout) → slice_get [] k ≡ Some l → ⊥
    nothing k l e = cc

    no_member : (k : ℕ) (m : Member) → slice_get [] k ≡ Some m → ⊥
    no_member k m e = cc

-- ---- look-ups

abbrev spot_at : ℕ → ℕ → ℕ → Spot
spot_at file segment at = record { file = file; segment = segment; at = at }

pub spot_is : (m : Member) (origin : Origin) (s : Segment) → IsOf m origin → m.segment ≡ s → spot_at origin.file origin.segment s.start ≡ spot_in m m.segment.start
spot_is m origin s of same =
    ap (λ (n : ℕ). spot_at n origin.segment s.start) (sym of.0) ∙ ap (λ (n : ℕ). spot_at m.file n s.start) (sym of.1) ∙ ap (λ (x : Segment). spot_at m.file m.number x.start) (sym same)

-- what a look-up of a load name answers
abbrev pub Looks : kept.LinkLayout → List ℕ → Matches → Type 0
Looks layout x answer = (rows : List Row) → Indexes rows layout.names → answer ≡ outcome rows (name_key x)

number_is : (list : List Member) (layout : kept.LinkLayout) (x : List ℕ) (answer : Matches) → Laid list layout → Looks layout x answer → IsNumber 0 (load_names list) x (number_of answer)
number_is list layout x answer laid looks =
    subst (λ (o : Matches). IsNumber 0 (load_names list) x (number_of o)) (sym (looks (load_rows 0 (load_names list)) laid.names)) (looked (load_names list) x)

pub looked_none : (list : List Member) (layout : kept.LinkLayout) (x : List ℕ) (answer : Matches) → Laid list layout → Looks layout x answer → answer ≡ Nothing → contains_text x (load_names list) ≡ false
looked_none list layout x answer laid looks is = subst (λ (o : Matches). IsNumber 0 (load_names list) x (number_of o)) is (number_is list layout x answer laid looks)

looked_at : (list : List Member) (layout : kept.LinkLayout) (x : List ℕ) (answer : Matches) (i : ℕ) → Laid list layout → Looks layout x answer → (answer ≡ One i) ⊎ (answer ≡ Several i) → slice_get (load_names list) i ≡ Some x
looked_at list layout x answer i laid looks is = settle is
  where
    there : IsNumber 0 (load_names list) x (Some i) → slice_get (load_names list) i ≡ Some x
    there n = let same : n.0 ≡ i = omega (arith, n.1) in ap (slice_get (load_names list)) (sym same) ∙ n.2

    settle : (answer ≡ One i) ⊎ (answer ≡ Several i) → slice_get (load_names list) i ≡ Some x
    settle (inl e) = there (subst (λ (o : Matches). IsNumber 0 (load_names list) x (number_of o)) e (number_is list layout x answer laid looks))
    settle (inr e) = there (subst (λ (o : Matches). IsNumber 0 (load_names list) x (number_of o)) e (number_is list layout x answer laid looks))

pub looked_some : (list : List Member) (layout : kept.LinkLayout) (x name : List ℕ) (answer : Matches) (i : ℕ) → Laid list layout → Looks layout x answer → (answer ≡ One i) ⊎ (answer ≡ Several i) → x ≡ name → slice_get (load_names list) i ≡ Some name
looked_some list layout x name answer i laid looks is named = subst (λ (y : List ℕ). slice_get (load_names list) i ≡ Some y) named (looked_at list layout x answer i laid looks is)

pub load_within : (list : List Member) (layout : kept.LinkLayout) (x : List ℕ) (answer : Matches) (i : ℕ) → Laid list layout → Looks layout x answer → (answer ≡ One i) ⊎ (answer ≡ Several i) → i < length layout.loads.items
load_within list layout x answer i laid looks is =
    let at = looked_at list layout x answer i laid looks is in
    let within = slice_get_within (load_names list) i x at in
    omega (arith, within, length-map layout.loads.items (λ (l : LoadLayout). l.load_name), ap length laid.named)
