-- Each record of the workload's object gives cells: a JSL goes through the table, and a segment's own place fits.
use Rattle.std.proofs.Common.{◌≡◌, ℕ, pos, zero, suc, ◌+◌, ◌-◌, ◌%◌, ◌<◌, ◌≤◌, Bool, true, false, cond, not, eqb, leb, ltb, List, [], ◌∷◌, ◌++◌, length, map, refl, sym, ap, subst, ◌∙◌, arith, inl, inr}
use Rattle.std.specs.Prelude.{replicate, Option, Some, None, Result, Ok, Err, ◌⊎◌, ◌&&◌, slice_get}
use Rattle.std.specs.List.{list_any}
use Rattle.std.specs.Str.{bytes_eq}
use Rattle.std.proofs.lemmas.Bool.{cases_Bool, eq-eqb, eqb-true, lt-ltb, lt-leb, or_right}
use Rattle.std.proofs.lemmas.List.{length-append}
use Rattle.std.proofs.lemmas.Slice.Eq.{bytes_eq-Decides}
use Rattle.omf_format.specs.declared.value.Value.{Value}
use Rattle.omf_format.specs.declared.value.Value.TheVariants.{At}
use Rattle.omf_format.specs.declared.value.ValueFault.{ValueFault}
use Rattle.omf_format.specs.Header.{HeaderFields}
use Rattle.omf_format.specs.Expression.{Named, Leaf}
use Rattle.omf_format.specs.Value.{operand_value}
use Rattle.omf_format.specs.laws.Steps.{known_or_fault}
use Rattle.omf_format.specs.Record.{Record, End, Const, LongConst, Formula}
use Rattle.omf_format.specs.File.{Segment}
use Rattle.load_meaning.specs.Cells.{Cell, Byte}
use Rattle.load_meaning.specs.declared.table.Target.{Target}
use Rattle.load_meaning.specs.Table.{is_same, with_target}
use Rattle.link_meaning.specs.declared.fault.LinkCause.{LinkCause}
use Rattle.link_meaning.specs.declared.fault.LinkCause.TheVariants as fault
use Rattle.link_meaning.specs.First.{IsIn}
use Rattle.object_meaning.specs.Sizes.{Located, size_at, located_from, records_with_offsets}
use Rattle.link_meaning.specs.declared.form.LinkForm.{LinkForm}
use Rattle.link_meaning.specs.Member.{LinkSetting, without_runtimes, Member, members_from}
use Rattle.link_meaning.specs.Search.{FoundDefinition}
use Rattle.link_meaning.specs.Layout.{load_length, load_names, number_in, load_of, offset_of, load_fields, headers_from, load_headers}
use Rattle.object_meaning.specs.laws.TreeInLaws.{tree_in-again}
use Rattle.object_meaning.specs.Terms.{tree_in}
use Rattle.link_meaning.specs.laws.PlaceFits.{name_there, offset-le, in_parts}
use Rattle.link_meaning.specs.LinkValues.{EquateAnswer, place_value, outside_value, label_value, member_environment, value_or_equate_fault, value_in}
use Rattle.link_meaning.specs.Fitting.{PatchPlace, Fit, Place, place_fit, is_dynamic_load, length_of, ends_in_jsl, call_fit, fit_value, fit_cells, targets_after}
use Rattle.link_meaning.specs.laws.Steps.{has_room_for, target_of, may_call, or_does_not_fit, tree_value, frame_of, is_call}
use Rattle.link_meaning.specs.Fitting as fitting
use Rattle.link_meaning.specs.LinkedCells.{Item, LinkState, Made, items_from, items, table_number, cells_before, made_by, made, state_after_item}
use Rattle.link_meaning.specs.LinkWritten.{AreMade, start}
use Rattle.link_meaning.specs.laws.LinkedRuns.{item}
use Rattle.workload_meaning.specs.Object.{name_of, padded, value_of, calls, dynamic_segment}
use Rattle.workload_meaning.specs.laws.NameLaws.{is_name, value_spells}
use Rattle.workload_meaning.specs.laws.ObjectLaws.{IsOwn, AreDynamic, IsWorkload}
use Rattle.workload_meaning.specs.laws.SearchLaws.{IsNamedAt, title_at, finds_one}
use Rattle.workload_meaning.specs.laws.ResolvedLaws.{all_in, IsList, is_list, is_alone, has_named}

-- ---- the header of a member's load segment

abbrev some_fields : HeaderFields → Option HeaderFields
some_fields f = Some f

number_some : (xs : List (List ℕ)) (x : List ℕ) → 1 ≤ number_in xs x
number_some [] x = omega arith
number_some (y ∷ ys) x = elim (cases_Bool (bytes_eq y x)) [
  | inl same ↦ rw same (omega arith)
  | inr other ↦ rw other (omega arith)
]

header_at : (list : List Member) (number : ℕ) (xs : List (List ℕ)) (x : List ℕ) → IsIn xs x → (k : ℕ) × (slice_get (headers_from list number xs) (number_in xs x - 1) ≡ some_fields (load_fields list k x))
header_at list number [] x is = absurd is
header_at list number (y ∷ ys) x is = elim (cases_Bool (bytes_eq y x)) [
  | inl same ↦ rw same ((number, ap (λ (z : List ℕ). some_fields (load_fields list number z)) ((bytes_eq-Decides y x).0 same)))
  | inr other ↦
      let rest = header_at list (number + 1) ys x (later other is) in
      rw other ((rest.0, by_number (number_in ys x) (number_some ys x) rest.1))
]
  where
    later : bytes_eq y x ≡ false → (y ≡ x) ⊎ IsIn ys x → IsIn ys x
    later other (inl e) = let clash : true ≡ false = sym ((bytes_eq-Decides y x).1 e) ∙ other in absurd cc
    later other (inr more) = more

    by_number : (k : ℕ) → 1 ≤ k → {f : Option HeaderFields} → slice_get (headers_from list (number + 1) ys) (k - 1) ≡ f → slice_get (load_fields list number y ∷ headers_from list (number + 1) ys) (1 + k - 1) ≡ f
    by_number zero some e = absurd (omega (arith, some))
    by_number (suc k) some {f} e =
        let one : suc k - 1 ≡ k = omega arith in
        let two : 1 + suc k - 1 ≡ suc k = omega arith in
        ap (slice_get (load_fields list number y ∷ headers_from list (number + 1) ys)) two ∙ ap (slice_get (headers_from list (number + 1) ys)) (sym one) ∙ e

-- a member's start lies before the end of its load segment
inside : (list front : List Member) (m : Member) (back : List Member) → list ≡ front ++ m ∷ back → 1 ≤ m.segment.fields.length → offset_of list (1 + length front) m + 0 < length_of (load_headers list) (load_of list m)
unfolding load_headers load_of load_fields
inside list front m back parts some =
    let x = m.segment.fields.load_name in
    let header = header_at list 1 (load_names list) x (name_there list m (in_parts list front m back parts)) in
    let size : length_of (headers_from list 1 (load_names list)) (number_in (load_names list) x) ≡ load_length x list =
    ap (λ (o : Option HeaderFields). elim o as (λ y. ℕ) [ None ↦ 0 | Some f ↦ f.length ]) header.1 in
    let place : offset_of list (1 + length front) m ≡ offset_of list (length front + 1) m = ap (λ (p : ℕ). offset_of list p m) (omega arith) in
    omega (arith, size, place, offset-le list front m back parts, some)

-- ---- a call

ends : (cells : List Cell) → ends_in_jsl (cells ++ Byte 0x22 ∷ []) ≡ true
ends [] = refl
ends (c ∷ []) = refl
ends (c ∷ d ∷ cells) = ends (d ∷ cells)

with_target-le : (targets : List Target) (t : Target) → length (with_target targets t) ≤ length targets + 1
with_target-le targets t = elim (cases_Bool (list_any (is_same t) targets)) [
  | inl known' ↦ rw known' (omega arith)
  | inr other ↦ rw other (omega (arith, length-append targets (t ∷ [])))
]

-- a fit, and not many more targets
record HasFit (targets : List Target) (answer : Result Fit LinkCause) : Type 0 where
  fit : Fit
  is : answer ≡ Ok fit
  few : length (targets_after targets fit) ≤ length targets + 1

-- the outcome of a call of a place in the file itself, once it may call
abbrev room_fit : List HeaderFields → List Target → ℕ → ℕ → Result Fit LinkCause
room_fit headers targets segment offset = cond (leb (length_of headers segment) offset) (Err fault.OutOfSegment)
    (cond (not (has_room_for targets (target_of 1 segment offset))) (Err fault.TooManyEntries) (Ok (fitting.Entry (target_of 1 segment offset))))

call_fits : (headers : List HeaderFields) (setting : LinkSetting) (targets : List Target) (segment offset : ℕ) → setting ≡ without_runtimes → offset < length_of headers segment → length targets < 4680
    → HasFit targets (call_fit headers setting targets true (target_of 1 segment offset))
call_fits headers setting targets segment offset own within few =
    let inner : leb (length_of headers segment) offset ≡ false = lt-leb (length_of headers segment) offset within in
    let room : has_room_for targets (target_of 1 segment offset) ≡ true = or_right (list_any (is_same (target_of 1 segment offset)) targets) (ltb (length targets) 4680) (lt-ltb (length targets) 4680 few) in
    let fits : HasFit targets (room_fit headers targets segment offset) = record {
      fit = fitting.Entry (target_of 1 segment offset);
      is = rw (inner, room) refl;
      few = with_target-le targets (target_of 1 segment offset);
    } in
    subst (λ (form : LinkForm). HasFit targets (cond (not (may_call form && true)) (Err fault.DynamicReference) (room_fit headers targets segment offset))) (ap (λ (s : LinkSetting). s.form) (sym own)) fits

jsl_fits : (headers : List HeaderFields) (f : PatchPlace) (targets : List Target) (before : List Cell) (segment offset : ℕ) → f.setting ≡ without_runtimes → ends_in_jsl before ≡ true → offset < length_of headers segment → length targets < 4680
    → HasFit targets (fit_value headers f targets before 0xF3 3 0 (At 1 segment offset (pos 0)))
jsl_fits headers f targets before segment offset own jsl within few = by_test (not (eqb segment f.own) && is_dynamic_load headers segment)
  where
    by_test : (b : Bool) → HasFit targets (cond b (call_fit headers f.setting targets (is_call 0xF3 3 (pos 0) before) (target_of 1 segment offset)) (or_does_not_fit (place_fit f 0xF3 3 0 segment offset (pos 0))))
    by_test true = subst (λ (call : Bool). HasFit targets (call_fit headers f.setting targets call (target_of 1 segment offset))) (sym jsl) (call_fits headers f.setting targets segment offset own within few)
    by_test false = record { fit = Place segment offset (pos 0); is = refl; few = omega arith }

own_fits : (headers : List HeaderFields) (f : PatchPlace) (targets : List Target) (before : List Cell) (segment offset : ℕ) → segment ≡ f.own → fit_value headers f targets before 0xEB 3 0 (At 1 segment offset (pos 0)) ≡ Ok (Place segment offset (pos 0))
own_fits headers f targets before segment offset own = rw (eq-eqb segment f.own own) refl

-- ---- records

abbrev okay : Made → Result Made LinkCause
okay x = Ok x

-- after a record that gave these cells
step : (list : List Member) (table : List EquateAnswer) (state : LinkState) (i : Item) (more : List Item) (x : Made) → made list table state i ≡ okay x → AreMade list table (state_after_item state i (okay x)) more → AreMade list table state (i ∷ more)
step list table state i more x e rest = (x, e, subst (λ (g : Result Made LinkCause). AreMade list table (state_after_item state i g) more) (sym e) rest)

made_as : (list : List Member) (table : List EquateAnswer) (state : LinkState) (i : Item) (r : Record) (x : Made) → i.here.content ≡ r → made_by list table state i r ≡ okay x → made list table state i ≡ okay x
unfolding made
made_as list table state i r x is e = ap (made_by list table state i) is ∙ e

formula_made : (list : List Member) (table : List EquateAnswer) (state : LinkState) (i : Item) (code : ℕ) (expr : List ℕ) (v : Value) (fit : Fit) → value_in list table i.place i.member i.here.location expr ≡ Ok v
    → fit_value (load_headers list) (frame_of list i) state.targets (cells_before state i) code 3 0 v ≡ Ok fit
    → made_by list table state i (Formula code 3 0 expr) ≡ okay (fit_cells (table_number list) 3 (targets_after state.targets fit) fit, targets_after state.targets fit)
formula_made list table state i code expr v fit is fits = rw (is, fits) refl

head_is : {A : Type 0} (x y : A) (xs ys : List A) → x ∷ xs ≡ y ∷ ys → x ≡ y
head_is x y xs ys e = cc

tail_is : {A : Type 0} (x y : A) (xs ys : List A) → x ∷ xs ≡ y ∷ ys → xs ≡ ys
tail_is x y xs ys e = cc

-- ---- the members

module _ (n : ℕ) (list : List Member) (table : List EquateAnswer) (few : n ≤ 64) (is : IsList n list) where
  there : (i : ℕ) → 1 ≤ i → i ≤ n → IsNamedAt i 1 list
  there i some less = has_named n i list is few some less

  abbrev fine : Value → Result Value ValueFault
  fine v = Ok v

  not_zero : (k : ℕ) → eqb (1 + k) 0 ≡ false
  not_zero k = by_test (eqb (1 + k) 0) refl
    where
      by_test : (b : Bool) → eqb (1 + k) 0 ≡ b → b ≡ false
      by_test true e = let zero' : 1 + k ≡ 0 = eqb-true (1 + k) 0 e in absurd (omega arith)
      by_test false e = refl

  -- the start of a dynamic segment
  abbrev start_of : (i : ℕ) → IsNamedAt i 1 list → Value
  start_of i at = place_value list (1 + length at.front) at.member 0

  value_is : (i place location : ℕ) (m : Member) → IsOwn n m.segment → 1 ≤ i → i ≤ n → (at : IsNamedAt i 1 list) → value_in list table place m location (value_of (name_of i)) ≡ Ok (start_of i at)
  unfolding value_in operand_value member_environment
  value_is i place location m own some less at =
      let tree = Leaf (Named 0x83 (name_of i)) in
      let spelled : tree_in 0 (value_of (name_of i)) ≡ Some tree = tree_in-again 0 (value_of (name_of i)) tree (value_spells (name_of i) (is_name i (omega (arith, less, few)))) in
      ap (λ (l : ℕ). tree_value list table place m location (tree_in l (value_of (name_of i)))) own.lab_len
      ∙ ap (tree_value list table place m location) spelled
      ∙ ap (λ (found : List FoundDefinition). value_or_equate_fault list table place m tree (known_or_fault 0 (label_value list table false found))) (finds_one n i place list m few is.all own at)
      ∙ ap (λ (outside : Bool). fine (cond outside (outside_value (title_at (1 + length at.front) at.member)) (start_of i at))) (not_zero (length at.front))

  -- cells, and not many more targets
  record HasMade (state : LinkState) (i : Item) : Type 0 where
    x : Made
    is' : made list table state i ≡ okay x
    small : length x.1 ≤ length state.targets + 1

  -- after the byte $22 a dynamic segment is called
  jsl_made : (i : ℕ) (state : LinkState) (it : Item) → IsOwn n it.member.segment → 1 ≤ i → i ≤ n → it.here.content ≡ Formula 0xF3 3 0 (value_of (name_of i)) → ends_in_jsl (cells_before state it) ≡ true
      → length state.targets < 4680 → HasMade state it
  unfolding place_value
  jsl_made i state it own some less content jsl small =
      let at = there i some less in
      let m = at.member in
      let cells = (all_in (λ (o : Member). IsOwn n o.segment) list m is.all (in_parts list at.front m at.back at.parts)).cells in
      let within = inside list at.front m at.back at.parts cells in
      let fits = jsl_fits (load_headers list) (frame_of list it) state.targets (cells_before state it) (load_of list m) (offset_of list (1 + length at.front) m + 0) (is_alone n list is) jsl within small in
      let x : Made = (fit_cells (table_number list) 3 (targets_after state.targets fits.fit) fits.fit, targets_after state.targets fits.fit) in
      record {
        x = x;
        is' = made_as list table state it (Formula 0xF3 3 0 (value_of (name_of i))) x content (formula_made list table state it 0xF3 (value_of (name_of i)) (start_of i at) fits.fit (value_is i it.place it.here.location it.member own some less at) fits.is);
        small = fits.few;
      }

  -- a segment's own place fits
  own_made : (i : ℕ) (state : LinkState) (it : Item) → IsOwn n it.member.segment → 1 ≤ i → i ≤ n → it.here.content ≡ Formula 0xEB 3 0 (value_of (name_of i)) → it.member.segment.fields.load_name ≡ padded (name_of i)
      → (x : Made) × (made list table state it ≡ okay x)
  unfolding place_value load_of
  own_made i state it own some less content load_name =
      let at = there i some less in
      let m = at.member in
      let same : load_of list m ≡ load_of list it.member = ap (number_in (load_names list)) (at.load_name ∙ sym load_name) in
      let place : Fit = Place (load_of list m) (offset_of list (1 + length at.front) m + 0) (pos 0) in
      let fits = own_fits (load_headers list) (frame_of list it) state.targets (cells_before state it) (load_of list m) (offset_of list (1 + length at.front) m + 0) same in
      let x : Made = (fit_cells (table_number list) 3 (targets_after state.targets place) place, targets_after state.targets place) in
      (x, made_as list table state it (Formula 0xEB 3 0 (value_of (name_of i))) x content (formula_made list table state it 0xEB (value_of (name_of i)) (start_of i at) place (value_is i it.place it.here.location it.member own some less at) fits))

  -- ---- the segment MAIN

  calls_made : (main : Member) (more i loc : ℕ) (founds : List (ℕ × Record)) (state : LinkState) (rest : List Item) → IsOwn n main.segment → map (λ found. found.1) founds ≡ calls more i → 1 ≤ i → i + more ≤ n + 1
      → length state.targets + more ≤ 64 → ((s : LinkState) → AreMade list table s rest) → AreMade list table state (map (item 1 main) (located_from loc founds) ++ rest)
  calls_made main zero i loc [] state rest own are some less small following = absurd (omega (arith, ap length are))
  calls_made main zero i loc (a ∷ []) state rest own are some less small following =
      let r : Located = record { at = a.0; location = loc; content = a.1 } in
      step list table state (item 1 main r) rest ([], state.targets) (made_as list table state (item 1 main r) End ([], state.targets) (head_is a.1 End [] [] are) refl) (following _)
  calls_made main zero i loc (a ∷ b ∷ founds) state rest own are some less small following = absurd (omega (arith, ap length are))
  calls_made main (suc more) i loc [] state rest own are some less small following = absurd (omega (arith, ap length are))
  calls_made main (suc more) i loc (a ∷ []) state rest own are some less small following = absurd (omega (arith, ap length are))
  calls_made main (suc more) i loc (a ∷ b ∷ founds) state rest own are some less small following =
      let const : Record = Const (0x22 ∷ []) in
      let formula : Record = Formula 0xF3 3 0 (value_of (name_of i)) in
      let first = item 1 main (record { at = a.0; location = loc; content = a.1 }) in
      let loc2 = loc + size_at loc a.1 in
      let second = item 1 main (record { at = b.0; location = loc2; content = b.1 }) in
      let loc3 = loc2 + size_at loc2 b.1 in
      let later = map (item 1 main) (located_from loc3 founds) ++ rest in
      let tail = tail_is a.1 const (b.1 ∷ map (λ found. found.1) founds) (formula ∷ calls more (i + 1)) are in
      let b_is : b.1 ≡ formula = head_is b.1 formula (map (λ found. found.1) founds) (calls more (i + 1)) tail in
      let rest_are = tail_is b.1 formula (map (λ found. found.1) founds) (calls more (i + 1)) tail in
      let x : Made = (Byte 0x22 ∷ [], state.targets) in
      let next : LinkState = state_after_item state first (okay x) in
      let call = jsl_made i next second own some (omega (arith, less)) b_is (ends (cells_before state first)) (omega (arith, small)) in
      step list table state first (second ∷ later) x (made_as list table state first const x (head_is a.1 const (b.1 ∷ map (λ found. found.1) founds) (formula ∷ calls more (i + 1)) are) refl)
      (step list table next second later call.x call.is'
      (calls_made main more (i + 1) loc3 founds (state_after_item next second (okay call.x)) rest own rest_are (omega (arith, some)) (omega (arith, less)) (omega (arith, small, call.small)) following))

  -- ---- the dynamic segments

  bytes_made : (m : Member) (place loc size i : ℕ) (founds : List (ℕ × Record)) (state : LinkState) (rest : List Item) → map (λ found. found.1) founds ≡ LongConst (replicate size i) ∷ End ∷ []
      → ((s : LinkState) → AreMade list table s rest) → AreMade list table state (map (item place m) (located_from loc founds) ++ rest)
  bytes_made m place loc size i [] state rest are following = absurd (omega (arith, ap length are))
  bytes_made m place loc size i (a ∷ []) state rest are following = absurd (omega (arith, ap length are))
  bytes_made m place loc size i (a ∷ b ∷ c ∷ founds) state rest are following = absurd (omega (arith, ap length are))
  bytes_made m place loc size i (a ∷ b ∷ []) state rest are following =
      let const : Record = LongConst (replicate size i) in
      let first = item place m (record { at = a.0; location = loc; content = a.1 }) in
      let loc2 = loc + size_at loc a.1 in
      let second = item place m (record { at = b.0; location = loc2; content = b.1 }) in
      let x : Made = (map Byte (replicate size i), state.targets) in
      let next : LinkState = state_after_item state first (okay x) in
      let y : Made = ([], next.targets) in
      step list table state first (second ∷ rest) x (made_as list table state first const x (head_is a.1 const (b.1 ∷ []) (End ∷ []) are) refl)
      (step list table next second rest y (made_as list table next second End y (head_is b.1 End [] [] (tail_is a.1 const (b.1 ∷ []) (End ∷ []) are)) refl) (following _))

  body_made : (m : Member) (place i size : ℕ) (founds : List (ℕ × Record)) (state : LinkState) (rest : List Item) → IsOwn n m.segment → m.segment.fields.load_name ≡ padded (name_of i) → 1 ≤ i → i ≤ n
      → map (λ found. found.1) founds ≡ (dynamic_segment i size).body → ((s : LinkState) → AreMade list table s rest) → AreMade list table state (map (item place m) (located_from 0 founds) ++ rest)
  body_made m place i size [] state rest own load_name some less are following = absurd (omega (arith, ap length are))
  body_made m place i size (a ∷ founds) state rest own load_name some less are following =
      let formula : Record = Formula 0xEB 3 0 (value_of (name_of i)) in
      let more : List Record = LongConst (replicate size i) ∷ End ∷ [] in
      let first = item place m (record { at = a.0; location = 0; content = a.1 }) in
      let x = own_made i state first own some less (head_is a.1 formula (map (λ found. found.1) founds) more are) load_name in
      step list table state first (map (item place m) (located_from (0 + size_at 0 a.1) founds) ++ rest) x.0 x.1
      (bytes_made m place (0 + size_at 0 a.1) size i founds (state_after_item state first (okay x.0)) rest (tail_is a.1 formula (map (λ found. found.1) founds) more are) following)

  dynamics_made : (i place number : ℕ) (all : List ℕ) (segments : List Segment) (state : LinkState) → 1 ≤ i → i + length all ≤ n + 1 → AreDynamic n i all segments → AreMade list table state (items_from place (members_from without_runtimes 1 number segments))
  unfolding records_with_offsets
  dynamics_made i place number [] [] state some less are = tt
  dynamics_made i place number [] (s ∷ segments) state some less are = absurd are
  dynamics_made i place number (draw ∷ all) [] state some less are = absurd are
  dynamics_made i place number (draw ∷ all) (s ∷ segments) state some less are =
      let m : Member = record { file = 1; number = number; from = 0; segment = s; setting = without_runtimes } in
      body_made m place i (16 + draw % 4096) s.records state (items_from (place + 1) (members_from without_runtimes 1 (number + 1) segments)) are.0 are.1.load_name some (omega (arith, less)) are.1.records
      (λ later. dynamics_made (i + 1) (place + 1) (number + 1) all segments later (omega (arith, some)) (omega (arith, less)) are.2)

-- each record gives its cells, whatever values are reported for equates
pub all_made : (n : ℕ) (sizes : List ℕ) (segments : List Segment) (table : List EquateAnswer) → n ≤ 64 → length sizes ≡ n → IsWorkload n sizes segments → AreMade (members_from without_runtimes 1 1 segments) table start (items (members_from without_runtimes 1 1 segments))
unfolding items records_with_offsets
all_made n sizes segments table few size w =
    let list = members_from without_runtimes 1 1 segments in
    let is = is_list n sizes segments size w in
    let main : Member = record { file = 1; number = 1; from = 0; segment = w.main; setting = without_runtimes } in
    let others = items_from 2 (members_from without_runtimes 1 2 w.others) in
    subst (λ (l : List Segment). AreMade list table start (items_from 1 (members_from without_runtimes 1 1 l))) (sym w.parts)
    (calls_made n list table few is main n 1 0 w.main.records start others w.own w.calls'.records (omega arith) (omega arith) (omega (arith, few))
    (λ later. dynamics_made n list table few is 1 2 2 sizes w.others later (omega arith) (omega (arith, size)) w.dynamic))
