-- The linked cells as they grow, member by member and record by record.
use Rattle.std.proofs.Common.{◌≡◌, ℕ, ◌+◌, ◌-◌, ◌≤◌, Bool, true, eqb, leb, cond, List, [], ◌∷◌, ◌++◌, length, map, filter, Result, Ok, refl, ap, ◌∙◌, arith}
use Rattle.std.proofs.lemmas.List.{append-nil}
use Rattle.std.proofs.lemmas.Bool.{ne_eqb, eq-eqb}
use Rattle.load_meaning.specs.Cells.{Cell}
use Rattle.link_meaning.specs.declared.fault.LinkCause.{LinkCause}
use Rattle.object_meaning.specs.Sizes.{Located, records_with_offsets}
use Rattle.link_meaning.specs.Member.{Member}
use Rattle.link_meaning.specs.Layout.{in_load, offset_of}
use Rattle.link_meaning.specs.LinkValues.{EquateAnswer}
use Rattle.link_meaning.specs.LinkedCells.{Item, LinkState, Made, zeros, items_from, items, cells_before, made, state_after_item, state_from, state_after, targets, member_cells, cells_from, linked}
use Rattle.link_meaning.specs.LinkWritten.{start}
use Rattle.link_meaning.specs.laws.LinkedRuns.{item, items_from-append, state_from-append, state_place, are_below, up_to}

-- ---- what there is after the first members of the list

-- what their records made
unfoldable pub state_of : List Member → List EquateAnswer → List Member → LinkState
state_of list table front = state_from list table start (items_from 1 front)

-- the cells of a load segment
unfoldable pub linked_after : List Member → List EquateAnswer → List ℕ → List Member → List Cell
linked_after list table load_name front = cells_from list table load_name [] 1 front

-- the records of a member, with its place
abbrev pub own_items : ℕ → Member → List Item
own_items place m = map (item place m) (records_with_offsets m.segment)

-- the cells of a load segment with those of one member more
abbrev pub with_member : List Member → List EquateAnswer → List ℕ → ℕ → Member → List Cell → List Cell
with_member list table load_name place m cells = cond (in_load load_name m) (cells ++ zeros (offset_of list place m - length cells) ++ member_cells list table place m) cells

-- ---- at the start and at the end

pub none_after : (list : List Member) (table : List EquateAnswer) (load_name : List ℕ) → linked_after list table load_name [] ≡ []
unfolding linked_after
none_after list table load_name = refl

pub all_following : (list : List Member) (table : List EquateAnswer) (load_name : List ℕ) → linked_after list table load_name list ≡ linked list table load_name
unfolding linked_after linked
all_following list table load_name = refl

pub all_targets : (list : List Member) (table : List EquateAnswer) → (state_of list table list).targets ≡ targets list table
unfolding state_of targets state_after items
all_targets list table = refl

-- ---- one member more

cells_from-append : (list : List Member) (table : List EquateAnswer) (load_name : List ℕ) (cells : List Cell) (place : ℕ) (xs ys : List Member)
    → cells_from list table load_name cells place (xs ++ ys) ≡ cells_from list table load_name (cells_from list table load_name cells place xs) (place + length xs) ys
cells_from-append list table load_name cells place [] ys = ap (λ (n : ℕ). cells_from list table load_name cells n ys) (omega arith)
cells_from-append list table load_name cells place (x ∷ xs) ys =
    cells_from-append list table load_name (with_member list table load_name place x cells) (place + 1) xs ys
    ∙ ap (λ (n : ℕ). cells_from list table load_name (cells_from list table load_name (with_member list table load_name place x cells) (place + 1) xs) n ys) (omega arith)

pub member_after : (list : List Member) (table : List EquateAnswer) (load_name : List ℕ) (front : List Member) (m : Member)
    → linked_after list table load_name (front ++ m ∷ []) ≡ with_member list table load_name (length front + 1) m (linked_after list table load_name front)
unfolding linked_after
member_after list table load_name front m =
    let place : 1 + length front ≡ length front + 1 = omega arith in
    cells_from-append list table load_name [] 1 front (m ∷ [])
    ∙ ap (λ (n : ℕ). cells_from list table load_name (cells_from list table load_name [] 1 front) n (m ∷ [])) place

pub member_state : (list : List Member) (table : List EquateAnswer) (front : List Member) (m : Member)
    → state_of list table (front ++ m ∷ []) ≡ state_from list table (state_of list table front) (own_items (length front + 1) m)
unfolding state_of
member_state list table front m =
    let place : 1 + length front ≡ length front + 1 = omega arith in
    ap (state_from list table start) (items_from-append 1 front (m ∷ []))
    ∙ state_from-append list table start (items_from 1 front) (items_from (1 + length front) (m ∷ []))
    ∙ ap (λ (n : ℕ). state_from list table (state_from list table start (items_from 1 front)) (items_from n (m ∷ []))) place
    ∙ ap (state_from list table (state_from list table start (items_from 1 front))) (append-nil (own_items (length front + 1) m))

-- the member's cells are those that its records leave, and RESSPC zeros
pub cells_of_member : (list : List Member) (table : List EquateAnswer) (front : List Member) (m : Member) (back : List Member) → list ≡ front ++ m ∷ back
    → member_cells list table (length front + 1) m ≡ (state_from list table (state_of list table front) (own_items (length front + 1) m)).cells ++ zeros m.segment.fields.res_spc
unfolding state_of member_cells state_after items
cells_of_member list table front m back parts =
    let n = length front + 1 in
    let kept : filter (λ (i : Item). leb i.place n) (items_from 1 list) ≡ items_from 1 front ++ own_items n m =
    ap (λ (l : List Member). filter (λ (i : Item). leb i.place n) (items_from 1 l)) parts ∙ up_to front m back in
    ap (λ (s : LinkState). s.cells ++ zeros m.segment.fields.res_spc) (ap (state_from list table start) kept ∙ state_from-append list table start (items_from 1 front) (own_items n m))

-- before its first record it has none
pub none_before : (list : List Member) (table : List EquateAnswer) (front : List Member) (m : Member) (r : Located) → cells_before (state_of list table front) (item (length front + 1) m r) ≡ []
unfolding state_of
none_before list table front m r =
    let state = state_of list table front in
    let earlier : (state_from list table start (items_from 1 front)).place ≤ length front = state_place list table start (length front) (items_from 1 front) (omega arith) (are_below (length front) 1 front (omega arith)) in
    ap (λ (b : Bool). cond b (state_from list table start (items_from 1 front)).cells []) (ne_eqb _ (length front + 1) (λ e. absurd (omega (arith, e, earlier))))

-- ---- one record more

-- a record that gives cells
pub made_more : (list : List Member) (table : List EquateAnswer) (state : LinkState) (place : ℕ) (m : Member) (r t : Located) (x : Made) → made list table state (item place m r) ≡ Ok x
    → cells_before (state_after_item state (item place m r) (made list table state (item place m r))) (item place m t) ≡ cells_before state (item place m r) ++ x.0
made_more list table state place m r t x e =
    let i = item place m r in
    let same : eqb place place ≡ true = eq-eqb place place refl in
    ap (λ (g : Result Made LinkCause). cells_before (state_after_item state i g) (item place m t)) e
    ∙ ap (λ (b : Bool). cond b (cells_before state i ++ x.0) []) same
