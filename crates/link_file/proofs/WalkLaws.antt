-- The walk over the records of all members.
use Rattle.std.proofs.Common.{◌≡◌, inr, ℕ, ◌+◌, ◌-◌, ◌≤◌, Bool, cond, List, [], ◌∷◌, ◌++◌, length, map, Ok, Err, refl, sym, ap, subst, ◌∙◌, append_assoc, append-nil, arith}
use Rattle.std.proofs.lemmas.Bool.{eq-eqb}
use Rattle.std.proofs.lemmas.List.{length-append, length-map, map-append}
use Rattle.omf_format.specs.Record.{Record, End}
use Rattle.omf_format.specs.File.{Segment}
use Rattle.load_meaning.specs.Cells.{Cell, byte_under}
use Rattle.load_meaning.specs.declared.table.Target.{Target}
use Rattle.link_meaning.specs.declared.fault.LinkCause.{LinkCause}
use Rattle.object_meaning.specs.Sizes.{size_at, located_from, records_with_offsets, place_after, body_size}
use Rattle.link_meaning.specs.Member.{Member, setting_in}
use Rattle.link_meaning.specs.Layout.{offset_of, load_headers}
use Rattle.link_meaning.specs.LinkValues.{EquateAnswer}
use Rattle.link_meaning.specs.LinkedCells.{LinkState, zeros, made, state_after_item, state_from, member_cells, table_number}
use Rattle.link_meaning.specs.LinkWritten.{AreMade}
use Rattle.link_meaning.specs.laws.MadeLaws.{length-made, length-zeros}
use Rattle.link_meaning.specs.laws.PlaceFits.{following-le, in_parts}
use Rattle.link_meaning.specs.laws.ReadMembers.{read_size, read_some}
use Rattle.link_meaning.specs.laws.LinkedRuns.{item}
use Rattle.link_meaning.specs.laws.LinkedWalk.{state_of, own_items, member_state, cells_of_member, none_before, made_more}
use Rattle.link_content.specs.Holding.{Holding}
use Rattle.link_content.specs.declared.context.LinkContext.{LinkContext}
use Rattle.link_program.specs.declared.member_place.MemberPlace.{MemberPlace}
use Rattle.link_program.specs.OfFiles.{IsOfFiles}
use Rattle.link_content.specs.Contents.{HoldsCells}
use Rattle.link_content.specs.Fits.{to_load_limits}
use Rattle.link_content.specs.Records.{StandsAt, PutsMade}
use Rattle.link_file.specs.Walks.{Begins, cells_there, state_after_records, Puts, Unmade, StandsAfter, PutsMember}
use Rattle.link_values.proofs.FileFacts.{read_of, body_within, end_of}
use Rattle.link_values.proofs.LocatedLaws.{one_located, located-more, following-append, items-more, made-more, state-more, state-there}

-- ---- one record more

module _ (list : List Member) (reported : List EquateAnswer) (front : List Member) (m : Member) where
  place : ℕ
  place = length front + 1

  -- before the first record the member has no cells
  pub puts_none : (back : List Member) (member_place : MemberPlace) (s : Segment) (targets : List Target) (before : List Cell) (content : Holding) → Begins list reported front m back member_place s targets before content → Puts list reported front m [] targets before content
  unfolding place
  puts_none back member_place s targets before content b =
      let none : cells_there (state_of list reported front) (length front + 1) ≡ [] = none_before list reported front m (one_located (0, End) 0) in
      record {
        made' = tt;
        targets' = b.targets';
        size = ap length none;
        holds = subst (λ (l : List Cell). HoldsCells (before ++ l) content) (sym none) (subst (λ (l : List Cell). HoldsCells l content) (sym (append-nil before)) b.holds);
      }

  -- a record that gave its cells
  pub puts_more : (done : List (ℕ × Record)) (found : ℕ × Record) (old new : List Target) (before : List Cell) (content after : Holding) → Puts list reported front m done old before content
      → PutsMade (made list reported (state_after_records list reported front m done) (item (length front + 1) m (one_located found (place_after 0 done)))) (before ++ cells_there (state_after_records list reported front m done) (length front + 1)) new after
      → Puts list reported front m (done ++ found ∷ []) new before after
  unfolding made
  puts_more done found old new before content after p q =
      let state = state_after_records list reported front m done in
      let r = one_located found (place_after 0 done) in
      let i = item (length front + 1) m r in
      let its = map (item (length front + 1) m) (located_from 0 done) in
      let more = items-more (length front + 1) m done found in
      let state_is : state_after_records list reported front m (done ++ found ∷ []) ≡ state_after_item state i (Ok q.gives) =
      ap (state_from list reported (state_of list reported front)) more ∙ state-more list reported (state_of list reported front) its i q.gives q.is in
      let cells : cells_there (state_after_records list reported front m (done ++ found ∷ [])) (length front + 1) ≡ cells_there state (length front + 1) ++ q.gives.0 =
      ap (λ (s : LinkState). cells_there s (length front + 1)) (state_is ∙ ap (state_after_item state i) (sym q.is)) ∙ made_more list reported state (length front + 1) m r r q.gives q.is in
      record {
        made' = subst (AreMade list reported (state_of list reported front)) (sym more) (made-more list reported (state_of list reported front) its i q.gives p.made' q.is);
        targets' = q.targets' ∙ ap (λ (s : LinkState). s.targets) (sym state_is);
        size = omega (arith, ap length cells, length-append (cells_there state (length front + 1)) q.gives.0, p.size, length-made list reported state i found.1 q.gives q.is, following-append 0 done (found ∷ []));
        holds = subst (λ (l : List Cell). HoldsCells l after) (append_assoc before (cells_there state (length front + 1)) q.gives.0 ∙ ap (λ (l : List Cell). before ++ l) (sym cells)) q.holds;
      }

  -- a record that gave none
  pub unmade : (s : Segment) (done back : List (ℕ × Record)) (found : ℕ × Record) (targets : List Target) (before : List Cell) (content : Holding) (cause : LinkCause) → m.segment ≡ s → s.records ≡ done ++ found ∷ back
      → Puts list reported front m done targets before content
      → made list reported (state_after_records list reported front m done) (item (length front + 1) m (one_located found (place_after 0 done))) ≡ Err cause → Unmade list reported front m cause found.0
  unfolding records_with_offsets
  unmade s done back found targets before content cause same parts p is =
      let its = map (item (length front + 1) m) (located_from 0 done) in
      let i = item (length front + 1) m (one_located found (place_after 0 done)) in
      let rest = located_from (place_after 0 done + size_at (place_after 0 done) found.1) back in
      record {
        before = its;
        item' = i;
        after = map (item (length front + 1) m) rest;
        parts = ap (λ (t : Segment). map (item (length front + 1) m) (located_from 0 t.records)) same
            ∙ ap (λ (l : List (ℕ × Record)). map (item (length front + 1) m) (located_from 0 l)) parts
            ∙ ap (map (item (length front + 1) m)) (located-more 0 done (found ∷ back))
            ∙ map-append (item (length front + 1) m) (located_from 0 done) (one_located found (place_after 0 done) ∷ rest);
        made' = p.made';
        fails = is;
        at' = refl;
        member' = refl;
      }

  -- where a record is
  pub stands_at : (back : List Member) (member_place : MemberPlace) (s : Segment) (first targets : List Target) (before : List Cell) (begin content : Holding) (done : List (ℕ × Record)) (found : ℕ × Record) (context : LinkContext) (location : ℕ)
      → list ≡ context.program.now → Begins list reported front m back member_place s first before begin → Puts list reported front m done targets before content → context.loads.now ≡ map to_load_limits (load_headers list)
      → context.table ≡ table_number list → location ≡ place_after 0 done
      → StandsAt list reported (state_after_records list reported front m done) (item (length front + 1) m (one_located found (place_after 0 done))) context (record { member = member_place; location = location }) targets before content
  stands_at back member_place s first targets before begin content done found context location same b p loads table here = record {
    setting' = ap setting_in same;
    loads' = loads;
    table' = table;
    member' = b.is;
    place' = b.place;
    location' = sym here;
    targets' = sym p.targets';
    front' = b.size;
    holds = p.holds;
  }

-- ---- sizes

pub holds_size : (cells : List Cell) (content : Holding) → HoldsCells cells content → length content.bytes ≡ length cells
holds_size cells content holds = ap length holds.bytes' ∙ length-map cells byte_under

-- a record ends within its load segment
pub within_load : (list : List Member) → IsOfFiles list → (reported : List EquateAnswer) (front : List Member) (m : Member) (back : List Member) (member_place : MemberPlace) (s : Segment) (first : List Target) (before : List Cell) (begin : Holding) (done rest : List (ℕ × Record)) (found : ℕ × Record)
    → Begins list reported front m back member_place s first before begin → s.records ≡ done ++ found ∷ rest → member_place.offset + (place_after 0 done + size_at (place_after 0 done) found.1) ≤ 0xFFFFFF
unfolding body_size
within_load list of reported front m back member_place s first before begin done rest found b parts =
    let end = end_of list of front m back b.parts in
    let body = body_within list of m (in_parts list front m back b.parts) in
    let size : place_after 0 m.segment.records ≡ place_after (place_after 0 done + size_at (place_after 0 done) found.1) rest =
    ap (λ (t : Segment). place_after 0 t.records) b.segment ∙ ap (place_after 0) parts ∙ following-append 0 done (found ∷ rest) in
    let offset : member_place.offset ≡ offset_of list (length front + 1) m = b.is.offset' ∙ ap (λ (n : ℕ). offset_of list n m) b.place in
    omega (arith, end, body, size, following-le (place_after 0 done + size_at (place_after 0 done) found.1) rest, offset)

-- ---- one member

module _ (list : List Member) (of : IsOfFiles list) (reported : List EquateAnswer) (front : List Member) (m : Member) (back : List Member) (member_place : MemberPlace) (s : Segment) (targets : List Target) (cells : List Cell) (content : Holding)
    (stands : StandsAfter list reported front m back member_place s targets cells content) where
  -- zeros up to the member's offset
  pub begins_there : (after : Holding) → HoldsCells (cells ++ zeros (member_place.offset - length cells)) after → Begins list reported front m back member_place s targets (cells ++ zeros (member_place.offset - length cells)) after
  begins_there after holds = record {
    parts = stands.parts;
    place = stands.place;
    is = stands.is;
    segment = stands.segment;
    targets' = stands.targets';
    size = omega (arith, length-append cells (zeros (member_place.offset - length cells)), length-zeros (member_place.offset - length cells), stands.size);
    holds = holds;
  }

  -- and RESSPC zeros after its records
  pub puts_member : (new : List Target) (mid after : Holding) → Puts list reported front m s.records new (cells ++ zeros (member_place.offset - length cells)) mid
      → ((l : List Cell) → HoldsCells l mid → HoldsCells (l ++ zeros s.fields.res_spc) after) → PutsMember list reported front m new cells after
  unfolding records_with_offsets body_size
  puts_member new mid after p put =
      let same : m.segment.records ≡ s.records = ap (λ (t : Segment). t.records) stands.segment in
      let own : own_items (length front + 1) m ≡ map (item (length front + 1) m) (located_from 0 s.records) = ap (λ (l : List (ℕ × Record)). map (item (length front + 1) m) (located_from 0 l)) same in
      let state = state_after_records list reported front m s.records in
      let state_is : state_from list reported (state_of list reported front) (own_items (length front + 1) m) ≡ state = ap (state_from list reported (state_of list reported front)) own in
      let some = read_some m.segment (read_of list of m (in_parts list front m back stands.parts)) in
      let first : s.records ≡ some.0 ∷ some.1 = sym same ∙ some.2 in
      let there : state.place ≡ length front + 1 = state-there list reported (state_of list reported front) (length front + 1) m (located_from 0 s.records) p.made'
      (inr (one_located some.0 0, located_from (0 + size_at 0 some.0.1) some.1, ap (located_from 0) first)) in
      let full : cells_there state (length front + 1) ≡ state.cells = ap (λ (b : Bool). cond b state.cells []) (eq-eqb state.place (length front + 1) there) in
      let gap = zeros (member_place.offset - length cells) in
      let offset : member_place.offset ≡ offset_of list (length front + 1) m = stands.is.offset' ∙ ap (λ (n : ℕ). offset_of list n m) stands.place in
      let spaces : zeros s.fields.res_spc ≡ zeros m.segment.fields.res_spc = ap (λ (t : Segment). zeros t.fields.res_spc) (sym stands.segment) in
      let whole : cells_there state (length front + 1) ++ zeros s.fields.res_spc ≡ member_cells list reported (length front + 1) m =
      ap (λ (l : List Cell). l ++ zeros s.fields.res_spc) full ∙ ap (λ (l : List Cell). state.cells ++ l) spaces ∙ ap (λ (t : LinkState). t.cells ++ zeros m.segment.fields.res_spc) (sym state_is)
      ∙ sym (cells_of_member list reported front m back stands.parts) in
      let all : ((cells ++ gap) ++ cells_there state (length front + 1)) ++ zeros s.fields.res_spc ≡ (cells ++ zeros (offset_of list (length front + 1) m - length cells)) ++ member_cells list reported (length front + 1) m =
      append_assoc (cells ++ gap) (cells_there state (length front + 1)) (zeros s.fields.res_spc)
      ∙ ap (λ (l : List Cell). (cells ++ gap) ++ l) whole
      ∙ ap (λ (n : ℕ). (cells ++ zeros (n - length cells)) ++ member_cells list reported (length front + 1) m) offset in
      record {
        made' = subst (AreMade list reported (state_of list reported front)) (sym own) p.made';
        targets' = p.targets' ∙ ap (λ (t : LinkState). t.targets) (sym state_is) ∙ ap (λ (t : LinkState). t.targets) (sym (member_state list reported front m));
        holds = subst (λ (l : List Cell). HoldsCells l after) all (put ((cells ++ gap) ++ cells_there state (length front + 1)) p.holds);
        size = omega (arith, ap length (sym whole), length-append (cells_there state (length front + 1)) (zeros s.fields.res_spc), p.size, length-zeros s.fields.res_spc, body, read_size m.segment (read_of list of m (in_parts list front m back stands.parts)), spc);
      }
    where
      spc : s.fields.res_spc ≡ m.segment.fields.res_spc
      spc = ap (λ (t : Segment). t.fields.res_spc) (sym stands.segment)

      body : place_after 0 s.records ≡ body_size m.segment
      body = ap (λ (t : Segment). place_after 0 t.records) (sym stands.segment)

-- RESSPC zeros fit after its records
pub room_after : (list : List Member) → IsOfFiles list → (reported : List EquateAnswer) (front : List Member) (m : Member) (back : List Member) (member_place : MemberPlace) (s : Segment) (first new : List Target) (before : List Cell) (begin mid : Holding)
    → Begins list reported front m back member_place s first before begin → Puts list reported front m s.records new before mid → length mid.bytes + s.fields.res_spc ≤ 0xFFFFFF
unfolding body_size
room_after list of reported front m back member_place s first new before begin mid b p =
    let end = end_of list of front m back b.parts in
    let size = read_size m.segment (read_of list of m (in_parts list front m back b.parts)) in
    let offset : member_place.offset ≡ offset_of list (length front + 1) m = b.is.offset' ∙ ap (λ (n : ℕ). offset_of list n m) b.place in
    let cells = cells_there (state_after_records list reported front m s.records) (length front + 1) in
    omega (arith, end, size, offset, holds_size (before ++ cells) mid p.holds, length-append before cells, b.size, p.size, ap (λ (t : Segment). place_after 0 t.records) b.segment, ap (λ (t : Segment). t.fields.res_spc) b.segment)
