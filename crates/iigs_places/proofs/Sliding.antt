-- One block after the other is slid down.
use Rattle.std.proofs.Common.{◌≡◌, ◌≢◌, inl, inr, ℕ, zero, suc, Bool, true, false, cond, ◌==◌, nat_lt, ◌+◌, ◌-◌, ◌<◌, ◌≤◌, ◌^◌, max, List, [], ◌∷◌, All, Contains, length, get_or, count_by, Option, Some, None, IsSome, arith, refl, sym, ap, subst, ◌∙◌}
use Rattle.std.specs.Prelude.{slice_set}
use Rattle.std.specs.Option.{option_map, option_map_or, option_and_then}
use Rattle.std.proofs.lemmas.Option.{same_Some}
use Rattle.std.proofs.lemmas.Bool.{cases_lt, cases_eq, eqb-true}
use Rattle.std.proofs.lemmas.Bool.Decides.{nat_tests}
use Rattle.std.proofs.lemmas.List.{get_or-set_same, get_or-set_other}
use Rattle.std.proofs.lemmas.List.Elements.{Contains-get_or, All-contains}
use Rattle.std.proofs.lemmas.List.Sums.{count_by-le-length}
use Rattle.iigs_meaning.specs.declared.handles.Handle.{Handle}
use Rattle.iigs_meaning.specs.declared.slots.Slot.{Slot}
use Rattle.iigs_meaning.specs.declared.slots.SlotContent.{SlotContent}
use Rattle.iigs_meaning.specs.declared.slots.SlotContent.TheVariants.{Free, Used, Retired}
use Rattle.iigs_meaning.specs.declared.wants.Block.{Block}
use Rattle.iigs_meaning.specs.Slots.{slot_at, new_slot, used_value, get, with_value}
use Rattle.iigs_meaning.specs.Fits.{Slots, IsWant, Fits, IsApart, HoldsByte, block_in}
use Rattle.iigs_meaning.specs.Blocks.{AreApart, address_in}
use Rattle.iigs_meaning.specs.Moves.{lies_below}
use Rattle.iigs_meaning.specs.Slide.{can_move, movable_block, place_of, holding, moved_to, Slides, AreSettled}
use Rattle.iigs_meaning.specs.laws.PurgeLaws.{count_more}
use Rattle.iigs_meaning.specs.laws.SlideLaws.{mover_in, lies, are_low, without, with_moved, AreSlidTo, SinksTo, IsNext, slid_next, slid_all, all_at}
use Rattle.iigs_places.specs.declared.marks.BlockMark.{BlockMark}
use Rattle.iigs_places.specs.declared.spots.BlockSpot.{BlockSpot}
use Rattle.iigs_places.specs.Extent.{extent, extent_of}
use Rattle.iigs_places.specs.Spots.{IsBoundedSlot, FitsAmong, IsLeastAmong, IsBeside}
use Rattle.iigs_places.specs.Arranged.{IsArranged}
use Rattle.iigs_places.specs.Open.{IsOpen}
use Rattle.iigs_places.specs.Marks.{mark, HaveMarks, IsSized, IsFirstFrom}
use Rattle.iigs_places.specs.Runs.{AreRuns, InRuns, RunsAdd}
use Rattle.iigs_places.specs.Sliding.{ArePassed, Sinks}
use Rattle.iigs_places.proofs.Extents.{each_slot, bounded_extent, holds_to, holds_from}
use Rattle.iigs_places.proofs.Marked.{extent_in, past_none, marks_sized}
use Rattle.iigs_places.proofs.Placed.{fits_open, open_fits}
use Rattle.iigs_places.proofs.Counting.{address_extent}
use Rattle.iigs_places.proofs.Changed.{live_block}
use Rattle.iigs_places.proofs.Puts.{free_limit}
use Rattle.iigs_places.proofs.Moved.{arranged_moved}

-- ---- blocks and extents

there_extent : (block : Block) (at : ℕ) → block.at ≡ Some at → extent_of block ≡ Some (at, block.want.size)
there_extent block at is = rw is refl

pub block_extent : (slot : Slot Block) (block : Block) (at : ℕ) → block_in slot ≡ Some block → block.at ≡ Some at → extent slot ≡ Some (at, block.want.size)
block_extent slot block at is lies' = ap (option_and_then extent_of) is ∙ there_extent block at lies'

pub mover_extent : (slot : Slot Block) (block : Block) → movable_block slot ≡ Some block → extent slot ≡ Some (place_of block, block.want.size)
mover_extent slot block m = block_extent slot block (place_of block) (mover_in slot block m).0 (lies slot block m)

pub same_extent : (e f : ℕ × ℕ) → Some e ≡ Some f → e ≡ f
same_extent e f is = cc

-- the slot's block is as its extent says
pub extent_block : (slot : Slot Block) (block : Block) (e : ℕ × ℕ) → block_in slot ≡ Some block → extent slot ≡ Some e → (block.at ≡ Some e.0) × (block.want.size ≡ e.1)
extent_block slot block e is there = go block.at refl (sym (ap (option_and_then extent_of) is) ∙ there)
  where
    go : (o : Option ℕ) → block.at ≡ o → extent_of block ≡ Some e → (o ≡ Some e.0) × (block.want.size ≡ e.1)
    go None at is' = let no : None ≡ Some e = rw at at is' in absurd cc
    go (Some at) lies' is' =
        let both : (at, block.want.size) ≡ e = same_extent (at, block.want.size) e (rw lies' at is') in
        (ap (λ (x : ℕ × ℕ). Some x.0) both, ap (λ (x : ℕ × ℕ). x.1) both)

pub is_mover : (slot : Slot Block) (block : Block) → block_in slot ≡ Some block → can_move block ≡ true → movable_block slot ≡ Some block
is_mover slot block is can = rw (is, can) refl

pub no_mover : (slot : Slot Block) (block : Block) → block_in slot ≡ Some block → can_move block ≡ false → movable_block slot ≡ None
no_mover slot block is cannot = rw (is, cannot) refl

-- two blocks that begin at one address are one
pub one_start : (banks : List ℕ) (slots : Slots) → IsArranged banks slots → (place other : ℕ) (e f : ℕ × ℕ) → extent (slot_at slots place) ≡ Some e → extent (slot_at slots other) ≡ Some f → e.0 ≡ f.0 → place ≡ other
one_start banks slots arranged place other e f is is' same =
    let size : (0 < e.1) × (e.0 + e.1 ≤ 2 ^ 24) = rw is at (bounded_extent (slot_at slots place) (each_slot IsBoundedSlot slots tt arranged.bounded place)) in
    let size' : (0 < f.1) × (f.0 + f.1 ≤ 2 ^ 24) = rw is' at (bounded_extent (slot_at slots other) (each_slot IsBoundedSlot slots tt arranged.bounded other)) in
    arranged.sound.apart place other e.0 (holds_from e.0 (slot_at slots place) (rw is (omega arith, omega (arith, size.0)))) (holds_from e.0 (slot_at slots other) (rw is' (omega (arith, same), omega (arith, same, size'.0))))

-- and of two others the upper one begins after the lower one
pub starts_after : (banks : List ℕ) (slots : Slots) → IsArranged banks slots → (place other : ℕ) (e f : ℕ × ℕ) → extent (slot_at slots place) ≡ Some e → extent (slot_at slots other) ≡ Some f → place ≢ other → e.0 ≤ f.0 → e.0 + e.1 ≤ f.0
starts_after banks slots arranged place other e f is is' ne le = elim (cases_lt f.0 (e.0 + e.1)) [
  | inr following ↦ following
  | inl within ↦
      let size' : (0 < f.1) × (f.0 + f.1 ≤ 2 ^ 24) = rw is' at (bounded_extent (slot_at slots other) (each_slot IsBoundedSlot slots tt arranged.bounded other)) in
      absurd (ne (arranged.sound.apart place other f.0 (holds_from f.0 (slot_at slots place) (rw is (le, within))) (holds_from f.0 (slot_at slots other) (rw is' (omega arith, omega (arith, size'.0))))))
]

-- ---- a live handle's slot is set

module _ (slots : Slots) (h : Handle) (block : Block) (was : get slots h ≡ Some block) where
  both : ((slot_at slots h.slot).generation ≡ h.generation) × (block_in (slot_at slots h.slot) ≡ Some block)
  both = go ((slot_at slots h.slot).generation == h.generation) (block_in (slot_at slots h.slot)) refl was
    where
      go : (b : Bool) (o : Option Block) → ((slot_at slots h.slot).generation == h.generation) ≡ b → cond b o None ≡ Some block → ((slot_at slots h.slot).generation ≡ h.generation) × (o ≡ Some block)
      go true o e is = (eqb-true (slot_at slots h.slot).generation h.generation e, is)
      go false o e is = absurd cc

  pub set_is : (value : Block) → with_value slots h value ≡ slice_set slots h.slot (holding (slot_at slots h.slot) value)
  set_is value = rw (was, both.0) refl

-- ---- the blocks that didn't move yet

module _ (banks : List ℕ) (old now : Slots) (apart : AreApart banks old) (settled : AreSettled banks old) (limit : ℕ) (slid : AreSlidTo banks old now limit) where
  pub unmoved : (place : ℕ) (e : ℕ × ℕ) → extent (slot_at now place) ≡ Some e → limit ≤ e.0 → slot_at now place ≡ slot_at old place
  unmoved place e is late = go (movable_block (slot_at old place)) refl
    where
      go : (o : Option Block) → movable_block (slot_at old place) ≡ o → slot_at now place ≡ slot_at old place
      go None m = slid.stay place m
      go (Some was) m = elim (cases_lt (place_of was) limit) [
        | inr waits ↦ slid.wait place was m waits
        | inl early ↦
            let it = are_low banks old now apart settled limit slid.moved limit (omega arith) place was m early in
            let one : e ≡ (it.0, was.want.size) = same_extent e (it.0, was.want.size) (sym is ∙ ap extent it.2) in
            absurd (omega (arith, ap (λ (x : ℕ × ℕ). x.0) one, it.1, early, late))
      ]

  -- the want of each block that is there fits where it lies but for others
  now_settled : (place : ℕ) (o : Option Block) → movable_block (slot_at old place) ≡ o → (block : Block) → block_in (slot_at now place) ≡ Some block
      → IsWant block.want × ((at : ℕ) → block.at ≡ Some at → Fits banks [] block.want at)
  now_settled place None m block is =
      let was : block_in (slot_at old place) ≡ Some block = sym (ap block_in (slid.stay place m)) ∙ is in
      (settled.wants place block was, λ at lies'. settled.fits place block at was lies')
  now_settled place (Some was) m block is = elim (cases_lt (place_of was) limit) [
    | inr waits ↦
        let here : block_in (slot_at old place) ≡ Some block = sym (ap block_in (slid.wait place was m waits)) ∙ is in
        (settled.wants place block here, λ at lies'. settled.fits place block at here lies')
    | inl early ↦
        let goes = slid.moved.goes place was m early in
        let one : moved_to goes.0 was ≡ block = same_Some (moved_to goes.0 was) block (sym (ap block_in goes.2) ∙ is) in (
          subst (λ (b : Block). IsWant b.want) one (settled.wants place was (mover_in (slot_at old place) was m).0),
          λ at lies'.
              let there : goes.0 ≡ at = same_Some goes.0 at (ap (λ (b : Block). b.at) one ∙ lies') in
              subst (λ (b : Block). Fits banks [] b.want at) one (subst (λ (n : ℕ). Fits banks [] was.want n) there goes.1.fits.open_),
        )
  ]

  pub slid_settled : AreSettled banks now
  slid_settled = record {
    wants = λ place block is. (now_settled place (movable_block (slot_at old place)) refl block is).0;
    fits = λ place block at is lies'. (now_settled place (movable_block (slot_at old place)) refl block is).1 at lies';
  }

  module _ (marks : List BlockMark) (have : HaveMarks now marks) where
    waits_marked : (place : ℕ) (block : Block) → movable_block (slot_at old place) ≡ Some block → limit ≤ place_of block → Contains marks (mark place (place_of block, block.want.size))
    waits_marked place block m late = have.each place (place_of block, block.want.size) (ap extent (slid.wait place block m late) ∙ mover_extent (slot_at old place) block m)

    -- where no mark is left, all are slid down
    pub slid_whole : ((m : BlockMark) → Contains marks m → m.at < limit) → Slides banks old now
    slid_whole none = slid_all banks old now limit slid (λ place block m. elim (cases_lt (place_of block) limit) [
      | inl below ↦ below
      | inr late ↦ none (mark place (place_of block, block.want.size)) (waits_marked place block m late)
    ])

    module _ (arranged : IsArranged banks now) (first : BlockMark) (is : IsFirstFrom marks limit first) (to : ℕ) (next : Slots) (s : Sinks banks now first.slot first.at to next) where
      its : (e : ℕ × ℕ) × (extent (slot_at now first.slot) ≡ Some e) × (first ≡ mark first.slot e)
      its = have.are first is.is

      starts : first.at ≡ its.0.0
      starts = ap (λ (x : BlockMark). x.at) its.2

      still : slot_at now first.slot ≡ slot_at old first.slot
      still = unmoved first.slot its.0 its.1 (omega (arith, starts, is.from))

      block_there : block_in (slot_at old first.slot) ≡ Some s.block
      block_there = ap block_in (sym still) ∙ s.is

      lies_first : s.block.at ≡ Some first.at
      lies_first = (extent_block (slot_at now first.slot) s.block its.0 s.is its.1).0 ∙ ap (λ (n : ℕ). Some n) (sym starts)

      place_first : place_of s.block ≡ first.at
      place_first = rw lies_first refl

      late_others : (place : ℕ) (other : Block) → movable_block (slot_at old place) ≡ Some other → limit ≤ place_of other → first.at ≤ place_of other
      late_others place other m late = is.least (mark place (place_of other, other.want.size)) (waits_marked place other m late) late

      is_next : IsNext old limit s.block
      is_next = (omega (arith, place_first, is.from), λ place other m late. omega (arith, place_first, late_others place other m late))

      -- a block that stays is passed
      passes : can_move s.block ≡ false → AreSlidTo banks old now (suc first.at)
      passes cannot = record {
        len = slid.len;
        stay = slid.stay;
        wait = λ place block m late. slid.wait place block m (omega (arith, late, is.from));
        moved = record {
          goes = λ place block m below. elim (cases_lt (place_of block) limit) [
            | inl early ↦ slid.moved.goes place block m early
            | inr late ↦
                let at : place_of block ≡ first.at = omega (arith, late_others place block m late, below) in
                let there : extent (slot_at now place) ≡ Some (place_of block, block.want.size) = ap extent (slid.wait place block m late) ∙ mover_extent (slot_at old place) block m in
                let same : place ≡ first.slot = one_start banks now arranged place first.slot (place_of block, block.want.size) its.0 there its.1 (omega (arith, at, starts)) in
                let none : movable_block (slot_at old first.slot) ≡ None = no_mover (slot_at old first.slot) s.block block_there cannot in
                let no : Some block ≡ None = sym m ∙ ap (λ (n : ℕ). movable_block (slot_at old n)) same ∙ none in
                absurd cc
          ];
        };
      }

      pub slid_step : AreSlidTo banks old next (suc first.at)
      slid_step = go (can_move s.block) refl
        where
          go : (b : Bool) → can_move s.block ≡ b → AreSlidTo banks old next (suc first.at)
          go false cannot = subst (λ (n : Slots). AreSlidTo banks old n (suc first.at)) (sym (s.stays cannot).1) (passes cannot)
          go true can =
              let m = is_mover (slot_at old first.slot) s.block block_there can in
              let sinks = s.sinks can in
              subst (λ (n : ℕ). AreSlidTo banks old next (suc n)) place_first
              (subst (λ (n : Slots). AreSlidTo banks old n (suc (place_of s.block))) (sym sinks.1)
              (slid_next banks old now apart settled limit slid first.slot s.block m is_next to sinks.0))

-- ---- what was passed

pub passed_none : (slots : Slots) → ArePassed slots 0 []
passed_none slots = record {
  are = record {
    order = λ i j d le lt. absurd (omega (arith, lt));
    some = λ k d lt. absurd (omega (arith, lt));
    ends = λ k d lt. absurd (omega (arith, lt));
  };
  to = λ i has. absurd (omega (arith, has.before));
  from = λ i r. absurd (omega (arith, r.1.1));
}

-- up to the first mark nothing more is
pub passed_to : (slots : Slots) (marks : List BlockMark) → HaveMarks slots marks → (limit : ℕ) (first : BlockMark) → IsFirstFrom marks limit first → (runs : List BlockSpot) → ArePassed slots limit runs → ArePassed slots first.at runs
passed_to slots marks have limit first is runs passed = record {
  are = passed.are;
  to = λ i has. elim (cases_lt has.at.0 limit) [
    | inl early ↦ passed.to i (record { place = has.place; at = has.at; is = has.is; before = early; spans = has.spans })
    | inr late ↦ absurd (omega (arith, is.least (mark has.place has.at) (have.each has.place has.at has.is) late, has.before))
  ];
  from = λ i r. let has = passed.from i r in record { place = has.place; at = has.at; is = has.is; before = omega (arith, has.before, is.from); spans = has.spans };
}

module _ (banks : List ℕ) (slots : Slots) (arranged : IsArranged banks slots) (place address size to : ℕ) (there : extent (slot_at slots place) ≡ Some (address, size))
    (next : Slots) (s : Sinks banks slots place address to next) where
  size_is : s.block.want.size ≡ size
  size_is = (extent_block (slot_at slots place) s.block (address, size) s.is there).1

  within : place < length slots
  within = past_none slots place (address, size) there

  pub next_other : (other : ℕ) → other ≢ place → slot_at next other ≡ slot_at slots other
  next_other other ne = go (can_move s.block) refl
    where
      go : (b : Bool) → can_move s.block ≡ b → slot_at next other ≡ slot_at slots other
      go false cannot = ap (λ (n : Slots). slot_at n other) (s.stays cannot).1
      go true can = ap (λ (n : Slots). slot_at n other) (s.sinks can).1 ∙ get_or-set_other slots place other (holding (slot_at slots place) (moved_to to s.block)) new_slot ne

  pub next_extent : extent (slot_at next place) ≡ Some (to, size)
  next_extent = go (can_move s.block) refl
    where
      go : (b : Bool) → can_move s.block ≡ b → extent (slot_at next place) ≡ Some (to, size)
      go false cannot = ap (λ (n : Slots). extent (slot_at n place)) (s.stays cannot).1 ∙ there ∙ ap (λ (n : ℕ). Some (n, size)) (sym (s.stays cannot).0)
      go true can = ap (λ (n : Slots). extent (slot_at n place)) (s.sinks can).1
          ∙ ap extent (get_or-set_same slots place (holding (slot_at slots place) (moved_to to s.block)) new_slot within)
          ∙ ap (λ (n : ℕ). Some (to, n)) size_is

  module _ (low : to ≤ address) (runs added : List BlockSpot) (passed : ArePassed slots address runs) (are : AreRuns added) (adds : RunsAdd runs to (to + size) added) where
    pub passed_next : ArePassed next (suc address) added
    passed_next = record {
      are = are;
      to = λ i has. elim (cases_eq has.place place) [
        | inl same ↦
            let one : has.at ≡ (to, size) = same_extent has.at (to, size) (sym has.is ∙ ap (λ (n : ℕ). extent (slot_at next n)) same ∙ next_extent) in
            adds.added i (omega (arith, ap (λ (x : ℕ × ℕ). x.0) one, has.spans.0)) (omega (arith, ap (λ (x : ℕ × ℕ). x.0) one, ap (λ (x : ℕ × ℕ). x.1) one, has.spans.1))
        | inr ne ↦
            let was : extent (slot_at slots has.place) ≡ Some has.at = ap extent (sym (next_other has.place ne)) ∙ has.is in
            elim (cases_lt has.at.0 address) [
              | inl before ↦ adds.kept i (passed.to i (record { place = has.place; at = has.at; is = was; before = before; spans = has.spans }))
              | inr ge ↦ absurd (ne (one_start banks slots arranged has.place place has.at (address, size) was there (omega (arith, ge, has.before))))
            ]
      ];
      from = λ i r. elim (adds.only i r) [
        | inl old ↦
            let has = passed.from i old in
            let ne : has.place ≢ place = λ same.
            let one : has.at ≡ (address, size) = same_extent has.at (address, size) (sym has.is ∙ ap (λ (n : ℕ). extent (slot_at slots n)) same ∙ there) in
            absurd (omega (arith, ap (λ (x : ℕ × ℕ). x.0) one, has.before)) in
            record { place = has.place; at = has.at; is = ap extent (next_other has.place ne) ∙ has.is; before = omega (arith, has.before); spans = has.spans }
        | inr new ↦ record { place = place; at = (to, size); is = next_extent; before = omega (arith, low); spans = new }
      ];
    }

-- ---- how many were passed

pub below_more : (limit more : ℕ) (o : Option ℕ) → limit ≤ more → option_map_or (λ at. nat_lt at limit) o false ≡ true → option_map_or (λ at. nat_lt at more) o false ≡ true
below_more limit more None le is = is
below_more limit more (Some at) le is = grind (arith, nat_tests)

pub address_reported : (slot : Slot Block) (e : ℕ × ℕ) → extent slot ≡ Some e → address_in slot ≡ Some e.0
address_reported slot e is = address_extent slot ∙ ap (option_map (λ (x : ℕ × ℕ). x.0)) is

pub passed_count : (banks : List ℕ) (slots next : Slots) (place address size to limit : ℕ) (there : extent (slot_at slots place) ≡ Some (address, size)) (arranged : IsArranged banks slots)
    → (s : Sinks banks slots place address to next) → length next ≡ length slots → limit ≤ address → to ≤ address
    → count_by (lies_below limit) slots + 1 ≤ count_by (lies_below (suc address)) next
passed_count banks slots next place address size to limit there arranged s len late low = count_more (lies_below limit) (lies_below (suc address)) new_slot new_slot slots next place (sym len)
    (past_none slots place (address, size) there) each not_below now_below
  where
    not_below : lies_below limit (slot_at slots place) ≡ false
    not_below = rw (address_reported (slot_at slots place) (address, size) there) (grind (arith, nat_tests))

    now_below : lies_below (suc address) (slot_at next place) ≡ true
    now_below = rw (address_reported (slot_at next place) (to, size) (next_extent banks slots arranged place address size to there next s)) (grind (arith, nat_tests))

    each : (k : ℕ) → lies_below limit (slot_at slots k) ≡ true → lies_below (suc address) (slot_at next k) ≡ true
    each k is = elim (cases_eq k place) [
      | inl same ↦ ap (λ (n : ℕ). lies_below (suc address) (slot_at next n)) same ∙ now_below
      | inr ne ↦ ap (lies_below (suc address)) (next_other banks slots arranged place address size to there next s k ne) ∙ below_more limit (suc address) (address_in (slot_at slots k)) (omega (arith, late)) is
    ]

-- ---- where a block goes

module _ (banks : List ℕ) (slots : Slots) (arranged : IsArranged banks slots) (settled : AreSettled banks slots) (place address size : ℕ) (there : extent (slot_at slots place) ≡ Some (address, size))
    (block : Block) (is : block_in (slot_at slots place) ≡ Some block) (runs : List BlockSpot) (passed : ArePassed slots address runs) where
  its_size : block.want.size ≡ size
  its_size = (extent_block (slot_at slots place) block (address, size) is there).1

  its_address : block.at ≡ Some address
  its_address = (extent_block (slot_at slots place) block (address, size) is there).0

  its_want : IsWant block.want
  its_want = settled.wants place block is

  own : (i : ℕ) → address ≤ i → i < address + size → HoldsByte i (slot_at slots place)
  own i from to = holds_from i (slot_at slots place) (rw there (from, to))

  -- a byte of a run is that of another block, which begins before this one
  other_has : (i : ℕ) → InRuns runs i → (other : ℕ) × (other ≢ place) × HoldsByte i (slot_at slots other)
  other_has i r =
      let has = passed.from i r in
      let ne : has.place ≢ place = λ same.
      let one : has.at ≡ (address, size) = same_extent has.at (address, size) (sym has.is ∙ ap (λ (n : ℕ). extent (slot_at slots n)) same ∙ there) in
      absurd (omega (arith, ap (λ (x : ℕ × ℕ). x.0) one, has.before)) in
      (has.place, ne, holds_from i (slot_at slots has.place) (rw has.is has.spans))

  -- where the want is open and its bytes are no other block's, it fits among the runs
  among : (at : ℕ) → IsOpen banks block.want at → ((i other : ℕ) → at ≤ i → i < at + block.want.size → other ≢ place → ¬ HoldsByte i (slot_at slots other)) → FitsAmong banks block.want runs 0 at
  among at open_ apart = record {
    open_ = open_;
    beside = λ k d inside' kept.
        let run : BlockSpot = get_or runs k d in
        let some : run.at < run.end = passed.are.some k d inside' in
        elim (cases_lt run.at (at + block.want.size)) [
          | inr ge ↦ inl ge
          | inl lt ↦ elim (cases_lt at run.end) [
            | inr ge ↦ inr ge
            | inl lt' ↦ (
                let size' : 0 < block.want.size = its_want.some in
                let o = other_has (max at run.at) (run, Contains-get_or runs k d inside', omega arith, omega arith) in
                absurd (apart (max at run.at) o.0 (omega arith) (omega arith) o.1 o.2))
          ]
        ];
  }

  pub present_among : FitsAmong banks block.want runs 0 address
  present_among = among address (fits_open banks [] block.want address its_want.some (settled.fits place block address is its_address))
      (λ i other from to ne holds. ne (sym (arranged.sound.apart place other i (own i from (omega (arith, to, its_size))) holds)))

  empty : Slot Block
  empty = holding (slot_at slots place) (record block { at = None })

  inside_slots : place < length slots
  inside_slots = past_none slots place (address, size) there

  module _ (to : ℕ) (least : IsLeastAmong banks block.want runs 0 to) where
    pub goes_low : to ≤ address
    goes_low = least.least address present_among

    others : (p : ℕ) → p ≢ place → IsApart to block.want.size (slot_at slots p)
    others p ne i from before holds =
        let e = extent_in i (slot_at slots p) (holds_to i (slot_at slots p) holds) in
        elim (cases_lt e.0.0 address) [
          | inl lower ↦
              let r = passed.to i (record { place = p; at = e.0; is = e.1; before = lower; spans = e.2 }) in
              elim (All-contains (λ (run : BlockSpot). 0 ≤ run.turn → IsBeside to block.want.size run) runs r.0 least.fits.beside r.1 (omega arith)) [
                | inl ends ↦ absurd (omega (arith, ends, r.2, before))
                | inr following ↦ absurd (omega (arith, following, r.3, from))
              ]
          | inr upper ↦
              let following = starts_after banks slots arranged place p (address, size) e.0 there e.1 (λ same. ne (sym same)) upper in
              absurd (omega (arith, following, e.2.0, before, its_size, goes_low))
        ]

    each : (p : ℕ) → IsApart to block.want.size (slot_at (without slots place block) p)
    unfolding empty
    each p = elim (cases_eq p place) [
      | inl same ↦ λ i from before held.
          let here : slot_at (without slots place block) p ≡ empty = ap (λ (n : ℕ). slot_at (without slots place block) n) same ∙ get_or-set_same slots place empty new_slot inside_slots in
          let none : HoldsByte i empty = subst (HoldsByte i) here held in
          none
      | inr ne ↦ subst (IsApart to block.want.size) (sym (get_or-set_other slots place p empty new_slot ne)) (others p ne)
    ]

    each_apart : (other : ℕ) → Fits banks (without slots place block) block.want other → (p : ℕ) → p ≢ place → IsApart other block.want.size (slot_at slots p)
    unfolding empty
    each_apart other fits p ne =
        let here : IsApart other block.want.size (slot_at (without slots place block) p) = each_slot (IsApart other block.want.size) (without slots place block) (λ i from to holds. absurd holds) fits.apart p in
        subst (IsApart other block.want.size) (get_or-set_other slots place p empty new_slot ne) here

    pub sinks_to : SinksTo banks slots place block to
    sinks_to = record {
      fits = open_fits banks (without slots place block) block.want to least.fits.open_ (all_at to block.want.size (without slots place block) each);
      least = λ other fits. least.least other (among other (fits_open banks (without slots place block) block.want other its_want.some fits)
          (λ i p from before ne holds. each_apart other fits p ne i from before holds));
    }

-- ---- what is put again as it was

pub held_same : (slot : Slot Block) (block : Block) (at : ℕ) → block_in slot ≡ Some block → block.at ≡ Some at → holding slot (moved_to at block) ≡ slot
held_same slot block at is lies' = ap (holding slot) same_block ∙ holds slot.generation slot.content is
  where
    same_block : moved_to at block ≡ block
    same_block = rw (← lies') refl

    holds : (generation : ℕ) (content : SlotContent Block) → used_value content ≡ Some block
        → ◌≡◌ {A = Slot Block} (record { generation = generation; content = Used block }) (record { generation = generation; content = content })
    holds generation Free used = absurd cc
    holds generation Retired used = absurd cc
    holds generation (Used value) used = ap (λ (b : Block). record { generation = generation; content = Used b }) (sym (same_Some value block used))

pub set_same : (xs : Slots) (k : ℕ) (x : Slot Block) → k < length xs → x ≡ slot_at xs k → slice_set xs k x ≡ xs
set_same [] k x less same = absurd (omega (arith, less))
set_same (y ∷ ys) zero x less same = ap (λ (z : Slot Block). z ∷ ys) same
set_same (y ∷ ys) (suc k) x less same = ap (λ (zs : Slots). y ∷ zs) (set_same ys k x (omega (arith, less)) same)

-- moved to where it was, a block stays
pub moved_same : (slots : Slots) (place : ℕ) (block : Block) (at : ℕ) → place < length slots → block_in (slot_at slots place) ≡ Some block → block.at ≡ Some at → with_moved slots place block at ≡ slots
moved_same slots place block at inside' is lies' = set_same slots place (holding (slot_at slots place) (moved_to at block)) inside' (held_same (slot_at slots place) block at is lies')

-- ---- what became of the block at a place

pub extent_there : (slot : Slot Block) (e : ℕ × ℕ) → extent slot ≡ Some e → IsSome (block_in slot)
extent_there slot e = go (block_in slot)
  where
    go : (o : Option Block) → option_and_then extent_of o ≡ Some e → IsSome o
    go None is = absurd cc
    go (Some block) is = refl

module _ (banks : List ℕ) (slots : Slots) (arranged : IsArranged banks slots) (settled : AreSettled banks slots) (place address size : ℕ) (there : extent (slot_at slots place) ≡ Some (address, size))
    (block : Block) (is : block_in (slot_at slots place) ≡ Some block) where
  pub sinks_none : can_move block ≡ false → Sinks banks slots place address address slots
  sinks_none cannot = record {
    block = block;
    is = is;
    stays = λ e. (refl, refl);
    sinks = λ can. let clash : true ≡ false = sym can ∙ cannot in absurd cc;
  }

  module _ (runs : List BlockSpot) (passed : ArePassed slots address runs) (can : can_move block ≡ true) (to : ℕ) (least : IsLeastAmong banks block.want runs 0 to) where
    pub sinks_there : (next : Slots) → next ≡ with_moved slots place block to → Sinks banks slots place address to next
    sinks_there next moved = record {
      block = block;
      is = is;
      stays = λ cannot. let clash : true ≡ false = sym can ∙ cannot in absurd cc;
      sinks = λ e. (sinks_to banks slots arranged settled place address size there block is runs passed to least, moved);
    }

    pub sinks_here : to ≡ address → Sinks banks slots place address to slots
    sinks_here same = sinks_there slots (sym (ap (λ (n : ℕ). with_moved slots place block n) same
        ∙ moved_same slots place block address (past_none slots place (address, size) there) is (extent_block (slot_at slots place) block (address, size) is there).0))

-- ---- a mark's block

module _ (slots : Slots) (marks : List BlockMark) (have : HaveMarks slots marks) (m : BlockMark) (has : Contains marks m) where
  pub mark_size : ℕ
  mark_size = (have.are m has).0.1

  pub mark_extent : extent (slot_at slots m.slot) ≡ Some (m.at, mark_size)
  unfolding mark_size
  mark_extent =
      let one = have.are m has in
      one.1 ∙ ap (λ (n : ℕ). Some (n, one.0.1)) (sym (ap (λ (x : BlockMark). x.at) one.2))

  pub mark_ends : m.end ≡ m.at + mark_size
  unfolding mark_size
  mark_ends =
      let one = have.are m has in
      omega (arith, ap (λ (x : BlockMark). x.at) one.2, ap (λ (x : BlockMark). x.end) one.2)

  pub mark_there : IsSome (block_in (slot_at slots m.slot))
  mark_there = extent_there (slot_at slots m.slot) (m.at, mark_size) mark_extent

-- a live handle's block sinks
module _ (banks : List ℕ) (slots : Slots) (arranged : IsArranged banks slots) (h : Handle) (block : Block) (was : get slots h ≡ Some block) (to : ℕ) (sinks : SinksTo banks slots h.slot block to) where
  pub sink_fits : Fits banks (with_value slots h (record block { at = None })) block.want to
  sink_fits = subst (λ (s : Slots). Fits banks s block.want to) (sym (set_is slots h block was (record block { at = None }))) sinks.fits

  pub sink_moved : with_value slots h (record block { at = Some to }) ≡ with_moved slots h.slot block to
  sink_moved = set_is slots h block was (moved_to to block)

-- one mark further
module _ (banks : List ℕ) (now : Slots) (arranged : IsArranged banks now) (marks : List BlockMark) (have : HaveMarks now marks) (limit : ℕ) (m : BlockMark) (first : IsFirstFrom marks limit m)
    (to : ℕ) (low : to ≤ m.at) (next : Slots) (after : IsArranged banks next) (s : Sinks banks now m.slot m.at to next) where
  step_there : extent (slot_at now m.slot) ≡ Some (m.at, mark_size now marks have m first.is)
  step_there = mark_extent now marks have m first.is

  pub step_count : count_by (lies_below limit) now + 1 ≤ count_by (lies_below (suc m.at)) next
  step_count = passed_count banks now next m.slot m.at (mark_size now marks have m first.is) to limit step_there arranged s (after.count ∙ sym arranged.count) first.from low

  pub step_room : count_by (lies_below limit) now < 4096
  step_room = omega (arith, step_count, count_by-le-length (lies_below (suc m.at)) next, after.count)

  pub step_passed : (end : ℕ) → end ≡ to + (m.end - m.at) → (runs added : List BlockSpot) → ArePassed now limit runs → AreRuns added → RunsAdd runs to end added → ArePassed next (suc m.at) added
  step_passed end is runs added passed are adds =
      let ends : end ≡ to + mark_size now marks have m first.is = omega (arith, is, mark_ends now marks have m first.is) in
      passed_next banks now arranged m.slot m.at (mark_size now marks have m first.is) to step_there next s low runs added (passed_to now marks have limit m first runs passed) are
      (subst (λ (n : ℕ). RunsAdd runs to n added) ends adds)

-- a mark's block has a byte, and ends within the addresses of banks
pub mark_sized : (slots : Slots) (marks : List BlockMark) → All IsBoundedSlot slots → HaveMarks slots marks → (m : BlockMark) → Contains marks m → IsSized m
mark_sized slots marks bounded have m has = All-contains IsSized marks m (marks_sized slots marks bounded have) has

-- ---- the block that lies at a mark, under its handle

module _ (banks : List ℕ) (slots : Slots) (arranged : IsArranged banks slots) (settled : AreSettled banks slots) (marks : List BlockMark) (have : HaveMarks slots marks) (m : BlockMark) (has : Contains marks m)
    (generation : ℕ) (block : Block) (was : get slots (record { slot = m.slot; generation = generation }) ≡ Some block) where
  held_is : block_in (slot_at slots m.slot) ≡ Some block
  held_is = live_block slots (record { slot = m.slot; generation = generation }) block was

  held_lies : extent (slot_at slots m.slot) ≡ Some (m.at, mark_size slots marks have m has)
  held_lies = mark_extent slots marks have m has

  pub held_want : IsWant block.want
  held_want = settled.wants m.slot block held_is

  pub held_at : block.at ≡ Some m.at
  held_at = (extent_block (slot_at slots m.slot) block (m.at, mark_size slots marks have m has) held_is held_lies).0

  pub held_stays : can_move block ≡ false → Sinks banks slots m.slot m.at m.at slots
  held_stays cannot = sinks_none banks slots arranged settled m.slot m.at (mark_size slots marks have m has) held_lies block held_is cannot

  module _ (runs : List BlockSpot) (passed : ArePassed slots m.at runs) where
    pub held_fits : FitsAmong banks block.want runs 0 m.at
    held_fits = present_among banks slots arranged settled m.slot m.at (mark_size slots marks have m has) held_lies block held_is runs passed

    module _ (to : ℕ) (least : IsLeastAmong banks block.want runs 0 to) where
      held_to : SinksTo banks slots m.slot block to
      held_to = sinks_to banks slots arranged settled m.slot m.at (mark_size slots marks have m has) held_lies block held_is runs passed to least

      pub held_low : to ≤ m.at
      held_low = goes_low banks slots arranged settled m.slot m.at (mark_size slots marks have m has) held_lies block held_is runs passed to least

      pub held_small : to + block.want.size ≤ 2 ^ 24
      held_small = free_limit banks to block.want.size arranged.small held_want.some held_to.fits.free

      pub held_here : can_move block ≡ true → to ≡ m.at → Sinks banks slots m.slot m.at to slots
      held_here can same = sinks_here banks slots arranged settled m.slot m.at (mark_size slots marks have m has) held_lies block held_is runs passed can to least same

      pub held_sinks : can_move block ≡ true → (next : Slots) → next ≡ with_value slots (record { slot = m.slot; generation = generation }) (record block { at = Some to }) → Sinks banks slots m.slot m.at to next
      held_sinks can next is = sinks_there banks slots arranged settled m.slot m.at (mark_size slots marks have m has) held_lies block held_is runs passed can to least next
          (is ∙ sink_moved banks slots arranged (record { slot = m.slot; generation = generation }) block was to held_to)

      pub held_arranged : (next : Slots) → next ≡ with_value slots (record { slot = m.slot; generation = generation }) (record block { at = Some to }) → IsArranged banks next
      held_arranged next is = subst (IsArranged banks) (sym is) (arranged_moved slots (record { slot = m.slot; generation = generation }) block was to banks arranged
          (sink_fits banks slots arranged (record { slot = m.slot; generation = generation }) block was to held_to))
