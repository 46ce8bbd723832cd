-- A slide that is only tried.
use Rattle.std.proofs.Common.{◌≡◌, inl, inr, ℕ, suc, Bool, true, false, ◌+◌, ◌-◌, ◌<◌, ◌≤◌, List, [], All, Contains, Option, Some, None, MatchOption, is_some, arith, refl, sym, ap, subst, ◌∙◌, min}
use Rattle.std.proofs.lemmas.Bool.{cases_lt, cases_eq}
use Rattle.std.proofs.lemmas.List.Elements.{All-contains}
use Rattle.iigs_meaning.specs.declared.wants.Block.{Block}
use Rattle.iigs_meaning.specs.declared.wants.Want.{Want}
use Rattle.iigs_meaning.specs.Slots.{slot_at}
use Rattle.iigs_meaning.specs.Fits.{Slots, IsWant, IsApart, HoldsByte, block_in}
use Rattle.iigs_meaning.specs.Slide.{can_move, movable_block, place_of, moved_to, holding, FitsBeside, Slides, AreSettled}
use Rattle.iigs_meaning.specs.laws.SlideLaws.{no_address_rises, mover_stays}
use Rattle.iigs_places.specs.declared.marks.BlockMark.{BlockMark}
use Rattle.iigs_places.specs.declared.spots.BlockSpot.{BlockSpot}
use Rattle.iigs_places.specs.Arranged.{IsArranged}
use Rattle.iigs_places.specs.Extent.{extent}
use Rattle.iigs_places.specs.Spots.{FitsAmong, IsLeastAmong, IsBeside}
use Rattle.iigs_places.specs.Marks.{mark, HaveMarks, IsFirstFrom}
use Rattle.iigs_places.specs.Runs.{AreRuns, InRuns, RunsAdd}
use Rattle.iigs_places.specs.Tried.{FitsNowhereSlid, LiesSlid, HasSlid, AreSlid}
use Rattle.iigs_places.proofs.Extents.{each_slot, holds_to, holds_from}
use Rattle.iigs_places.proofs.Marked.{extent_in}
use Rattle.iigs_places.proofs.Placed.{fits_open, open_fits}
use Rattle.iigs_places.proofs.Sliding.{same_extent, block_extent, mover_extent, extent_block, is_mover, no_mover, one_start, starts_after, mark_size, mark_extent, mark_ends}
use Rattle.iigs_places.proofs.NoSlide.{apart_beside, mover_or_none, mover_begins}

-- an address beside the runs has no byte of theirs
none_in : (runs : List BlockSpot) (address size i : ℕ) → All (λ (run : BlockSpot). 0 ≤ run.turn → IsBeside address size run) runs → address ≤ i → i < address + size → ¬ InRuns runs i
none_in runs address size i beside from to r = elim (All-contains (λ (run : BlockSpot). 0 ≤ run.turn → IsBeside address size run) runs r.0 beside r.1 (omega arith)) [
  | inl before ↦ absurd (omega (arith, before, r.2, to))
  | inr following ↦ absurd (omega (arith, following, r.3, from))
]

module _ (banks : List ℕ) (slots : Slots) (arranged : IsArranged banks slots) (settled : AreSettled banks slots) (place address size : ℕ) (there : extent (slot_at slots place) ≡ Some (address, size))
    (block : Block) (is : block_in (slot_at slots place) ≡ Some block) where
  its_size : block.want.size ≡ size
  its_size = (extent_block (slot_at slots place) block (address, size) is there).1

  lies_at : place_of block ≡ address
  lies_at = rw (extent_block (slot_at slots place) block (address, size) is there).0 refl

  its_want : IsWant block.want
  its_want = settled.wants place block is

  pub stays_slid : can_move block ≡ false → LiesSlid banks slots place address size
  stays_slid cannot room slides = ap extent (slides.stay place (no_mover (slot_at slots place) block is cannot)) ∙ there

  module _ (can : can_move block ≡ true) (runs : List BlockSpot) (slid : AreSlid banks slots address runs) (room : Slots) (slides : Slides banks slots room) where
    mover : movable_block (slot_at slots place) ≡ Some block
    mover = is_mover (slot_at slots place) block is can

    -- where it fits in the slide it fits among the runs
    among_slid : (a : ℕ) → FitsBeside banks slots room block a → FitsAmong banks block.want runs 0 a
    among_slid a fits = record {
      open_ = fits_open banks [] block.want a its_want.some fits.open_;
      beside = apart_beside runs slid.are a block.want.size its_want.some (λ i from to r.
          let h = slid.from room slides i r in
          elim (mover_or_none (slot_at slots h.place)) [
            | inl none ↦ fits.stay h.place none i from to (subst (HoldsByte i) (slides.stay h.place none) h.holds)
            | inr other ↦
                let begins : place_of other.0 ≡ h.at.0 = mover_begins (slot_at slots h.place) other.0 other.1 h.at h.is in
                fits.moved h.place other.0 other.1 (omega (arith, begins, lies_at, h.before)) i from to h.holds
          ]);
    }

    -- and where it fits among the runs, not above where it lies, it fits in the slide
    beside_slid : (a : ℕ) → a ≤ address → FitsAmong banks block.want runs 0 a → FitsBeside banks slots room block a
    beside_slid a le fits = record {
      open_ = open_fits banks [] block.want a fits.open_ (λ k d within. absurd (omega arith));
      stay = λ q none i from to held.
          let e = extent_in i (slot_at slots q) (holds_to i (slot_at slots q) held) in
          elim (cases_lt e.0.0 address) [
            | inl lower ↦ none_in runs a block.want.size i fits.beside from to (slid.to room slides i (record { place = q; at = e.0; is = e.1; before = lower; holds = subst (HoldsByte i) (sym (slides.stay q none)) held }))
            | inr upper ↦
                let following = starts_after banks slots arranged place q (address, size) e.0 there e.1
                (λ same. mover_stays (slot_at slots place) block mover (ap (λ (n : ℕ). movable_block (slot_at slots n)) same ∙ none)) upper in
                absurd (omega (arith, following, e.2.0, to, its_size, le))
          ];
      moved = λ q other m below i from to held.
          none_in runs a block.want.size i fits.beside from to (slid.to room slides i (record {
            place = q;
            at = (place_of other, other.want.size);
            is = mover_extent (slot_at slots q) other m;
            before = omega (arith, below, lies_at);
            holds = held;
          }));
    }

  -- it goes to the least address that fits among the runs, if that is below where it lies
  pub least_slid : can_move block ≡ true → (runs : List BlockSpot) → AreSlid banks slots address runs → (to : ℕ) → IsLeastAmong banks block.want runs 0 to → LiesSlid banks slots place (min to address) size
  least_slid can runs slid to least room slides =
      let m = is_mover (slot_at slots place) block is can in
      let goes = slides.goes place block m in
      let present = (no_address_rises banks slots room arranged.sound settled slides).present place block m in
      let low : goes.0 ≤ address = omega (arith, goes.1.least (place_of block) present, lies_at) in
      let lower : to ≤ goes.0 = least.least goes.0 (among_slid can runs slid room slides goes.0 goes.1.fits) in
      let back : goes.0 ≤ to = goes.1.least to (beside_slid can runs slid room slides to (omega (arith, lower, low)) least.fits) in
      let same : goes.0 ≡ min to address = omega (arith, low, lower, back) in
      ap extent goes.2 ∙ block_extent (holding (slot_at slots place) (moved_to goes.0 block)) (moved_to goes.0 block) goes.0 refl refl
      ∙ ap (λ (n : ℕ). Some (n, block.want.size)) same ∙ ap (λ (n : ℕ). Some (min to address, n)) its_size

  -- and stays if nothing fits among them
  pub none_slid : can_move block ≡ true → (runs : List BlockSpot) → AreSlid banks slots address runs → ((a : ℕ) → ¬ FitsAmong banks block.want runs 0 a) → LiesSlid banks slots place address size
  none_slid can runs slid none room slides =
      let goes = slides.goes place block (is_mover (slot_at slots place) block is can) in
      absurd (none goes.0 (among_slid can runs slid room slides goes.0 goes.1.fits))

-- ---- the blocks with marks

module _ (banks : List ℕ) (slots : Slots) (arranged : IsArranged banks slots) (settled : AreSettled banks slots) (marks : List BlockMark) (have : HaveMarks slots marks) (m : BlockMark) (has : Contains marks m)
    (block : Block) (is : block_in (slot_at slots m.slot) ≡ Some block) where
  its_end : mark_size slots marks have m has ≡ m.end - m.at
  its_end = omega (arith, mark_ends slots marks have m has)

  sized_slid : (at : ℕ) → LiesSlid banks slots m.slot at (mark_size slots marks have m has) → LiesSlid banks slots m.slot at (m.end - m.at)
  sized_slid at lies room slides = lies room slides ∙ ap (λ (n : ℕ). Some (at, n)) its_end

  pub mark_stays_slid : can_move block ≡ false → LiesSlid banks slots m.slot m.at (m.end - m.at)
  mark_stays_slid cannot = sized_slid m.at (stays_slid banks slots arranged settled m.slot m.at (mark_size slots marks have m has) (mark_extent slots marks have m has) block is cannot)

  pub mark_none_slid : can_move block ≡ true → (runs : List BlockSpot) → AreSlid banks slots m.at runs → ((a : ℕ) → ¬ FitsAmong banks block.want runs 0 a) → LiesSlid banks slots m.slot m.at (m.end - m.at)
  mark_none_slid can runs slid none = sized_slid m.at (none_slid banks slots arranged settled m.slot m.at (mark_size slots marks have m has) (mark_extent slots marks have m has) block is can runs slid none)

  pub mark_least_slid : can_move block ≡ true → (runs : List BlockSpot) → AreSlid banks slots m.at runs → (to : ℕ) → IsLeastAmong banks block.want runs 0 to → (at : ℕ) → min to m.at ≡ at → LiesSlid banks slots m.slot at (m.end - m.at)
  mark_least_slid can runs slid to least at at_is = subst (λ (n : ℕ). LiesSlid banks slots m.slot n (m.end - m.at)) at_is
      (sized_slid (min to m.at) (least_slid banks slots arranged settled m.slot m.at (mark_size slots marks have m has) (mark_extent slots marks have m has) block is can runs slid to least))

-- ---- runs of blocks that were slid down

pub slid_none : (banks : List ℕ) (slots : Slots) → AreSlid banks slots 0 []
slid_none banks slots = record {
  are = record {
    order = λ i j d le lt. absurd (omega (arith, lt));
    some = λ k d lt. absurd (omega (arith, lt));
    ends = λ k d lt. absurd (omega (arith, lt));
  };
  to = λ room slides i has. absurd (omega (arith, has.before));
  from = λ room slides i r. absurd (omega (arith, r.1.1));
}

abbrev later : (slots room : Slots) (limit more i : ℕ) → limit ≤ more → HasSlid slots room limit i → HasSlid slots room more i
later slots room limit more i le has = record { place = has.place; at = has.at; is = has.is; before = omega (arith, has.before, le); holds = has.holds }

module _ (banks : List ℕ) (slots : Slots) (marks : List BlockMark) (have : HaveMarks slots marks) where
  -- up to the first mark nothing more is
  pub slid_to : (limit : ℕ) (first : BlockMark) → IsFirstFrom marks limit first → (runs : List BlockSpot) → AreSlid banks slots limit runs → AreSlid banks slots first.at runs
  slid_to limit first is runs slid = record {
    are = slid.are;
    to = λ room slides i has. elim (cases_lt has.at.0 limit) [
      | inl early ↦ slid.to room slides i (record { place = has.place; at = has.at; is = has.is; before = early; holds = has.holds })
      | inr late ↦ absurd (omega (arith, is.least (mark has.place has.at) (have.each has.place has.at has.is) late, has.before))
    ];
    from = λ room slides i r. later slots room limit first.at i is.from (slid.from room slides i r);
  }

  -- past the last one neither
  pub slid_past : (limit more : ℕ) → limit ≤ more → ((m : BlockMark) → Contains marks m → m.at < limit) → (runs : List BlockSpot) → AreSlid banks slots limit runs → AreSlid banks slots more runs
  slid_past limit more le none runs slid = record {
    are = slid.are;
    to = λ room slides i has. slid.to room slides i (record { place = has.place; at = has.at; is = has.is; before = none (mark has.place has.at) (have.each has.place has.at has.is); holds = has.holds });
    from = λ room slides i r. later slots room limit more i le (slid.from room slides i r);
  }

  module _ (arranged : IsArranged banks slots) (m : BlockMark) (has : Contains marks m) where
    pub slid_more : (to : ℕ) → LiesSlid banks slots m.slot to (m.end - m.at) → (end : ℕ) → end ≡ to + (m.end - m.at) → (runs added : List BlockSpot) → AreSlid banks slots m.at runs → AreRuns added → RunsAdd runs to end added
        → AreSlid banks slots (suc m.at) added
    slid_more to lies end end_is runs added slid are adds = record {
      are = are;
      to = λ room slides i h. elim (cases_eq h.place m.slot) [
        | inl same ↦
            let spans = extent_in i (slot_at room m.slot) (holds_to i (slot_at room m.slot) (subst (λ (n : ℕ). HoldsByte i (slot_at room n)) same h.holds)) in
            let one : spans.0 ≡ (to, m.end - m.at) = same_extent spans.0 (to, m.end - m.at) (sym spans.1 ∙ lies room slides) in
            adds.added i (omega (arith, ap (λ (x : ℕ × ℕ). x.0) one, spans.2.0)) (omega (arith, ap (λ (x : ℕ × ℕ). x.0) one, ap (λ (x : ℕ × ℕ). x.1) one, spans.2.1, end_is))
        | inr ne ↦ elim (cases_lt h.at.0 m.at) [
          | inl before ↦ adds.kept i (slid.to room slides i (record { place = h.place; at = h.at; is = h.is; before = before; holds = h.holds }))
          | inr ge ↦ absurd (ne (one_start banks slots arranged h.place m.slot h.at (m.at, mark_size slots marks have m has) h.is (mark_extent slots marks have m has) (omega (arith, ge, h.before))))
        ]
      ];
      from = λ room slides i r. elim (adds.only i r) [
        | inl old ↦ later slots room m.at (suc m.at) i (omega arith) (slid.from room slides i old)
        | inr new ↦ record {
          place = m.slot;
          at = (m.at, mark_size slots marks have m has);
          is = mark_extent slots marks have m has;
          before = omega arith;
          holds = holds_from i (slot_at room m.slot) (rw (lies room slides) (new.0, omega (arith, new.1, end_is)));
        }
      ];
    }

-- ---- a want

pub nowhere_slid : (banks : List ℕ) (slots : Slots) (limit : ℕ) (want : Want) → IsWant want → (runs : List BlockSpot) → AreSlid banks slots limit runs → (o : Option ℕ) (b : Bool) → b ≡ is_some o
    → MatchOption o ((address : ℕ) → ¬ FitsAmong banks want runs 0 address) (IsLeastAmong banks want runs 0) → b ≡ false → FitsNowhereSlid banks slots want
nowhere_slid banks slots limit want is_want runs slid (Some at) b is reported e room slides address fits = let clash : true ≡ false = sym is ∙ e in absurd cc
nowhere_slid banks slots limit want is_want runs slid None b is reported e room slides address fits = reported address (record {
  open_ = fits_open banks room want address is_want.some fits;
  beside = apart_beside runs slid.are address want.size is_want.some (λ i from to r.
      let h = slid.from room slides i r in
      each_slot (IsApart address want.size) room (λ j from' to' none. absurd none) fits.apart h.place i from to h.holds);
})
