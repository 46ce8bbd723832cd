-- There is room for a want, or there is none; and a slide has an outcome.
use Rattle.std.proofs.Common.{◌≡◌, ◌⊎◌, inl, inr, ℕ, zero, suc, ◌+◌, ◌*◌, ◌%◌, ◌<◌, ◌≤◌, Bool, true, false, List, [], ◌∷◌, length, Option, Some, None, refl, sym, ap, subst, ◌∙◌, arith}
use Rattle.std.specs.Prelude.{All, slice_index_or, IsSomeAnd}
use Rattle.std.proofs.lemmas.List.{get_or_default, get_or_past}
use Rattle.std.proofs.lemmas.Bool.{cases_lt, cases_eq}
use Rattle.iigs_meaning.specs.declared.slots.Slot.{Slot}
use Rattle.iigs_meaning.specs.declared.wants.Want.{Want}
use Rattle.iigs_meaning.specs.declared.wants.Block.{Block}
use Rattle.iigs_meaning.specs.Slots.{slot_at, new_slot}
use Rattle.iigs_meaning.specs.Free.{bank_of, low_of, is_special, first_free, free_end, IsFree}
use Rattle.iigs_meaning.specs.Fits.{Slots, block_in, HoldsByte, IsApart, Fits}
use Rattle.iigs_meaning.specs.Placement.{count_purgeable, slots_after_purges, HasNoRoom}
use Rattle.iigs_meaning.specs.Puts.{Purges, LacksRoom}
use Rattle.iigs_meaning.specs.Blocks.{AreApart}
use Rattle.iigs_meaning.specs.Slide.{movable_block, place_of, Slides, PurgesOrSlides, AreSettled}
use Rattle.iigs_meaning.specs.laws.PurgeLaws.{emptied_past}
use Rattle.iigs_meaning.specs.laws.SlideLaws.{AreSlidTo, SinksTo, IsNext, without, with_moved, turn_fits, from_slide, slid_next, slid_none, slid_all, slides_once, mover_stays}
use Rattle.iigs_meaning.specs.laws.SlideRoomLaws.{lacks_room_by_slides, slid_apart, slid_settled}
use Rattle.iigs_places.specs.Offsets.{is_named}
use Rattle.iigs_places.proofs.Counts.{named-Contains}
use Rattle.iigs_places.proofs.Stays.{apart_stays}
use Rattle.iigs_places.proofs.Puts.{gone_stays}
use Rattle.iigs_compact_memory.proofs.Settled.{settled_emptied}
use Rattle.answers.specs.laws.Decisions.{Decided, is_it}
use Rattle.answers.proofs.Deciding.{equal, less, at_most, both, implies, refutes, same_as, some_and, if_some, Least, least_below, all_below, all_in}

-- ---- whether a want fits at an address

pub holds_or_not : (i : ℕ) (slot : Slot Block) → Decided (HoldsByte i slot)
holds_or_not i slot = some_and (λ (block : Block). IsSomeAnd block.at (λ first. (first ≤ i) × (i < first + block.want.size))) (block_in slot)
    (λ (block : Block). some_and (λ first. (first ≤ i) × (i < first + block.want.size)) block.at (λ first. both (at_most first i) (less i (first + block.want.size))))

pub free_or_not : (banks : List ℕ) (i : ℕ) → Decided (IsFree banks i)
free_or_not banks i = same_as
    (λ all. record { configured = (named-Contains banks (bank_of i)).0 all.0; above = all.1.0; below = all.1.1 })
    (λ (free : IsFree banks i). ((named-Contains banks (bank_of i)).1 free.configured, (free.above, free.below)))
    (both (is_it (is_named banks (bank_of i))) (both (at_most (first_free (bank_of i)) (low_of i)) (less (low_of i) (free_end (bank_of i)))))

apart_or_not : (address size : ℕ) (slots : Slots) → Decided (All (IsApart address size) slots)
apart_or_not address size slots = same_as
    (λ (each : (place : ℕ) → place < length slots → IsApart address size (slot_at slots place)) place d within.
    subst (IsApart address size) (get_or_default slots place new_slot d within) (each place within))
    (λ (all : All (IsApart address size) slots) place within. all place new_slot within)
    (all_below (λ place. IsApart address size (slot_at slots place)) (length slots)
    (λ place. all_in (λ i. HoldsByte i (slot_at slots place) → ⊥) address size (λ i. refutes (holds_or_not i (slot_at slots place)))))

pub fits_or_not : (banks : List ℕ) (slots : Slots) (want : Want) (address : ℕ) → Decided (Fits banks slots want address)
fits_or_not banks slots want address = same_as
    (λ all. record {
      free = all.0;
      apart = all.1.0;
      crossing = all.1.1.0;
      aligned = all.1.1.1.0;
      fixed = all.1.1.1.1.0;
      bank = all.1.1.1.1.1.0;
      low = all.1.1.1.1.1.1.0;
      special = all.1.1.1.1.1.1.1;
    })
    (λ (fits : Fits banks slots want address). (fits.free, (fits.apart, (fits.crossing, (fits.aligned, (fits.fixed, (fits.bank, (fits.low, fits.special))))))))
    (both (all_in (IsFree banks) address want.size (free_or_not banks))
    (both (apart_or_not address want.size slots)
    (both (implies (is_it want.no_cross) (all_in (λ i. bank_of i ≡ bank_of address) address want.size (λ i. equal (bank_of i) (bank_of address))))
    (both (equal (address % want.align) 0)
    (both (if_some (λ at. address ≡ at) want.at (λ at. equal address at))
    (both (if_some (λ bank. (i : ℕ) → address ≤ i → i < address + want.size → bank_of i ≡ bank) want.bank (λ bank. all_in (λ i. bank_of i ≡ bank) address want.size (λ i. equal (bank_of i) bank)))
    (both (if_some (λ low. low_of address ≡ low) want.low (λ low. equal (low_of address) low))
    (implies (is_it want.no_special) (all_in (λ i. is_special (bank_of i) ≡ false) address want.size (λ i. plain_or_not (is_special (bank_of i))))))))))))
  where
    plain_or_not : (b : Bool) → Decided (b ≡ false)
    plain_or_not true = inr (λ e. cc)
    plain_or_not false = inl refl

-- ---- the least address

-- above all configured banks
abbrev top : List ℕ → ℕ
top [] = 0
top (bank ∷ banks) = (bank + 1) * 0x10000 + top banks

named_below : (banks : List ℕ) (bank k : ℕ) → k < length banks → slice_index_or banks k bank ≡ bank → (bank + 1) * 0x10000 ≤ top banks
named_below [] bank k within is = absurd (omega (arith, within))
named_below (b ∷ banks) bank zero within is = let same : b ≡ bank = is in omega (arith, same)
named_below (b ∷ banks) bank (suc k) within is = let rest = named_below banks bank k (omega (arith, within)) is in omega (arith, rest)

free_below_top : (banks : List ℕ) (i : ℕ) → IsFree banks i → i < top banks
free_below_top banks i free =
    let named = named_below banks (bank_of i) free.configured.0 free.configured.1 free.configured.2 in
    omega (arith, named)

-- a want fits somewhere: the least address
pub record Lowest (banks : List ℕ) (slots : Slots) (want : Want) : Type 0 where
  pub address : ℕ
  pub fits : Fits banks slots want address
  pub least : (other : ℕ) → Fits banks slots want other → address ≤ other

pub lowest_or_none : (banks : List ℕ) (slots : Slots) (want : Want) → 0 < want.size → Lowest banks slots want ⊎ ((address : ℕ) → Fits banks slots want address → ⊥)
lowest_or_none banks slots want some = elim (least_below (Fits banks slots want) (top banks) (fits_or_not banks slots want)) [
  | inl found ↦ inl (record {
    address = found.at;
    fits = found.here;
    least = λ other fits. elim (cases_lt other found.at) [
      | inl lower ↦ absurd (found.none other lower fits)
      | inr above ↦ above
    ];
  })
  | inr none ↦ inr (λ address fits. none address (free_below_top banks address (fits.free address (omega arith) (omega (arith, some)))) fits)
]

-- ---- by purges

pub by_purges : (banks : List ℕ) (slots : Slots) (want : Want) → 0 < want.size
    → ((address : ℕ) × (room : Slots) × Purges banks slots want address room) ⊎ HasNoRoom banks slots want
by_purges banks slots want some = settle (least_below FitsWith (suc (count_purgeable slots)) fits_with)
  where
    FitsWith : ℕ → Type 0
    FitsWith count = Lowest banks (slots_after_purges slots count) want

    lowest : (count address : ℕ) → Fits banks (slots_after_purges slots count) want address → FitsWith count
    lowest count address fits = elim (lowest_or_none banks (slots_after_purges slots count) want some) [
      | inl found ↦ found
      | inr none ↦ absurd (none address fits)
    ]

    fits_with : (count : ℕ) → Decided (FitsWith count)
    fits_with count = elim (lowest_or_none banks (slots_after_purges slots count) want some) [
      | inl found ↦ inl found
      | inr none ↦ inr (λ (found : FitsWith count). none found.address found.fits)
    ]

    settle : Least FitsWith (suc (count_purgeable slots)) ⊎ ((i : ℕ) → i < suc (count_purgeable slots) → FitsWith i → ⊥)
        → ((address : ℕ) × (room : Slots) × Purges banks slots want address room) ⊎ HasNoRoom banks slots want
    settle (inl found) = inl (
      found.here.address,
      slots_after_purges slots found.at,
      record {
        count = found.at;
        goes = record { fits = found.here.fits; least = found.here.least; fewest = λ fewer lower other fits. found.none fewer lower (lowest fewer other fits) };
        room_is = refl;
      },
    )
    settle (inr none) = inr (λ count address fits. elim (cases_lt count (suc (count_purgeable slots))) [
      | inl within ↦ none count within (lowest count address fits)
      | inr past ↦
          let same = emptied_past slots count (omega (arith, past)) in
          none (count_purgeable slots) (omega arith) (lowest (count_purgeable slots) address (subst (λ (s : Slots). Fits banks s want address) same fits))
    ])

-- ---- slides

-- an address above those of all blocks that move
abbrev above_movers : Slots → ℕ
above_movers [] = 0
above_movers (slot ∷ slots) = elim (movable_block slot) [ None ↦ 0 | Some block ↦ suc (place_of block) ] + above_movers slots

mover_below : (slots : Slots) (place : ℕ) (block : Block) → movable_block (slot_at slots place) ≡ Some block → place_of block < above_movers slots
mover_below [] place block is = absurd (mover_stays (slot_at [] place) block is refl)
mover_below (slot ∷ slots) zero block is = let own : elim (movable_block slot) [ None ↦ 0 | Some b ↦ suc (place_of b) ] ≡ suc (place_of block) = ap (λ (o : Option Block). elim o [ None ↦ 0 | Some b ↦ suc (place_of b) ]) is in omega (arith, own)
mover_below (slot ∷ slots) (suc place) block is = let rest = mover_below slots place block is in omega (arith, rest)

module _ (banks : List ℕ) (old : Slots) (apart : AreApart banks old) (settled : AreSettled banks old) where
  -- the blocks that lay below an address are slid down
  abbrev Slid : ℕ → Type 0
  Slid limit = (now : Slots) × AreSlidTo banks old now limit

  -- a block that moves lies there
  record MoverAt (limit place : ℕ) : Type 0 where
    block : Block
    is : movable_block (slot_at old place) ≡ Some block
    there : place_of block ≡ limit

  mover_or_not : (limit place : ℕ) → Decided (MoverAt limit place)
  mover_or_not limit place = by_block (movable_block (slot_at old place)) refl
    where
      by_block : (o : Option Block) → movable_block (slot_at old place) ≡ o → Decided (MoverAt limit place)
      by_block None e = inr (λ m. mover_stays (slot_at old place) m.block m.is e)
      by_block (Some block) e = elim (equal (place_of block) limit) [
        | inl same ↦ inl (record { block = block; is = e; there = same })
        | inr ne ↦ inr (λ m. ne (ap place_of (same_block block m.block (sym e ∙ m.is)) ∙ m.there))
      ]
        where
          same_block : (a b : Block) → Some a ≡ Some b → a ≡ b
          same_block a b e = cc

  within : (place : ℕ) (block : Block) → movable_block (slot_at old place) ≡ Some block → place < length old
  within place block is = elim (cases_lt place (length old)) [
    | inl inside ↦ inside
    | inr past ↦ absurd (mover_stays (slot_at old place) block is (ap movable_block (get_or_past old place new_slot past)))
  ]

  -- where no block lies there that moves
  passed : (limit : ℕ) → Slid limit → ((place : ℕ) → place < length old → MoverAt limit place → ⊥) → Slid (suc limit)
  passed limit slid none = (
    slid.0,
    record {
      len = slid.1.len;
      stay = slid.1.stay;
      wait = λ place block is late. slid.1.wait place block is (omega (arith, late));
      moved = record {
        goes = λ place block is below. elim (cases_eq (place_of block) limit) [
          | inl same ↦ absurd (none place (within place block is) (record { block = block; is = is; there = same }))
          | inr ne ↦ slid.1.moved.goes place block is (omega (arith, below, ne))
        ];
      };
    },
  )

  -- and where one does
  sunk : (now : Slots) (place : ℕ) (block : Block) → AreSlidTo banks old now (place_of block) → movable_block (slot_at old place) ≡ Some block → Slid (suc (place_of block))
  sunk now place block slid is = settle (least_below (Fits banks (without now place block) block.want) (suc (place_of block)) (fits_or_not banks (without now place block) block.want))
    where
      next : IsNext old (place_of block) block
      next = (omega arith, λ p other is' late. late)

      present : Fits banks (without now place block) block.want (place_of block)
      present = from_slide banks old now apart settled (place_of block) slid place block is next (place_of block) (omega arith)
          (turn_fits banks old now apart settled (place_of block) slid.moved place block is (omega arith))

      settle : Least (Fits banks (without now place block) block.want) (suc (place_of block)) ⊎ ((i : ℕ) → i < suc (place_of block) → Fits banks (without now place block) block.want i → ⊥)
          → Slid (suc (place_of block))
      settle (inr none) = absurd (none (place_of block) (omega arith) present)
      settle (inl found) =
          let sinks : SinksTo banks now place block found.at = record {
            fits = found.here;
            least = λ other fits. elim (cases_lt other found.at) [
              | inl lower ↦ absurd (found.none other lower fits)
              | inr above ↦ above
            ];
          } in
          (with_moved now place block found.at, slid_next banks old now apart settled (place_of block) slid place block is next found.at sinks)

  slid_to : (limit : ℕ) → Slid limit
  slid_to zero = (old, slid_none banks old)
  slid_to (suc limit) = by_mover (slid_to limit) (least_below (MoverAt limit) (length old) (mover_or_not limit))
    where
      by_mover : Slid limit → Least (MoverAt limit) (length old) ⊎ ((i : ℕ) → i < length old → MoverAt limit i → ⊥) → Slid (suc limit)
      by_mover slid (inr none) = passed limit slid none
      by_mover slid (inl found) =
          let m = found.here in
          subst (λ (n : ℕ). Slid (suc n)) m.there
          (sunk slid.0 found.at m.block (subst (λ (n : ℕ). AreSlidTo banks old slid.0 n) (sym m.there) slid.1) m.is)

  -- a slide has an outcome
  pub slide_ends : (new : Slots) × Slides banks old new
  slide_ends =
      let slid = slid_to (above_movers old) in
      (slid.0, slid_all banks old slid.0 (above_movers old) slid.1 (λ place block is. mover_below old place block is))

-- ---- by a slide

pub emptied_apart : (banks : List ℕ) (slots : Slots) (count : ℕ) → AreApart banks slots → AreApart banks (slots_after_purges slots count)
emptied_apart banks slots count apart = apart_stays banks slots (slots_after_purges slots count) apart (gone_stays slots count)

module _ (banks : List ℕ) (slots : Slots) (want : Want) (apart : AreApart banks slots) (settled : AreSettled banks slots) (some : 0 < want.size) where
  slid : (count : ℕ) → (new : Slots) × Slides banks (slots_after_purges slots count) new
  slid count = slide_ends banks (slots_after_purges slots count) (emptied_apart banks slots count apart) (settled_emptied banks slots count settled)

  abbrev FitsSlid : ℕ → Type 0
  FitsSlid count = (new : Slots) × Slides banks (slots_after_purges slots count) new × Lowest banks new want

  fits_slid : (count : ℕ) → Decided (FitsSlid count)
  fits_slid count = elim (lowest_or_none banks (slid count).0 want some) [
    | inl found ↦ inl ((slid count).0, (slid count).1, found)
    | inr none ↦ inr (λ (fits : FitsSlid count). none fits.2.address (subst (λ (s : Slots). Fits banks s want fits.2.address)
        (slides_once banks (slots_after_purges slots count) fits.0 (slid count).0 fits.1 (slid count).1) fits.2.fits))
  ]

  lowest_slid : (count : ℕ) (new : Slots) → Slides banks (slots_after_purges slots count) new → (address : ℕ) → Fits banks new want address → FitsSlid count
  lowest_slid count new slides address fits = elim (lowest_or_none banks new want some) [
    | inl found ↦ (new, slides, found)
    | inr none ↦ absurd (none address fits)
  ]

  by_slide : HasNoRoom banks slots want → Least FitsSlid (suc (count_purgeable slots)) ⊎ ((i : ℕ) → i < suc (count_purgeable slots) → FitsSlid i → ⊥) → ((address : ℕ) × (room : Slots) × PurgesOrSlides banks slots want address room) ⊎ LacksRoom PurgesOrSlides banks slots want
  by_slide none (inl found) =
      let fits = found.here in (inl (
        fits.2.address,
        fits.0,
        inr (
          none,
          record {
            count = found.at;
            slides = fits.1;
            fits = fits.2.fits;
            least = fits.2.least;
            fewest = λ fewer lower other slides place there. found.none fewer lower (lowest_slid fewer other slides place there);
          },
        ),
      ))
  by_slide none (inr nowhere) = inr (lacks_room_by_slides banks slots want (
    none,
    λ count room slides address fits. elim (cases_lt count (suc (count_purgeable slots))) [
      | inl within' ↦ nowhere count within' (lowest_slid count room slides address fits)
      | inr past ↦
          let same = emptied_past slots count (omega (arith, past)) in
          nowhere (count_purgeable slots) (omega arith) (lowest_slid (count_purgeable slots) room (subst (λ (s : Slots). Slides banks s room) same slides) address fits)
    ],
  ))

  -- there is room for a want, or there is none
  pub room_or_none : ((address : ℕ) × (room : Slots) × PurgesOrSlides banks slots want address room) ⊎ LacksRoom PurgesOrSlides banks slots want
  room_or_none = elim (by_purges banks slots want some) [
    | inl made ↦ inl (made.0, made.1, inl made.2)
    | inr none ↦ by_slide none (least_below FitsSlid (suc (count_purgeable slots)) fits_slid)
  ]

-- what room is made of
pub record IsRoomy (banks : List ℕ) (want : Want) (address : ℕ) (room : Slots) : Type 0 where
  pub apart : AreApart banks room
  pub settled : AreSettled banks room
  pub fits : Fits banks room want address

pub roomy : (banks : List ℕ) (slots : Slots) (want : Want) (address : ℕ) (room : Slots) → AreApart banks slots → AreSettled banks slots → PurgesOrSlides banks slots want address room → IsRoomy banks want address room
roomy banks slots want address room apart settled (inl made) = record {
  apart = subst (AreApart banks) (sym made.room_is) (emptied_apart banks slots made.count apart);
  settled = subst (AreSettled banks) (sym made.room_is) (settled_emptied banks slots made.count settled);
  fits = subst (λ (s : Slots). Fits banks s want address) (sym made.room_is) made.goes.fits;
}
roomy banks slots want address room apart settled (inr made) =
    let middle = slots_after_purges slots made.1.count in
    let apart' = emptied_apart banks slots made.1.count apart in
    let settled' = settled_emptied banks slots made.1.count settled in
    record {
      apart = slid_apart banks middle room apart' settled' made.1.slides;
      settled = slid_settled banks middle room apart' settled' made.1.slides;
      fits = made.1.fits;
    }
