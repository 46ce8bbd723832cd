-- Laws of slides: each movable block's present address fits when its turn occurs, so no address rises.
use Rattle.std.proofs.Common.{◌≡◌, ◌≢◌, inl, inr, ℕ, zero, suc, Bool, true, false, cond, ◌+◌, ◌<◌, ◌≤◌, List, length, Option, Some, None, refl, sym, ap, subst, ◌∙◌, arith}
use Rattle.std.specs.Prelude.{◌&&◌, is_some, not, unwrap_or, slice_set, All}
use Rattle.std.specs.Option.{option_and_then}
use Rattle.std.proofs.lemmas.Option.{same_Some}
use Rattle.std.proofs.lemmas.List.{ext_get_or, get_or_past, get_or_default, get_or-set_same, get_or-set_other, length-set}
use Rattle.std.proofs.lemmas.Bool.{cases_lt, cases_eq}
use Rattle.iigs_meaning.specs.declared.slots.Slot.{Slot}
use Rattle.iigs_meaning.specs.declared.wants.Block.{Block}
use Rattle.iigs_meaning.specs.Slots.{slot_at, new_slot}
use Rattle.iigs_meaning.specs.Fits.{Slots, Fits, IsApart, HoldsByte, block_in}
use Rattle.iigs_meaning.specs.Blocks.{AreApart}
use Rattle.iigs_meaning.specs.Slide.{can_move, movable_block, place_of, holding, moved_to, FitsBeside, GoesBeside, Slides, AreSettled, NoAddressRises}

-- ---- a block that moves

pub mover_in : (slot : Slot Block) (block : Block) → movable_block slot ≡ Some block → (block_in slot ≡ Some block) × (can_move block ≡ true)
mover_in slot block = go (block_in slot)
  where
    by_test : (b : Block) (t : Bool) → can_move b ≡ t → cond t (Some b) None ≡ Some block → (◌≡◌ {A = Option Block} (Some b) (Some block)) × (can_move block ≡ true)
    by_test b true can e = let same = same_Some b block e in (e, sym (ap can_move same) ∙ can)
    by_test b false can e = absurd cc

    go : (o : Option Block) → option_and_then (λ (b : Block). cond (can_move b) (Some b) None) o ≡ Some block → (o ≡ Some block) × (can_move block ≡ true)
    go None e = absurd cc
    go (Some b) e = by_test b (can_move b) refl e

lies_there : (block : Block) → can_move block ≡ true → block.at ≡ Some (place_of block)
unfolding can_move
lies_there block can = go block.at can
  where
    go : (o : Option ℕ) → (is_some o && block.movable && not block.locked) ≡ true → o ≡ Some (unwrap_or o 0)
    go None e = absurd cc
    go (Some at) e = refl

pub lies : (slot : Slot Block) (block : Block) → movable_block slot ≡ Some block → block.at ≡ Some (place_of block)
lies slot block is = lies_there block (mover_in slot block is).1

-- it has the bytes from its address on
pub has_bytes : (slot : Slot Block) (block : Block) → movable_block slot ≡ Some block → (i : ℕ) → place_of block ≤ i → i < place_of block + block.want.size → HoldsByte i slot
has_bytes slot block is i from to = rw ((mover_in slot block is).0, lies slot block is) (from, to)

-- a block that moves doesn't stay
pub mover_stays : (slot : Slot Block) (block : Block) → movable_block slot ≡ Some block → movable_block slot ≡ None → ⊥
mover_stays slot block is none = cc

-- ---- the law of a turn

-- the blocks that move and lay below an address are where they go
pub record AreMoved (banks : List ℕ) (old now : Slots) (limit : ℕ) : Type 0 where
  pub goes : (place : ℕ) (block : Block) → movable_block (slot_at old place) ≡ Some block → place_of block < limit
      → (address : ℕ) × GoesBeside banks old now block address × (slot_at now place ≡ holding (slot_at old place) (moved_to address block))

-- none of them is above where it lay
abbrev pub AreLow : Slots → Slots → ℕ → Type 0
AreLow old now limit = (place : ℕ) (block : Block) → movable_block (slot_at old place) ≡ Some block → place_of block < limit
    → (address : ℕ) × (address ≤ place_of block) × (slot_at now place ≡ holding (slot_at old place) (moved_to address block))

module _ (banks : List ℕ) (old now : Slots) (apart : AreApart banks old) (settled : AreSettled banks old) where
  -- two blocks that move have no byte in common, and another one isn't this one
  other_below : (place p : ℕ) (block other : Block) → movable_block (slot_at old place) ≡ Some block → movable_block (slot_at old p) ≡ Some other → place_of other < place_of block
      → 0 < block.want.size → place_of other + other.want.size ≤ place_of block
  other_below place p block other is is' below some = elim (cases_lt (place_of block) (place_of other + other.want.size)) [
    | inl over ↦
        let first = has_bytes (slot_at old place) block is (place_of block) (omega arith) (omega arith) in
        let second = has_bytes (slot_at old p) other is' (place_of block) (omega arith) over in
        let same = apart.apart place p (place_of block) first second in
        let one : block ≡ other = same_Some block other (sym is ∙ ap (λ (n : ℕ). movable_block (slot_at old n)) same ∙ is') in
        absurd (omega (arith, ap place_of one))
    | inr within ↦ within
  ]

  -- The law: when a block's turn occurs, its present address fits, if none of the blocks that moved before it is above where it lay.
  present_fits : (place : ℕ) (block : Block) → movable_block (slot_at old place) ≡ Some block → AreLow old now (place_of block) → FitsBeside banks old now block (place_of block)
  present_fits place block is low = record {
    open_ = settled.fits place block (place_of block) (mover_in (slot_at old place) block is).0 (lies (slot_at old place) block is);
    stay = λ p none i from to held.
        let same = apart.apart place p i (has_bytes (slot_at old place) block is i from to) held in
        mover_stays (slot_at old place) block is (ap (λ (n : ℕ). movable_block (slot_at old n)) same ∙ none);
    moved = λ p other is' below i from to held.
        let its = low p other is' below in
        let held' : HoldsByte i (holding (slot_at old p) (moved_to its.0 other)) = subst (HoldsByte i) its.2 held in
        let ends = other_below place p block other is is' below (omega arith) in
        omega (arith, held'.0, held'.1, ends, its.1);
  }

  -- so no address rises
  pub are_low : (limit : ℕ) → AreMoved banks old now limit → (turn : ℕ) → turn ≤ limit → AreLow old now turn
  are_low limit moved zero le place block is below = absurd (omega arith)
  are_low limit moved (suc turn) le place block is below =
      let goes = moved.goes place block is (omega arith) in
      let here = present_fits place block is (λ p other is' below'. are_low limit moved turn (omega arith) p other is' (omega arith)) in
      (goes.0, goes.1.least (place_of block) here, goes.2)

  pub turn_fits : (limit : ℕ) → AreMoved banks old now limit → (place : ℕ) (block : Block) → movable_block (slot_at old place) ≡ Some block → place_of block ≤ limit
      → FitsBeside banks old now block (place_of block)
  turn_fits limit moved place block is le = present_fits place block is (are_low limit moved (place_of block) le)

-- where a block fits follows from where the blocks are that moved before it
pub fits_there : (banks : List ℕ) (old a b : Slots) (block : Block) (address : ℕ)
    → ((place : ℕ) (other : Block) → movable_block (slot_at old place) ≡ Some other → place_of other < place_of block → slot_at a place ≡ slot_at b place)
    → FitsBeside banks old a block address → FitsBeside banks old b block address
fits_there banks old a b block address same fits = record {
  open_ = fits.open_;
  stay = fits.stay;
  moved = λ place other is below. subst (IsApart address block.want.size) (same place other is below) (fits.moved place other is below);
}

-- ---- one outcome

module _ (banks : List ℕ) (old one two : Slots) (first : Slides banks old one) (second : Slides banks old two) where
  abbrev Same : ℕ → Type 0
  Same limit = (place : ℕ) (block : Block) → movable_block (slot_at old place) ≡ Some block → place_of block < limit → slot_at one place ≡ slot_at two place

  all_same : (limit : ℕ) → Same limit
  all_same zero place block is below = absurd (omega arith)
  all_same (suc limit) place block is below =
      let p = first.goes place block is in
      let q = second.goes place block is in
      let before : (n : ℕ) (other : Block) → movable_block (slot_at old n) ≡ Some other → place_of other < place_of block → slot_at one n ≡ slot_at two n = λ n other is' below'. all_same limit n other is' (omega arith) in
      let there = fits_there banks old one two block p.0 before p.1.fits in
      let back = fits_there banks old two one block q.0 (λ n other is' below'. sym (before n other is' below')) q.1.fits in
      let address : p.0 ≡ q.0 = omega (arith, p.1.least q.0 back, q.1.least p.0 there) in
      p.2 ∙ ap (λ (n : ℕ). holding (slot_at old place) (moved_to n block)) address ∙ sym q.2

  same_at : (place : ℕ) → slot_at one place ≡ slot_at two place
  same_at place = go (movable_block (slot_at old place)) refl
    where
      go : (o : Option Block) → movable_block (slot_at old place) ≡ o → slot_at one place ≡ slot_at two place
      go None is = first.stay place is ∙ sym (second.stay place is)
      go (Some block) is = all_same (suc (place_of block)) place block is (omega arith)

  -- a slide has one outcome
  pub slides_once : one ≡ two
  slides_once = ext_get_or new_slot one two (first.len ∙ sym second.len) (λ i within. same_at i)

-- ---- a slide as a whole

pub slides_moved : (banks : List ℕ) (old new : Slots) → Slides banks old new → (limit : ℕ) → AreMoved banks old new limit
slides_moved banks old new slides limit = record { goes = λ place block is below. slides.goes place block is }

pub no_address_rises : (banks : List ℕ) (old new : Slots) → AreApart banks old → AreSettled banks old → Slides banks old new → NoAddressRises banks old new
no_address_rises banks old new apart settled slides = record {
  present = λ place block is. turn_fits banks old new apart settled (place_of block) (slides_moved banks old new slides (place_of block)) place block is (omega arith);
  low = λ place block is. are_low banks old new apart settled (suc (place_of block)) (slides_moved banks old new slides (suc (place_of block))) (suc (place_of block)) (omega arith) place block is (omega arith);
}

-- ---- a slide block by block

-- the slots without the block at a place, whose handle stays
abbrev pub without : Slots → ℕ → Block → Slots
without slots place block = slice_set slots place (holding (slot_at slots place) (record block { at = None }))

-- the slots with the block at a place moved
abbrev pub with_moved : Slots → ℕ → Block → ℕ → Slots
with_moved slots place block to = slice_set slots place (holding (slot_at slots place) (moved_to to block))

-- the blocks that move and lay below an address are slid down, and all else is as it was
pub record AreSlidTo (banks : List ℕ) (old now : Slots) (limit : ℕ) : Type 0 where
  pub len : length now ≡ length old
  pub stay : (place : ℕ) → movable_block (slot_at old place) ≡ None → slot_at now place ≡ slot_at old place
  pub wait : (place : ℕ) (block : Block) → movable_block (slot_at old place) ≡ Some block → limit ≤ place_of block → slot_at now place ≡ slot_at old place
  pub moved : AreMoved banks old now limit

-- the least address at which the block at a place fits beside all other blocks as they lie now
pub record SinksTo (banks : List ℕ) (now : Slots) (place : ℕ) (block : Block) (address : ℕ) : Type 0 where
  pub fits : Fits banks (without now place block) block.want address
  pub least : (other : ℕ) → Fits banks (without now place block) block.want other → address ≤ other

-- of the blocks that move and didn't yet, this is the lowest
abbrev pub IsNext : Slots → ℕ → Block → Type 0
IsNext old limit block = (limit ≤ place_of block) × ((place : ℕ) (other : Block) → movable_block (slot_at old place) ≡ Some other → limit ≤ place_of other → place_of block ≤ place_of other)

apart_at : (address size : ℕ) (slots : Slots) → All (IsApart address size) slots → (place : ℕ) → IsApart address size (slot_at slots place)
apart_at address size slots all place = elim (cases_lt place (length slots)) [
  | inl within ↦ all place new_slot within
  | inr past ↦ λ i from to held. subst (HoldsByte i) (get_or_past slots place new_slot past) held
]

pub all_at : (address size : ℕ) (slots : Slots) → ((place : ℕ) → IsApart address size (slot_at slots place)) → All (IsApart address size) slots
all_at address size slots each place d within = subst (IsApart address size) (get_or_default slots place new_slot d within) (each place)

pub inside : (slots : Slots) (place : ℕ) (block : Block) → movable_block (slot_at slots place) ≡ Some block → place < length slots
inside slots place block is = elim (cases_lt place (length slots)) [
  | inl within ↦ within
  | inr past ↦ absurd (mover_stays (slot_at slots place) block is (ap movable_block (get_or_past slots place new_slot past)))
]

pub held_there : (slot : Slot Block) (block : Block) → movable_block slot ≡ Some block → (i : ℕ) → HoldsByte i slot → (place_of block ≤ i) × (i < place_of block + block.want.size)
held_there slot block is i held = rw ((mover_in slot block is).0, lies slot block is) at held

module _ (banks : List ℕ) (old now : Slots) (apart : AreApart banks old) (settled : AreSettled banks old) (limit : ℕ) (slid : AreSlidTo banks old now limit)
    (place : ℕ) (block : Block) (is : movable_block (slot_at old place) ≡ Some block) (next : IsNext old limit block) where
  turn_moved : AreMoved banks old now (place_of block)
  turn_moved = record {
    goes = λ p other is' below. elim (cases_lt (place_of other) limit) [
      | inl early ↦ slid.moved.goes p other is' early
      | inr late ↦ absurd (omega (arith, next.1 p other is' late))
    ];
  }

  -- its present address fits
  turn_present : FitsBeside banks old now block (place_of block)
  turn_present = turn_fits banks old now apart settled (place_of block) turn_moved place block is (omega arith)

  not_here : (p : ℕ) → movable_block (slot_at old p) ≡ None → p ≢ place
  not_here p none same = mover_stays (slot_at old place) block is (ap (λ (n : ℕ). movable_block (slot_at old n)) (sym same) ∙ none)

  not_below : (p : ℕ) (other : Block) → movable_block (slot_at old p) ≡ Some other → place_of other < place_of block → p ≢ place
  not_below p other is' below same =
      let one : other ≡ block = same_Some other block (sym is' ∙ ap (λ (n : ℕ). movable_block (slot_at old n)) same ∙ is) in
      absurd (omega (arith, ap place_of one))

  -- a block that waits lies after it
  waiting : (p : ℕ) (other : Block) → movable_block (slot_at old p) ≡ Some other → place_of block ≤ place_of other → p ≢ place → (a : ℕ) → a ≤ place_of block
      → IsApart a block.want.size (slot_at old p)
  waiting p other is' above ne a le i from to held =
      let its = held_there (slot_at old p) other is' i held in
      let first = has_bytes (slot_at old p) other is' (place_of other) (omega arith) (omega (arith, its.0, its.1)) in
      let second = has_bytes (slot_at old place) block is (place_of other) above (omega (arith, its.0)) in
      ne (apart.apart p place (place_of other) first second)

  -- where it fits beside all others it fits in the slide
  pub to_slide : (a : ℕ) → Fits banks (without now place block) block.want a → FitsBeside banks old now block a
  to_slide a fits = record {
    open_ = record {
      free = fits.free;
      apart = λ k d within. absurd (omega arith);
      crossing = fits.crossing;
      aligned = fits.aligned;
      fixed = fits.fixed;
      bank = fits.bank;
      low = fits.low;
      special = fits.special;
    };
    stay = λ p none.
        let same : slot_at (without now place block) p ≡ slot_at old p = get_or-set_other now place p (holding (slot_at now place) (record block { at = None })) new_slot (not_here p none) ∙ slid.stay p none in
        subst (IsApart a block.want.size) same (apart_at a block.want.size (without now place block) fits.apart p);
    moved = λ p other is' below.
        let same : slot_at (without now place block) p ≡ slot_at now p = get_or-set_other now place p (holding (slot_at now place) (record block { at = None })) new_slot (not_below p other is' below) in
        subst (IsApart a block.want.size) same (apart_at a block.want.size (without now place block) fits.apart p);
  }

  -- and where it fits in the slide, not above where it lies, it fits beside all others
  pub from_slide : (a : ℕ) → a ≤ place_of block → FitsBeside banks old now block a → Fits banks (without now place block) block.want a
  from_slide a le fits = record {
    free = fits.open_.free;
    apart = all_at a block.want.size (without now place block) each;
    crossing = fits.open_.crossing;
    aligned = fits.open_.aligned;
    fixed = fits.open_.fixed;
    bank = fits.open_.bank;
    low = fits.open_.low;
    special = fits.open_.special;
  }
    where
      others : (p : ℕ) → p ≢ place → (o : Option Block) → movable_block (slot_at old p) ≡ o → IsApart a block.want.size (slot_at now p)
      others p ne None e = subst (IsApart a block.want.size) (sym (slid.stay p e)) (fits.stay p e)
      others p ne (Some other) e = elim (cases_lt (place_of other) limit) [
        | inl early ↦ fits.moved p other e (omega (arith, next.0))
        | inr late ↦ subst (IsApart a block.want.size) (sym (slid.wait p other e late)) (waiting p other e (next.1 p other e late) ne a le)
      ]

      each : (p : ℕ) → IsApart a block.want.size (slot_at (without now place block) p)
      each p = elim (cases_eq p place) [
        | inl same ↦ λ i from to held.
            let here : slot_at (without now place block) p ≡ holding (slot_at now place) (record block { at = None }) =
            ap (λ (n : ℕ). slot_at (without now place block) n) same ∙ get_or-set_same now place (holding (slot_at now place) (record block { at = None })) new_slot (subst (λ (n : ℕ). place < n) (sym slid.len) (inside old place block is)) in
            subst (HoldsByte i) here held
        | inr ne ↦ subst (IsApart a block.want.size) (sym (get_or-set_other now place p (holding (slot_at now place) (record block { at = None })) new_slot ne)) (others p ne (movable_block (slot_at old p)) refl)
      ]

  module _ (to : ℕ) (sinks : SinksTo banks now place block to) where
    -- where the block fits beside all others, the least such address isn't above where it lies
    pub sinks_low : to ≤ place_of block
    sinks_low = sinks.least (place_of block) (from_slide (place_of block) (omega arith) turn_present)

    sinks_least : (a : ℕ) → FitsBeside banks old now block a → to ≤ a
    sinks_least a fits = elim (cases_lt (place_of block) a) [
      | inl above ↦ omega (arith, sinks_low)
      | inr le ↦ sinks.least a (from_slide a le fits)
    ]

    after : Slots
    after = with_moved now place block to

    after_other : (p : ℕ) → p ≢ place → slot_at after p ≡ slot_at now p
    unfolding after
    after_other p ne = get_or-set_other now place p (holding (slot_at now place) (moved_to to block)) new_slot ne

    after_here : slot_at after place ≡ holding (slot_at old place) (moved_to to block)
    unfolding after
    after_here = get_or-set_same now place (holding (slot_at now place) (moved_to to block)) new_slot (subst (λ (n : ℕ). place < n) (sym slid.len) (inside old place block is))
        ∙ ap (λ (s : Slot Block). holding s (moved_to to block)) (slid.wait place block is next.0)

    after_len : length after ≡ length now
    unfolding after
    after_len = length-set now place (holding (slot_at now place) (moved_to to block))

    -- one block more is slid down once it went to the least address that fits beside all others
    next_slid : AreSlidTo banks old after (suc (place_of block))
    next_slid = record {
      len = after_len ∙ slid.len;
      stay = λ p none. after_other p (not_here p none) ∙ slid.stay p none;
      wait = λ p other is' late.
          let ne : p ≢ place = λ same. let one : other ≡ block = same_Some other block (sym is' ∙ ap (λ (n : ℕ). movable_block (slot_at old n)) same ∙ is) in absurd (omega (arith, ap place_of one)) in
          after_other p ne ∙ slid.wait p other is' (omega (arith, next.0));
      moved = record {
        goes = λ p other is' below. elim (cases_lt (place_of other) limit) [
          | inl early ↦ earlier p other is' early
          | inr late ↦ here p other is' (omega (arith, next.1 p other is' late))
        ];
      };
    }
      where
        below_same : (p : ℕ) (other : Block) → movable_block (slot_at old p) ≡ Some other → place_of other < place_of block → slot_at now p ≡ slot_at after p
        below_same p other is' below = sym (after_other p (not_below p other is' below))

        earlier : (p : ℕ) (other : Block) → movable_block (slot_at old p) ≡ Some other → place_of other < limit
            → (address : ℕ) × GoesBeside banks old after other address × (slot_at after p ≡ holding (slot_at old p) (moved_to address other))
        earlier p other is' early =
            let went = slid.moved.goes p other is' early in (
              went.0,
              record {
                fits = fits_there banks old now after other went.0 (λ q third is'' below. below_same q third is'' (omega (arith, next.0))) went.1.fits;
                least = λ a fits. went.1.least a (fits_there banks old after now other a (λ q third is'' below. sym (below_same q third is'' (omega (arith, next.0)))) fits);
              },
              after_other p (not_below p other is' (omega (arith, next.0))) ∙ went.2,
            )

        goes_here : (address : ℕ) × GoesBeside banks old after block address × (slot_at after place ≡ holding (slot_at old place) (moved_to address block))
        goes_here = (
          to,
          record {
            fits = fits_there banks old now after block to below_same (to_slide to sinks.fits);
            least = λ a fits. sinks_least a (fits_there banks old after now block a (λ q third is'' below. sym (below_same q third is'' below)) fits);
          },
          after_here,
        )

        here : (p : ℕ) (other : Block) → movable_block (slot_at old p) ≡ Some other → place_of other ≡ place_of block
            → (address : ℕ) × GoesBeside banks old after other address × (slot_at after p ≡ holding (slot_at old p) (moved_to address other))
        here p other is' at =
            let some = (settled.wants place block (mover_in (slot_at old place) block is).0).some in
            let some' = (settled.wants p other (mover_in (slot_at old p) other is').0).some in
            let same = apart.apart place p (place_of block) (has_bytes (slot_at old place) block is (place_of block) (omega arith) (omega arith))
            (has_bytes (slot_at old p) other is' (place_of block) (omega arith) (omega arith)) in
            let one : block ≡ other = same_Some block other (sym is ∙ ap (λ (n : ℕ). movable_block (slot_at old n)) same ∙ is') in
            subst (λ (n : ℕ). (address : ℕ) × GoesBeside banks old after other address × (slot_at after n ≡ holding (slot_at old n) (moved_to address other))) same
            (subst (λ (b : Block). (address : ℕ) × GoesBeside banks old after b address × (slot_at after place ≡ holding (slot_at old place) (moved_to address b))) one goes_here)

    pub slid_next : AreSlidTo banks old (with_moved now place block to) (suc (place_of block))
    unfolding after
    slid_next = next_slid

-- at first none is slid down, and at the end all are
pub slid_none : (banks : List ℕ) (old : Slots) → AreSlidTo banks old old 0
slid_none banks old = record {
  len = refl;
  stay = λ place none. refl;
  wait = λ place block is late. refl;
  moved = record { goes = λ place block is below. absurd (omega arith) };
}

pub slid_all : (banks : List ℕ) (old now : Slots) (limit : ℕ) → AreSlidTo banks old now limit
    → ((place : ℕ) (block : Block) → movable_block (slot_at old place) ≡ Some block → place_of block < limit) → Slides banks old now
slid_all banks old now limit slid all = record {
  len = slid.len;
  stay = slid.stay;
  goes = λ place block is. slid.moved.goes place block is (all place block is);
}
