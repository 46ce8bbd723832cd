-- Blocks are placed one after another, or one of them finds no room; so a program begins, or lacks room.
use Rattle.std.proofs.Common.{◌≡◌, ◌⊎◌, inl, inr, ℕ, suc, ◌≤◌, Bool, true, false, cond, eqb, List, [], ◌∷◌, length, map, count_by, Option, Some, None, IsSome, refl, ap, subst, arith}
use Rattle.std.specs.Prelude.{slice_set, max, nat_le}
use Rattle.std.specs.List.{AllByRecursion}
use Rattle.std.specs.Option.{option_map_or}
use Rattle.std.proofs.lemmas.Option.{same_Some}
use Rattle.std.proofs.lemmas.Bool.{cases_lt}
use Rattle.std.proofs.lemmas.List.{get_or-set_same, get_or-set_other}
use Rattle.std.proofs.lemmas.List.Quantifiers.{position-Some}
use Rattle.omf_format.specs.Header.{form_of, alignment_of}
use Rattle.omf_format.specs.File.{Segment}
use Rattle.iigs_meaning.specs.declared.handles.Handle.{Handle}
use Rattle.iigs_meaning.specs.declared.slots.Slot.{Slot}
use Rattle.iigs_meaning.specs.declared.slots.SlotContent.TheVariants.{Used}
use Rattle.iigs_meaning.specs.declared.wants.Want.{Want}
use Rattle.iigs_meaning.specs.declared.wants.Block.{Block}
use Rattle.iigs_meaning.specs.Slots.{slot_at, new_slot, is_free, new_handle, lowest_free, after_take}
use Rattle.iigs_meaning.specs.Fits.{Slots, IsWant, IsApart, HoldsByte, Fits}
use Rattle.iigs_meaning.specs.Puts.{LacksRoom, Puts, placed_block, PutsAll, LacksRoomAt}
use Rattle.iigs_meaning.specs.Blocks.{AreApart}
use Rattle.iigs_meaning.specs.Slide.{PurgesOrSlides, AreSettled}
use Rattle.iigs_places.specs.Extent.{extent}
use Rattle.iigs_places.proofs.Extents.{each_slot}
use Rattle.iigs_places.proofs.Stays.{apart_placed}
use Rattle.iigs_places.proofs.Takes.{some_handle}
use Rattle.iigs_compact_memory.proofs.Settled.{settled_take, fits_alone}
use Rattle.iigs_compact_memory.proofs.Several.{free_puts}
use Rattle.loader_machine.specs.Rule.{RoomRule}
use Rattle.loader_machine.specs.declared.seen.SegmentHead.{SegmentHead}
use Rattle.loader_machine.specs.declared.seen.Life.TheVariants.{Running}
use Rattle.loader_machine.specs.declared.faults.LoaderFault.TheVariants.{NoHandle, NoRoom}
use Rattle.loader_machine.specs.Heads.{head_of, is_static, want_of, wants_of, number_of}
use Rattle.loader_machine.specs.State.{User, Machine, handles_of}
use Rattle.loader_machine.specs.Commands.{Reply, Started, Refused}
use Rattle.loader_machine.specs.Steps.{held_of_heads, entry_of, NoSlots, Lacks, PutIn, Begins}
use Rattle.answers.proofs.Rooms.{room_or_none, IsRoomy, roomy}

-- ---- one block more

no_byte : (i : ℕ) → HoldsByte i new_slot → ⊥
no_byte i held = held

taken_apart : (banks : List ℕ) (room : Slots) (want : Want) (address user : ℕ) (locked : Bool) (level : ℕ) (movable : Bool) → AreApart banks room → Fits banks room want address
    → AreApart banks (after_take room (placed_block want address user locked level movable))
taken_apart banks room want address user locked level movable apart fits = by_place (lowest_free room) refl
  where
    slot_for : ℕ → Slot Block
    slot_for place = record { generation = (slot_at room place).generation; content = Used (placed_block want address user locked level movable) }

    by_place : (o : Option ℕ) → lowest_free room ≡ o → AreApart banks (option_map_or (λ place. slice_set room place (slot_for place)) o room)
    by_place None low = apart
    by_place (Some place) low =
        let found = position-Some is_free room place new_slot low in
        let here : slot_at (slice_set room place (slot_for place)) place ≡ slot_for place = get_or-set_same room place (slot_for place) new_slot found.0 in
        apart_placed banks room (slice_set room place (slot_for place)) place (address, want.size) apart
        (λ other ne. inr (ap extent (get_or-set_other room place other (slot_for place) new_slot ne)))
        (ap extent here)
        (λ i spans. fits.free i spans.0 spans.1)
        (λ other i ne spans held. each_slot (IsApart address want.size) room (λ j from to empty. no_byte j empty) fits.apart other i spans.0 spans.1 held)

taken_settled : (banks : List ℕ) (room : Slots) (want : Want) (address user : ℕ) (locked : Bool) (level : ℕ) (movable : Bool) → IsWant want → AreSettled banks room → Fits banks room want address
    → AreSettled banks (after_take room (placed_block want address user locked level movable))
taken_settled banks room want address user locked level movable is settled fits =
    settled_take banks room (placed_block want address user locked level movable) settled
    (record { want = is; fits = λ at lies. subst (λ (n : ℕ). Fits banks [] want n) (same_Some address at lies) (fits_alone banks room want address fits) })

-- ---- all of them

abbrev AllPlaced : List ℕ → ℕ → Slots → List Want → Type 0
AllPlaced banks user slots wants = ((handles : List Handle) × (last : Slots) × PutsAll PurgesOrSlides banks user slots wants handles last)
    ⊎ ((i : ℕ) × LacksRoomAt PurgesOrSlides banks user slots wants i)

all_placed : (banks : List ℕ) (user : ℕ) (wants : List Want) (slots : Slots) → AllByRecursion IsWant wants → AreApart banks slots → AreSettled banks slots → length wants ≤ count_by is_free slots
    → AllPlaced banks user slots wants
all_placed banks user [] slots are apart settled few = inl ([], slots, refl)
all_placed banks user (want ∷ wants) slots are apart settled few =
    by_handle (λ (next : Slots) apart' settled' few'. all_placed banks user wants next are.1 apart' settled' few') (new_handle slots) refl
    (room_or_none banks slots want apart settled are.0.some)
  where
    one_more : (next : Slots) (h : Handle) → Puts PurgesOrSlides banks slots want user true 0 false h next → AllPlaced banks user next wants → AllPlaced banks user slots (want ∷ wants)
    one_more next h puts (inl rest) = inl (h ∷ rest.0, rest.1, (next, puts, rest.2))
    one_more next h puts (inr lacks) = inr (
      suc lacks.0,
      record {
        want = lacks.1.want;
        is = lacks.1.is;
        handles = h ∷ lacks.1.handles;
        last = lacks.1.last;
        before = (next, puts, lacks.1.before);
        none = lacks.1.none;
      },
    )

    by_room : ((next : Slots) → AreApart banks next → AreSettled banks next → length wants ≤ count_by is_free next → AllPlaced banks user next wants) → (h : Handle) → new_handle slots ≡ Some h
        → ((address : ℕ) × (room : Slots) × PurgesOrSlides banks slots want address room) ⊎ LacksRoom PurgesOrSlides banks slots want → AllPlaced banks user slots (want ∷ wants)
    by_room later h is (inr lacks) = inr (0, record { want = want; is = refl; handles = []; last = slots; before = refl; none = lacks })
    by_room later h is (inl made) =
        let next = after_take made.1 (placed_block want made.0 user true 0 false) in
        let puts : Puts PurgesOrSlides banks slots want user true 0 false h next = record { address = made.0; room = made.1; makes = made.2; handle = is; next_is = refl } in
        let room : IsRoomy banks want made.0 made.1 = roomy banks slots want made.0 made.1 apart settled made.2 in
        one_more next h puts (later next (taken_apart banks made.1 want made.0 user true 0 false room.apart room.fits)
        (taken_settled banks made.1 want made.0 user true 0 false are.0 room.settled room.fits)
        (omega (arith, few, free_puts banks slots next want user h puts)))

    by_handle : ((next : Slots) → AreApart banks next → AreSettled banks next → length wants ≤ count_by is_free next → AllPlaced banks user next wants) → (o : Option Handle) → new_handle slots ≡ o
        → ((address : ℕ) × (room : Slots) × PurgesOrSlides banks slots want address room) ⊎ LacksRoom PurgesOrSlides banks slots want → AllPlaced banks user slots (want ∷ wants)
    by_handle later (Some h) is room = by_room later h is room
    by_handle later None is room = absurd (none_some (subst IsSome is (some_handle slots (λ none. omega (arith, few, none)))))
      where
        none_some : IsSome {T = Handle} None → ⊥
        none_some e = cc

-- ---- wants of segments

abbrev IsAlign : ℕ → Type 0
IsAlign n = (n ≡ 1) ⊎ (n ≡ 0x100) ⊎ (n ≡ 0x10000)

align_is : (align : ℕ) → IsAlign (alignment_of align)
align_is align = by_zero (eqb align 0) (nat_le align 0x100)
  where
    by_zero : (b c : Bool) → IsAlign (cond b 1 (cond c 0x100 0x10000))
    by_zero true c = inl refl
    by_zero false true = inr (inl refl)
    by_zero false false = inr (inr refl)

pub want_is : (head : SegmentHead) → IsWant (want_of head)
unfolding want_of
want_is head = by_form (eqb (form_of head.kind) 0x12) refl
  where
    by_form : (b : Bool) → eqb (form_of head.kind) 0x12 ≡ b → IsWant (want_of head)
    by_form true e = rw e (record {
      some = omega arith;
      align = elim (align_is head.align) [
        | inl one ↦ inr (inl (ap (λ (n : ℕ). max 0x100 n) one))
        | inr more ↦ elim more [ inl page ↦ inr (inl (ap (λ (n : ℕ). max 0x100 n) page)) | inr bank ↦ inr (inr (ap (λ (n : ℕ). max 0x100 n) bank)) ]
      ];
    })
    by_form false e = rw e (record { some = omega arith; align = align_is head.align })

wants_are : (heads : List SegmentHead) → AllByRecursion IsWant (wants_of heads)
wants_are [] = tt
wants_are (head ∷ heads) = by_test (is_static head) (wants_are heads)
  where
    by_test : (b : Bool) → AllByRecursion IsWant (wants_of heads) → AllByRecursion IsWant (cond b (want_of head ∷ wants_of heads) (wants_of heads))
    by_test true rest = (want_is head, rest)
    by_test false rest = rest

-- ---- a program begins, or lacks room

abbrev pub BeginAnswer : Machine → Slots → List ℕ → ℕ → List Segment → (User → List (Option User)) → Type 0
BeginAnswer state slots path id segments users = (reply : Reply) × (next : Machine) × Begins RoomRule state slots path id segments users reply next

pub begins_or_lacks : (state : Machine) (slots : Slots) (path : List ℕ) (id : ℕ) (segments : List Segment) (users : User → List (Option User)) → AreApart state.banks slots → AreSettled state.banks slots
    → BeginAnswer state slots path id segments users
begins_or_lacks state slots path id segments users apart settled = elim (cases_lt (count_by is_free slots) (length (wants_of (map head_of segments)))) [
  | inl few ↦ (Refused NoHandle, state, record { put = NoSlots; is_put = few; lands = (refl, refl) })
  | inr enough ↦ by_room enough (all_placed state.banks id (wants_of (map head_of segments)) slots (wants_are (map head_of segments)) apart settled enough)
]
  where
    by_room : length (wants_of (map head_of segments)) ≤ count_by is_free slots → AllPlaced state.banks id slots (wants_of (map head_of segments)) → BeginAnswer state slots path id segments users
    by_room enough (inr lacks) = (Refused (NoRoom (number_of 1 (map head_of segments) lacks.0)), state, record { put = Lacks lacks.0; is_put = (enough, lacks.1); lands = (refl, refl) })
    by_room enough (inl placed) =
        let user : User = record { path = path; life = Running; segments = held_of_heads (map head_of segments) placed.0; attached = [] } in (
          Started id (entry_of id placed.1 (map head_of segments) (handles_of user)),
          record { banks = state.banks; slots = placed.1; users = users user },
          record { put = PutIn placed.0 placed.1; is_put = (enough, placed.2); lands = (refl, refl) },
        )
