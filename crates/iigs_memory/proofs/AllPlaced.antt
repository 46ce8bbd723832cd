-- What is left once several blocks were placed.
use Rattle.std.proofs.Common.{◌≡◌, ℕ, Bool, ◌≤◌, List, map, length, count_by, refl, sym, ◌∙◌}
use Rattle.iigs_meaning.specs.declared.slots.Slot.{Slot}
use Rattle.iigs_meaning.specs.declared.wants.Want.{Want}
use Rattle.iigs_meaning.specs.declared.wants.Block.{Block}
use Rattle.iigs_meaning.specs.Slots.{slot_at, is_free}
use Rattle.iigs_meaning.specs.Puts.{Purges, slots_for}
use Rattle.iigs_meaning.specs.Memory.{AreAllPlaced}
use Rattle.iigs_memory.specs.Store.{IsStore, memory_of}
use Rattle.iigs_places.specs.declared.table.PlacedBlock.{PlacedBlock}
use Rattle.iigs_places.specs.Alls.{handle_of, AllPut}
use Rattle.iigs_memory.specs.Cleared.{FitIn, with_zeroed_blocks}
use Rattle.iigs_memory.proofs.Keeps.{bytes_at_is}
use Rattle.iigs_memory.proofs.Stores.{stays_bytes}
use Rattle.iigs_places.proofs.Starts.{start_stays}
use Rattle.iigs_places.proofs.Alls.{stays_on}
use Rattle.iigs_memory.proofs.Cleared.{length-cleared, cleared_other, cleared_zeros, all_fit, as_many, not_among}

module _ (banks buffer : List ℕ) (old now : List (Slot Block)) (made : ℕ) (store : IsStore banks buffer made)
    (user : ℕ) (fresh : Bool) (wants : List Want) (puts : List PlacedBlock) (all : AllPut banks user (slots_for old user fresh) wants puts now) where
  pub all_lengths : length wants ≡ length puts
  all_lengths = as_many user now wants puts all.blocks

  pub all_inside : FitIn banks (length buffer) wants puts
  all_inside = all_fit banks user now all.bounded all.sound wants puts buffer store.room all.blocks

  pub all_store : (made' : ℕ) → 4096 ≤ made' → IsStore banks (with_zeroed_blocks banks wants puts buffer) made'
  all_store made' m = record {
    room = rw (length-cleared banks user now all.bounded all.sound wants puts buffer store.room all.blocks) store.room;
    made_room = m;
  }

  pub all_placed : length wants ≤ count_by is_free (slots_for old user fresh)
      → AreAllPlaced Purges (memory_of banks old buffer) user fresh wants (map handle_of puts) (memory_of banks now (with_zeroed_blocks banks wants puts buffer))
  all_placed enough = record {
    enough = enough;
    puts = all.places;
    zeros = λ i want h is at. bytes_at_is banks (with_zeroed_blocks banks wants puts buffer) now h.slot
        ∙ cleared_zeros banks user now all.bounded all.sound wants puts buffer store.room all.blocks i want h is at;
    kept = record {
      banks = refl;
      bytes = λ place out there. let not = not_among puts place out in
          bytes_at_is banks (with_zeroed_blocks banks wants puts buffer) now place
          ∙ cleared_other banks user now all.bounded all.sound wants puts buffer store.room all.blocks place not
          ∙ stays_bytes banks buffer (slot_at old place) (slot_at now place)
          (stays_on (slot_at old place) (slot_at (slots_for old user fresh) place) (slot_at now place) (start_stays old user fresh place) (all.others place not)) there
          ∙ sym (bytes_at_is banks buffer old place);
    };
  }
