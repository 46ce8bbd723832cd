-- What no number of purges up to one lets a slide make room for.
use Rattle.std.proofs.Common.{◌≡◌, inl, inr, ℕ, Bool, true, false, cond, ◌&&◌, ◌≤◌, nat_lt, List, length, All, None, refl, sym, subst, ◌∙◌, arith}
use Rattle.std.proofs.lemmas.Bool.{cases_lt}
use Rattle.std.proofs.lemmas.Bool.Decides.{nat_tests}
use Rattle.std.proofs.lemmas.List.{get_or_past}
use Rattle.iigs_meaning.specs.declared.slots.Slot.{Slot}
use Rattle.iigs_meaning.specs.declared.slots.SlotContent.{SlotContent}
use Rattle.iigs_meaning.specs.declared.slots.SlotContent.TheVariants.{Free, Used, Retired}
use Rattle.iigs_meaning.specs.declared.wants.Want.{Want}
use Rattle.iigs_meaning.specs.declared.wants.Block.{Block}
use Rattle.iigs_meaning.specs.Slots.{slot_at, new_slot}
use Rattle.iigs_meaning.specs.Fits.{Slots, HoldsByte, IsApart}
use Rattle.iigs_meaning.specs.Placement.{can_purge, emptied_where, slots_after_purges, is_gone, rank}
use Rattle.iigs_meaning.specs.Blocks.{AreApart}
use Rattle.iigs_meaning.specs.Slide.{AreSettled}
use Rattle.iigs_places.specs.Fixed.{NeverFits}
use Rattle.iigs_places.proofs.Stays.{slot_at-map, apart_stays}
use Rattle.iigs_places.proofs.Puts.{gone_stays}
use Rattle.iigs_compact_memory.specs.Needs.{NoneAfter}
use Rattle.iigs_compact_memory.proofs.Settled.{settled_emptied}

-- a block that is there once `count` blocks are purged is the same with fewer purged
same_fewer : (slots : Slots) (count fewer place address : ℕ) → fewer ≤ count → HoldsByte address (slot_at (slots_after_purges slots count) place) → slot_at (slots_after_purges slots fewer) place ≡ slot_at (slots_after_purges slots count) place
unfolding slots_after_purges is_gone
same_fewer slots count fewer place address le holds =
    slot_at-map (emptied_where (is_gone slots fewer)) slots place refl ∙ go (slot_at slots place).generation (slot_at slots place).content
    (subst (HoldsByte address) (slot_at-map (emptied_where (is_gone slots count)) slots place refl) holds) ∙ sym (slot_at-map (emptied_where (is_gone slots count)) slots place refl)
  where
    less : (a : Bool) (n : ℕ) → (a && nat_lt n count) ≡ false → (a && nat_lt n fewer) ≡ false
    less false n e = refl
    less true n e = grind (arith, nat_tests)

    used : (generation : ℕ) (block : Block) (b : Bool) → is_gone slots count block ≡ b
        → HoldsByte address (cond b (record { generation = generation; content = Used (record block { at = None }) }) (record { generation = generation; content = Used block }))
        → cond {A = Slot Block} (is_gone slots fewer block) (record { generation = generation; content = Used (record block { at = None }) }) (record { generation = generation; content = Used block })
        ≡ cond b (record { generation = generation; content = Used (record block { at = None }) }) (record { generation = generation; content = Used block })
    used generation block true e there = absurd there
    used generation block false e there = rw (less (can_purge block) (rank slots block) e) refl

    go : (generation : ℕ) (content : SlotContent Block) → HoldsByte address (emptied_where (is_gone slots count) (record { generation = generation; content = content }))
        → emptied_where (is_gone slots fewer) (record { generation = generation; content = content }) ≡ emptied_where (is_gone slots count) (record { generation = generation; content = content })
    go generation Free there = refl
    go generation Retired there = refl
    go generation (Used block) there = used generation block (is_gone slots count block) refl there

pub apart_at : (address size : ℕ) (slots : Slots) → All (IsApart address size) slots → (place : ℕ) → IsApart address size (slot_at slots place)
apart_at address size slots all place = elim (cases_lt place (length slots)) [
  | inl within ↦ all place new_slot within
  | inr past ↦ λ i from to held. subst (HoldsByte i) (get_or_past slots place new_slot past) held
]

-- where no slide makes room for a want once `count` blocks are purged, whatever other blocks are there too, none does with fewer purged
pub none_fewer : (banks : List ℕ) (slots : Slots) (want : Want) (count : ℕ) → AreApart banks slots → AreSettled banks slots → NeverFits banks (slots_after_purges slots count) want
    → (fewer : ℕ) → fewer ≤ count → NoneAfter banks slots want fewer
none_fewer banks slots want count apart settled never fewer le room slides address fits = never (slots_after_purges slots fewer) room
    (apart_stays banks slots (slots_after_purges slots fewer) apart (gone_stays slots fewer)) (settled_emptied banks slots fewer settled)
    (λ place i holds. same_fewer slots count fewer place i le holds) slides address fits
