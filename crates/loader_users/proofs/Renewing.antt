-- Tables whose entries follow, one by one.
use Rattle.std.proofs.Common.{◌≡◌, inl, inr, ℕ, Bool, true, false, ◌+◌, ◌≤◌, List, [], ◌∷◌, length, get_or, Option, Some, None, IsSome, refl, sym, ap, subst, ◌∙◌, arith}
use Rattle.std.specs.Prelude.{slice_set}
use Rattle.std.proofs.lemmas.Bool.{cases_eq, cases_lt}
use Rattle.std.proofs.lemmas.Option.{same_Some}
use Rattle.std.proofs.lemmas.List.{get_or-set_same, get_or-set_other}
use Rattle.std.proofs.Math.ListN.{get_or-eq_default}
use Rattle.load_meaning.specs.LoadTable.{entry_count}
use Rattle.iigs_meaning.specs.declared.handles.Handle.{Handle}
use Rattle.iigs_meaning.specs.declared.wants.Block.{Block}
use Rattle.iigs_meaning.specs.Slots.{get}
use Rattle.iigs_meaning.specs.Fits.{Slots}
use Rattle.iigs_meaning.specs.Memory.{Memory, bytes_at}
use Rattle.loader_machine.specs.declared.seen.SegmentHead.{SegmentHead}
use Rattle.loader_machine.specs.declared.seen.Presence.TheVariants.{Idle, Active}
use Rattle.loader_machine.specs.Heads.{at_number, is_table}
use Rattle.loader_machine.specs.Presences.{presence, there_at, handle_at, lies_in, lies_at}
use Rattle.loader_users.specs.Bytes.{with_bytes}
use Rattle.loader_users.specs.Renewing.{Choice, relinked_entries, IsRenewed, AreRoomy, AreRenewed}

-- ---- one table

-- the handle of a presence is the one that was asked for
pub same_active : (slots : Slots) (o : Option Handle) (h : Handle) (address : ℕ) → presence slots o ≡ Active h address → o ≡ Some h
same_active slots None h address is = absurd cc
same_active slots (Some k) h address is = go (get slots k) is
  where
    at_block : (at : Option ℕ) (locked : Bool) → lies_at k at locked ≡ Active h address → Some k ≡ Some h
    at_block None locked e = absurd cc
    at_block (Some a) true e = cc
    at_block (Some a) false e = absurd cc

    go : (b : Option Block) → lies_in k b ≡ Active h address → Some k ≡ Some h
    go None e = absurd cc
    go (Some block) e = at_block block.at block.locked e

pub same_idle : (slots : Slots) (o : Option Handle) (h : Handle) (address : ℕ) → presence slots o ≡ Idle h address → o ≡ Some h
same_idle slots None h address is = absurd cc
same_idle slots (Some k) h address is = go (get slots k) is
  where
    at_block : (at : Option ℕ) (locked : Bool) → lies_at k at locked ≡ Idle h address → Some k ≡ Some h
    at_block None locked e = absurd cc
    at_block (Some a) true e = absurd cc
    at_block (Some a) false e = cc

    go : (b : Option Block) → lies_in k b ≡ Idle h address → Some k ≡ Some h
    go None e = absurd cc
    go (Some block) e = at_block block.at block.locked e

pub there_active : (slots : Slots) (o : Option Handle) (h : Handle) (address : ℕ) → presence slots o ≡ Active h address → IsSome (there_at (presence slots o))
there_active slots o h address is = rw is refl

pub there_idle : (slots : Slots) (o : Option Handle) (h : Handle) (address : ℕ) → presence slots o ≡ Idle h address → IsSome (there_at (presence slots o))
there_idle slots o h address is = rw is refl

pub its_room : (memory : Memory) (o : Option Handle) (size : ℕ) (h : Handle) → IsSome (there_at (presence memory.slots o)) → o ≡ Some h
    → ((k : Handle) → o ≡ Some k → IsSome (there_at (presence memory.slots (Some k))) → size ≤ length (bytes_at memory k.slot)) → size ≤ length (bytes_at memory h.slot)
its_room memory o size h there is room = room h is (subst (λ (x : Option Handle). IsSome (there_at (presence memory.slots x))) is there)

-- its block is written
pub renewed_here : (only : Choice) (address : Option ℕ) (o : Option Handle) (size : ℕ) (old new : Memory) (h : Handle) → o ≡ Some h → size ≤ length (bytes_at old h.slot)
    → length (relinked_entries only address (entry_count size) (bytes_at old h.slot)) ≡ length (bytes_at old h.slot)
    → new ≡ with_bytes old h.slot (relinked_entries only address (entry_count size) (bytes_at old h.slot)) → IsRenewed only address o size old new
renewed_here only address o size old new h is room same new_is = record {
  banks = ap (λ (m : Memory). m.banks) new_is;
  slots = ap (λ (m : Memory). m.slots) new_is;
  follows = λ k found there.
      let one : k ≡ h = same_Some k h (sym found ∙ is) in
      ap (λ (x : Handle). bytes_at new x.slot) one ∙ written ∙ ap (λ (x : Handle). relinked_entries only address (entry_count size) (bytes_at old x.slot)) (sym one);
  stay = λ slot apart. ap (λ (m : Memory). bytes_at m slot) new_is ∙ get_or-set_other old.bytes h.slot slot content [] (λ e. apart h is (sym e));
  sizes = λ slot. elim (cases_eq slot h.slot) [
    | inl eq ↦ ap (λ (n : ℕ). length (bytes_at new n)) eq ∙ ap length written ∙ same ∙ ap (λ (n : ℕ). length (bytes_at old n)) (sym eq)
    | inr ne ↦ ap length (ap (λ (m : Memory). bytes_at m slot) new_is ∙ get_or-set_other old.bytes h.slot slot content [] ne)
  ];
}
  where
    content : List ℕ
    content = relinked_entries only address (entry_count size) (bytes_at old h.slot)

    written : bytes_at new h.slot ≡ relinked_entries only address (entry_count size) (bytes_at old h.slot)
    written = ap (λ (m : Memory). bytes_at m h.slot) new_is ∙ elim (cases_lt h.slot (length old.bytes)) [
      | inl lt ↦ get_or-set_same old.bytes h.slot (relinked_entries only address (entry_count size) (bytes_at old h.slot)) [] lt
      | inr le ↦ past le
    ]
      where
        past : length old.bytes ≤ h.slot → bytes_at (with_bytes old h.slot (relinked_entries only address (entry_count size) (bytes_at old h.slot))) h.slot ≡ relinked_entries only address (entry_count size) (bytes_at old h.slot)
        past le =
            let none : bytes_at old h.slot ≡ [] = get_or-eq_default old.bytes [] le in
            let zero' : length (relinked_entries only address (entry_count size) (bytes_at old h.slot)) ≡ 0 = same ∙ ap length none in
            no_bytes (slice_set old.bytes h.slot (relinked_entries only address (entry_count size) (bytes_at old h.slot))) (relinked_entries only address (entry_count size) (bytes_at old h.slot)) zero'
            (Rattle.std.proofs.lemmas.List.length-set old.bytes h.slot (relinked_entries only address (entry_count size) (bytes_at old h.slot))) le
          where
            no_bytes : (bs : List (List ℕ)) (w : List ℕ) → length w ≡ 0 → length bs ≡ length old.bytes → length old.bytes ≤ h.slot → get_or bs h.slot [] ≡ w
            no_bytes bs [] e same' le' = get_or-eq_default bs [] (omega (arith, same', le'))
            no_bytes bs (x ∷ w) e same' le' = absurd (omega (arith, e))

-- ---- one more

module _ (heads : List SegmentHead) (handles : List (Option Handle)) (only : Choice) (address : Option ℕ) (old now : Memory) (k : ℕ) (head : SegmentHead) (so_far : AreRenewed heads handles only address old now k)
    (has : at_number heads (k + 1) ≡ Some head) where
  pub tables_skip : is_table head ≡ false → AreRenewed heads handles only address old now (k + 1)
  tables_skip plain = record {
    banks = so_far.banks;
    slots = so_far.slots;
    follow = λ n g h le found is table there. elim (cases_eq n (k + 1)) [
      | inl last ↦ (let same : g ≡ head = same_Some g head (sym found ∙ ap (at_number heads) last ∙ has) in
          let clash : true ≡ false = sym table ∙ ap is_table same ∙ plain in absurd cc)
      | inr before ↦ so_far.follow n g h (omega (arith, le, before)) found is table there
    ];
    stay = λ slot apart. so_far.stay slot (λ n g h le found is table same. apart n g h (omega (arith, le)) found is table same);
    sizes = so_far.sizes;
  }

  module _ (o : Option Handle) (is_handle : handle_at handles (k + 1) ≡ o) (roomy : AreRoomy old heads handles) where
    -- it has room
    pub room_now : (h : Handle) → o ≡ Some h → IsSome (there_at (presence now.slots (Some h))) → head.length ≤ length (bytes_at now h.slot)
    room_now h is there =
        let there' : IsSome (there_at (presence old.slots (Some h))) = subst (λ (t : Slots). IsSome (there_at (presence t (Some h)))) so_far.slots there in
        omega (arith, roomy.each (k + 1) head h has (is_handle ∙ is) there', so_far.sizes h.slot)

    module _ (new : Memory) (table' : is_table head ≡ true) (one : IsRenewed only address o head.length now new) where
      pub tables_more : AreRenewed heads handles only address old new (k + 1)
      tables_more = record {
        banks = one.banks ∙ so_far.banks;
        slots = one.slots ∙ so_far.slots;
        follow = λ n g h le found is table there. elim (cases_eq n (k + 1)) [
          | inl last ↦ (
              let same : g ≡ head = same_Some g head (sym found ∙ ap (at_number heads) last ∙ has) in
              let it : o ≡ Some h = sym is_handle ∙ ap (handle_at handles) (sym last) ∙ is in
              let there' : IsSome (there_at (presence now.slots (Some h))) = subst (λ (t : Slots). IsSome (there_at (presence t (Some h)))) (sym so_far.slots) there in
              let before : bytes_at now h.slot ≡ bytes_at old h.slot = so_far.stay h.slot (λ m f j le' found' is' table'' slot. absurd (earlier m j h le' is' it slot)) in
              one.follows h it there' ∙ ap (λ (bs : List ℕ). relinked_entries only address (entry_count head.length) bs) before
              ∙ ap (λ (x : SegmentHead). relinked_entries only address (entry_count x.length) (bytes_at old h.slot)) (sym same))
          | inr before ↦ (
              let n_le : n ≤ k = omega (arith, le, before) in
              one.stay h.slot (λ j it slot. absurd (earlier n h j n_le is it (sym slot))) ∙ so_far.follow n g h n_le found is table there)
        ];
        stay = λ slot apart.
            one.stay slot (λ h it same. apart (k + 1) head h (omega arith) has (is_handle ∙ it) table' same)
            ∙ so_far.stay slot (λ n g h le found is table same. apart n g h (omega (arith, le)) found is table same);
        sizes = λ slot. one.sizes slot ∙ so_far.sizes slot;
      }
        where
          earlier : (m : ℕ) (j h : Handle) → m ≤ k → handle_at handles m ≡ Some j → o ≡ Some h → j.slot ≡ h.slot → ⊥
          earlier m j h le is it slot = let same = roomy.once m (k + 1) j h is (is_handle ∙ it) slot in omega (arith, le, same)
