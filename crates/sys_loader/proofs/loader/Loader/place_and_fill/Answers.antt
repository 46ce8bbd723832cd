use Rattle.std.proofs.Common.{◌≡◌, ℕ, ◌-◌, List, length, Some, refl, sym, ap, subst, ◌∙◌, arith}
use Rattle.std.proofs.lemmas.List.{length-map}
use Rattle.std.proofs.lemmas.Option.{same_Some}
use Rattle.loader_machine.specs.Heads.{head_of, at_number}
use Rattle.loader_machine.specs.declared.seen.SegmentHead.{SegmentHead}
use Rattle.loader_machine.specs.State.{first_id, user_of}
use Rattle.loader_machine.specs.Presences.{presence, there_at}
use Rattle.loader_machine.specs.Needs.{is_read}
use Rattle.loader_agrees.specs.Agrees.{LoadedUser, Loaded}
use Rattle.loader_agrees.specs.laws.Seeing.{made_at}
use Rattle.loader_users.specs.View.{kept, loaded}
use Rattle.loader_users.specs.Filling.{HasHead, IsWritten}
use Rattle.sys_loader.specs.Activating.{HasCome}
use Rattle.sys_loader.proofs.Leading.{led_pair, lead_some, lead_is, renewed_by}
use Rattle.loader_users.proofs.Settling.{are_sound}
use Rattle.sys_loader.proofs.Waking.{can_load, one_kept, gone_empty}
use Rattle.sys_loader.proofs.Came.{dynamic_plain, came_sound}
use Rattle.sys_loader.proofs.Brought.{block_there, block_fits, number_inside, has_head, roomy_filled, has_come}
use Rattle.sys_loader.proofs.loader.Loader.place_and_fill.Goals as goal

pub place_segment-requires : goal.place_segment-requires
place_segment-requires c =
    let old = loaded c.self.inside.banks c.self.inside.users.items in
    let s = c.args.segment.now in
    record {
      empty = gone_empty old c.args.user c.args.number s.head s.handle c.self.invariant.0 (can_load old c.args.self.now c.args.user c.args.number s.head s.handle c.self.view_is c.requires.can)
          (ap (λ (l : Loaded). is_read (presence l.memory.slots s.handle)) c.self.view_is ∙ c.requires.gone);
    }

pub user_in-found-requires : goal.user_in-found-requires
user_in-found-requires c =
    let old = loaded c.self.inside.banks c.self.inside.users.items in
    let s = c.args.segment.now in
    let can = can_load old c.args.self.now c.args.user c.args.number s.head s.handle c.self.view_is c.requires.can in
    rw can.made refl

pub set_places-requires-clause-short : goal.set_places-requires-clause-short
set_places-requires-clause-short c =
    let old = loaded c.self.inside.banks c.self.inside.users.items in
    let found = c.user_in-found.result.now in
    omega (arith, length-map found.segments.items (λ s. s.head), c.self.invariant.0.short (c.args.user - first_id) (kept found) (made_at old.users c.args.user (kept found) c.user_in-found.ensures).0)

pub set_places-requires-clause-room : goal.set_places-requires-clause-room
set_places-requires-clause-room c =
    let found = c.user_in-found.result.now in
    let made = subst (λ (l : Loaded). user_of l.users c.args.user ≡ Some (kept found)) c.self.view_is c.user_in-found.ensures in
    omega (arith, c.requires.room, length-map found.segments.items (λ s. s.head), length-map c.args.load.now head_of, ap length (c.requires.same (kept found) made))

pub set-requires : goal.set-requires
set-requires c =
    let old = loaded c.self.inside.banks c.self.inside.users.items in
    let s = c.args.segment.now in
    let found = c.user_in-found.result.now in
    let can = can_load old c.args.self.now c.args.user c.args.number s.head s.handle c.self.view_is c.requires.can in
    let brought = c.in_ok-h.ensures.brought in
    let inside = number_inside old c.args.user c.args.number c.self.invariant.0 s.head s.handle can c.in_ok-h.h brought.0 c.place_segment.new.banks brought.1 (kept found) c.user_in-found.ensures in
    record {
      first = omega (arith, inside.0);
      within = omega (arith, inside.1, length-map found.segments.items (λ s. s.head), ap length c.set_places.ensures, length-map found.segments.items (λ s. there_at (presence c.place_segment.new.banks.slots s.handle)));
    }

pub fill_block-requires-clause-sound : goal.fill_block-requires-clause-sound
fill_block-requires-clause-sound c = are_sound c.requires.taken.0 c.args.load.now c.requires.taken.1

pub fill_block-requires-clause-head : goal.fill_block-requires-clause-head
fill_block-requires-clause-head c =
    let old = loaded c.self.inside.banks c.self.inside.users.items in
    let s = c.args.segment.now in
    let found = c.user_in-found.result.now in
    let can = can_load old c.args.self.now c.args.user c.args.number s.head s.handle c.self.view_is c.requires.can in
    let brought = c.in_ok-h.ensures.brought in
    let made = subst (λ (l : Loaded). user_of l.users c.args.user ≡ Some (kept found)) c.self.view_is c.user_in-found.ensures in
    subst (λ (n : ℕ). HasHead c.args.load.now n s.head) (sym c.from-2.ensures)
    (has_head old c.args.user c.args.number c.self.invariant.0 s.head s.handle can c.in_ok-h.h brought.0 c.place_segment.new.banks brought.1 (kept found) c.user_in-found.ensures
    c.args.load.now (c.requires.same (kept found) made))

pub fill_block-requires-clause-there : goal.fill_block-requires-clause-there
fill_block-requires-clause-there c =
    let old = loaded c.self.inside.banks c.self.inside.users.items in
    let s = c.args.segment.now in
    let can = can_load old c.args.self.now c.args.user c.args.number s.head s.handle c.self.view_is c.requires.can in
    let brought = c.in_ok-h.ensures.brought in
    block_there old c.args.user c.args.number c.self.invariant.0 s.head s.handle can c.in_ok-h.h brought.0 c.place_segment.new.banks brought.1

pub fill_block-requires-clause-fits : goal.fill_block-requires-clause-fits
fill_block-requires-clause-fits c =
    let old = loaded c.self.inside.banks c.self.inside.users.items in
    let s = c.args.segment.now in
    let can = can_load old c.args.self.now c.args.user c.args.number s.head s.handle c.self.view_is c.requires.can in
    let brought = c.in_ok-h.ensures.brought in
    block_fits old c.args.user c.args.number c.self.invariant.0 s.head s.handle can c.in_ok-h.h brought.0 c.place_segment.new.banks brought.1

pub user_in-lead-requires : goal.user_in-lead-requires
user_in-lead-requires c =
    let old = loaded c.self.inside.banks c.self.inside.users.items in
    let s = c.args.segment.now in
    let can = can_load old c.args.self.now c.args.user c.args.number s.head s.handle c.self.view_is c.requires.can in
    lead_some old c.args.user c.led_by-owner.result (led_pair old c.args.self.now c.args.user c.led_by-owner.result c.self.view_is c.led_by-owner.ensures) can.kept c.self.invariant.0 can.made

pub relink_tables-requires : goal.relink_tables-requires
relink_tables-requires c =
    let old = loaded c.self.inside.banks c.self.inside.users.items in
    let s = c.args.segment.now in
    let found = c.user_in-found.result.now in
    let can = can_load old c.args.self.now c.args.user c.args.number s.head s.handle c.self.view_is c.requires.can in
    let brought = c.in_ok-h.ensures.brought in
    record {
      ready = roomy_filled old c.args.user c.args.number c.self.invariant.0 s.head s.handle can c.in_ok-h.h brought.0 c.place_segment.new.banks brought.1 (kept found) c.user_in-found.ensures
          c.args.load.now c.set.new.self c.fill_block.new.banks
          (subst (λ (n : ℕ). IsWritten c.args.load.now n c.args.user c.set.new.self c.place_segment.new.banks c.in_ok-h.h c.fill_block.new.banks) c.from-2.ensures c.fill_block.ensures)
          c.led_by-owner.result.0 (kept c.user_in-lead.result.now) c.user_in-lead.ensures;
    }

pub set_handle-requires : goal.set_handle-requires
set_handle-requires c =
    let old = loaded c.self.inside.banks c.self.inside.users.items in
    let s = c.args.segment.now in
    let can = can_load old c.args.self.now c.args.user c.args.number s.head s.handle c.self.view_is c.requires.can in
    let brought = c.in_ok-h.ensures.brought in
    record {
      made = rw can.made refl;
      inside = λ k made. number_inside old c.args.user c.args.number c.self.invariant.0 s.head s.handle can c.in_ok-h.h brought.0 c.place_segment.new.banks brought.1 k made;
    }

pub invariant_of-self-2 : goal.invariant_of-self-2
invariant_of-self-2 c =
    let old = loaded c.self.inside.banks c.self.inside.users.items in
    let last = loaded c.relink_tables.new.banks c.set_handle.new.users.items in
    let s = c.args.segment.now in
    let items = c.user_in-found.result.now.segments.items in
    let k = kept c.user_in-found.result.now in
    let can = can_load old c.args.self.now c.args.user c.args.number s.head s.handle c.self.view_is c.requires.can in
    let lead_items = c.user_in-lead.result.now.segments.items in
    let lead = kept c.user_in-lead.result.now in
    let pair = led_pair old c.args.self.now c.args.user c.led_by-owner.result c.self.view_is c.led_by-owner.ensures in
    let same : k ≡ can.kept = same_Some k can.kept (sym c.user_in-found.ensures ∙ can.made) in
    let made = subst (λ (l : Loaded). user_of l.users c.args.user ≡ Some k) c.self.view_is c.user_in-found.ensures in
    let did = has_come old c.args.user c.args.number c.self.invariant.0 s.head s.handle can c.in_ok-h.h c.place_segment.new.banks c.in_ok-h.ensures.brought c.place_of-address.result c.place_of-address.ensures
    k c.user_in-found.ensures last items c.requires.taken.0 c.args.load.now c.set_places.new.places c.set.new.self c.from.result c.from-2.result c.fill_block.new.banks c.relink_tables.new.banks
    (length lead_items) lead (lead_is old c.args.user c.led_by-owner.result pair lead c.user_in-lead.ensures) (sym (length-map lead_items (λ s. s.head))) refl
    c.requires.taken.1 (c.requires.same k made) c.set_places.ensures c.from.ensures c.set.ensures c.from-2.ensures c.fill_block.ensures (renewed_by old c.args.user c.led_by-owner.result pair lead.heads lead.handles c.args.number (length lead_items) (Some c.place_of-address.result) c.fill_block.new.banks c.relink_tables.new.banks c.relink_tables.ensures) refl (c.set_handle.ensures.set k c.user_in-found.ensures) in (
      came_sound old last c.args.user c.args.number s.head s.handle c.args.load.now c.place_of-address.result c.self.invariant.0 can
          (ap (λ (l : Loaded). is_read (presence l.memory.slots s.handle)) c.self.view_is ∙ c.requires.gone)
          (dynamic_plain c.requires.taken.0 c.args.load.now c.requires.taken.1 c.args.number s.head
          (ap (λ (hs : List SegmentHead). at_number hs c.args.number) (c.requires.same k made ∙ ap (λ (x : LoadedUser). x.heads) same) ∙ can.head') can.dynamic)
          (subst (λ (x : LoadedUser). HasCome old c.args.user c.args.number x s.head s.handle c.args.load.now c.place_of-address.result last) same did),
      omega (arith, c.self.invariant.1, c.set_handle.ensures.room),
    )

pub returns-clause-come : goal.returns-clause-come
returns-clause-come c = λ k made.
    let old = loaded c.self.inside.banks c.self.inside.users.items in
    let last = loaded c.relink_tables.new.banks c.set_handle.new.users.items in
    let s = c.args.segment.now in
    let found = kept c.user_in-found.result.now in
    let items = c.user_in-found.result.now.segments.items in
    let can = can_load old c.args.self.now c.args.user c.args.number s.head s.handle c.self.view_is c.requires.can in
    let same = one_kept old c.args.self.now c.args.user found k c.self.view_is c.user_in-found.ensures made in
    let lead_items = c.user_in-lead.result.now.segments.items in
    let lead = kept c.user_in-lead.result.now in
    let pair = led_pair old c.args.self.now c.args.user c.led_by-owner.result c.self.view_is c.led_by-owner.ensures in
    let made_found = subst (λ (l : Loaded). user_of l.users c.args.user ≡ Some found) c.self.view_is c.user_in-found.ensures in
    let did = has_come old c.args.user c.args.number c.self.invariant.0 s.head s.handle can c.in_ok-h.h c.place_segment.new.banks c.in_ok-h.ensures.brought c.place_of-address.result c.place_of-address.ensures
    found c.user_in-found.ensures last items c.requires.taken.0 c.args.load.now c.set_places.new.places c.set.new.self c.from.result c.from-2.result c.fill_block.new.banks c.relink_tables.new.banks
    (length lead_items) lead (lead_is old c.args.user c.led_by-owner.result pair lead c.user_in-lead.ensures) (sym (length-map lead_items (λ s. s.head))) refl
    c.requires.taken.1 (c.requires.same found made_found) c.set_places.ensures c.from.ensures c.set.ensures c.from-2.ensures c.fill_block.ensures (renewed_by old c.args.user c.led_by-owner.result pair lead.heads lead.handles c.args.number (length lead_items) (Some c.place_of-address.result) c.fill_block.new.banks c.relink_tables.new.banks c.relink_tables.ensures) refl (c.set_handle.ensures.set found c.user_in-found.ensures) in
    subst (λ (l : Loaded). HasCome l c.args.user c.args.number k s.head s.handle c.args.load.now c.place_of-address.result last) c.self.view_is
    (subst (λ (x : LoadedUser). HasCome old c.args.user c.args.number x s.head s.handle c.args.load.now c.place_of-address.result last) same did)
