use Rattle.std.proofs.Common.{◌≡◌, ℕ, length, sym, subst, ◌∙◌}
use Rattle.iigs_meaning.specs.Memory.{bytes_at}
use Rattle.loader_users.specs.Renewing.{relinked_entries}
use Rattle.loader_users.specs.Bytes.{with_bytes}
use Rattle.loader_users.proofs.Renewing.{renewed_here, same_active, same_idle, there_active, there_idle, its_room}
use Rattle.loader_users.proofs.renew.relink_table.Goals as goal

pub returns-in-Active : goal.returns-in-Active
returns-in-Active c =
    let slots = c.args.banks.now.slots in
    let is = sym c.presence.ensures ∙ c.in-Active.is in
    let handle = same_active slots c.args.table.now.handle c.in-Active.h c.in-Active.field-1 is in
    let room = its_room c.args.banks.now c.args.table.now.handle c.args.table.now.head.length c.in-Active.h (there_active slots c.args.table.now.handle c.in-Active.h c.in-Active.field-1 is) handle c.requires.room in
    renewed_here c.args.only c.args.place c.args.table.now.handle c.args.table.now.head.length c.args.banks.now c.relink_block.new.banks c.in-Active.h handle room
    (subst (λ (n : ℕ). length (relinked_entries c.args.only c.args.place n (bytes_at c.args.banks.now c.in-Active.h.slot)) ≡ length (bytes_at c.args.banks.now c.in-Active.h.slot)) c.entry_count-count.ensures c.relink_block.ensures.same)
    (subst (λ (n : ℕ). c.relink_block.new.banks ≡ with_bytes c.args.banks.now c.in-Active.h.slot (relinked_entries c.args.only c.args.place n (bytes_at c.args.banks.now c.in-Active.h.slot))) c.entry_count-count.ensures c.relink_block.ensures.written)

pub returns-in-Idle : goal.returns-in-Idle
returns-in-Idle c =
    let slots = c.args.banks.now.slots in
    let is = sym c.presence.ensures ∙ c.in-Idle.is in
    let handle = same_idle slots c.args.table.now.handle c.in-Idle.h c.in-Idle.field-1 is in
    let room = its_room c.args.banks.now c.args.table.now.handle c.args.table.now.head.length c.in-Idle.h (there_idle slots c.args.table.now.handle c.in-Idle.h c.in-Idle.field-1 is) handle c.requires.room in
    renewed_here c.args.only c.args.place c.args.table.now.handle c.args.table.now.head.length c.args.banks.now c.relink_block-in-Idle.new.banks c.in-Idle.h handle room
    (subst (λ (n : ℕ). length (relinked_entries c.args.only c.args.place n (bytes_at c.args.banks.now c.in-Idle.h.slot)) ≡ length (bytes_at c.args.banks.now c.in-Idle.h.slot)) c.entry_count-count.ensures c.relink_block-in-Idle.ensures.same)
    (subst (λ (n : ℕ). c.relink_block-in-Idle.new.banks ≡ with_bytes c.args.banks.now c.in-Idle.h.slot (relinked_entries c.args.only c.args.place n (bytes_at c.args.banks.now c.in-Idle.h.slot))) c.entry_count-count.ensures c.relink_block-in-Idle.ensures.written)
