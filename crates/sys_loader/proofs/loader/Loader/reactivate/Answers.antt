use Rattle.std.proofs.Common.{◌-◌, length, Some, refl, sym, ap, subst, ◌∙◌}
use Rattle.std.proofs.lemmas.List.{length-map}
use Rattle.loader_machine.specs.State.{first_id}
use Rattle.loader_machine.specs.Presences.{presence}
use Rattle.loader_machine.specs.Steps.{active_block}
use Rattle.loader_agrees.specs.Agrees.{Loaded}
use Rattle.loader_agrees.specs.laws.Seeing.{made_at}
use Rattle.loader_agrees.specs.laws.Leading.{is_led}
use Rattle.loader_users.specs.View.{kept, loaded}
use Rattle.sys_loader.specs.Lives.{HasTurned}
use Rattle.sys_loader.proofs.Unloading.{roomy}
use Rattle.loader_users.proofs.Shifting.{shifted_sound}
use Rattle.sys_loader.proofs.Activated.{wakes}
use Rattle.sys_loader.proofs.Leading.{led_pair, lead_some, lead_is, renewed_by}
use Rattle.sys_loader.proofs.Waking.{can_load, has_woken, idle_there}
use Rattle.sys_loader.proofs.loader.Loader.reactivate.Goals as goal

pub user_in-lead-requires : goal.user_in-lead-requires
user_in-lead-requires c =
    let old = loaded c.self.inside.banks c.self.inside.users.items in
    let can = can_load old c.args.self.now c.args.user c.args.number c.requires.can.0 (Some c.args.h) c.self.view_is c.requires.can.1 in
    lead_some old c.args.user c.led_by-owner.result (led_pair old c.args.self.now c.args.user c.led_by-owner.result c.self.view_is c.led_by-owner.ensures) can.kept c.self.invariant.0 can.made

pub relink_tables-requires : goal.relink_tables-requires
relink_tables-requires c =
    let old = loaded c.self.inside.banks c.self.inside.users.items in
    let k = kept c.user_in-lead.result.now in
    record { ready = roomy old (c.led_by-owner.result.0 - first_id) k c.self.invariant.0 (made_at old.users c.led_by-owner.result.0 k c.user_in-lead.ensures).0 }

pub activate-requires : goal.activate-requires
activate-requires c =
    idle_there c.self.inside.banks.slots c.relink_tables.new.banks.slots c.args.h c.args.address c.relink_tables.ensures.slots
    (ap (λ (l : Loaded). presence l.memory.slots (Some c.args.h)) c.self.view_is ∙ c.requires.idle)

pub invariant_of-self : goal.invariant_of-self
invariant_of-self c =
    let old = loaded c.self.inside.banks c.self.inside.users.items in
    let k = kept c.user_in-lead.result.now in
    let items = c.user_in-lead.result.now.segments.items in
    let last = loaded c.activate.new.banks c.self.inside.users.items in
    let can = can_load old c.args.self.now c.args.user c.args.number c.requires.can.0 (Some c.args.h) c.self.view_is c.requires.can.1 in
    let pair = led_pair old c.args.self.now c.args.user c.led_by-owner.result c.self.view_is c.led_by-owner.ensures in
    let turned = has_woken old c.args.user c.args.number c.args.h c.args.address k (lead_is old c.args.user c.led_by-owner.result pair k c.user_in-lead.ensures) c.relink_tables.new.banks c.activate.new.banks last (length items)
    (sym (length-map items (λ s. s.head))) (renewed_by old c.args.user c.led_by-owner.result pair k.heads k.handles c.args.number (length items) (Some c.args.address) c.self.inside.banks c.relink_tables.new.banks c.relink_tables.ensures) c.activate.ensures refl refl in
    let led = is_led old.users c.args.user can.kept c.self.invariant.0.attached can.made in (
      shifted_sound old last c.args.user c.args.number _ _ can.kept turned.lead c.args.h active_block (Some c.args.address) c.requires.can.0 c.self.invariant.0
          led.leading turned.leads led.alone can.made can.head' can.handle' can.dynamic wakes turned.shifted can.runs,
      c.self.invariant.1,
    )

pub returns : goal.returns
returns c =
    let old = loaded c.self.inside.banks c.self.inside.users.items in
    let k = kept c.user_in-lead.result.now in
    let items = c.user_in-lead.result.now.segments.items in
    let last = loaded c.activate.new.banks c.self.inside.users.items in
    let pair = led_pair old c.args.self.now c.args.user c.led_by-owner.result c.self.view_is c.led_by-owner.ensures in
    let turned = has_woken old c.args.user c.args.number c.args.h c.args.address k (lead_is old c.args.user c.led_by-owner.result pair k c.user_in-lead.ensures) c.relink_tables.new.banks c.activate.new.banks last (length items)
    (sym (length-map items (λ s. s.head))) (renewed_by old c.args.user c.led_by-owner.result pair k.heads k.handles c.args.number (length items) (Some c.args.address) c.self.inside.banks c.relink_tables.new.banks c.relink_tables.ensures) c.activate.ensures refl refl in
    subst (λ (l : Loaded). HasTurned l c.args.user c.args.number c.args.h active_block (Some c.args.address) last) c.self.view_is turned
