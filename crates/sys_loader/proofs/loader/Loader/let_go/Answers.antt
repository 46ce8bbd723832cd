use Rattle.std.proofs.Common.{◌≡◌, ℕ, ◌-◌, length, None, refl, sym, subst}
use Rattle.std.proofs.lemmas.List.{length-map}
use Rattle.iigs_meaning.specs.declared.handles.Handle.{Handle}
use Rattle.loader_machine.specs.State.{first_id}
use Rattle.loader_agrees.specs.Agrees.{Loaded}
use Rattle.loader_agrees.specs.laws.Seeing.{made_at}
use Rattle.loader_users.specs.View.{kept, loaded}
use Rattle.sys_loader.specs.Lives.{CanUnload, HasUnloaded}
use Rattle.sys_loader.proofs.Leading.{led_pair, lead_some, lead_is, renewed_by}
use Rattle.sys_loader.proofs.Unloading.{roomy, has_unloaded, unloaded_sound}
use Rattle.sys_loader.proofs.loader.Loader.let_go.Goals as goal

can_unload : (old now : Loaded) (id number : ℕ) (h : Handle) → old ≡ now → CanUnload now id number h → CanUnload old id number h
can_unload old now id number h same can = subst (λ (l : Loaded). CanUnload l id number h) (sym same) can

pub user_in-lead-requires : goal.user_in-lead-requires
user_in-lead-requires c =
    let old = loaded c.self.inside.banks c.self.inside.users.items in
    let can = can_unload old c.args.self.now c.args.user c.args.segment c.in_ok-h.h c.self.view_is c.in_ok-h.ensures.can in
    lead_some old c.args.user c.led_by-owner.result (led_pair old c.args.self.now c.args.user c.led_by-owner.result c.self.view_is c.led_by-owner.ensures) can.is.kept c.self.invariant.0 can.is.made

pub relink_tables-requires : goal.relink_tables-requires
relink_tables-requires c =
    let old = loaded c.self.inside.banks c.self.inside.users.items in
    let k = kept c.user_in-lead.result.now in
    record { ready = roomy old (c.led_by-owner.result.0 - first_id) k c.self.invariant.0 (made_at old.users c.led_by-owner.result.0 k c.user_in-lead.ensures).0 }

pub invariant_of-self : goal.invariant_of-self
invariant_of-self c =
    let old = loaded c.self.inside.banks c.self.inside.users.items in
    let k = kept c.user_in-lead.result.now in
    let items = c.user_in-lead.result.now.segments.items in
    let last = loaded c.idle.new.banks c.self.inside.users.items in
    let can = can_unload old c.args.self.now c.args.user c.args.segment c.in_ok-h.h c.self.view_is c.in_ok-h.ensures.can in
    let pair = led_pair old c.args.self.now c.args.user c.led_by-owner.result c.self.view_is c.led_by-owner.ensures in
    let did = has_unloaded old c.args.user c.args.segment c.in_ok-h.h can k (lead_is old c.args.user c.led_by-owner.result pair k c.user_in-lead.ensures) c.relink_tables.new.banks c.idle.new.banks last (length items)
    (sym (length-map items (λ s. s.head))) (renewed_by old c.args.user c.led_by-owner.result pair k.heads k.handles c.args.segment (length items) None c.self.inside.banks c.relink_tables.new.banks c.relink_tables.ensures) c.idle.ensures refl refl in
    (unloaded_sound old last c.args.user c.args.segment c.self.invariant.0 did, c.self.invariant.1)

pub returns : goal.returns
returns c =
    let old = loaded c.self.inside.banks c.self.inside.users.items in
    let k = kept c.user_in-lead.result.now in
    let items = c.user_in-lead.result.now.segments.items in
    let last = loaded c.idle.new.banks c.self.inside.users.items in
    let can = can_unload old c.args.self.now c.args.user c.args.segment c.in_ok-h.h c.self.view_is c.in_ok-h.ensures.can in
    let pair = led_pair old c.args.self.now c.args.user c.led_by-owner.result c.self.view_is c.led_by-owner.ensures in
    let did = has_unloaded old c.args.user c.args.segment c.in_ok-h.h can k (lead_is old c.args.user c.led_by-owner.result pair k c.user_in-lead.ensures) c.relink_tables.new.banks c.idle.new.banks last (length items)
    (sym (length-map items (λ s. s.head))) (renewed_by old c.args.user c.led_by-owner.result pair k.heads k.handles c.args.segment (length items) None c.self.inside.banks c.relink_tables.new.banks c.relink_tables.ensures) c.idle.ensures refl refl in
    record { did = subst (λ (l : Loaded). HasUnloaded l c.args.user c.args.segment last) c.self.view_is did }
