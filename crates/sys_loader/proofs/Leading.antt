-- The user whose tables lead to a user's segments, as it is looked up.
use Rattle.std.proofs.Common.{◌≡◌, ℕ, false, List, Option, Some, None, IsSome, sym, ap, subst, ◌∙◌, refl, arith}
use Rattle.std.specs.Prelude.{is_some}
use Rattle.std.specs.Option.{option_map_or}
use Rattle.iigs_meaning.specs.declared.handles.Handle.{Handle}
use Rattle.iigs_meaning.specs.Memory.{Memory}
use Rattle.loader_machine.specs.declared.seen.SegmentHead.{SegmentHead}
use Rattle.loader_machine.specs.State.{user_of, holder_of, attached_at, is_attached, led_by}
use Rattle.loader_agrees.specs.Agrees.{LoadedUser, Loaded, Outline, kept_outlines, AreAttached, IsSound}
use Rattle.loader_agrees.specs.laws.Leading.{Leading, Its, Holder, is_led}
use Rattle.loader_users.specs.Renewing.{AreRenewed}

-- what is reported for the one loader is so of the other
pub led_pair : (old now : Loaded) (id : ℕ) (pair : ℕ × ℕ) → old ≡ now → pair ≡ led_by (kept_outlines now.users) id → pair ≡ led_by (kept_outlines old.users) id
led_pair old now id pair same is = is ∙ ap (λ (l : Loaded). led_by (kept_outlines l.users) id) (sym same)

module _ (old : Loaded) (id : ℕ) (pair : ℕ × ℕ) (is : pair ≡ led_by (kept_outlines old.users) id) where
  pub lead_some : (kept : LoadedUser) → IsSound old.memory old.users → user_of old.users id ≡ Some kept → IsSome (user_of old.users pair.0)
  lead_some kept sound made =
      let led = is_led old.users id kept sound.attached made in
      let there : user_of old.users pair.0 ≡ Some led.lead = ap (λ (p : ℕ × ℕ). user_of old.users p.0) is ∙ led.made in
      rw there refl

  pub lead_is : (lead : LoadedUser) → user_of old.users pair.0 ≡ Some lead → user_of old.users (led_by (kept_outlines old.users) id).0 ≡ Some lead
  lead_is lead made = ap (λ (p : ℕ × ℕ). user_of old.users p.0) (sym is) ∙ made

  pub renewed_by : (heads : List SegmentHead) (handles : List (Option Handle)) (number count : ℕ) (address : Option ℕ) (before after : Memory) → AreRenewed heads handles (Some (pair.1, number)) address before after count
      → AreRenewed heads handles (Some ((led_by (kept_outlines old.users) id).1, number)) address before after count
  renewed_by heads handles number count address before after renewed = subst (λ (p : ℕ × ℕ). AreRenewed heads handles (Some (p.1, number)) address before after count) is renewed

-- a user that is attached to none leads itself, and no row names it
led_self : (outlines : List (Option Outline)) (id : ℕ) → is_attached outlines id ≡ false → led_by outlines id ≡ (id, 1)
led_self outlines id alone = go (holder_of outlines id) alone
  where
    go : (o : Option (ℕ × ℕ)) → is_some o ≡ false → option_map_or (λ (one : ℕ × ℕ). one) o (id, 1) ≡ (id, 1)
    go None e = refl
    go (Some one) e = absurd cc

pub no_row : (users : List (Option LoadedUser)) (id : ℕ) (kept : LoadedUser) → AreAttached users → user_of users id ≡ Some kept → is_attached (kept_outlines users) id ≡ false
    → (q f : ℕ) → attached_at (kept_outlines users) q f ≡ Some id → ⊥
no_row users id kept attached made alone = go (subst (λ (p : ℕ × ℕ). Leading users id p.0 p.1) (led_self (kept_outlines users) id alone) (is_led users id kept attached made).leading)
  where
    go : Leading users id id 1 → (q f : ℕ) → attached_at (kept_outlines users) q f ≡ Some id → ⊥
    go (Its same one none) = none
    go (Holder above apart there empty only) = absurd (omega (arith, above))
