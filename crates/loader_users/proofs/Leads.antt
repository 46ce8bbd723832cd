-- Where the entries of a user's tables lead.
use Rattle.std.proofs.Common.{◌≡◌, inl, inr, ℕ, zero, suc, true, ◌+◌, ◌-◌, ◌^◌, ◌<◌, ◌≤◌, List, [], ◌∷◌, length, Option, Some, IsSome, refl, subst, arith}
use Rattle.std.specs.Prelude.{slice_get}
use Rattle.std.specs.List.{AllByRecursion}
use Rattle.std.proofs.lemmas.Option.{slice_get_within}
use Rattle.omf_format.specs.File.{Segment, segment_at}
use Rattle.omf_io.specs.Files.{FileMap}
use Rattle.load_meaning.specs.declared.table.Target.{Target}
use Rattle.load_meaning.specs.laws.CellLaws.{loadable_has}
use Rattle.load_meaning.specs.LoadTable.{is_table, targets_of}
use Rattle.load_meaning.specs.Loadable.{IsOwnTarget, IsTarget}
use Rattle.loader_machine.specs.declared.seen.SegmentHead.{SegmentHead}
use Rattle.loader_machine.specs.Heads.{at_number}
use Rattle.loader_machine.specs.State.{Machine, first_id, user_of}
use Rattle.loader_machine.specs.Found.{HoldsLoad}
use Rattle.loader_agrees.specs.Agrees.{LoadedUser, Loaded, LeadsFar, Agrees, IsSound}
use Rattle.loader_agrees.specs.laws.Leading.{row_of}
use Rattle.loader_agrees.specs.laws.Seeing.{made_at}
use Rattle.loader_users.specs.Renewing.{Choice, is_chosen}

-- an entry of a table leads to a segment of the file itself, or to one of another file; an offset in a chosen one that is active fits 32 bits
pub data Leads (only : Choice) (address : Option ℕ) (segments : List Segment) (t : Target) : Type 0 where
  Own : IsOwnTarget segments t → Leads only address segments t
  Other : 2 ≤ t.file → t.file < 2 ^ 16 → t.segment < 2 ^ 16 → (is_chosen only t.file t.segment ≡ true → IsSome address → t.offset < 2 ^ 32) → Leads only address segments t

pub at_most : (heads : List SegmentHead) (n : ℕ) (g : SegmentHead) → at_number heads n ≡ Some g → n ≤ length heads
at_most heads zero g e = omega arith
at_most heads (suc m) g e = let inside = slice_get_within heads m g e in omega (arith, inside)

-- the numbers of an entry that leads to an attached user are small
module _ (held : FileMap) (loader : Loaded) (state : Machine) (agrees : Agrees held loader state) (sound : IsSound loader.memory loader.users) (id : ℕ) where
  pub far_file : (t : Target) → 2 ≤ t.file → LeadsFar loader.users id t → t.file < 2 ^ 16
  far_file t above leads =
      let row = row_of loader.users id t.file leads.other leads.named in
      let there = made_at loader.users id row.0 row.1 in
      let within = slice_get_within row.0.attached (t.file - 2) leads.other row.2 in
      omega (arith, above, within, agrees.attached.few (id - first_id) row.0 there.0)

  pub far_segment : (t : Target) → LeadsFar loader.users id t → t.segment < 2 ^ 16
  far_segment t leads =
      let there = made_at loader.users leads.other leads.kept leads.made in
      omega (arith, at_most leads.kept.heads t.segment leads.head leads.head', sound.short (leads.other - first_id) leads.kept there.0)

module _ (held : FileMap) (loader : Loaded) (state : Machine) (agrees : Agrees held loader state) (sound : IsSound loader.memory loader.users) (id : ℕ) (kept : LoadedUser) (made : user_of loader.users id ≡ Some kept)
    (only : Choice) (address : Option ℕ) (fits : (t : Target) → 2 ≤ t.file → LeadsFar loader.users id t → is_chosen only t.file t.segment ≡ true → IsSome address → t.offset < 2 ^ 32) where
  one_leads : (segments : List Segment) (t : Target) → (2 ≤ t.file → LeadsFar loader.users id t) → IsTarget segments t → Leads only address segments t
  one_leads segments t far (inl own) = Own own
  one_leads segments t far (inr other) =
      let leads = far other.beyond in
      Other other.beyond (far_file held loader state agrees sound id t other.beyond leads) (far_segment held loader state agrees sound id t leads) (fits t other.beyond leads)

  all_lead : (segments : List Segment) (ts : List Target) → ((k : ℕ) (t : Target) → slice_get ts k ≡ Some t → 2 ≤ t.file → LeadsFar loader.users id t) → AllByRecursion (IsTarget segments) ts → AllByRecursion (Leads only address segments) ts
  all_lead segments [] far all = tt
  all_lead segments (t ∷ ts) far all = (one_leads segments t (far 0 t refl) all.0, all_lead segments ts (λ k u is. far (suc k) u is) all.1)

  -- so it is in each table of a user that agrees
  pub entries_lead : (segments : List Segment) → HoldsLoad held kept.path segments → (number : ℕ) (s : Segment) → segment_at segments number ≡ Some s → is_table s ≡ true → AllByRecursion (Leads only address segments) (targets_of s)
  entries_lead segments holds number s is table =
      let there = made_at loader.users id kept made in
      all_lead segments (targets_of s) (λ k t found above. its t (agrees.entries (id - first_id) number k kept segments s t there.0 holds is table found above)) ((loadable_has holds.file segments holds.loadable number s is).table table).targets
    where
      its : (t : Target) → LeadsFar loader.users (first_id + (id - first_id)) t → LeadsFar loader.users id t
      its t leads = subst (λ (n : ℕ). LeadsFar loader.users n t) (made_at loader.users id kept made).1 leads
