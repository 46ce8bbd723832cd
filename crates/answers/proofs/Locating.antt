-- Where an address lies, and what a JSL does.
use Rattle.std.proofs.Common.{◌≡◌, ◌⊎◌, inl, inr, ℕ, zero, suc, ◌+◌, ◌-◌, ◌<◌, ◌≤◌, Bool, true, false, cond, eqb, List, [], ◌∷◌, length, map, take, drop, Option, Some, None, refl, sym, ap, subst, ◌∙◌, arith}
use Rattle.std.specs.Prelude.{option_map, slice_get}
use Rattle.std.proofs.lemmas.Option.{same_Some, slice_get_within}
use Rattle.std.proofs.lemmas.Bool.{eqb-true}
use Rattle.std.specs.List.{AllByRecursion}
use Rattle.omf_format.specs.File.{Segment, segment_at}
use Rattle.omf_io.specs.Files.{FileMap}
use Rattle.load_meaning.specs.declared.table.Target.{Target}
use Rattle.load_meaning.specs.Table.{entry_place}
use Rattle.load_meaning.specs.LoadTable.{targets_of}
use Rattle.load_meaning.specs.Loadable.{IsTarget}
use Rattle.load_meaning.specs.laws.CellLaws.{loadable_has}
use Rattle.iigs_meaning.specs.declared.handles.Handle.{Handle}
use Rattle.iigs_meaning.specs.Blocks.{AreApart}
use Rattle.iigs_meaning.specs.Slide.{AreSettled}
use Rattle.loader_machine.specs.Rule.{RoomRule}
use Rattle.loader_machine.specs.declared.seen.SegmentHead.{SegmentHead}
use Rattle.loader_machine.specs.declared.seen.Life.{Life}
use Rattle.loader_machine.specs.declared.seen.Life.TheVariants.{Running, Dormant}
use Rattle.loader_machine.specs.declared.seen.Presence.{Presence}
use Rattle.loader_machine.specs.declared.seen.Presence.TheVariants.{Absent, Purged, Idle, Active}
use Rattle.loader_machine.specs.declared.faults.LoaderFault.TheVariants.{NoTarget, NotEntry}
use Rattle.loader_machine.specs.Heads.{head_of, at_number, is_table}
use Rattle.loader_machine.specs.Presences.{presence_at}
use Rattle.loader_machine.specs.Found.{HoldsLoad}
use Rattle.loader_machine.specs.State.{User, UserSeen, Machine, Outline, outline_of, outlines, attached_at, named_by, first_id, user_of, handles_of}
use Rattle.loader_machine.specs.Commands.{Reply, Entered, Lies, Nothing, Refused}
use Rattle.loader_machine.specs.Steps.{Sees, IsSeen, Either, IsAt, AddressPlace, Nowhere, In, IsLocated, target_at_code, no_jsl, address_of, MakesActive, StepsJsl}
use Rattle.loader_machine.specs.laws.OnceLaws.{one_load}
use Rattle.loader_agrees.specs.Agrees.{LoadedUser, Loaded, Agrees, kept_outlines, outline, LeadsFar, seen_by}
use Rattle.loader_agrees.specs.laws.Lists.{number_map}
use Rattle.loader_agrees.specs.laws.Seeing.{made_at, same_outlines, is_seen, IsKept, kept_is}
use Rattle.answers.specs.Commands.{HoldBytes}
use Rattle.answers.specs.laws.Decisions.{Decided}
use Rattle.answers.proofs.Deciding.{at_most, less, both, Least, least_below}
use Rattle.answers.proofs.Replying.{decide_by}
use Rattle.answers.proofs.UserReplies.{same_number, active_or, stands_in}

-- an item of a list that passes a test for all
one_of_all : {A : Type 0} (P : A → Type 0) (xs : List A) (k : ℕ) (x : A) → AllByRecursion P xs → slice_get xs k ≡ Some x → P x
one_of_all P [] k x all is = absurd cc
one_of_all P (y ∷ xs) zero x all is = subst P (same_Some y x is) all.0
one_of_all P (y ∷ xs) (suc k) x all is = one_of_all P xs k x all.1 is

-- a target that is found is in the list
record IsAmong (targets : List Target) (t : Target) : Type 0 where
  place : ℕ
  is : slice_get targets place ≡ Some t

found_target : (targets : List Target) (k offset : ℕ) (t : Target) → target_at_code targets k offset ≡ Some t → IsAmong targets t
found_target [] k offset t e = absurd cc
found_target (x ∷ targets) k offset t e = by_place (eqb (entry_place k) offset) e (λ rest. found_target targets (k + 1) offset t rest)
  where
    by_place : (b : Bool) → cond b (Some x) (target_at_code targets (k + 1) offset) ≡ Some t → (target_at_code targets (k + 1) offset ≡ Some t → IsAmong targets t) → IsAmong (x ∷ targets) t
    by_place true e go = record { place = 0; is = e }
    by_place false e go = let rest = go e in record { place = suc rest.place; is = rest.is }

-- a header with a number is a segment's
head_there : (segments : List Segment) (number : ℕ) (head : SegmentHead) → at_number (map head_of segments) number ≡ Some head → (s : Segment) × (segment_at segments number ≡ Some s)
head_there segments number head is = by_segment (segment_at segments number) refl
  where
    none_some : None ≡ Some head → ⊥
    none_some e = cc

    by_segment : (o : Option Segment) → segment_at segments number ≡ o → (s : Segment) × (segment_at segments number ≡ Some s)
    by_segment (Some s) e = (s, e)
    by_segment None e = absurd (none_some (sym (number_map head_of segments number ∙ ap (option_map head_of) (same_number segments number ∙ e)) ∙ is))

module _ (held : FileMap) (loader : Loaded) (state : Machine) (agrees : Agrees held loader state) (apart : AreApart state.banks state.slots) (settled : AreSettled state.banks state.slots) (fits : HoldBytes held) where
  user_same : (id : ℕ) (p q : Sees held state id) → p.user ≡ q.user
  user_same id p q = same_Some p.user q.user (sym p.made ∙ q.made)

  segments_same : (id : ℕ) (p q : Sees held state id) → p.segments ≡ q.segments
  segments_same id p q = one_load held q.user.path p.segments q.segments (subst (λ (u : User). HoldsLoad held u.path p.segments) (user_same id p q) p.holds) q.holds

  -- ---- where an address lies

  -- it lies in the segment with a number of this user
  record IsInside (address id : ℕ) (sees : Sees held state id) (number : ℕ) : Type 0 where
    runs : sees.user.life ≡ Running
    s : Segment
    is : segment_at sees.segments number ≡ Some s
    h : Handle
    first : ℕ
    active : presence_at state.slots (handles_of sees.user) number ≡ Active h first
    above : first ≤ address
    below : address < first + s.fields.length

  inside_or_not : (address id : ℕ) (sees : Sees held state id) (number : ℕ) → Decided (IsInside address id sees number)
  inside_or_not address id sees number = by_life sees.user.life refl
    where
      rests : Dormant ≡ Running → ⊥
      rests e = cc

      none_some : (s : Segment) → None ≡ Some s → ⊥
      none_some s e = cc

      by_range : (s : Segment) (h : Handle) (first : ℕ) → sees.user.life ≡ Running → segment_at sees.segments number ≡ Some s → presence_at state.slots (handles_of sees.user) number ≡ Active h first
          → Decided ((first ≤ address) × (address < first + s.fields.length)) → Decided (IsInside address id sees number)
      by_range s h first runs is active (inl range) = inl (record { runs = runs; s = s; is = is; h = h; first = first; active = active; above = range.0; below = range.1 })
      by_range s h first runs is active (inr out) = inr (λ i.
          let same : s ≡ i.s = same_Some s i.s (sym is ∙ i.is) in
          let there : Active h first ≡ Active i.h i.first = sym active ∙ i.active in
          let firsts : first ≡ i.first = cc in
          out (omega (arith, firsts, i.above), omega (arith, firsts, i.below, ap (λ (x : Segment). x.fields.length) same)))

      by_presence : (s : Segment) → sees.user.life ≡ Running → segment_at sees.segments number ≡ Some s → (p : Presence) → presence_at state.slots (handles_of sees.user) number ≡ p → Decided (IsInside address id sees number)
      by_presence s runs is (Active h first) e = by_range s h first runs is e (both (at_most first address) (less address (first + s.fields.length)))
      by_presence s runs is Absent e = inr (λ i. let clash : Absent ≡ Active i.h i.first = sym e ∙ i.active in cc)
      by_presence s runs is (Purged h) e = inr (λ i. let clash : Purged h ≡ Active i.h i.first = sym e ∙ i.active in cc)
      by_presence s runs is (Idle h at) e = inr (λ i. let clash : Idle h at ≡ Active i.h i.first = sym e ∙ i.active in cc)

      by_segment : sees.user.life ≡ Running → (o : Option Segment) → segment_at sees.segments number ≡ o → Decided (IsInside address id sees number)
      by_segment runs None e = inr (λ i. none_some i.s (sym e ∙ i.is))
      by_segment runs (Some s) e = by_presence s runs e (presence_at state.slots (handles_of sees.user) number) refl

      by_life : (life : Life) → sees.user.life ≡ life → Decided (IsInside address id sees number)
      by_life Dormant e = inr (λ i. rests (sym e ∙ i.runs))
      by_life Running e = by_segment e (segment_at sees.segments number) refl

  InUser : ℕ → ℕ → Type 0
  InUser address id = (number : ℕ) × (offset : ℕ) × IsAt held state address id number offset

  number_within : (segments : List Segment) (number : ℕ) (s : Segment) → segment_at segments number ≡ Some s → number < suc (length segments)
  number_within segments zero s is = omega arith
  number_within segments (suc k) s is = let inside = slice_get_within segments k s is in omega (arith, inside)

  in_user : (address id : ℕ) → Decided (InUser address id)
  unfolding InUser
  in_user address id = by_seen (seen_by loader id) (is_seen held loader state agrees id)
    where
      nobody : (sees : Sees held state id) → user_of state.users id ≡ None → ⊥
      nobody sees e = let clash : Some sees.user ≡ None = sym sees.made ∙ e in cc

      as_inside : (sees : Sees held state id) (number offset : ℕ) → IsAt held state address id number offset → IsInside address id sees number
      as_inside sees number offset at =
          let user = user_same id at.sees sees in
          let segments = segments_same id at.sees sees in
          record {
            runs = sym (ap (λ (u : User). u.life) user) ∙ at.runs;
            s = at.s;
            is = sym (ap (λ (l : List Segment). segment_at l number) segments) ∙ at.is;
            h = at.h;
            first = at.first;
            active = sym (ap (λ (u : User). presence_at state.slots (handles_of u) number) user) ∙ at.active;
            above = omega (arith, at.sum);
            below = omega (arith, at.sum, at.inside);
          }

      by_number : (sees : Sees held state id) → Least (IsInside address id sees) (suc (length sees.segments)) ⊎ ((i : ℕ) → i < suc (length sees.segments) → IsInside address id sees i → ⊥) → Decided (InUser address id)
      by_number sees (inl found) =
          let i = found.here in
          inl (found.at, address - i.first, record { sees = sees; runs = i.runs; s = i.s; is = i.is; h = i.h; first = i.first; active = i.active; sum = omega (arith, i.above); inside = omega (arith, i.above, i.below) })
      by_number sees (inr none) = inr (λ (found : (number : ℕ) × (offset : ℕ) × IsAt held state address id number offset).
          let i = as_inside sees found.0 found.1 found.2 in
          none found.0 (number_within sees.segments found.0 i.s i.is) i)

      by_seen : (seen : Option UserSeen) → IsSeen held state id seen → Decided (InUser address id)
      by_seen None is = inr (λ (found : (number : ℕ) × (offset : ℕ) × IsAt held state address id number offset). nobody found.2.sees is)
      by_seen (Some seen) is = by_number is.0 (least_below (IsInside address id is.0) (suc (length is.0.segments)) (inside_or_not address id is.0))

  pub located_or : (address : ℕ) → (place : AddressPlace) × IsLocated held state address place
  unfolding InUser
  located_or address = settle (least_below (InUser address) (first_id + length state.users) (in_user address))
    where
      id_within : (id number offset : ℕ) → IsAt held state address id number offset → id < first_id + length state.users
      id_within id number offset at =
          let made = made_at state.users id at.sees.user at.sees.made in
          let inside = slice_get_within state.users (id - first_id) (Some at.sees.user) made.0 in
          omega (arith, made.1, inside)

      settle : Least (InUser address) (first_id + length state.users) ⊎ ((i : ℕ) → i < first_id + length state.users → InUser address i → ⊥) → (place : AddressPlace) × IsLocated held state address place
      settle (inl found) = (In found.at found.here.0 found.here.1, found.here.2)
      settle (inr none) = (Nowhere, λ id number offset at. none id (id_within id number offset at) (number, offset, at))

  pub where_or : (address : ℕ) → (reply : Reply) × (next : Machine)
      × ((place : AddressPlace) × IsLocated held state address place × (reply ≡ elim place [ Nowhere ↦ Nothing | In id number offset ↦ Lies id number offset ]) × (next ≡ state))
  where_or address = let found = located_or address in (elim found.0 [ Nowhere ↦ Nothing | In id number offset ↦ Lies id number offset ], state, (found.0, found.1, refl, refl))

  -- ---- the target of an entry

  -- an entry leads to a segment of a user
  record Leads (id : ℕ) (t : Target) : Type 0 where
    other : ℕ
    named : named_by (outlines state.users) id t.file ≡ Some other
    sees : Sees held state other
    s : Segment
    is : segment_at sees.segments t.segment ≡ Some s

  leads : (id number : ℕ) (sees : Sees held state id) (s : Segment) (t : Target) → segment_at sees.segments number ≡ Some s → is_table (head_of s) ≡ true → IsAmong (targets_of s) t → Leads id t
  leads id number sees s t is table among =
      by_target (one_of_all (IsTarget sees.segments) (targets_of s) among.place t ((loadable_has sees.holds.file sees.segments sees.holds.loadable number s is).table table).targets among.is)
    where
      far : (kept : LoadedUser) → user_of loader.users id ≡ Some kept → 2 ≤ t.file → Leads id t
      far kept made beyond =
          let mine : IsKept held loader state agrees id kept = kept_is held loader state agrees id kept made in
          let place = made_at loader.users id kept made in
          let same : mine.user ≡ sees.user = same_Some mine.user sees.user (sym mine.made ∙ sees.made) in
          let path : sees.user.path ≡ kept.path = sym (ap (λ (o : Outline). o.path) mine.does_agree.same ∙ ap (λ (u : User). u.path) same) in
          let lead : LeadsFar loader.users (first_id + (id - first_id)) t = agrees.entries (id - first_id) number among.place kept sees.segments s t place.0
          (subst (λ (p : List ℕ). HoldsLoad held p sees.segments) path sees.holds) is table among.is beyond in
          let its : IsKept held loader state agrees lead.other lead.kept = kept_is held loader state agrees lead.other lead.kept lead.made in
          let its_path : lead.kept.path ≡ its.user.path = ap (λ (o : Outline). o.path) its.does_agree.same in
          let its_sees : Sees held state lead.other = record {
            user = its.user;
            made = its.made;
            segments = its.does_agree.segments;
            holds = subst (λ (p : List ℕ). HoldsLoad held p its.does_agree.segments) its_path its.does_agree.holds;
          } in
          let segment = head_there its.does_agree.segments t.segment lead.head (ap (λ (l : List SegmentHead). at_number l t.segment) (sym its.does_agree.heads) ∙ lead.head') in
          let at_other : attached_at (outlines state.users) id t.file ≡ Some lead.other =
          ap (λ (us : List (Option Outline)). attached_at us id t.file) (sym agrees.users) ∙ ap (λ (n : ℕ). attached_at (kept_outlines loader.users) n t.file) (sym place.1) ∙ lead.named in
          record { other = lead.other; named = not_own at_other (eqb t.file 1) refl; sees = its_sees; s = segment.0; is = segment.1 }
        where
          not_own : {other : ℕ} → attached_at (outlines state.users) id t.file ≡ Some other → (b : Bool) → eqb t.file 1 ≡ b → cond b (Some id) (attached_at (outlines state.users) id t.file) ≡ Some other
          not_own at_other true e = absurd (omega (arith, eqb-true t.file 1 e, beyond))
          not_own at_other false e = at_other

      in_loader : (o : Option LoadedUser) → user_of loader.users id ≡ o → (kept : LoadedUser) × (user_of loader.users id ≡ Some kept)
      in_loader (Some kept) e = (kept, e)
      in_loader None e =
          let clash : None ≡ Some (outline_of sees.user) = ap (option_map outline) (sym e) ∙ same_outlines held loader state agrees id ∙ ap (option_map outline_of) sees.made in
          absurd cc

      by_target : IsTarget sees.segments t → Leads id t
      by_target (inl own) = record {
        other = id;
        named = ap (λ (file : ℕ). named_by (outlines state.users) id file) own.file';
        sees = sees;
        s = own.segment';
        is = own.is;
      }
      by_target (inr beyond) = let kept = in_loader (user_of loader.users id) refl in far kept.0 kept.1 beyond.beyond

  -- ---- a JSL

  abbrev Goes : ℕ → AddressPlace → Reply → Machine → Type 0
  Goes address place reply next = elim place [
    | Nowhere ↦ (reply ≡ Refused NoTarget) × (next ≡ state)
    | In id number offset ↦ (sees : Sees held state id) × (s : Segment) × (segment_at sees.segments number ≡ Some s) × Either (is_table (head_of s))
        (elim (target_at_code (targets_of s) 0 offset) [
          | None ↦ (reply ≡ Refused NotEntry) × (next ≡ state)
          | Some t ↦ (other : ℕ) × (named_by (outlines state.users) id t.file ≡ Some other)
              × MakesActive RoomRule held state other t.segment (λ address. Entered other t.segment t.offset (address + t.offset)) reply next
        ])
        ((reply ≡ Entered id number offset address) × (next ≡ state))
  ]

  goes : (address : ℕ) (place : AddressPlace) → IsLocated held state address place → (reply : Reply) × (next : Machine) × Goes address place reply next
  goes address Nowhere is = (Refused NoTarget, state, (refl, refl))
  goes address (In id number offset) at = by_table (is_table (head_of at.s)) refl
    where
      by_entry : (o : Option Target) → target_at_code (targets_of at.s) 0 offset ≡ o → is_table (head_of at.s) ≡ true → (reply : Reply) × (next : Machine) × Goes address (In id number offset) reply next
      by_entry None e table = (Refused NotEntry, state, (at.sees, at.s, at.is, rw (table, e) (refl, refl)))
      by_entry (Some t) e table =
          let lead = leads id number at.sees at.s t at.is table (found_target (targets_of at.s) 0 offset t e) in
          let active = active_or held loader state agrees apart settled fits lead.other t.segment (λ address. Entered lead.other t.segment t.offset (address + t.offset)) lead.sees lead.s lead.is in
          (active.0, active.1, (at.sees, at.s, at.is, rw (table, e) (lead.other, lead.named, active.2)))

      by_table : (b : Bool) → is_table (head_of at.s) ≡ b → (reply : Reply) × (next : Machine) × Goes address (In id number offset) reply next
      by_table true table = by_entry (target_at_code (targets_of at.s) 0 offset) refl table
      by_table false plain = (Entered id number offset address, state, (at.sees, at.s, at.is, rw plain (refl, refl)))

  pub jsl_or : (id number at : ℕ) (sees : Sees held state id) (s : Segment) → segment_at sees.segments number ≡ Some s → (reply : Reply) × (next : Machine) × StepsJsl RoomRule held state id number at reply next
  jsl_or id number at sees s is =
      let bytes = stands_in held loader state agrees apart settled fits id number sees s is in
      let four = take 4 (drop at bytes.0) in
      let step = decide_by (no_jsl four) state (λ reply next. (place : AddressPlace) × IsLocated held state (address_of four) place × Goes (address_of four) place reply next)
      (λ none.
      let found = located_or (address_of four) in
      let went = goes (address_of four) found.0 found.1 in
      (went.0, went.1, (found.0, found.1, went.2))) in
      (step.0, step.1, record { bytes = bytes.0; stands = bytes.1; is = step.2 })
