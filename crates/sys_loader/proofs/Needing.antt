-- The files that a call reads are those that the machine's command needs.
use Rattle.std.proofs.Common.{◌≡◌, ◌⊎◌, inl, inr, ℕ, Bool, true, false, not, ◌||◌, ◌+◌, ◌*◌, ◌<◌, ◌≤◌, ◌^◌, List, [], length, take, drop, Option, Some, None, IsSome, refl, sym, ap, subst, ◌∙◌, arith}
use Rattle.std.specs.Option.{option_map, option_map_or}
use Rattle.omf_format.specs.File.{Segment}
use Rattle.omf_io.specs.Counts.{one_more, saturating_sum}
use Rattle.omf_io.specs.Files.{FileMap}
use Rattle.load_meaning.specs.declared.table.Target.{Target}
use Rattle.load_meaning.specs.LoadTable.{targets_of}
use Rattle.iigs_meaning.specs.Slots.{slot_at}
use Rattle.iigs_meaning.specs.Fits.{Slots, HoldsByte}
use Rattle.loader_machine.specs.Rule.{RoomRule}
use Rattle.iigs_meaning.specs.Blocks.{AreApart}
use Rattle.loader_machine.specs.declared.faults.LoaderFault.{LoaderFault}
use Rattle.loader_machine.specs.Heads.{head_of, is_table}
use Rattle.loader_machine.specs.State.{User, Machine, UserSeen, user_of, handles_of, outlines, named_by, is_attached}
use Rattle.loader_machine.specs.Presences.{presence_at}
use Rattle.loader_machine.specs.laws.OnceLaws.{IsApartState, segment_same, seen_once, at_once, stands_once}
use Rattle.loader_machine.specs.Commands.{LoadSegment, Jsl, Restart}
use Rattle.loader_machine.specs.Refusals.{Refuse, bytes_refusal, load_segment_refusal, restart_refusal}
use Rattle.loader_machine.specs.Steps.{Sees, IsSeen, IsAt, seen_of, are_there, no_jsl, address_of, target_at_code}
use Rattle.loader_machine.specs.laws.Words as words
use Rattle.loader_machine.specs.Needs.{NeedsOf, IsReadFor, Reaches, is_read, path_if, some_read_again}
use Rattle.loader_agrees.specs.Agrees.{LoadedUser, Loaded, Outline, kept_outlines, seen_in, seen_by, Agrees, IsSound, ReadsNeeded}
use Rattle.loader_agrees.specs.Acts.{HasBorrowed, LiesIn}
use Rattle.loader_agrees.specs.laws.Apart.{is_apart}
use Rattle.loader_agrees.specs.laws.Reads.{lies_back}
use Rattle.loader_agrees.specs.laws.Seeing.{IsKept, kept_is, is_seen}
use Rattle.sys_loader.specs.declared.answers.Entered as answers
use Rattle.sys_loader.specs.Activating.{segment_reads}
use Rattle.sys_loader.specs.Following.{IsJslRefusal, NoBytes, NoJsl, NoPlace, NoEntry, EntersPlace, CallsEntry, IsRefused, IsPlace, IsThere, HasAsked}
use Rattle.sys_loader.specs.Restarting.{restart_reads}
use Rattle.sys_loader.proofs.Followed as followed

-- ---- one path, or none

-- the count of reads is one more for each path, by whether the call is refused, and whether it reads
counted : (r : Refuse) (b : Bool) (path : List ℕ) (before now : ℕ) → (r ≡ None → b ≡ true → now ≡ one_more before) → (b ≡ false → now ≡ before) → (IsSome r → now ≡ before)
    → now ≡ saturating_sum (length (path_if r b path)) before
counted (Some why) b path before now asked unasked refused = refused refl
counted None true path before now asked unasked refused = asked refl refl
counted None false path before now asked unasked refused = unasked refl

-- no file is read after the first, where all reads are made
abbrev Alone : ℕ → ℕ → Type 0
Alone count reads = (◌≡◌ {A = ℕ} 0 0 × (rows : List (List ℕ)) × (following : ℕ) × ((rows ≡ []) × (following ≡ 0)) × (reads ≡ count + following))
    ⊎ ((count ≤ reads) × (reads ≤ 17 * count) × (count ≤ 0))

alone : (count : ℕ) → Alone count count
alone count = inl (refl, [], 0, (refl, refl), omega arith)

-- ---- a command on a user

module _ (held : FileMap) (old : Loaded) (state : Machine) (agrees : Agrees held old state) (id : ℕ) (refusal : Option UserSeen → Refuse) (reads : UserSeen → User → Bool) (flag : Bool) (before now : ℕ)
    (same : (sees : Sees held state id) → seen_by old id ≡ Some (seen_of sees.user sees.segments) → reads (seen_of sees.user sees.segments) sees.user ≡ flag)
    (none : seen_by old id ≡ None → flag ≡ false)
    (asked : refusal (seen_by old id) ≡ None → flag ≡ true → now ≡ one_more before) (unasked : flag ≡ false → now ≡ before) (refused : IsSome (refusal (seen_by old id)) → now ≡ before) where
  abbrev Of : UserSeen → User → List (List ℕ)
  Of seen user = path_if (refusal (Some seen)) (reads seen user) user.path

  user_needs : (reads : ℕ) × ((paths : List (List ℕ)) × NeedsOf held state id Of paths × Alone (length paths) reads) × (now ≡ saturating_sum reads before)
  user_needs = go (seen_by old id) refl (is_seen held old state agrees id)
    where
      go : (o : Option UserSeen) → seen_by old id ≡ o → IsSeen held state id o
          → (reads : ℕ) × ((paths : List (List ℕ)) × NeedsOf held state id Of paths × Alone (length paths) reads) × (now ≡ saturating_sum reads before)
      go None e gone = (0, ([], inl (gone, refl), alone 0), unasked (none e))
      go (Some seen) e is =
          let sees = is.0 in
          let its : UserSeen = seen_of sees.user sees.segments in
          let here : seen_by old id ≡ Some its = e ∙ ap (λ (s : UserSeen). Some s) is.1 in
          let flag' : reads its sees.user ≡ flag = same sees here in (
            length (Of its sees.user),
            (Of its sees.user, inr (sees, refl), alone (length (Of its sees.user))),
            counted (refusal (Some its)) (reads its sees.user) sees.user.path before now
                (λ passes yes. asked (ap refusal here ∙ passes) (sym flag' ∙ yes)) (λ no'. unasked (sym flag' ∙ no'))
                (λ stops. refused (subst (λ (o : Option UserSeen). IsSome (refusal o)) (sym here) stops)),
          )

-- a user that is seen is kept
kept_of : (old : Loaded) (id : ℕ) (seen : UserSeen) → seen_by old id ≡ Some seen → (kept : LoadedUser) × (user_of old.users id ≡ Some kept) × (seen_in kept ≡ seen)
kept_of old id seen is = go (user_of old.users id) refl is
  where
    go : (o : Option LoadedUser) → user_of old.users id ≡ o → option_map seen_in o ≡ Some seen → (kept : LoadedUser) × (user_of old.users id ≡ Some kept) × (seen_in kept ≡ seen)
    go None e is' = absurd cc
    go (Some kept) e is' = (kept, e, cc)

-- what is asked of a user that isn't seen
not_kept : (old : Loaded) (id : ℕ) (f : LoadedUser → Bool) → seen_by old id ≡ None → option_map_or f (user_of old.users id) false ≡ false
not_kept old id f is = go (user_of old.users id) is
  where
    go : (o : Option LoadedUser) → option_map seen_in o ≡ None → option_map_or f o false ≡ false
    go None e = refl
    go (Some kept) e = absurd cc

module _ (held : FileMap) (old : Loaded) (state : Machine) (agrees : Agrees held old state) (id : ℕ) (before now : ℕ) where
  pub load_segment_needs : (number : ℕ) → (load_segment_refusal (seen_by old id) number ≡ None → segment_reads old id number ≡ true → now ≡ one_more before)
      → (segment_reads old id number ≡ false → now ≡ before) → (IsSome (load_segment_refusal (seen_by old id) number) → now ≡ before) → ReadsNeeded held state (LoadSegment id number) 0 before now
  load_segment_needs number asked unasked refused =
      user_needs held old state agrees id (λ seen. load_segment_refusal seen number) (λ seen user. is_read (presence_at state.slots (handles_of user) number)) (segment_reads old id number) before now
      same (not_kept old id (λ kept. is_read (presence_at old.memory.slots kept.handles number))) asked unasked refused
    where
      same : (sees : Sees held state id) → seen_by old id ≡ Some (seen_of sees.user sees.segments) → is_read (presence_at state.slots (handles_of sees.user) number) ≡ segment_reads old id number
      same sees is =
          let kept = kept_of old id (seen_of sees.user sees.segments) is in
          sym (ap (λ (o : Option LoadedUser). option_map_or (λ k. is_read (presence_at old.memory.slots k.handles number)) o false) kept.1
          ∙ ap (λ (t : Slots). is_read (presence_at t kept.0.handles number)) agrees.slots
          ∙ ap (λ (seen : UserSeen). is_read (presence_at state.slots seen.handles number)) kept.2)

  -- whether a user is attached to another
  abbrev its_own : Bool
  its_own = is_attached (kept_outlines old.users) id

  same_own : is_attached (outlines state.users) id ≡ its_own
  same_own = ap (λ (os : List (Option Outline)). is_attached os id) (sym agrees.users)

  pub restart_needs : (restart_refusal its_own (seen_by old id) ≡ None → restart_reads old id ≡ true → now ≡ one_more before)
      → (restart_reads old id ≡ false → now ≡ before) → (IsSome (restart_refusal its_own (seen_by old id)) → now ≡ before) → ReadsNeeded held state (Restart id) 0 before now
  restart_needs asked unasked refused =
      user_needs held old state agrees id (restart_refusal (is_attached (outlines state.users) id)) (λ seen user. words.restart_reads state seen) (restart_reads old id) before now
      same (not_kept old id (λ kept. not (are_there old.memory.slots kept.heads kept.handles 1) || some_read_again kept.heads))
      (λ passes. asked (sym (of_own (seen_by old id)) ∙ passes)) unasked (λ stops. refused (subst (λ (r : Refuse). IsSome r) (of_own (seen_by old id)) stops))
    where
      of_own : (seen : Option UserSeen) → restart_refusal (is_attached (outlines state.users) id) seen ≡ restart_refusal its_own seen
      of_own seen = ap (λ (b : Bool). restart_refusal b seen) same_own

      same : (sees : Sees held state id) → seen_by old id ≡ Some (seen_of sees.user sees.segments) → words.restart_reads state (seen_of sees.user sees.segments) ≡ restart_reads old id
      same sees is =
          let kept = kept_of old id (seen_of sees.user sees.segments) is in
          sym (ap (λ (o : Option LoadedUser). option_map_or (λ k. not (are_there old.memory.slots k.heads k.handles 1) || some_read_again k.heads) o false) kept.1
          ∙ ap (λ (t : Slots). not (are_there t kept.0.heads kept.0.handles 1) || some_read_again kept.0.heads) agrees.slots
          ∙ ap (λ (seen : UserSeen). words.restart_reads state seen) kept.2)

-- ---- jsl

module _ (held : FileMap) (old : Loaded) (state : Machine) (sound : IsSound old.memory old.users) (agrees : Agrees held old state) (apart : AreApart old.memory.banks old.memory.slots) where
  abbrev apart_state : IsApartState held state
  apart_state = is_apart held old state agrees sound apart

  -- what is true of the one place where an address lies is true wherever the machine has it
  anywhere : (P : (address owner number offset : ℕ) → IsAt held state address owner number offset → Type 0) (place : answers.Entered) (lies : LiesIn old place.address place.user place.segment place.offset)
      → ((is : IsAt held state place.address place.user place.segment place.offset) → P place.address place.user place.segment place.offset is)
      → (address owner number offset : ℕ) → address ≡ place.address → (is : IsAt held state address owner number offset) → P address owner number offset is
  anywhere P place lies all address owner number offset same is =
      let here : IsAt held state place.address owner number offset = subst (λ (n : ℕ). IsAt held state n owner number offset) same is in
      let once = at_once held state apart_state place.address owner place.user number place.segment offset place.offset here
      (followed.is_at held old state sound agrees place.address place.user place.segment place.offset lies) in
      subst (λ (n : ℕ). (at : IsAt held state n owner number offset) → P n owner number offset at) (sym same)
      (subst (λ (n : ℕ). (at : IsAt held state place.address n number offset) → P place.address n number offset at) (sym once.0)
      (subst (λ (n : ℕ). (at : IsAt held state place.address place.user n offset) → P place.address place.user n offset at) (sym once.1)
      (subst (λ (n : ℕ). (at : IsAt held state place.address place.user place.segment n) → P place.address place.user place.segment n at) (sym once.2) all))) is

  -- the segment there
  same_segment : (place : answers.Entered) (lies : LiesIn old place.address place.user place.segment place.offset) (is : IsAt held state place.address place.user place.segment place.offset)
      → is.s ≡ followed.s held old state sound agrees place.address place.user place.segment place.offset lies
  same_segment place lies is =
      segment_same held state place.user is.sees (followed.sees held old state sound agrees place.address place.user place.segment place.offset lies) place.segment is.s
      (followed.s held old state sound agrees place.address place.user place.segment place.offset lies) is.is
      (followed.found held old state sound agrees place.address place.user place.segment place.offset lies)

  module _ (id number at : ℕ) where
    -- no read is needed where the call stops, or enters a place
    module _ (other : ℕ) (t : Target) (r : Reaches held state id number at other t) where
      passes : bytes_refusal old.memory.slots (seen_by old id) number at 4 ≡ None
      passes =
          ap (λ (slots : Slots). bytes_refusal slots (seen_by old id) number at 4) agrees.slots
          ∙ ap (λ (seen : Option UserSeen). bytes_refusal state.slots seen number at 4) (seen_once held state id (seen_by old id) r.seen (is_seen held old state agrees id) r.is_seen) ∙ r.passes

      same_bytes : (bytes : List ℕ) → HasBorrowed old id number at 4 bytes → bytes ≡ take 4 (drop at r.bytes)
      same_bytes bytes borrowed =
          let four = followed.four held old state sound agrees id number at bytes borrowed in
          four.2 ∙ ap (λ (bs : List ℕ). take 4 (drop at bs)) (stands_once held state id number four.0 r.bytes four.1 r.stands)

      same_address : (address : ℕ) (bytes : List ℕ) → HasBorrowed old id number at 4 bytes → address ≡ address_of bytes → address_of (take 4 (drop at r.bytes)) ≡ address
      same_address address bytes borrowed is = sym (is ∙ ap address_of (same_bytes bytes borrowed))

      stops : (why : LoaderFault) → IsJslRefusal old id number at why → ⊥
      stops why (NoBytes is) = let clash : Some why ≡ None = sym is ∙ passes in cc
      stops why (NoJsl bytes borrowed is) = let clash : Some why ≡ None = sym is ∙ ap no_jsl (same_bytes bytes borrowed) ∙ r.jsl in cc
      stops why (NoPlace address call none is) =
          none r.owner r.table r.offset (lies_back held old state agrees RoomRule sound address r.owner r.table r.offset
          (subst (λ (n : ℕ). IsAt held state n r.owner r.table r.offset) (same_address address call.bytes call.borrowed call.address_is) r.is_at))
      stops why (NoEntry place leads table apart' is) =
          anywhere (λ address id' n offset at'. target_at_code (targets_of at'.s) 0 offset ≡ Some t → ⊥) place leads.lies
          (λ at' found.
          let none : target_at_code (targets_of (followed.s held old state sound agrees place.address place.user place.segment place.offset leads.lies)) 0 place.offset ≡ None =
          followed.none held old state sound agrees place.address place.user place.segment place.offset leads.lies table apart' in
          let clash : Some t ≡ None = sym found ∙ ap (λ (x : Segment). target_at_code (targets_of x) 0 place.offset) (same_segment place leads.lies at') ∙ none in cc)
          (address_of (take 4 (drop at r.bytes))) r.owner r.table r.offset (same_address place.address leads.call.bytes leads.call.borrowed leads.call.address_is) r.is_at r.target

      leads : (place : answers.Entered) → EntersPlace old id number at place → ⊥
      leads place enters =
          let lies = enters.leads.lies in
          anywhere (λ address id' n offset at'. is_table (head_of at'.s) ≡ true → ⊥) place lies
          (λ at' table.
          let clash : true ≡ false = sym table ∙ ap (λ (x : Segment). is_table (head_of x)) (same_segment place lies at')
          ∙ followed.same_table held old state sound agrees place.address place.user place.segment place.offset lies ∙ enters.plain in cc)
          (address_of (take 4 (drop at r.bytes))) r.owner r.table r.offset (same_address place.address enters.leads.call.bytes enters.leads.call.borrowed enters.leads.call.address_is) r.is_at r.is_table

    none_needed : ((other : ℕ) (t : Target) → ¬ Reaches held state id number at other t) → IsReadFor held state (Jsl id number at) 0 0
    none_needed none = ([], inr (none, refl), alone 0)

    -- an entry needs the path of the file that it names, where its segment isn't there
    module _ (below : (place address : ℕ) → HoldsByte address (slot_at old.memory.slots place) → address < 2 ^ 24) (other segment offset : ℕ) (calls : CallsEntry old id number at other segment offset) where
      abbrev place : answers.Entered
      place = calls.place

      abbrev t : Target
      t = (followed.t held old old state sound agrees below below id number at 0 0 place calls.leads.call calls.target calls.entry).0

      abbrev lead : followed.LeadsInto old.users place.user t
      lead = followed.lead held old old state sound agrees below below id number at 0 0 place calls.leads.call calls.target calls.entry

      same_other : lead.other ≡ other
      same_other =
          let named : named_by (kept_outlines old.users) place.user t.file ≡ Some other =
          ap (named_by (kept_outlines old.users) place.user) (sym (followed.file_is held old old state sound agrees below below id number at 0 0 place calls.leads.call calls.target calls.entry)) ∙ calls.named in
          let clash : Some lead.other ≡ Some other = sym lead.named ∙ named in cc

      abbrev its : IsKept held old state agrees lead.other lead.kept
      its = kept_is held old state agrees lead.other lead.kept lead.made

      same_number : t.segment ≡ segment
      same_number = sym (followed.segment_is held old old state sound agrees below below id number at 0 0 place calls.leads.call calls.target calls.entry) ∙ calls.segment'

      same_reads : is_read (presence_at state.slots (handles_of its.user) t.segment) ≡ segment_reads old other segment
      same_reads =
          ap (λ (o : Outline). is_read (presence_at state.slots o.handles t.segment)) (sym its.does_agree.same)
          ∙ ap (λ (slots : Slots). is_read (presence_at slots lead.kept.handles t.segment)) (sym agrees.slots)
          ∙ sym (ap (λ (o : Option LoadedUser). option_map_or (λ k. is_read (presence_at old.memory.slots k.handles t.segment)) o false) lead.made)
          ∙ ap (λ (n : ℕ). segment_reads old n t.segment) same_other ∙ ap (segment_reads old other) same_number

      entry_needs : (b : Bool) → segment_reads old other segment ≡ b → IsReadFor held state (Jsl id number at) 0 (length (path_if None b its.user.path))
      entry_needs b is = (
        path_if None b its.user.path,
        inl (
          lead.other,
          t,
          followed.reaches held old old state sound agrees below below id number at 0 0 place calls.leads.call calls.target calls.entry,
          its.user,
          its.made,
          sym (ap (λ (x : Bool). path_if None x its.user.path) (same_reads ∙ is)),
        ),
        alone (length (path_if None b its.user.path)),
      )

    pub jsl_needs : (below : (place address : ℕ) → HoldsByte address (slot_at old.memory.slots place) → address < 2 ^ 24) (before now : ℕ) → HasAsked old id number at before now
        → ReadsNeeded held state (Jsl id number at) 0 before now
    jsl_needs below before now (inl (reads, is)) = (1, entry_needs below reads.other reads.segment reads.offset reads.calls true reads.reads, is)
    jsl_needs below before now (inr (IsRefused why stopped, is)) = (0, none_needed (λ other t r. stops other t r why stopped), is)
    jsl_needs below before now (inr (IsPlace place enters, is)) = (0, none_needed (λ other t r. leads other t r place enters), is)
    jsl_needs below before now (inr (IsThere other segment offset calls there, is)) = (0, entry_needs below other segment offset calls false there, is)
