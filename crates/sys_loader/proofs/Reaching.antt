-- What a JSL reaches, as it is looked up.
use Rattle.std.proofs.Common.{◌≡◌, ◌≢◌, inl, inr, ℕ, Bool, true, false, ◌==◌, ◌+◌, ◌-◌, ◌*◌, ◌<◌, ◌≤◌, length, drop, List, Option, Some, None, IsSome, refl, sym, ap, subst, ◌∙◌, arith}
use Rattle.std.specs.Prelude.{IsSomeAnd, option_map}
use Rattle.std.proofs.lemmas.List.{length-take-le, length-drop}
use Rattle.std.proofs.lemmas.Option.{same_Some}
use Rattle.std.proofs.lemmas.Bool.{cases_eq}
use Rattle.omf_format.specs.Header.{is_dynamic, is_skipped}
use Rattle.omf_io.specs.Counts.{one_more}
use Rattle.load_meaning.specs.declared.table.Target.{Target}
use Rattle.load_meaning.specs.Table.{entry_place}
use Rattle.load_meaning.specs.LoadTable.{entry_count, target_at}
use Rattle.iigs_meaning.specs.declared.handles.Handle.{Handle}
use Rattle.iigs_meaning.specs.Memory.{bytes_at}
use Rattle.loader_machine.specs.declared.faults.LoaderFault.TheVariants as fault
use Rattle.loader_machine.specs.declared.seen.SegmentHead.{SegmentHead}
use Rattle.loader_machine.specs.Heads.{at_number, is_table}
use Rattle.loader_machine.specs.declared.seen.Life.TheVariants.{Running}
use Rattle.loader_machine.specs.State.{UserSeen, first_id, user_of, named_by}
use Rattle.loader_machine.specs.Presences.{handle_at, presence, there_at}
use Rattle.loader_machine.specs.Refusals.{of_segment, load_segment_refusal}
use Rattle.loader_agrees.specs.Agrees.{LoadedUser, Loaded, kept_outlines, AreAttached, IsCall, IsSound, seen_in, seen_by}
use Rattle.loader_agrees.specs.Acts.{HasBorrowed, LiesIn}
use Rattle.loader_agrees.specs.laws.Leading.{row_of}
use Rattle.loader_agrees.specs.laws.Seeing.{made_at, has, block_room}
use Rattle.sys_loader.specs.declared.answers.Entered.{Entered}
use Rattle.sys_loader.specs.Activating.{segment_reads}
use Rattle.sys_loader.specs.Following.{LeadsTo, IsJslRefusal, NoEntry, EntersPlace, CallsEntry, IsThere, HasAsked}

-- ---- the bytes that are borrowed

-- they are as many as were asked for
pub loaned_size : (loader : Loaded) → IsSound loader.memory loader.users → (id number at count : ℕ) (bytes : List ℕ) → HasBorrowed loader id number at count bytes → length bytes ≡ count
loaned_size loader sound id number at count bytes borrowed =
    let all = bytes_at loader.memory borrowed.h.slot in
    let inside : at + count ≤ length all = omega (arith, borrowed.can.inside, block_room loader sound id number borrowed.h borrowed.can.is) in
    ap length borrowed.is ∙ length-take-le count (drop at all) (omega (arith, inside, length-drop at all))

-- a dynamic segment of a user that runs can be made active
pub passes_all : (seen : UserSeen) (number : ℕ) (head : SegmentHead) → seen.life ≡ Running → at_number seen.heads number ≡ Some head → is_skipped head.kind ≡ false → is_dynamic head.kind ≡ true
    → load_segment_refusal (Some seen) number ≡ None
unfolding load_segment_refusal
passes_all seen number head runs head' kept dynamic = rw (runs, head', kept, dynamic, of_segment) refl

-- the user that an entry names runs where the table's user does
pub named_runs : (users : List (Option LoadedUser)) → AreAttached users → (owner file other : ℕ) (k k' : LoadedUser) → user_of users owner ≡ Some k → k.life ≡ Running → named_by (kept_outlines users) owner file ≡ Some other
    → user_of users other ≡ Some k' → k'.life ≡ Running
named_runs users attached owner file other k k' made runs named made' = elim (cases_eq file 1) [
  | inl own ↦
      (let test : (file == 1) ≡ true = grind (arith, own) in
      let it : owner ≡ other = same_Some owner other (rw test at named) in
      let same : k ≡ k' = same_Some k k' (sym made ∙ ap (user_of users) it ∙ made') in
      ap (λ (x : LoadedUser). x.life) (sym same) ∙ runs)
  | inr far ↦
      (let test : (file == 1) ≡ false = grind (arith, far) in
      let row = row_of users owner file other (rw test at named) in
      let one = attached.each (owner - first_id) (file - 2) other row.0 (made_at users owner row.0 row.1).0 row.2 in
      let same : one.0 ≡ k' = same_Some one.0 k' (sym one.1 ∙ made') in
      let same' : row.0 ≡ k = same_Some row.0 k (sym row.1 ∙ made) in
      ap (λ (x : LoadedUser). x.life) (sym same) ∙ one.2.same ∙ ap (λ (x : LoadedUser). x.life) same' ∙ runs)
]

-- ---- the segment in which an address lies

module _ (loader : Loaded) (address owner segment offset : ℕ) (lies : LiesIn loader address owner segment offset) where
  module _ (kept : LoadedUser) (made : user_of loader.users owner ≡ Some kept) where
    pub kept_same : lies.is.kept ≡ kept
    kept_same = same_Some lies.is.kept kept (sym lies.is.made ∙ made)

    -- its header and handle are those that are kept
    pub head_same : (head : SegmentHead) → at_number kept.heads segment ≡ Some head → lies.is.head ≡ head
    head_same head is = same_Some lies.is.head head (sym lies.is.head' ∙ ap (λ (k : LoadedUser). at_number k.heads segment) kept_same ∙ is)

    pub handle_same : (handle : Option Handle) → handle_at kept.handles segment ≡ handle → handle ≡ Some lies.h
    handle_same handle is = sym is ∙ ap (λ (k : LoadedUser). handle_at k.handles segment) (sym kept_same) ∙ lies.is.handle

  -- an entry of a table lies within its block
  pub entry_in : IsSound loader.memory loader.users → (k size : ℕ) → lies.is.head.length ≡ size → k < entry_count size → 22 + 14 * k ≤ length (bytes_at loader.memory lies.h.slot)
  entry_in sound k size same inside = omega (arith, same, inside, block_room loader sound owner segment lies.h lies.is)

  -- the bytes that are borrowed are those of its block
  pub borrowed_here : (handle : Option Handle) (bytes : List ℕ) → handle ≡ Some lies.h → IsSomeAnd handle (λ h. bytes ≡ bytes_at loader.memory h.slot) → bytes ≡ bytes_at loader.memory lies.h.slot
  borrowed_here handle bytes is here = subst (λ (o : Option Handle). IsSomeAnd o (λ h. bytes ≡ bytes_at loader.memory h.slot)) is here

  -- its segment, of the user that it names, can be made active
  pub entry_passes : IsSound loader.memory loader.users → is_table lies.is.head ≡ true → (k : ℕ) → k < entry_count lies.is.head.length
      → (other : ℕ) × (named_by (kept_outlines loader.users) owner (target_at (bytes_at loader.memory lies.h.slot) k).file ≡ Some other)
      × (load_segment_refusal (seen_by loader other) (target_at (bytes_at loader.memory lies.h.slot) k).segment ≡ None)
  entry_passes sound table k inside =
      let place = made_at loader.users owner lies.is.kept lies.is.made in
      let its = has loader sound owner segment lies.h lies.is in
      let there : IsSome (there_at (presence loader.memory.slots (Some lies.h))) = rw lies.is.active refl in
      let t = target_at (bytes_at loader.memory lies.h.slot) k in
      let call = subst (λ (n : ℕ). IsCall loader.users n t) place.1 (sound.calls (owner - first_id) segment k lies.is.head lies.h its table there inside) in
      let runs = named_runs loader.users sound.attached owner t.file call.other lies.is.kept call.kept lies.is.made lies.is.runs call.named call.made in (
        call.other,
        call.named,
        ap (λ (o : Option LoadedUser). load_segment_refusal (option_map seen_in o) t.segment) call.made ∙ passes_all (seen_in call.kept) t.segment call.head runs call.head' call.loaded call.dynamic,
      )

-- ---- a place

module _ (loader : Loaded) (id number at : ℕ) (place : Entered) (leads : LeadsTo loader id number at place) (kept : LoadedUser) (made : user_of loader.users place.user ≡ Some kept)
    (head : SegmentHead) (head' : at_number kept.heads place.segment ≡ Some head) where
  same : leads.lies.is.head ≡ head
  same = head_same loader place.address place.user place.segment place.offset leads.lies kept made head head'

  pub enters_place : is_table head ≡ false → EntersPlace loader id number at place
  enters_place plain = record { leads = leads; plain = ap is_table same ∙ plain }

  pub no_entry : is_table head ≡ true → ((k : ℕ) → k < entry_count head.length → entry_place k ≢ place.offset) → IsJslRefusal loader id number at fault.NotEntry
  no_entry table apart = NoEntry place leads (ap is_table same ∙ table) (λ k inside. apart k (subst (λ (h : SegmentHead). k < entry_count h.length) same inside)) refl

  pub calls_entry : IsSound loader.memory loader.users → (handle : Option Handle) → handle_at kept.handles place.segment ≡ handle → is_table head ≡ true → (k : ℕ) → k < entry_count head.length → entry_place k ≡ place.offset
      → (bytes : List ℕ) → IsSomeAnd handle (λ h. bytes ≡ bytes_at loader.memory h.slot) → (t : Target) → t ≡ target_at bytes k → (other : ℕ) → named_by (kept_outlines loader.users) place.user t.file ≡ Some other
      → CallsEntry loader id number at other t.segment t.offset
  calls_entry sound handle handle' table k inside code bytes here t is other named =
      let its_handle = handle_same loader place.address place.user place.segment place.offset leads.lies kept made handle handle' in
      let its_bytes = borrowed_here loader place.address place.user place.segment place.offset leads.lies handle bytes its_handle here in
      let its_target : t ≡ target_at (bytes_at loader.memory leads.lies.h.slot) k = is ∙ ap (λ (bs : List ℕ). target_at bs k) its_bytes in
      let passes = entry_passes loader place.address place.user place.segment place.offset leads.lies sound (ap is_table same ∙ table) k (subst (λ (h : SegmentHead). k < entry_count h.length) (sym same) inside) in
      let one : passes.0 ≡ other = same_Some passes.0 other (sym passes.1 ∙ ap (λ (x : Target). named_by (kept_outlines loader.users) place.user x.file) (sym its_target) ∙ named) in
      record {
        place = place;
        leads = leads;
        target = t;
        entry = record {
          lies = leads.lies;
          table = ap is_table same ∙ table;
          k = k;
          inside = subst (λ (h : SegmentHead). k < entry_count h.length) (sym same) inside;
          code = code;
          target_is = its_target;
        };
        named = named;
        segment' = refl;
        offset' = refl;
        passes = ap (λ (x : Target). load_segment_refusal (seen_by loader other) x.segment) its_target
            ∙ subst (λ (n : ℕ). load_segment_refusal (seen_by loader n) (target_at (bytes_at loader.memory leads.lies.h.slot) k).segment ≡ None) one passes.2;
      }

-- an entry of a table names a user
module _ (loader : Loaded) (address owner segment offset : ℕ) (lies : LiesIn loader address owner segment offset) (kept : LoadedUser) (made : user_of loader.users owner ≡ Some kept)
    (head : SegmentHead) (head' : at_number kept.heads segment ≡ Some head) where
  pub names_one : IsSound loader.memory loader.users → (handle : Option Handle) → handle_at kept.handles segment ≡ handle → is_table head ≡ true → (k : ℕ) → k < entry_count head.length
      → (bytes : List ℕ) → IsSomeAnd handle (λ h. bytes ≡ bytes_at loader.memory h.slot) → (t : Target) → t ≡ target_at bytes k → IsSome (named_by (kept_outlines loader.users) owner t.file)
  names_one sound handle handle' table k inside bytes here t is =
      let its_head = head_same loader address owner segment offset lies kept made head head' in
      let its_handle = handle_same loader address owner segment offset lies kept made handle handle' in
      let its_bytes = borrowed_here loader address owner segment offset lies handle bytes its_handle here in
      let its_target : t ≡ target_at (bytes_at loader.memory lies.h.slot) k = is ∙ ap (λ (bs : List ℕ). target_at bs k) its_bytes in
      let passes = entry_passes loader address owner segment offset lies sound (ap is_table its_head ∙ table) k (subst (λ (h : SegmentHead). k < entry_count h.length) (sym its_head) inside) in
      let there : named_by (kept_outlines loader.users) owner t.file ≡ Some passes.0 = ap (λ (x : Target). named_by (kept_outlines loader.users) owner x.file) its_target ∙ passes.1 in
      rw there refl

-- ---- reads

-- a file is read for an entry where its segment isn't there
pub has_asked : (loader : Loaded) (id number at owner segment offset : ℕ) → CallsEntry loader id number at owner segment offset → (before now : ℕ)
    → (load_segment_refusal (seen_by loader owner) segment ≡ None → segment_reads loader owner segment ≡ true → now ≡ one_more before)
    → (segment_reads loader owner segment ≡ false → now ≡ before) → HasAsked loader id number at before now
has_asked loader id number at owner segment offset calls before now asked unasked = go (segment_reads loader owner segment) refl
  where
    go : (b : Bool) → segment_reads loader owner segment ≡ b → HasAsked loader id number at before now
    go false is = inr (IsThere owner segment offset calls is, unasked is)
    go true is = inl (record { other = owner; segment = segment; offset = offset; calls = calls; reads = is }, asked calls.passes is)
