-- Commands that may read a file once: a segment that is made active, a JSL, a restart.
use Rattle.std.proofs.Common.{◌≡◌, ◌≢◌, inl, inr, ℕ, Bool, true, false, cond, ◌≤◌, List, [], ◌∷◌, map, Option, Some, None, IsSome, Result, Ok, Err, refl, sym, ap, subst, ◌∙◌, arith}
use Rattle.std.specs.Prelude.{◌==◌, slice_index, IfOk}
use Rattle.std.specs.Option.{option_map, option_and_then}
use Rattle.std.proofs.lemmas.Option.{same_Some}
use Rattle.omf_io.specs.Counts.{one_more, saturating_sum}
use Rattle.omf_io.specs.Files.{FileMap, StoreSeen, IsUnread}
use Rattle.omf_base.specs.declared.line.LineFault.{LineFault}
use Rattle.omf_format.specs.File.{Segment}
use Rattle.load_meaning.specs.declared.load.LoadFault.{LoadFault}
use Rattle.load_meaning.specs.LoadTable.{table_of}
use Rattle.iigs_meaning.specs.declared.handles.Handle.{Handle}
use Rattle.loader_machine.specs.Rule.{RoomRule}
use Rattle.iigs_meaning.specs.Memory.{Memory}
use Rattle.loader_machine.specs.declared.faults.LoaderFault.{LoaderFault}
use Rattle.loader_machine.specs.declared.faults.LoaderFault.TheVariants as faults
use Rattle.loader_machine.specs.declared.seen.SegmentHead.{SegmentHead}
use Rattle.loader_machine.specs.declared.seen.Presence.{Presence}
use Rattle.loader_machine.specs.declared.seen.Presence.TheVariants.{Absent, Purged, Idle, Active}
use Rattle.loader_machine.specs.Heads.{head_of}
use Rattle.loader_machine.specs.State.{Machine, is_attached}
use Rattle.loader_machine.specs.Presences.{presence}
use Rattle.loader_machine.specs.Commands as commands
use Rattle.loader_machine.specs.Commands.{Command, LoadSegment, Jsl, Restart, Reply}
use Rattle.loader_machine.specs.Refusals.{Refuse, load_segment_refusal, restart_refusal}
use Rattle.loader_machine.specs.Steps.{lost_in, lost_refusal}
use Rattle.loader_machine.specs.Needs.{NeedsAfter}
use Rattle.loader_machine.specs.Replies.{reply_line}
use Rattle.loader_agrees.specs.Agrees.{LoadedUser, Loaded, kept_outlines, seen_by, Agrees, Meets, MeetsReads, ReadsNeeded}
use Rattle.sys_loader.specs.declared.answers.Started.{Started}
use Rattle.sys_loader.specs.declared.answers.Entered.{Entered}
use Rattle.loader_users.specs.Taken.{IsBadFile}
use Rattle.sys_loader.specs.Calls.{IsBeginRefusal}
use Rattle.sys_loader.specs.Replies.{load_reply}
use Rattle.loader_users.specs.Changed.{IsChanged}
use Rattle.sys_loader.specs.Activating.{IsBringRefusal, IsComeRefusal, IsReadRefusal, CantRead, LacksMemory, CantCome, DidCome, HasActivated, DidActivate, segment_reads}
use Rattle.sys_loader.specs.Following as following_jsl
use Rattle.sys_loader.specs.Following.{jsl_reply, IsJslRefusal, NoBytes, NoJsl, NoPlace, NoEntry, entered_at, HasAsked, DidJsl}
use Rattle.sys_loader.specs.Restarting as restarting
use Rattle.sys_loader.specs.Restarting.{restart_reads, IsAgainRefusal, IsRestartRefusal, DidRestart}
use Rattle.loader_users.specs.Users.{kept_heads}
use Rattle.loader_replies.specs.Replied.{unread, MayRead, ReadsAtMost, IsUnanswered}
use Rattle.loader_replies.proofs.Words.{is_unread_fault, is_full_fault, OnceAtMost}
use Rattle.loader_replies.specs.Answered.{HasLine}
use Rattle.loader_replies.proofs.FileReads.{unread_once, unread_untold, meets_reads, read_line, good_text, bad_text}
use Rattle.loader_replies.proofs.Refusals.{bytes_safe, segment_safe, restart_safe}

-- ---- the count of faults

abbrev unread_of : LoaderFault → ℕ
unread_of why = unread (commands.Refused why ∷ [])

-- a call that succeeds leaves the count, and one that is refused raises it once at most: over files that aren't revealed, exactly where
-- they couldn't be read
abbrev pub IsFaulted : {A : Type 0} → Option FileMap → Result A LoaderFault → ℕ → ℕ → Type 0
IsFaulted held (Ok it) before now = now ≡ before
IsFaulted held (Err why) before now = OnceAtMost before now × (held ≡ None → now ≡ saturating_sum (unread_of why) before)

-- another refusal leaves it
pub other_fault : (A : Type 0) (held : Option FileMap) (why : LoaderFault) (before now : ℕ) → is_unread_fault why ≡ false → now ≡ before → IsFaulted {A = A} held (Err why) before now
other_fault A held why before now safe same = (inl same, λ none. rw safe same)

pub unread_fault : (A : Type 0) (held : Option FileMap) (path : List ℕ) (why : LoaderFault) (before now : ℕ) → why ≡ faults.CannotRead → IsUnread held path before now → IsFaulted {A = A} held (Err why) before now
unread_fault A held path why before now is cause =
    (unread_once held path before now cause, λ none. unread_untold held path before now none cause ∙ ap (λ (f : LoaderFault). saturating_sum (unread_of f) before) (sym is))

bad_safe : (attached : Bool) (file : List ℕ) (why : LoaderFault) → IsBadFile attached file why → is_unread_fault why ≡ false
bad_safe attached file why (inl short) = ap is_unread_fault short
bad_safe attached file why (inr bad) = ap is_unread_fault bad.2

-- neither `cannot read` nor the refusal for the count of users
abbrev pub IsOther : LoaderFault → Type 0
IsOther why = (is_unread_fault why ≡ false) × (is_full_fault why ≡ false)

-- an entry that leads nowhere
pub lost_safe : (attached : List (List SegmentHead)) (segments : List Segment) (why : LoaderFault) → lost_refusal attached segments ≡ Some why → IsOther why
unfolding lost_refusal
lost_safe attached segments why is = go (option_and_then (lost_in attached segments) (table_of segments)) is
  where
    go : (o : Option LoadFault) → option_map faults.BadFile o ≡ Some why → IsOther why
    go None e = absurd cc
    go (Some bad) e = subst IsOther (same_Some (faults.BadFile bad) why e) (refl, refl)

pub begin_safe : (memory : Memory) (id : ℕ) (heads : List SegmentHead) (why : LoaderFault) → IsBeginRefusal memory id heads why → IsOther why
begin_safe memory id heads why (inl full) = subst IsOther (sym full.0) (refl, refl)
begin_safe memory id heads why (inr room) = subst IsOther (sym room.1) (refl, refl)

changed_safe : (kept found : List SegmentHead) (why : LoaderFault) → IsChanged kept found why → is_unread_fault why ≡ false
changed_safe kept found why (inl differs) = ap is_unread_fault differs.4
changed_safe kept found why (inr count) = ap is_unread_fault count.2

bring_safe : (memory : Memory) (head : SegmentHead) (handle : Option Handle) (number : ℕ) (why : LoaderFault) → IsBringRefusal memory head handle number why → is_unread_fault why ≡ false
bring_safe memory head None number why (inl full) = ap is_unread_fault full.0
bring_safe memory head None number why (inr room) = ap is_unread_fault room.0
bring_safe memory head (Some h) number why room = ap is_unread_fault room.0

come_safe : (file : List ℕ) (old : Loaded) (id number : ℕ) (kept : LoadedUser) (head : SegmentHead) (handle : Option Handle) (why : LoaderFault) → IsComeRefusal file old id number kept head handle why → is_unread_fault why ≡ false
come_safe file old id number kept head handle why (inl bad) = bad_safe (is_attached (kept_outlines old.users) id) file why bad
come_safe file old id number kept head handle why (inr (segments, loadable, inl changes)) = changed_safe kept.heads (map head_of segments) why changes
come_safe file old id number kept head handle why (inr (segments, loadable, inr none)) = bring_safe old.memory head handle number why none.1

-- ---- a segment that is made active

module _ (held : Option FileMap) (old : Loaded) (id number : ℕ) (new : Loaded) (before now : ℕ) where
  read_faults : (kept : LoadedUser) (head : SegmentHead) (handle : Option Handle) (why : LoaderFault) → IsReadRefusal held old id number kept head handle before now why → IsFaulted {A = ℕ} held (Err why) before now
  read_faults kept head handle why (CantRead cause is) = unread_fault ℕ held kept.path why before now is cause
  read_faults kept head handle why (LacksMemory is same) = other_fault ℕ held why before now (ap is_unread_fault is) same
  read_faults kept head handle why (CantCome file is_read none same) = other_fault ℕ held why before now (come_safe file old id number kept head handle why none) same

  come_faults : (kept : LoadedUser) (head : SegmentHead) (handle : Option Handle) (result : Result ℕ LoaderFault) → DidCome held old id number kept head handle result new before now → IsFaulted held result before now
  come_faults kept head handle (Ok address) did = did.1
  come_faults kept head handle (Err why) did = read_faults kept head handle why did.0

  made_faults : (kept : LoadedUser) (head : SegmentHead) (handle : Option Handle) (p : Presence) (result : Result ℕ LoaderFault) → HasActivated held old id number kept head handle p result new before now → IsFaulted held result before now
  made_faults kept head handle (Active h at) result did = subst (λ (r : Result ℕ LoaderFault). IsFaulted held r before now) (sym did.0) did.2
  made_faults kept head handle (Idle h at) result did = subst (λ (r : Result ℕ LoaderFault). IsFaulted held r before now) (sym did.0) did.2
  made_faults kept head handle (Purged h) result did = come_faults kept head handle result did
  made_faults kept head handle Absent result did = come_faults kept head handle result did

  activation_faults : (result : Result ℕ LoaderFault) → DidActivate held old id number result new before now → IsFaulted held result before now
  activation_faults result (inl stopped) =
      subst (λ (r : Result ℕ LoaderFault). IsFaulted held r before now) (sym stopped.2)
      (other_fault ℕ held stopped.0 before now (segment_safe (seen_by old id) number stopped.0 stopped.1) stopped.4)
  activation_faults result (inr did) = made_faults did.2.kept did.0 did.1 (presence old.memory.slots did.1) result did.3

-- ---- a JSL

jsl_safe : (loader : Loaded) (id number at : ℕ) (why : LoaderFault) → IsJslRefusal loader id number at why → is_unread_fault why ≡ false
jsl_safe loader id number at why (NoBytes is) = bytes_safe loader.memory.slots (seen_by loader id) number at 4 why is
jsl_safe loader id number at why (NoJsl bytes borrowed is) = go (slice_index bytes 0 == 0x22) is
  where
    go : (b : Bool) → cond b None (Some faults.NotJsl) ≡ Some why → is_unread_fault why ≡ false
    go true e = absurd cc
    go false e = ap is_unread_fault (sym (same_Some faults.NotJsl why e))
jsl_safe loader id number at why (NoPlace address call none is) = ap is_unread_fault is
jsl_safe loader id number at why (NoEntry place leads table apart is) = ap is_unread_fault is

entered_faults : (held : Option FileMap) (user segment offset : ℕ) (made : Result ℕ LoaderFault) (before now : ℕ) → IsFaulted held made before now → IsFaulted held (entered_at user segment offset made) before now
entered_faults held user segment offset (Ok address) before now is = is
entered_faults held user segment offset (Err why) before now is = is

jsl_faults : (held : Option FileMap) (old : Loaded) (id number at : ℕ) (result : Result Entered LoaderFault) (new : Loaded) (before now : ℕ) → DidJsl held old id number at result new before now → IsFaulted held result before now
jsl_faults held old id number at result new before now (following_jsl.Stops why is result_is new_is now_is) =
    subst (λ (r : Result Entered LoaderFault). IsFaulted held r before now) (sym result_is) (other_fault Entered held why before now (jsl_safe old id number at why is) now_is)
jsl_faults held old id number at result new before now (following_jsl.Leads place is result_is new_is now_is) =
    subst (λ (r : Result Entered LoaderFault). IsFaulted held r before now) (sym result_is) now_is
jsl_faults held old id number at result new before now (following_jsl.Calls owner segment offset calls made did result_is) =
    subst (λ (r : Result Entered LoaderFault). IsFaulted held r before now) (sym result_is)
    (entered_faults held owner segment offset made before now (activation_faults held old owner segment new before now made did))

-- ---- a restart

again_safe : (file : List ℕ) (old : Loaded) (id : ℕ) (kept : LoadedUser) (why : LoaderFault) → IsAgainRefusal file old id kept why → is_unread_fault why ≡ false
again_safe file old id kept why (inl bad) = bad_safe false file why bad
again_safe file old id kept why (inr (segments, loadable, inl (inl lost))) = (lost_safe (kept_heads old.users kept.attached) segments why lost).0
again_safe file old id kept why (inr (segments, loadable, inl (inr changes))) = changed_safe kept.heads (map head_of segments) why changes.1
again_safe file old id kept why (inr (segments, loadable, inr none)) = (begin_safe (restarting.released_memory old.memory id) id kept.heads why none.2).0

restart_refusal_faults : (held : Option FileMap) (old : Loaded) (id : ℕ) (why : LoaderFault) (before now : ℕ) → IsRestartRefusal held old id before now why → IsFaulted {A = Started} held (Err why) before now
restart_refusal_faults held old id why before now (restarting.IsStopped is same) = other_fault Started held why before now (restart_safe (is_attached (kept_outlines old.users) id) (seen_by old id) why is) same
restart_refusal_faults held old id why before now (restarting.CantRead kept can some cause is) = unread_fault Started held kept.path why before now is cause
restart_refusal_faults held old id why before now (restarting.LacksMemory passes some is same) = other_fault Started held why before now (ap is_unread_fault is) same
restart_refusal_faults held old id why before now (restarting.CantRestart kept can some file is_read none same) = other_fault Started held why before now (again_safe file old id kept why none) same

restart_faults : (held : Option FileMap) (old : Loaded) (id : ℕ) (result : Result Started LoaderFault) (new : Loaded) (before now : ℕ) → DidRestart held old id result new before now → IsFaulted held result before now
restart_faults held old id (Ok started) new before now did = did.3
restart_faults held old id (Err why) new before now did = restart_refusal_faults held old id why before now did.0

-- ---- the count of reads

once : (r : Refuse) (b : Bool) (before now : ℕ) → (r ≡ None → b ≡ true → now ≡ one_more before) → (b ≡ false → now ≡ before) → (IsSome r → now ≡ before) → OnceAtMost before now
once (Some why) b before now asked unasked refused = inl (refused refl)
once None true before now asked unasked refused = inr (asked refl refl)
once None false before now asked unasked refused = inl (unasked refl)

jsl_once : (loader : Loaded) (id number at before now : ℕ) → HasAsked loader id number at before now → OnceAtMost before now
jsl_once loader id number at before now (inl more) = inr more.1
jsl_once loader id number at before now (inr same) = inl same.1

-- ---- lines

-- over revealed files, with which the loader agrees, the reply is the machine's
abbrev Meets' : Command → Loaded → Loaded → StoreSeen → StoreSeen → Reply → Type 0
Meets' command old new before now reply = (files : FileMap) (state : Machine) → before.held ≡ Some files → Agrees files old state → Meets RoomRule files state command reply new before.faults now.faults

module _ (command : Command) (old new : Loaded) (before now : StoreSeen) (held : now.held ≡ before.held)
    (as_unanswered : ReadsAtMost 1 before now → IsUnanswered command before now)
    (alone : (files : FileMap) (state : Machine) (rows : List (List ℕ)) (following : ℕ) → NeedsAfter files state command rows following → following ≡ 0)
    (needed : (files : FileMap) (state : Machine) → before.held ≡ Some files → Agrees files old state → ReadsNeeded files state command 0 before.asked now.asked)
    (may : (reply : Reply) (n : ℕ) → n ≤ 1 → MayRead command reply n) (asked : OnceAtMost before.asked now.asked) where
  once_line : (line : Result (List ℕ) LineFault) (reply : Reply) → IfOk line (λ text. (reply ≢ commands.Refused faults.Memory) × (text ≡ reply_line reply)) → OnceAtMost before.faults now.faults
      → (before.held ≡ None → now.faults ≡ saturating_sum (unread (reply ∷ [])) before.faults) → Meets' command old new before now reply → HasLine line command old new before now
  once_line line reply is faults_once untold meets = go asked
    where
      reads : (files : FileMap) (state : Machine) → before.held ≡ Some files → Agrees files old state → MeetsReads RoomRule files state command reply new before now
      reads files state reported agrees = meets_reads files state command reply new before now (alone files state) (needed files state reported agrees) (meets files state reported agrees)

      go : OnceAtMost before.asked now.asked → HasLine line command old new before now
      go (inl same) = read_line command 1 old new before now held as_unanswered line reply 0 (omega arith) is (may reply 0 (omega arith)) same faults_once untold reads
      go (inr more) = read_line command 1 old new before now held as_unanswered line reply 1 (omega arith) is (may reply 1 (omega arith)) more faults_once untold reads

  pub good_line : (line : Result (List ℕ) LineFault) (reply : Reply) → reply ≢ commands.Refused faults.Memory → unread (reply ∷ []) ≡ 0 → IfOk line (λ text. text ≡ reply_line reply)
      → now.faults ≡ before.faults → Meets' command old new before now reply → HasLine line command old new before now
  good_line line reply other none text same meets =
      once_line line reply (good_text line reply other text) (inl same) (λ untold. rw none same) meets

  pub bad_line : (A : Type 0) (line : Result (List ℕ) LineFault) (why : LoaderFault) → IfOk line (λ text. (why ≢ faults.Memory) × (text ≡ reply_line (commands.Refused why)))
      → IsFaulted {A = A} before.held (Err why) before.faults now.faults → Meets' command old new before now (commands.Refused why) → HasLine line command old new before now
  bad_line A line why text faulted meets =
      once_line line (commands.Refused why) (bad_text line why text) faulted.0 faulted.1 meets

module _ (old new : Loaded) (id number : ℕ) (before now : StoreSeen) (held : now.held ≡ before.held)
    (asked : load_segment_refusal (seen_by old id) number ≡ None → segment_reads old id number ≡ true → now.asked ≡ one_more before.asked)
    (unasked : segment_reads old id number ≡ false → now.asked ≡ before.asked) (refused : IsSome (load_segment_refusal (seen_by old id) number) → now.asked ≡ before.asked)
    (needed : (files : FileMap) (state : Machine) → before.held ≡ Some files → Agrees files old state → ReadsNeeded files state (LoadSegment id number) 0 before.asked now.asked) where
  pub active_segment : (line : Result (List ℕ) LineFault) (address : ℕ) → IfOk line (λ text. text ≡ reply_line (commands.MadeActive number address))
      → DidActivate before.held old id number (Ok address) new before.faults now.faults → Meets' (LoadSegment id number) old new before now (commands.MadeActive number address)
      → HasLine line (LoadSegment id number) old new before now
  active_segment line address text did meets =
      good_line (LoadSegment id number) old new before now held (λ o. o) (λ files state rows following is. is.1) needed (λ reply n few. few) (once _ _ before.asked now.asked asked unasked refused) line (commands.MadeActive number address)
      (λ same. absurd cc) refl text (activation_faults before.held old id number new before.faults now.faults (Ok address) did) meets

  pub no_segment : (line : Result (List ℕ) LineFault) (why : LoaderFault) → IfOk line (λ text. (why ≢ faults.Memory) × (text ≡ reply_line (commands.Refused why)))
      → DidActivate before.held old id number (Err why) new before.faults now.faults → Meets' (LoadSegment id number) old new before now (commands.Refused why)
      → HasLine line (LoadSegment id number) old new before now
  no_segment line why text did meets =
      bad_line (LoadSegment id number) old new before now held (λ o. o) (λ files state rows following is. is.1) needed (λ reply n few. few) (once _ _ before.asked now.asked asked unasked refused) ℕ line why text
      (activation_faults before.held old id number new before.faults now.faults (Err why) did) meets

module _ (old new : Loaded) (id number at : ℕ) (before now : StoreSeen) (held : now.held ≡ before.held) (asked : HasAsked old id number at before.asked now.asked)
    (needed : (files : FileMap) (state : Machine) → before.held ≡ Some files → Agrees files old state → ReadsNeeded files state (Jsl id number at) 0 before.asked now.asked) where
  pub entered : (line : Result (List ℕ) LineFault) (place : Entered) → IfOk line (λ text. text ≡ reply_line (jsl_reply (Ok place)))
      → DidJsl before.held old id number at (Ok place) new before.faults now.faults → Meets' (Jsl id number at) old new before now (jsl_reply (Ok place))
      → HasLine line (Jsl id number at) old new before now
  entered line place text did meets =
      good_line (Jsl id number at) old new before now held (λ o. o) (λ files state rows following is. is.1) needed (λ reply n few. few) (jsl_once old id number at before.asked now.asked asked) line (jsl_reply (Ok place))
      (λ same. absurd cc) refl text (jsl_faults before.held old id number at (Ok place) new before.faults now.faults did) meets

  pub not_entered : (line : Result (List ℕ) LineFault) (why : LoaderFault) → IfOk line (λ text. (why ≢ faults.Memory) × (text ≡ reply_line (commands.Refused why)))
      → DidJsl before.held old id number at (Err why) new before.faults now.faults → Meets' (Jsl id number at) old new before now (jsl_reply (Err why))
      → HasLine line (Jsl id number at) old new before now
  not_entered line why text did meets =
      bad_line (Jsl id number at) old new before now held (λ o. o) (λ files state rows following is. is.1) needed (λ reply n few. few) (jsl_once old id number at before.asked now.asked asked) Entered line why text
      (jsl_faults before.held old id number at (Err why) new before.faults now.faults did) meets

module _ (old new : Loaded) (id : ℕ) (before now : StoreSeen) (held : now.held ≡ before.held)
    (asked : restart_refusal (is_attached (kept_outlines old.users) id) (seen_by old id) ≡ None → restart_reads old id ≡ true → now.asked ≡ one_more before.asked)
    (unasked : restart_reads old id ≡ false → now.asked ≡ before.asked) (refused : IsSome (restart_refusal (is_attached (kept_outlines old.users) id) (seen_by old id)) → now.asked ≡ before.asked)
    (needed : (files : FileMap) (state : Machine) → before.held ≡ Some files → Agrees files old state → ReadsNeeded files state (Restart id) 0 before.asked now.asked) where
  pub restarted : (line : Result (List ℕ) LineFault) (started : Started) → IfOk line (λ text. text ≡ reply_line (load_reply (Ok started)))
      → DidRestart before.held old id (Ok started) new before.faults now.faults → Meets' (Restart id) old new before now (load_reply (Ok started))
      → HasLine line (Restart id) old new before now
  restarted line started text did meets =
      good_line (Restart id) old new before now held (λ o. o) (λ files state rows following is. is.1) needed (λ reply n few. few) (once _ _ before.asked now.asked asked unasked refused) line (load_reply (Ok started))
      (λ same. absurd cc) refl text (restart_faults before.held old id (Ok started) new before.faults now.faults did) meets

  pub not_restarted : (line : Result (List ℕ) LineFault) (why : LoaderFault) → IfOk line (λ text. (why ≢ faults.Memory) × (text ≡ reply_line (commands.Refused why)))
      → DidRestart before.held old id (Err why) new before.faults now.faults → Meets' (Restart id) old new before now (load_reply (Err why))
      → HasLine line (Restart id) old new before now
  not_restarted line why text did meets =
      bad_line (Restart id) old new before now held (λ o. o) (λ files state rows following is. is.1) needed (λ reply n few. few) (once _ _ before.asked now.asked asked unasked refused) Started line why text
      (restart_faults before.held old id (Err why) new before.faults now.faults did) meets
