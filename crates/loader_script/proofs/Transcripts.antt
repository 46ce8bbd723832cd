-- Replies to a script's commands, one more at a time.
use Rattle.std.proofs.Common.{◌≡◌, ℕ, zero, suc, cond, ◌+◌, List, [], ◌∷◌, ◌++◌, length, length-append, Option, Some, None, refl, sym, ap, subst, ◌∙◌, arith, append_assoc}
use Rattle.std.specs.Option.{option_map}
use Rattle.std.proofs.lemmas.Grind.{flat_map-append}
use Rattle.std.proofs.lemmas.List.Sums.{sum_by-append}
use Rattle.std.proofs.lemmas.List.{append-nil}
use Rattle.omf_io.specs.Counts.{one_more, saturating_sum, IfRevealedOr}
use Rattle.omf_io.specs.Files.{FileMap, StoreSeen}
use Rattle.omf_io.specs.Sinks.{SinkSeen, with_text}
use Rattle.loader_machine.specs.State.{Machine, empty_of}
use Rattle.loader_machine.specs.Commands.{Command, Reply}
use Rattle.loader_machine.specs.Needs.{IsReadFor}
use Rattle.loader_machine.specs.Transcript.{IsAnswered, AreAnswered}
use Rattle.loader_machine.specs.Replies.{reply_line, replies_text}
use Rattle.loader_agrees.specs.Agrees.{Loaded, Agrees}
use Rattle.loader_replies.specs.Replied.{is_unread, unread, MayRead, MayReadAll, AreReplies}
use Rattle.loader_replies.specs.Answered.{IsAnswer}
use Rattle.loader_replies.proofs.OneCommand.{OneReported}

-- ---- counts

risen-more : (m n count : ℕ) → saturating_sum n (saturating_sum m count) ≡ saturating_sum (m + n) count
risen-more m zero count = let none : m ≡ m + 0 = omega arith in ap (λ (k : ℕ). saturating_sum k count) none
risen-more m (suc n) count =
    let more : suc (m + n) ≡ m + suc n = omega arith in
    ap one_more (risen-more m n count) ∙ ap (λ (k : ℕ). saturating_sum k count) more

unread-push : (replies : List Reply) (reply : Reply) → unread (replies ++ reply ∷ []) ≡ unread replies + unread (reply ∷ [])
unread-push replies reply = sum_by-append (λ r. cond (is_unread r) 1 0) replies (reply ∷ [])

may_read-push : (commands : List Command) (replies : List Reply) (command : Command) (reply : Reply) (reads here : ℕ) → length replies ≡ length commands
    → MayReadAll commands replies reads → MayRead command reply here → MayReadAll (commands ++ command ∷ []) (replies ++ reply ∷ []) (reads + here)
may_read-push [] [] command reply reads here same all one = (here, 0, one, refl, omega (arith, all))
may_read-push [] (r ∷ replies) command reply reads here same all one = absurd (omega (arith, same))
may_read-push (c ∷ commands) [] command reply reads here same all one = absurd (omega (arith, same))
may_read-push (c ∷ commands) (r ∷ replies) command reply reads here same all one =
    (all.0, all.1 + here, all.2, may_read-push commands replies command reply all.1 here (omega (arith, same)) all.3 one, omega (arith, all.4))

-- ---- transcripts

-- one command more
answered-push : (files : FileMap) (state : Machine) (commands : List Command) (replies : List Reply) (others reads : ℕ) (last : Machine) (command : Command) (reply : Reply) (here read : ℕ) (next : Machine)
    → AreAnswered files state commands replies others reads last → IsAnswered files last command reply here next → IsReadFor files last command here read
    → AreAnswered files state (commands ++ command ∷ []) (replies ++ reply ∷ []) (others + here) (reads + read) next
answered-push files state [] [] others reads last command reply here read next run one needs =
    let at : IsAnswered files state command reply here next = subst (λ (s : Machine). IsAnswered files s command reply here next) run.2 one in
    let needs' : IsReadFor files state command here read = subst (λ (s : Machine). IsReadFor files s command here read) run.2 needs in
    (here, 0, read, 0, next, at, needs', (refl, refl, refl), omega (arith, run.0), omega (arith, run.1))
answered-push files state [] (r ∷ replies) others reads last command reply here read next run one needs = absurd run
answered-push files state (c ∷ commands) [] others reads last command reply here read next run one needs = absurd run
answered-push files state (c ∷ commands) (r ∷ replies) others reads last command reply here read next run one needs =
    let later = answered-push files run.4 commands replies run.1 run.3 last command reply here read next run.7 one needs in
    (run.0, run.1 + here, run.2, run.3 + read, run.4, run.5, run.6, later, omega (arith, run.8), omega (arith, run.9))

-- ---- what was printed

pub with_text-none : (sink : SinkSeen) → sink ≡ with_text [] sink
with_text-none sink = go sink.written
  where
    seen : Option (List ℕ) → SinkSeen
    seen w = record { written = w; faults = sink.faults }

    go : (w : Option (List ℕ)) → seen w ≡ seen (option_map (λ text. text ++ []) w)
    go None = refl
    go (Some text) = ap (λ (t : List ℕ). seen (Some t)) (sym (append-nil text))

with_text-more : (a b : List ℕ) (sink : SinkSeen) → with_text b (with_text a sink) ≡ with_text (a ++ b) sink
with_text-more a b sink = ap seen (go sink.written)
  where
    seen : Option (List ℕ) → SinkSeen
    seen w = record { written = w; faults = sink.faults }

    go : (w : Option (List ℕ)) → option_map (λ text. text ++ b) (option_map (λ text. text ++ a) w) ≡ option_map (λ text. text ++ (a ++ b)) w
    go None = refl
    go (Some text) = ap (λ (t : List ℕ). Some t) (append_assoc text a b)

-- one reply more
pub printed_more : (replies : List Reply) (reply : Reply) (before mid now : SinkSeen) → mid ≡ with_text (replies_text replies) before → now ≡ with_text (reply_line reply) mid
    → now ≡ with_text (replies_text (replies ++ reply ∷ [])) before
printed_more replies reply before mid now so_far one =
    let text : replies_text replies ++ reply_line reply ≡ replies_text (replies ++ reply ∷ []) =
    ap (λ (t : List ℕ). replies_text replies ++ t) (sym (append-nil (reply_line reply))) ∙ sym (flat_map-append reply_line replies (reply ∷ [])) in
    one ∙ ap (with_text (reply_line reply)) so_far ∙ with_text-more (replies_text replies) (reply_line reply) before ∙ ap (λ (t : List ℕ). with_text t before) text

-- ---- all commands

-- what is reported for all answers, where the files are
abbrev pub AllReported : (FileMap → Machine → Type 0) → List Command → List Reply → StoreSeen → StoreSeen → Option FileMap → Type 0
AllReported P commands replies before now held = IfRevealedOr held
    ((reads : ℕ) × MayReadAll commands replies reads × (now.faults ≡ saturating_sum (unread replies) before.faults) × (now.asked ≡ saturating_sum reads before.asked))
    (λ files. (others : ℕ) × (reads : ℕ) × (last : Machine) × AreAnswered files (empty_of []) commands replies others reads last × P files last
    × (now.faults ≡ saturating_sum others before.faults) × (now.asked ≡ saturating_sum reads before.asked))

-- one command more
module _ (commands : List Command) (replies : List Reply) (command : Command) (reply : Reply) (old new : Loaded) (before mid now : StoreSeen)
    (so_far : AreReplies (λ files last. Agrees files old last) commands replies before mid) (one : IsAnswer command old reply new mid now) where
  held_same : mid.held ≡ before.held
  held_same = ap (λ (s : StoreSeen). s.held) so_far.store

  more_reported : (h : Option FileMap) → AllReported (λ files last. Agrees files old last) commands replies before mid h → OneReported command reply old new mid now h
      → AllReported (λ files last. Agrees files new last) (commands ++ command ∷ []) (replies ++ reply ∷ []) before now h
  more_reported None p q = (
    p.0 + q.0,
    may_read-push commands replies command reply p.0 q.0 so_far.one_each p.1 q.1,
    q.2 ∙ ap (saturating_sum (unread (reply ∷ []))) p.2 ∙ risen-more (unread replies) (unread (reply ∷ [])) before.faults
        ∙ ap (λ (n : ℕ). saturating_sum n before.faults) (sym (unread-push replies reply)),
    q.3 ∙ ap (saturating_sum q.0) p.3 ∙ risen-more p.0 q.0 before.asked,
  )
  more_reported (Some files) p q =
      let next = q p.2 p.4 in (
        p.0 + next.0,
        p.1 + next.1,
        next.2,
        answered-push files (empty_of []) commands replies p.0 p.1 p.2 command reply next.0 next.1 next.2 p.3 next.3 next.4,
        next.5,
        next.6 ∙ ap (saturating_sum next.0) p.5 ∙ risen-more p.0 next.0 before.faults,
        next.7 ∙ ap (saturating_sum next.1) p.6 ∙ risen-more p.1 next.1 before.asked,
      )

  pub more_replied : AreReplies (λ files last. Agrees files new last) (commands ++ command ∷ []) (replies ++ reply ∷ []) before now
  more_replied = record {
    one_each = omega (arith, length-append replies (reply ∷ []), length-append commands (command ∷ []), so_far.one_each);
    reported = more_reported before.held so_far.reported (subst (OneReported command reply old new mid now) held_same one.reported);
    store = one.store ∙ ap (λ (h : Option FileMap). record { held = h; faults = now.faults; asked = now.asked }) held_same;
  }

-- what was replied, whatever state it led to
pub forget : (P Q : FileMap → Machine → Type 0) (commands : List Command) (replies : List Reply) (before now : StoreSeen) → ((files : FileMap) (last : Machine) → P files last → Q files last)
    → AreReplies P commands replies before now → AreReplies Q commands replies before now
forget P Q commands replies before now weaker run = record { one_each = run.one_each; reported = go before.held run.reported; store = run.store }
  where
    go : (h : Option FileMap) → AllReported P commands replies before now h → AllReported Q commands replies before now h
    go None p = p
    go (Some files) p = (p.0, p.1, p.2, p.3, weaker files p.2 p.4, p.5, p.6)
