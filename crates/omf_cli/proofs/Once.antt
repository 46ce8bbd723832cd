-- Each end was reached by exactly its reads, where the count is below its end.
use Rattle.std.proofs.Common.{◌≡◌, ℕ, zero, suc, ◌+◌, ◌-◌, ◌^◌, ◌≤◌, List, ◌∷◌, length, length-append, inl, inr, Option, Some, None, refl, ap, subst, ◌∙◌, arith}
use Rattle.omf_io.specs.Counts.{one_more, saturating_sum}
use Rattle.omf_making.specs.declared.status.Status.{Status}
use Rattle.omf_making.specs.declared.status.Status.TheVariants.{Done, Refused, Usage, CannotRead, CannotWrite, CannotPrint, Memory}
use Rattle.omf_io.specs.Files.{StoreSeen}
use Rattle.loader_agrees.specs.Agrees.{Loaded}
use Rattle.omf_making.specs.Form.{Asm, Link, Dump, Run, Lib, Stress, Rtl, LinkRt, Listing, Compact}
use Rattle.omf_making.specs.Made.{Made}
use Rattle.omf_io.specs.Outside.{Outside}
use Rattle.omf_making.specs.Making.{StopsReading, IsShort, Writes, Says, MakesRun}
use Rattle.omf_commands.specs.Assemble.{AsmMakes}
use Rattle.omf_commands.specs.Compact.{CompactMakes}
use Rattle.omf_commands.specs.Dump.{DumpMakes}
use Rattle.omf_commands.specs.Library.{LibMakes}
use Rattle.omf_commands.specs.Listings.{ListMakes}
use Rattle.omf_commands.specs.Script.{ScriptRun}
use Rattle.link_meaning.specs.declared.form.LinkForm.TheVariants.{Program, Runtime}
use Rattle.omf_cli.specs.Link.{LinkMakes, given_alone, given_with}
use Rattle.omf_cli.specs.Laws.{IsAfterReading, InputsAreAskedForOnce, NoMoreIsAskedFor, ScriptsAreAskedForOnce}

risen-is : (more count : ℕ) → count + more ≤ 2 ^ 64 - 1 → saturating_sum more count ≡ count + more
risen-is zero count small = omega arith
risen-is (suc more) count small = ap one_more (risen-is more count (omega arith)) ∙ omega arith

-- where reading stopped, the store was asked as often as there are inputs up to that one
stopped : (inputs : List (List ℕ)) (path : List ℕ) (before now : StoreSeen) → before.asked + length inputs ≤ 2 ^ 64 - 1 → StopsReading inputs path before now
    → now.asked ≤ before.asked + length inputs
stopped inputs path before now small stops =
    let count : length inputs ≡ length stops.front + suc (length stops.rest) = ap length stops.inputs' ∙ length-append stops.front (path ∷ stops.rest) in
    let asked : now.asked ≡ before.asked + suc (length stops.front) =
    ap (λ (s : StoreSeen). s.asked) stops.store ∙ risen-is (suc (length stops.front)) before.asked (omega (arith, count, small)) in
    omega (arith, count, asked)

module _ (makes : List (List ℕ) → Made → Type 0) (inputs : List (List ℕ)) (o : Outside) (small : o.store.asked + length inputs ≤ 2 ^ 64 - 1) where
  abbrev AskedAll : Type 0
  AskedAll = o.new_store.asked ≡ o.store.asked + length inputs

  abbrev AskedNoMore : Type 0
  AskedNoMore = o.new_store.asked ≤ o.store.asked + length inputs

  no_more : AskedAll → AskedNoMore
  no_more all = omega (arith, all)

  -- all inputs were asked for, and then nothing
  after_all : (was : StoreSeen) → o.new_store ≡ was → was.asked ≡ saturating_sum (length inputs) o.store.asked → AskedAll
  after_all was is count = ap (λ (s : StoreSeen). s.asked) is ∙ count ∙ risen-is (length inputs) o.store.asked small

  done_all : (output : Option (List ℕ)) → Writes makes output inputs o.store o.new_store → AskedAll
  done_all None is = absurd is
  done_all (Some output) is = after_all _ is.2 refl

  said_done : (output : Option (List ℕ)) (text : List ℕ) → Says Done makes output inputs o.store o.new_store text → AskedAll
  said_done None text is = after_all _ is.1 refl
  said_done (Some output) text is = absurd is

  said_refused : (output : Option (List ℕ)) (text : List ℕ) → Says Refused makes output inputs o.store o.new_store text → AskedAll
  said_refused None text is = after_all _ is.1 refl
  said_refused (Some output) text is = after_all _ is.1 refl

  said_unwritten : (output : Option (List ℕ)) (text : List ℕ) → Says CannotWrite makes output inputs o.store o.new_store text → AskedAll
  said_unwritten None text is = absurd is
  said_unwritten (Some output) text is = after_all _ is.0.store refl

  said_unread : (output : Option (List ℕ)) (text : List ℕ) → Says CannotRead makes output inputs o.store o.new_store text → AskedNoMore
  said_unread None text is = stopped inputs is.0 o.store o.new_store small is.1
  said_unread (Some output) text is = stopped inputs is.0 o.store o.new_store small is.1

  said : (output : Option (List ℕ)) (wanted : Status) (text : List ℕ) → Says wanted makes output inputs o.store o.new_store text → AskedNoMore
  said output Done text is = no_more (said_done output text is)
  said output Refused text is = no_more (said_refused output text is)
  said output CannotWrite text is = no_more (said_unwritten output text is)
  said output CannotRead text is = said_unread output text is
  said None Usage text is = absurd is
  said (Some output) Usage text is = absurd is
  said None CannotPrint text is = absurd is
  said (Some output) CannotPrint text is = absurd is
  said None Memory text is = absurd is
  said (Some output) Memory text is = absurd is

  -- where memory was missing, some of the inputs were asked for
  short : IsShort inputs o.store o.new_store → AskedNoMore
  short is =
      let asked : o.new_store.asked ≡ o.store.asked + is.reads = ap (λ (s : StoreSeen). s.asked) is.store ∙ risen-is is.reads o.store.asked (omega (arith, is.most, small)) in
      omega (arith, asked, is.most)

  pub run_reads_all : (output : Option (List ℕ)) (result : Status) → IsAfterReading result → MakesRun makes output inputs result o → AskedAll
  run_reads_all output Done after (inl written) = done_all output written.0
  run_reads_all output Done after (inr printed) = said_done output printed.0 printed.1
  run_reads_all output Refused after is = said_refused output is.0 is.1
  run_reads_all output CannotWrite after is = said_unwritten output is.0 is.1
  run_reads_all output Usage after is = absurd after
  run_reads_all output CannotRead after is = absurd after
  run_reads_all output CannotPrint after is = absurd after
  run_reads_all output Memory after is = absurd after

  pub run_reads : (output : Option (List ℕ)) (result : Status) → MakesRun makes output inputs result o → AskedNoMore
  run_reads output Done (inl written) = no_more (done_all output written.0)
  run_reads output Done (inr printed) = said output Done printed.0 printed.1
  run_reads output Refused is = said output Refused is.0 is.1
  run_reads output CannotWrite is = said output CannotWrite is.0 is.1
  run_reads output CannotRead is = said output CannotRead is.0 is.1
  run_reads output Usage is = said output Usage is.0 is.1
  run_reads output CannotPrint is = said output is.0 is.1 is.2
  run_reads output Memory (inl missing, kept) = short missing
  run_reads output Memory (inr unsaid, kept) = said output unsaid.0 unsaid.1 unsaid.2

-- ---- scripts

-- a script that is refused was read, and one that couldn't be read was asked for
script_refused : (inputs : List (List ℕ)) (last : Option Loaded) (o : Outside) → o.store.asked + length inputs ≤ 2 ^ 64 - 1 → ScriptRun inputs Refused last o
    → o.new_store.asked ≡ o.store.asked + length inputs
script_refused inputs last o small (inl (is, none)) = ap (λ (s : StoreSeen). s.asked) is.1.1.store ∙ risen-is (length inputs) o.store.asked small
script_refused inputs last o small (inr ran) = absurd ran

pub scripts_are_asked_for_once : ScriptsAreAskedForOnce
scripts_are_asked_for_once inputs last o small (inl (is, none)) = stopped inputs is.1.0 o.store o.new_store small is.1.1
scripts_are_asked_for_once inputs last o small (inr ran) = absurd ran

-- ---- all commands

pub inputs_are_asked_for_once : InputsAreAskedForOnce
inputs_are_asked_for_once (Asm source output macros) result last o small after run = run_reads_all AsmMakes (source ∷ macros) o small (Some output) result after run.0
inputs_are_asked_for_once (Link output inputs) result last o small after run = run_reads_all (λ files. LinkMakes (given_alone Program files)) inputs o small (Some output) result after run.0
inputs_are_asked_for_once (Dump inputs) result last o small after run = run_reads_all DumpMakes inputs o small None result after run.0
inputs_are_asked_for_once (Run inputs) result last o small after run =
    script_refused inputs last o small (subst (λ (s : Status). ScriptRun inputs s last o) after run)
inputs_are_asked_for_once (Lib output inputs) result last o small after run = run_reads_all (LibMakes inputs) inputs o small (Some output) result after run.0
inputs_are_asked_for_once (Stress count seed) result last o small after run = ap (λ (s : StoreSeen). s.asked) run.1 ∙ omega arith
inputs_are_asked_for_once (Rtl output inputs) result last o small after run = run_reads_all (λ files. LinkMakes (given_alone Runtime files)) inputs o small (Some output) result after run.0
inputs_are_asked_for_once (LinkRt output inputs runtimes) result last o small after run = run_reads_all (λ files. LinkMakes (given_with runtimes files)) inputs o small (Some output) result after run.0
inputs_are_asked_for_once (Listing output inputs) result last o small after run = run_reads_all ListMakes inputs o small (Some output) result after run.0
inputs_are_asked_for_once (Compact output inputs) result last o small after run = run_reads_all CompactMakes inputs o small (Some output) result after run.0

pub no_more_is_asked_for : NoMoreIsAskedFor
no_more_is_asked_for (Asm source output macros) result last o small alone' run = run_reads AsmMakes (source ∷ macros) o small (Some output) result run.0
no_more_is_asked_for (Link output inputs) result last o small alone' run = run_reads (λ files. LinkMakes (given_alone Program files)) inputs o small (Some output) result run.0
no_more_is_asked_for (Dump inputs) result last o small alone' run = run_reads DumpMakes inputs o small None result run.0
no_more_is_asked_for (Run inputs) result last o small alone' run = absurd alone'
no_more_is_asked_for (Lib output inputs) result last o small alone' run = run_reads (LibMakes inputs) inputs o small (Some output) result run.0
no_more_is_asked_for (Stress count seed) result last o small alone' run = omega (arith, ap (λ (s : StoreSeen). s.asked) run.1)
no_more_is_asked_for (Rtl output inputs) result last o small alone' run = run_reads (λ files. LinkMakes (given_alone Runtime files)) inputs o small (Some output) result run.0
no_more_is_asked_for (LinkRt output inputs runtimes) result last o small alone' run = run_reads (λ files. LinkMakes (given_with runtimes files)) inputs o small (Some output) result run.0
no_more_is_asked_for (Listing output inputs) result last o small alone' run = run_reads ListMakes inputs o small (Some output) result run.0
no_more_is_asked_for (Compact output inputs) result last o small alone' run = run_reads CompactMakes inputs o small (Some output) result run.0
