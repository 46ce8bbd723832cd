-- Files have one answer at most; and where no record has a fault each gives its cells.
use Rattle.std.proofs.Common.{◌≡◌, inl, inr, ℕ, ◌≤◌, List, [], ◌∷◌, ◌++◌, length, Option, None, Result, Ok, Err, refl, sym, ap, subst, ◌∙◌, append_assoc}
use Rattle.std.proofs.lemmas.Bool.{cases_lt}
use Rattle.omf_base.specs.declared.spot.Spot.{Spot}
use Rattle.link_meaning.specs.declared.fault.LinkCause.{LinkCause}
use Rattle.link_meaning.specs.declared.fault.LinkFault.{LinkFault}
use Rattle.link_meaning.specs.First.{HasNone, IsFirst}
use Rattle.link_meaning.specs.laws.FirstLaws.{HasOne, one_first, none_yet, none_more}
use Rattle.link_meaning.specs.Member.{Member}
use Rattle.link_meaning.specs.Cycles.{equates}
use Rattle.link_meaning.specs.LinkValues.{EquateAnswer, IsTable}
use Rattle.link_meaning.specs.laws.TableLaws.{one_table}
use Rattle.link_meaning.specs.LinkedCells.{Item, LinkState, Made, items, made, state_from, state_after}
use Rattle.link_meaning.specs.LinkFaults.{LinkInput, IsResolved, spot_in}
use Rattle.link_meaning.specs.laws.LinkFaultLaws.{one_program, one_resolve_fault, resolved_sound}
use Rattle.link_meaning.specs.LinkWritten.{AreMade, start, written_file}
use Rattle.link_meaning.specs.laws.LinkedRuns.{state_from-append}
use Rattle.link_meaning.specs.laws.ValueFits.{linked_stands_for}
use Rattle.link_meaning.specs.EmitFaults.{HasCycleFault, HasValueFault, Cycles, Values, Size, HasEmitFault, IsFirstEmitFault, IsEmitted, OfResolving, OfEmitting, IsFirstLinkFault, IsLinkedTo, OneLinkAnswer, OneEmitAnswer, LinkAnswersAsEmit, MadeWhereSound, LinkableStandsFor}
use Rattle.object_meaning.specs.Sizes.{most_bytes}
use Rattle.link_meaning.specs.laws.Steps.{emit_phases}

-- ---- one first fault

abbrev failed : LinkCause → Result Made LinkCause
failed cause = Err cause

failed_same : (a b : LinkCause) → failed a ≡ failed b → a ≡ b
failed_same a b e = cc

abbrev fine : Made → Result Made LinkCause
fine x = Ok x

pub fine_failed : (x : Made) (cause : LinkCause) → fine x ≡ failed cause → ⊥
fine_failed x cause e = cc

abbrev fault_of : LinkCause → Option (List ℕ) → Spot → LinkFault
fault_of cause name spot = record { cause = cause; name = name; spot = spot }

fault_same : (a b : LinkFault) → a.cause ≡ b.cause → a.name ≡ b.name → a.spot ≡ b.spot → a ≡ b
fault_same a b c n s =
    ap (λ (x : LinkCause). fault_of x a.name a.spot) c ∙ ap (λ (x : Option (List ℕ)). fault_of b.cause x a.spot) n ∙ ap (λ (x : Spot). fault_of b.cause b.name x) s

one_cycle : (list : List Member) → HasOne (HasCycleFault list)
one_cycle list before e a b p q = p.reported ∙ sym q.reported

one_value : (list : List Member) (table : List EquateAnswer) → HasOne (HasValueFault list table)
one_value list table before i a b p q =
    fault_same a b (failed_same a.cause b.cause (sym p.cause ∙ q.cause)) (p.name ∙ sym q.name) (p.spot ∙ sym q.spot)

one_emit : (list : List Member) → HasOne (HasEmitFault list)
one_emit list before Cycles a b p q = one_first (HasCycleFault list) (equates list) a b (one_cycle list) p q
one_emit list before Values a b p q =
    let same : p.0 ≡ q.0 = one_table list p.0 q.0 p.1 q.1 in
    one_first (HasValueFault list q.0) (items list) a b (one_value list q.0) (subst (λ (t : List EquateAnswer). IsFirst (HasValueFault list t) (items list) a) same p.2) q.2
one_emit list before Size a b p q = p.2.reported ∙ sym q.2.reported

pub one_emit_fault : (list : List Member) (a b : LinkFault) → IsFirstEmitFault list a → IsFirstEmitFault list b → a ≡ b
one_emit_fault list a b p q = one_first (HasEmitFault list) emit_phases a b (one_emit list) p q

pub emitted_sound : (list : List Member) (table : List EquateAnswer) (fault : LinkFault) → IsEmitted list table → IsFirstEmitFault list fault → ⊥
emitted_sound list table fault is p = is.sound p.before p.item p.after fault p.parts p.here

-- ---- one answer

abbrev written : List ℕ → Result (List ℕ) LinkFault
written output = Ok output

abbrev refused : LinkFault → Result (List ℕ) LinkFault
refused fault = Err fault

pub one_emit_answer : OneEmitAnswer
one_emit_answer list (Ok x) (Ok y) p q =
    let same : p.0 ≡ q.0 = one_table list p.0 q.0 p.1.valued q.1.valued in
    ap written (p.2 ∙ ap (written_file list) same ∙ sym q.2)
one_emit_answer list (Ok x) (Err b) p q = absurd (emitted_sound list p.0 b p.1 q)
one_emit_answer list (Err a) (Ok y) p q = absurd (emitted_sound list q.0 a q.1 p)
one_emit_answer list (Err a) (Err b) p q = ap refused (one_emit_fault list a b p q)

one_list : (files : LinkInput) (a b : List Member) → IsResolved files a → IsResolved files b → a ≡ b
one_list files a b p q = one_program files a b p.program q.program

same_fault : (files : LinkInput) (a b : LinkFault) → IsFirstLinkFault files a → IsFirstLinkFault files b → a ≡ b
same_fault files a b (OfResolving p) (OfResolving q) = one_resolve_fault files a b p q
same_fault files a b (OfResolving p) (OfEmitting list resolved q) = absurd (resolved_sound files list a resolved p)
same_fault files a b (OfEmitting list resolved p) (OfResolving q) = absurd (resolved_sound files list b resolved q)
same_fault files a b (OfEmitting list resolved p) (OfEmitting other resolved' q) =
    one_emit_fault other a b (subst (λ (l : List Member). IsFirstEmitFault l a) (one_list files list other resolved resolved') p) q

no_fault : (files : LinkInput) (output : List ℕ) (fault : LinkFault) → IsLinkedTo files output → IsFirstLinkFault files fault → ⊥
no_fault files output fault is (OfResolving p) = resolved_sound files is.list fault is.linkable.resolved p
no_fault files output fault is (OfEmitting list resolved p) =
    emitted_sound is.list is.table fault is.linkable.emitted (subst (λ (l : List Member). IsFirstEmitFault l fault) (one_list files list is.list resolved is.linkable.resolved) p)

same_output : (files : LinkInput) (x y : List ℕ) → IsLinkedTo files x → IsLinkedTo files y → x ≡ y
same_output files x y p q =
    let list : p.list ≡ q.list = one_list files p.list q.list p.linkable.resolved q.linkable.resolved in
    let table : p.table ≡ q.table = one_table q.list p.table q.table (subst (λ (l : List Member). IsTable l p.table) list p.linkable.emitted.valued) q.linkable.emitted.valued in
    p.is_written ∙ ap (λ (l : List Member). written_file l p.table) list ∙ ap (written_file q.list) table ∙ sym q.is_written

pub one_link_answer : OneLinkAnswer
one_link_answer files (Ok x) (Ok y) p q = ap written (same_output files x y p q)
one_link_answer files (Ok x) (Err b) p q = absurd (no_fault files x b p q)
one_link_answer files (Err a) (Ok y) p q = absurd (no_fault files y a q p)
one_link_answer files (Err a) (Err b) p q = ap refused (same_fault files a b p q)

pub link_answers_as_emit : LinkAnswersAsEmit
link_answers_as_emit files list (Ok output) resolved is =
    record { list = list; table = is.0; linkable = record { resolved = resolved; emitted = is.1 }; is_written = is.2 }
link_answers_as_emit files list (Err fault) resolved is = OfEmitting list resolved is

-- ---- no fault, and cells

abbrev NoFirst : List Member → List EquateAnswer → Type 0
NoFirst list table = (fault : LinkFault) → IsFirst (HasValueFault list table) (items list) fault → ⊥

-- where no record is the first at fault each one gives its cells
none_made : (list : List Member) (table : List EquateAnswer) (before rest : List Item) → items list ≡ before ++ rest → HasNone (HasValueFault list table) before → NoFirst list table
    → AreMade list table (state_from list table start before) rest
unfolding state_after
none_made list table before [] parts none no_first = tt
none_made list table before (i ∷ rest) parts none no_first =
    by_made (made list table (state_from list table start before) i) refl (λ none'. none_made list table (before ++ i ∷ []) rest (parts ∙ sym (append_assoc before (i ∷ []) rest)) none' no_first)
  where
    by_made : (r : Result Made LinkCause) → made list table (state_from list table start before) i ≡ r
        → (HasNone (HasValueFault list table) (before ++ i ∷ []) → AreMade list table (state_from list table start (before ++ i ∷ [])) rest)
        → AreMade list table (state_from list table start before) (i ∷ rest)
    by_made (Ok x) is go =
        let none' : HasNone (HasValueFault list table) (before ++ i ∷ []) = none_more (HasValueFault list table) before i none (λ fault has. fine_failed x fault.cause (sym is ∙ has.cause)) in
        (x, is, subst (λ (s : LinkState). AreMade list table s rest) (state_from-append list table start before (i ∷ [])) (go none'))
    by_made (Err cause) is go = absurd (no_first (fault_of cause None (spot_in i.member i.here.at)) (record { before = before; item = i; after = rest; parts = parts; none = none; here = record { cause = is; name = refl; spot = refl } }))

pub made_none : (list : List Member) (table : List EquateAnswer) (before rest : List Item) → AreMade list table (state_from list table start before) rest
    → (front : List Item) (i : Item) (back : List Item) → rest ≡ front ++ i ∷ back → (x : Made) × (made list table (state_from list table start (before ++ front)) i ≡ Ok x)
made_none list table before [] are front i back parts = absurd (no_parts front parts)
  where
    no_parts : (front : List Item) → [] ≡ front ++ i ∷ back → ⊥
    no_parts [] e = cc
    no_parts (j ∷ front) e = cc
made_none list table before (j ∷ rest) are [] i back parts = (are.0, subst (λ (k : Item). made list table (state_from list table start (before ++ [])) k ≡ Ok are.0) heads at_end)
  where
    heads : j ≡ i
    heads = cc

    whole : (l : List Item) → l ++ [] ≡ l
    whole [] = refl
    whole (k ∷ l) = ap (λ (m : List Item). k ∷ m) (whole l)

    at_end : made list table (state_from list table start (before ++ [])) j ≡ Ok are.0
    at_end = ap (λ (l : List Item). made list table (state_from list table start l) j) (whole before) ∙ are.1
made_none list table before (j ∷ rest) are (k ∷ front) i back parts =
    let found = made_none list table (before ++ j ∷ []) rest more front i back tails in
    (found.0, ap (λ (l : List Item). made list table (state_from list table start l) i) moved ∙ found.1)
  where
    tails : rest ≡ front ++ i ∷ back
    tails = cc

    heads : j ≡ k
    heads = cc

    more : AreMade list table (state_from list table start (before ++ j ∷ [])) rest
    more = subst (λ (s : LinkState). AreMade list table s rest) (sym (state_from-append list table start before (j ∷ []))) are.2

    moved : before ++ k ∷ front ≡ (before ++ j ∷ []) ++ front
    moved = ap (λ (h : Item). before ++ h ∷ front) (sym heads) ∙ sym (append_assoc before (j ∷ []) front)

no_first_made : (list : List Member) (table : List EquateAnswer) → NoFirst list table → AreMade list table start (items list)
no_first_made list table no_first = none_made list table [] (items list) refl (none_yet (HasValueFault list table)) no_first

pub are_made : (list : List Member) (table : List EquateAnswer) → HasNone (HasValueFault list table) (items list) → AreMade list table start (items list)
are_made list table none = no_first_made list table (λ fault first. none first.before first.item first.after fault first.parts first.here)

pub made_sound : (list : List Member) (table : List EquateAnswer) → AreMade list table start (items list) → HasNone (HasValueFault list table) (items list)
unfolding state_after
made_sound list table are front i back fault parts has =
    let found = made_none list table [] (items list) are front i back parts in
    fine_failed found.0 fault.cause (sym found.1 ∙ has.cause)

pub made_where_sound : MadeWhereSound
made_where_sound list table = (are_made list table, made_sound list table)

-- ---- the file of files without a fault

-- each record gives its cells
pub linkable_made : (list : List Member) (table : List EquateAnswer) → IsEmitted list table → AreMade list table start (items list)
linkable_made list table is = no_first_made list table (λ fault first. is.sound (Cycles ∷ []) Values (Size ∷ []) fault refl (table, is.valued, first))

-- and the file isn't too long
pub linkable_short : (list : List Member) (table : List EquateAnswer) → IsEmitted list table → length (written_file list table) ≤ most_bytes
linkable_short list table is = elim (cases_lt most_bytes (length (written_file list table))) [
  | inl lt ↦ absurd (is.sound (Cycles ∷ Values ∷ []) Size [] _ refl (table, is.valued, record { long = lt; reported = refl }))
  | inr le ↦ le
]

pub linkable_stands_for : LinkableStandsFor
linkable_stands_for files list table bytes is =
    linked_stands_for files list table bytes is.resolved is.emitted.valued (linkable_made list table is.emitted) (linkable_short list table is.emitted)
