-- `of` moves the slot's pointer, with what it owns, out of the slot.
use Rattle.std.proofs.Common.{◌≡◌, List, [], ◌∷◌, ◌++◌, refl}
use mir.Syntax.{Fn}
use mir.Val.{Val}
use base.Logic.{SProp, emp}
use base.Fml.{ftrue}
use prog.Wp.{WpFn}
use contract.Monad.{fact, fact_i}
use contract.Running.{tables}
use types.Kit.{‵, raw, ◌⊛◌, prop, ◌$◌, ◌∵◌, !, qed, by, move, drop, use0, split, regoal, fsplit, fjoin}
use types.Part.{whole, sub, agg}
use types.Run.{stop, fld, of_opd, no_more, and_then, returns, enter}
use types.ByLocal.{alloc_all, pass_all, free_all, look_at, get, get_in, sets}
use denote.RattleType.{RattleType, owns}
use denote.Signature.{types_at}
use denote.Steps.{nothing}
use denote.Triple.Entry.{alive}
use denote.Triple.Walked.{Stays, stay_dropped, walk_of}
use Rattle.core.proofs.alloc.Calls.{Goes-blank}
use Rattle.std.proofs.raw_atomic.Walks.{proved_at, leaves}
use Rattle.omf_c_files.specs.contracts.pointer.Pointer as pointer
use Rattle.omf_c_files.proofs.Values.{slot_at, ptr_typed, heap_typed, slot_val, slot_told, slot_own, slot_made, slot_typed}
use Rattle.omf_c_files.specs.contracts.pointer.Pointer.of.{ended, clauses}
use Rattle.omf_c_files.specs.contracts.pointer.Pointer.of.Key.{name as #self}
use Rattle.omf_c_files.proofs.pointer.Pointer.of.Statement.{statement}
use Rattle.omf_c_files.proofs.pointer.Pointer.of.Code as compiled

abbrev PointerRow : RattleType
PointerRow = pointer.the_row

pub of_spec : {M : Type 1} → statement M
of_spec 𝓤 𝓛 𝓜 𝓡 wired =
    let H = 𝓛.H in let c = clauses 𝓛 𝓜.mem 𝓡.returns in let fn : Fn = compiled.function in let ps = ended.signature.params in
    let stays : Stays ps ended.kept = (stay_dropped (slot_at 0 ps) ended.kept.0, tt) in
    let C = (tables 𝓤 H 𝓜 𝓡 𝓡.env).C in let Λ = (tables 𝓤 H 𝓜 𝓡 𝓡.env).Λ in
    proved_at 𝓛 ended stays c 𝓜 𝓡 (Goes-blank 𝓛 0 (slot_at 0 ps) ended.kept.0 (λ κs x f. tt), tt) #self fn (compiled.unfolded 𝓤 H 𝓜 𝓡 wired) (λ z are.
    let Post : Val → SProp 𝓤 = (walk_of 𝓛 ended stays c).post z in let a = z.0.3 in let vss = z.0.4 in let s = a.0 in
    let made : PointerRow.Denot = record { at = s.at; alloc = s.alloc; value = s.value } in
    qed 𝓛 ((raw (alive 𝓛 ended.signature z.0.0 z.0.1) ⊛ ‵ (owns (types_at ps z.0.0) a vss)) ∷ ‵ ftrue ∷ []) ∵ move ! (1 ∷ []) $ drop ! $ split ! $ move ! (1 ∷ []) $
    fsplit ! $ fsplit ! $ drop ! $ move ! (1 ∷ []) $ drop ! $
    -- [what lies behind the pointer; the call's lifetimes]
    regoal ! (λ (us : List Val). prop (WpFn 𝓤 H C Λ fn us Post)) (λ i. (slot_told s.at vss.0 are.0.0) i ++ []) refl $
    enter ! C Λ fn (slot_val s.at ∷ []) Post $ alloc_all ! (λ l. pass_all ! refl (slot_typed s.at, tt) $
    sets ! (of_opd ! (get_in ! (fld ! refl (stop !)) (sub ! 0 refl (whole !)))) refl (ptr_typed s.at) $
    sets ! (of_opd ! (get_in ! (fld ! refl (stop !)) (sub ! 1 refl (whole !)))) refl heap_typed $
    sets ! (of_opd ! (get ! refl)) refl (ptr_typed s.at) $
    sets ! (agg ! (and_then ! (get ! refl) (and_then ! (get ! refl) (no_more !)))) refl (slot_typed s.at) $ returns ! (look_at ! 0 refl) $ free_all ! refl $
    use0 𝓛 (‵ (slot_own s.at (slot_val s.at ∷ []))) (slot_made 𝓛 s.at) $ fjoin ! $ use0 𝓛 (raw (fact 𝓤 (s.value ≡ s.value))) (fact_i 𝓤 (s.value ≡ s.value) (emp 𝓤) refl) $
    nothing ! $ nothing ! $ fjoin ! $ move ! (3 ∷ 0 ∷ 2 ∷ 1 ∷ []) $ by ! (leaves 𝓛 ended stays c z (slot_val s.at) made (tt, tt) (tt, tt))))
