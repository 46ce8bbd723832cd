-- The fault of a file that isn't a load file, as one of this crate.
use Rattle.std.proofs.Common.{◌≡◌, ℕ, List, refl, sym, subst}
use Rattle.load_meaning.specs.declared.load.LoadCause.{LoadCause}
use Rattle.load_meaning.specs.declared.load.LoadCause.TheVariants.{NotLoadFile, Truncated, BadHeader, Unsupported, BadRecord, Sequence, DataTooLong, PatchOutside, NoSuchTarget, DynamicTarget, BadTable, Memory}
use Rattle.load_meaning.specs.declared.load.LoadFault.{LoadFault}
use Rattle.load_meaning.specs.Loadable.{IsFirstLoadFault}
use Rattle.load_content.specs.Views.{UnlessMemory}
use Rattle.omf_cells.specs.Load as cells
use Rattle.omf_compact.specs.declared.fault.CompactFault.{CompactFault}
use Rattle.omf_compact.specs.laws.Causes.{compact_cause, as_compact}
use Rattle.omf_compact.specs.Answer.{IsRefusedBy, IsRefused}

fault_with : LoadCause → LoadFault → LoadFault
fault_with cause fault = record { cause = cause; segment = fault.segment; at = fault.at }

by_cause : (cause : LoadCause) (fault : LoadFault) (file : List ℕ) → cause ≡ fault.cause → UnlessMemory cause fault (IsFirstLoadFault file fault) → IsRefusedBy (compact_cause cause) (as_compact fault) file
unfolding fault_with
by_cause NotLoadFile fault file is has = subst (λ (c : LoadCause). IsFirstLoadFault file (fault_with c fault)) (sym is) has
by_cause Truncated fault file is has = subst (λ (c : LoadCause). IsFirstLoadFault file (fault_with c fault)) (sym is) has
by_cause BadHeader fault file is has = subst (λ (c : LoadCause). IsFirstLoadFault file (fault_with c fault)) (sym is) has
by_cause Unsupported fault file is has = subst (λ (c : LoadCause). IsFirstLoadFault file (fault_with c fault)) (sym is) has
by_cause BadRecord fault file is has = subst (λ (c : LoadCause). IsFirstLoadFault file (fault_with c fault)) (sym is) has
by_cause Sequence fault file is has = subst (λ (c : LoadCause). IsFirstLoadFault file (fault_with c fault)) (sym is) has
by_cause DataTooLong fault file is has = subst (λ (c : LoadCause). IsFirstLoadFault file (fault_with c fault)) (sym is) has
by_cause PatchOutside fault file is has = subst (λ (c : LoadCause). IsFirstLoadFault file (fault_with c fault)) (sym is) has
by_cause NoSuchTarget fault file is has = subst (λ (c : LoadCause). IsFirstLoadFault file (fault_with c fault)) (sym is) has
by_cause DynamicTarget fault file is has = subst (λ (c : LoadCause). IsFirstLoadFault file (fault_with c fault)) (sym is) has
by_cause BadTable fault file is has = subst (λ (c : LoadCause). IsFirstLoadFault file (fault_with c fault)) (sym is) has
by_cause Memory fault file is has = has

pub refused_by : (fault : LoadFault) (file : List ℕ) (result : CompactFault) → result ≡ as_compact fault → cells.IsRefused fault file → IsRefused result file
refused_by fault file result is has = subst (λ (f : CompactFault). IsRefused f file) (sym is) (by_cause fault.cause fault file refl has)
