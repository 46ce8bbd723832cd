-- The machine value of a pointer to a loader, which is that of the slot that it is made from: what is owned tells it.
use Rattle.std.proofs.Common.{◌≡◌, ℕ, zero, suc, List, [], ◌∷◌, ◌++◌, refl, ◌∙◌, lit<}
use seplogic.Ra.Ura.{Ura}
use mir.Syntax.{ty_ptr, ty_unit, ty_struct, tcons, tnil}
use mir.Val.{Val, vunit, vstruct, vcons, vnil, of_list}
use base.Logic.{ent, emp}
use base.Fml.{Fml}
use types.Logic.{Logic, sem}
use denote.RattleType.{RattleType}
use denote.Builtin.{unit}
use denote.RawPtr.{Ptr, RawPtr, block_ptr, null_ptr, ptr_val}
use denote.Shadow.{shadow, makes_shadow}
use denote.Signature.{Slot, plain}
use denote.Struct.Struct.{Struct}
use Rattle.core.proofs.cell.Inside.{Good}

-- a parameter's place in a signature
abbrev pub slot_at : {n : ℕ} → ℕ → List (Slot n) → Slot n
slot_at k [] = plain (λ _. unit)
slot_at zero (s ∷ ss) = s
slot_at (suc k) (s ∷ ss) = slot_at k ss

-- a struct by its fields alone: what it owns doesn't read its name
abbrev plainly : List RattleType → RattleType
plainly rows = Struct (record { name = []; args = []; types = []; fields = rows })

pub ptr_typed : (p : Ptr) → Good ty_ptr (ptr_val p)
ptr_typed (block_ptr b o) = (tt, tt)
ptr_typed null_ptr = (tt, record { fits = lit< tt })

-- the C library's heap, which has no bytes
abbrev heap : RattleType
heap = plainly (plainly (unit ∷ []) ∷ [])

abbrev pub heap_val : Val
heap_val = vstruct (vcons (vstruct (vcons vunit vnil)) vnil)

pub heap_typed : Good (ty_struct [] (tcons (ty_struct [] (tcons ty_unit tnil)) tnil)) heap_val
heap_typed = (tt, ((tt, tt), tt))

abbrev memory_told : (vs : List Val) → shadow ((plainly (unit ∷ [])).own_val (tt, tt) vs) → vs ≡ vstruct (vcons vunit vnil) ∷ []
memory_told vs s = s.1.0 ∙ (λ i. vstruct (of_list (s.1.1.0 i ++ [])) ∷ [])

heap_told : (vs : List Val) → shadow (heap.own_val ((tt, tt), tt) vs) → vs ≡ heap_val ∷ []
heap_told vs s = s.1.0 ∙ (λ i. vstruct (of_list (memory_told s.0.0 s.1.1.0 i ++ [])) ∷ [])

abbrev pub slot_val : Ptr → Val
slot_val p = vstruct (vcons (ptr_val p) (vcons heap_val vnil))

abbrev pub slot_own : Ptr → List Val → Fml
slot_own p = (plainly (RawPtr ∷ heap ∷ [])).own_val (p, (((tt, tt), tt), tt))

pub slot_told : (p : Ptr) (vs : List Val) → shadow (slot_own p vs) → vs ≡ slot_val p ∷ []
slot_told p vs s = s.1.0 ∙ (λ i. vstruct (of_list (s.1.1.0 i ++ (heap_told s.0.1.0 s.1.1.1.0 i ++ []))) ∷ [])

pub slot_made : {M : Type 1} {𝓤 : Ura M} (𝓛 : Logic 𝓤) (p : Ptr) → ent 𝓤 (emp 𝓤) (sem 𝓛 (slot_own p (slot_val p ∷ [])))
slot_made 𝓛 p =
    makes_shadow 𝓛 (slot_own p (slot_val p ∷ [])) (λ _. (tt, (tt, ((λ _. (tt, ((λ _. (tt, (tt, tt))), tt))), tt))))
    ((ptr_val p ∷ [], (heap_val ∷ [], tt)), (refl, (refl, (((vstruct (vcons vunit vnil) ∷ [], tt), (refl, (((vunit ∷ [], tt), (refl, (refl, tt))), tt))), tt))))

pub slot_typed : (p : Ptr) → Good (ty_struct [] (tcons ty_ptr (tcons (ty_struct [] (tcons (ty_struct [] (tcons ty_unit tnil)) tnil)) tnil))) (slot_val p)
slot_typed (block_ptr b o) = (tt, (tt, (((tt, tt), tt), tt)))
slot_typed null_ptr = (tt, (record { fits = lit< tt }, (((tt, tt), tt), tt)))
