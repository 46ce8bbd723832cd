-- A run that can be done is done, unless out of memory.
use Rattle.std.proofs.Common.{◌≡◌, ◌⊎◌, inl, inr, ℕ, ◌<◌, ◌≤◌, List, [], ◌∷◌, ◌++◌, length, Option, None, Some, IsSomeAnd, refl, sym, ap, subst, ◌∙◌, arith}
use Rattle.std.specs.FinMap.{get}
use Rattle.omf_io.specs.Counts.{one_more, IfRevealedOr}
use Rattle.omf_io.specs.Steps.{Rose}
use Rattle.omf_io.specs.Files.{max_file, FileMap, StoreSeen, IsUnread}
use Rattle.omf_io.specs.Sinks.{SinkSeen, FailsToPrint}
use Rattle.omf_io.specs.Outside.{Outside}
use Rattle.omf_making.specs.declared.status.Status.{Status}
use Rattle.omf_making.specs.declared.status.Status.TheVariants as status
use Rattle.omf_making.specs.Made.{Made, Refusal}
use Rattle.omf_making.specs.Making.{MakesRun, AreRead, AreHeld, CanMake}

some_same : (x y : List ℕ) → Some x ≡ Some y → x ≡ y
some_same x y same = ap value same
  where
    value : Option (List ℕ) → List ℕ
    value None = x
    value (Some found) = found

-- the files that were read are those that are held
pub same_files : (reported : FileMap) (paths files others : List (List ℕ)) → AreHeld reported paths files → AreRead (Some reported) paths others → others ≡ files
same_files reported [] [] [] held are = refl
same_files reported (path ∷ paths) (file ∷ files) (other ∷ others) held are =
    let head : other ≡ file = some_same other file (sym are.0.1 ∙ held.0.1) in
    ap (λ (f : List ℕ). f ∷ others) head ∙ ap (λ (fs : List (List ℕ)). file ∷ fs) (same_files reported paths files others held.1 are.1)
same_files reported [] (file ∷ files) others held are = absurd held
same_files reported (path ∷ paths) [] others held are = absurd held
same_files reported [] [] (other ∷ others) held are = absurd are
same_files reported (path ∷ paths) (file ∷ files) [] held are = absurd are

-- each path among those that are held has a small file
pub held_at : (reported : FileMap) (front rest files : List (List ℕ)) (path : List ℕ) → AreHeld reported (front ++ path ∷ rest) files
    → (file : List ℕ) × (length file ≤ max_file) × (get reported path ≡ Some file)
held_at reported [] rest (file ∷ files) path held = (file, held.0.0, held.0.1)
held_at reported [] rest [] path held = absurd held
held_at reported (first ∷ front) rest (file ∷ files) path held = held_at reported front rest files path held.1
held_at reported (first ∷ front) rest [] path held = absurd held

-- a count that is one more rose
rose : (before now : ℕ) → now ≡ one_more before → Rose before now
rose before now is = omega (arith, is)

-- a path that is held, in a calm store, is read
pub not_unread : (reported : FileMap) (path file : List ℕ) (before : StoreSeen) (now : ℕ) → before.held ≡ Some reported → get reported path ≡ Some file → length file ≤ max_file
    → (Rose before.faults now → ⊥) → IsUnread before.held path before.faults now → ⊥
not_unread reported path file before now is_reported held small calm (inl absent) =
    let here = subst (λ (h : Option FileMap). IfRevealedOr h (now ≡ one_more before.faults) (λ files. (get files path ≡ None) × (now ≡ before.faults))) is_reported absent in
    none_some (sym here.0 ∙ held)
  where
    IsNone : Option (List ℕ) → Type 0
    IsNone None = Unit {0}
    IsNone (Some found) = ⊥

    none_some : None ≡ Some file → ⊥
    none_some same = subst IsNone same tt
not_unread reported path file before now is_reported held small calm (inr (inl long)) =
    let here = subst (λ (h : Option FileMap). IfRevealedOr h (now ≡ one_more before.faults) (λ files. IsSomeAnd (get files path) (λ bytes. max_file < length bytes) × (now ≡ before.faults))) is_reported long in
    let too : max_file < length file = subst (λ (found : Option (List ℕ)). IsSomeAnd found (λ bytes. max_file < length bytes)) held here.0 in
    omega (arith, too, small)
not_unread reported path file before now is_reported held small calm (inr (inr failed)) = calm (rose before.faults now failed)

-- a sink that failed has a count that rose
pub not_printed : (text : List ℕ) (before now : SinkSeen) → (Rose before.faults now.faults → ⊥) → FailsToPrint text before now → ⊥
not_printed text before now calm fails = calm (rose before.faults now.faults (ap (λ (s : SinkSeen). s.faults) fails.2))

pub completes : (makes : List (List ℕ) → Made → Type 0) → (output : Option (List ℕ)) (inputs : List (List ℕ)) (result : Status) (o : Outside)
    → MakesRun makes output inputs result o → CanMake makes inputs o → (result ≡ status.Done) ⊎ (result ≡ status.Memory)
completes makes output inputs status.Done o run can = inl refl
completes makes output inputs status.Memory o run can = inr refl
completes makes output inputs status.Usage o run can = absurd run.1
completes makes output inputs status.CannotPrint o (wanted, text, is, fails) can = absurd (not_printed text o.sink o.new_sink can.calm.sink fails)
completes makes output inputs status.CannotRead o (text, (path, stops, is), now) can =
    let held = held_at can.reported stops.front stops.rest can.files path (subst (λ (paths : List (List ℕ)). AreHeld can.reported paths can.files) stops.inputs' can.held') in
    absurd (not_unread can.reported path held.0 o.store o.new_store.faults can.is_reported held.2 held.1 can.calm.store stops.cause)
completes makes (Some output) inputs status.CannotWrite o (text, (stops, is), now) can = absurd (can.calm.store (rose o.store.faults o.new_store.faults (ap (λ (s : StoreSeen). s.faults) stops.store)))
completes makes None inputs status.CannotWrite o run can = absurd run.1
completes makes output inputs status.Refused o (text, (made, kept), now) can =
    let same = same_files can.reported inputs can.files made.files can.held' (subst (λ (h : Option FileMap). AreRead h inputs made.files) can.is_reported made.read) in
    absurd (can.sound text (subst (λ (files : List (List ℕ)). makes files (Refusal text)) same made.made'))
