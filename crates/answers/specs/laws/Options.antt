-- What an answer of a combination of options says of its parts.
use Rattle.std.proofs.Common.{◌≡◌, ◌⊎◌, inl, inr, Bool, true, false, cond, List, [], ◌∷◌, ◌++◌, Option, Some, None, Result, Ok, Err, refl, ap, subst}
use Rattle.std.specs.Prelude.{option_map, ok_or}
use Rattle.std.specs.Option.{option_or}
use Rattle.std.specs.List.{AllByRecursion}
use Rattle.omf_format.specs.Header.{first_of}
use Rattle.omf_format.specs.Field.{◌>>=◌}

abbrev some : {A : Type 0} → A → Option A
some x = Some x

pub same_some : {A : Type 0} (x y : A) → some x ≡ some y → x ≡ y
same_some x y e = cc

pub mapped : {A B : Type 0} (f : A → B) (o : Option A) (y : B) → option_map f o ≡ Some y → (x : A) × (o ≡ Some x) × (f x ≡ y)
mapped f (Some x) y e = (x, refl, same_some (f x) y e)
mapped f None y e = absurd cc

pub either_some : {A : Type 0} (one other : Option A) (y : A) → option_or one other ≡ Some y → (one ≡ Some y) ⊎ (other ≡ Some y)
either_some (Some x) other y e = inl e
either_some None other y e = inr e

-- what the first check says that holds is among the checks
pub first_among : {F : Type 0} (P : F → Type 0) (checks : List (Bool × F)) (f : F) → AllByRecursion (λ c. P c.1) checks → first_of checks ≡ Some f → P f
first_among P [] f each e = absurd cc
first_among {F = F} P (check ∷ checks) f each e = cases check.0 e (first_among P checks f each.1)
  where
    cases : (b : Bool) → cond b (Some check.1) (first_of checks) ≡ Some f → (first_of checks ≡ Some f → P f) → P f
    cases true e later = subst P (same_some check.1 f e) each.0
    cases false e later = later e

-- one item more
pub all_and_one : {A : Type 0} (P : A → Type 0) (before : List A) (x : A) → AllByRecursion P before → P x → AllByRecursion P (before ++ x ∷ [])
all_and_one P [] x all is = (is, tt)
all_and_one P (y ∷ before) x all is = (all.0, all_and_one P before x all.1 is)

-- each fault that a result may be has the property
abbrev pub OnlyFaults : {A E : Type 0} → (E → Type 0) → Result A E → Type 0
OnlyFaults {E = E} P r = (fault : E) → r ≡ Err fault → P fault

pub no_fault : {A E : Type 0} (P : E → Type 0) (x : A) → OnlyFaults P (Ok x)
no_fault P x fault e = absurd cc

abbrev pub failed : {A E : Type 0} → E → Result A E
failed e = Err e

pub same_fault : {A E : Type 0} (x y : E) → failed {A = A} x ≡ failed y → x ≡ y
same_fault x y e = cc

pub one_fault : {A E : Type 0} (P : E → Type 0) (one : E) → P one → OnlyFaults {A = A} P (Err one)
one_fault {A = A} P one has fault e = subst P (same_fault {A = A} one fault e) has

pub fault_of_either : {A E : Type 0} (P : E → Type 0) (b : Bool) (r s : Result A E) → OnlyFaults P r → OnlyFaults P s → OnlyFaults P (cond b r s)
fault_of_either P true r s one other = one
fault_of_either P false r s one other = other

pub fault_after : {A B E : Type 0} (P : E → Type 0) (r : Result A E) (next : A → Result B E) → OnlyFaults P r → ((x : A) → OnlyFaults P (next x)) → OnlyFaults P (r >>= next)
fault_after P (Ok x) next one other = other x
fault_after {A = A} {B = B} P (Err one) next has other = λ fault e. has fault (ap (failed {A = A}) (same_fault {A = B} one fault e))

pub fault_if_none : {A E : Type 0} (P : E → Type 0) (o : Option A) (one : E) → P one → OnlyFaults P (ok_or o one)
fault_if_none P (Some x) one has = no_fault P x
fault_if_none P None one has = one_fault P one has
