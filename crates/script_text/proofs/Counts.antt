-- Commands with another number of words than they take.
use Rattle.std.proofs.Common.{◌≡◌, ◌≢◌, ℕ, List, [], ◌∷◌, length, Err, refl}
use Rattle.loader_machine.specs.declared.script.ScriptCause.TheVariants.{WrongCount}
use Rattle.loader_machine.specs.Script.{one_number, two_numbers}
use Rattle.loader_machine.specs.laws.Words.{load_of, jsl_of, shut_down_of, poke_of, bytes_of, alloc_of}

pub load_of_others : (words : List (List ℕ)) → length words ≢ 1 → load_of words ≡ Err WrongCount
load_of_others [] other = refl
load_of_others (path ∷ []) other = absurd (other refl)
load_of_others (path ∷ more ∷ words) other = refl

pub bytes_of_others : (words : List (List ℕ)) → length words ≢ 4 → bytes_of words ≡ Err WrongCount
bytes_of_others [] other = refl
bytes_of_others (user ∷ []) other = refl
bytes_of_others (user ∷ segment ∷ []) other = refl
bytes_of_others (user ∷ segment ∷ at ∷ []) other = refl
bytes_of_others (user ∷ segment ∷ at ∷ size ∷ []) other = absurd (other refl)
bytes_of_others (user ∷ segment ∷ at ∷ size ∷ more ∷ words) other = refl

pub alloc_of_others : (words : List (List ℕ)) → length words ≢ 3 → alloc_of words ≡ Err WrongCount
alloc_of_others [] other = refl
alloc_of_others (size ∷ []) other = refl
alloc_of_others (size ∷ attr ∷ []) other = refl
alloc_of_others (size ∷ attr ∷ address ∷ []) other = absurd (other refl)
alloc_of_others (size ∷ attr ∷ address ∷ more ∷ words) other = refl

pub one_number_others : (most : ℕ) (words : List (List ℕ)) → length words ≢ 1 → one_number most words ≡ Err WrongCount
unfolding one_number
one_number_others most [] other = refl
one_number_others most (word ∷ []) other = absurd (other refl)
one_number_others most (word ∷ more ∷ words) other = refl

pub two_numbers_others : (most bound : ℕ) (words : List (List ℕ)) → length words ≢ 2 → two_numbers most bound words ≡ Err WrongCount
unfolding two_numbers
two_numbers_others most bound [] other = refl
two_numbers_others most bound (word ∷ []) other = refl
two_numbers_others most bound (word ∷ second ∷ []) other = absurd (other refl)
two_numbers_others most bound (word ∷ second ∷ more ∷ words) other = refl

pub poke_of_others : (words : List (List ℕ)) → length words ≢ 4 → poke_of words ≡ Err WrongCount
poke_of_others [] other = refl
poke_of_others (user ∷ []) other = refl
poke_of_others (user ∷ segment ∷ []) other = refl
poke_of_others (user ∷ segment ∷ at ∷ []) other = refl
poke_of_others (user ∷ segment ∷ at ∷ byte ∷ []) other = absurd (other refl)
poke_of_others (user ∷ segment ∷ at ∷ byte ∷ more ∷ words) other = refl

pub shut_down_of_others : (words : List (List ℕ)) → length words ≢ 2 → shut_down_of words ≡ Err WrongCount
shut_down_of_others [] other = refl
shut_down_of_others (user ∷ []) other = refl
shut_down_of_others (user ∷ manner ∷ []) other = absurd (other refl)
shut_down_of_others (user ∷ manner ∷ more ∷ words) other = refl

pub jsl_of_others : (words : List (List ℕ)) → length words ≢ 3 → jsl_of words ≡ Err WrongCount
jsl_of_others [] other = refl
jsl_of_others (user ∷ []) other = refl
jsl_of_others (user ∷ segment ∷ []) other = refl
jsl_of_others (user ∷ segment ∷ at ∷ []) other = absurd (other refl)
jsl_of_others (user ∷ segment ∷ at ∷ more ∷ words) other = refl
