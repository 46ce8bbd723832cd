-- The form and the prefix with which an instruction is listed leave its own mode alone.
use Rattle.std.proofs.Common.{◌≡◌, ℕ, zero, suc, ◌+◌, Bool, true, false, List, [], ◌∷◌, Some, refl, sym, ap, subst, ◌∙◌}
use Rattle.std.specs.Prelude.{◌&&◌, slice_get}
use Rattle.std.specs.List.{list_all}
use denote.Enum.Bare.{sameb, same_true}
use Rattle.orca_meaning.specs.contracts.modes.Mode as mode_type
use Rattle.orca_meaning.specs.declared.forms.Form.{Form}
use Rattle.orca_meaning.specs.declared.forms.Form.TheVariants as forms
use Rattle.orca_meaning.specs.declared.forms.Prefix.{Prefix}
use Rattle.orca_meaning.specs.declared.forms.Prefix.TheVariants.{Bare, Less, Bar, Greater}
use Rattle.orca_meaning.specs.declared.mnemonics.Mnemonic.{Mnemonic}
use Rattle.orca_meaning.specs.declared.modes.Mode.{Mode}
use Rattle.std.specs.Prelude.{not}
use Rattle.std.proofs.Common.{eqb, arith}
use Rattle.std.proofs.lemmas.Bool.{eqb-true, and_parts}
use Rattle.orca_meaning.specs.declared.modes.Mode.TheVariants as modes
use Rattle.orca_meaning.specs.declared.forms.OperandUse.{OperandUse}
use Rattle.orca_meaning.specs.declared.forms.OperandUse.TheVariants.{Never, Accumulator, Signature, Always}
use Rattle.orca_meaning.specs.laws.Steps.{means_accumulator}
use Rattle.orca_meaning.specs.Operation.{use_of, has_mode}
use Rattle.asm_meaning.specs.Instruction.{opcode_in}
use Rattle.orca_meaning.specs.Matrix.{Instruction, matrix, opcode_of}
use Rattle.asm_meaning.specs.Instruction.{modes_of_form, modes_of, kind_of}

-- the form and the prefix of what is written in a mode
abbrev pub form_in : Mode → Form
form_in modes.Implied = forms.Nothing
form_in modes.Accumulator = forms.Accumulator
form_in modes.Immediate = forms.Immediate
form_in modes.Direct = forms.Plain
form_in modes.DirectX = forms.IndexX
form_in modes.DirectY = forms.IndexY
form_in modes.DirectIndirect = forms.Paren
form_in modes.DirectIndirectY = forms.ParenY
form_in modes.DirectXIndirect = forms.ParenX
form_in modes.DirectLong = forms.Bracket
form_in modes.DirectLongY = forms.BracketY
form_in modes.Stack = forms.IndexS
form_in modes.StackIndirectY = forms.ParenSY
form_in modes.Absolute = forms.Plain
form_in modes.AbsoluteX = forms.IndexX
form_in modes.AbsoluteY = forms.IndexY
form_in modes.AbsoluteIndirect = forms.Paren
form_in modes.AbsoluteXIndirect = forms.ParenX
form_in modes.AbsoluteLongIndirect = forms.Bracket
form_in modes.Long = forms.Plain
form_in modes.LongX = forms.IndexX
form_in modes.Relative8 = forms.Plain
form_in modes.Relative16 = forms.Plain
form_in modes.Move = forms.Pair
form_in modes.Signature = forms.Plain

abbrev pub prefix_in : Mode → Prefix
prefix_in modes.Implied = Bare
prefix_in modes.Accumulator = Bare
prefix_in modes.Immediate = Bare
prefix_in modes.Direct = Less
prefix_in modes.DirectX = Less
prefix_in modes.DirectY = Less
prefix_in modes.DirectIndirect = Less
prefix_in modes.DirectIndirectY = Less
prefix_in modes.DirectXIndirect = Less
prefix_in modes.DirectLong = Less
prefix_in modes.DirectLongY = Less
prefix_in modes.Stack = Bare
prefix_in modes.StackIndirectY = Bare
prefix_in modes.Absolute = Bar
prefix_in modes.AbsoluteX = Bar
prefix_in modes.AbsoluteY = Bar
prefix_in modes.AbsoluteIndirect = Bar
prefix_in modes.AbsoluteXIndirect = Bar
prefix_in modes.AbsoluteLongIndirect = Bar
prefix_in modes.Long = Greater
prefix_in modes.LongX = Greater
prefix_in modes.Relative8 = Bare
prefix_in modes.Relative16 = Bare
prefix_in modes.Move = Bare
prefix_in modes.Signature = Bare

-- the instruction's mode is the only one that is offered
abbrev only : Mode → List Mode → Bool
only way [] = false
only way (found ∷ []) = sameb mode_type.the_type found way
only way (found ∷ next ∷ more) = false

abbrev is_alone : Instruction → Bool
is_alone (m, way) = only way (modes_of_form m (form_in way) (prefix_in way))

all_alone : list_all is_alone matrix ≡ true
unfolding matrix modes_of_form modes_of kind_of opcode_of
all_alone = refl

-- ---- the table's rules, as laws

abbrev pub is_never : OperandUse → Bool
is_never Never = true
is_never Accumulator = false
is_never Signature = false
is_never Always = false

-- what takes a name isn't implied, and a branch or a signature has no accumulator mode beside it
abbrev pub is_used : Instruction → Bool
is_used (m, modes.Implied) = true
is_used (m, modes.Accumulator) = true
is_used (m, modes.Relative8) = not (is_never (use_of m)) && not (means_accumulator (use_of m))
is_used (m, modes.Relative16) = not (is_never (use_of m)) && not (means_accumulator (use_of m))
is_used (m, modes.Signature) = not (is_never (use_of m)) && not (means_accumulator (use_of m))
is_used (m, _) = not (is_never (use_of m))

all_used : list_all is_used matrix ≡ true
unfolding matrix use_of opcode_of
all_used = refl

-- each instruction is found at its own place
abbrev are_at : ℕ → List Instruction → Bool
are_at at [] = true
are_at at ((m, way) ∷ more) = eqb (opcode_in m way) at && are_at (at + 1) more

all_at : are_at 0 matrix ≡ true
unfolding matrix opcode_of
all_at = refl

of_list : (p : Instruction → Bool) (all : List Instruction) (k : ℕ) (i : Instruction) → list_all p all ≡ true → slice_get all k ≡ Some i → p i ≡ true
of_list p [] k i holds is = absurd cc
of_list p (first ∷ all) zero i holds is = subst (λ (x : Instruction). p x ≡ true) (same first i is) (and_parts (p first) (list_all p all) holds).0
  where
    same : (x y : Instruction) → Some x ≡ Some y → x ≡ y
    same x y e = cc
of_list p (first ∷ all) (suc k) i holds is = of_list p all k i (and_parts (p first) (list_all p all) holds).1 is

at_place : (at : ℕ) (all : List Instruction) (k : ℕ) (m : Mnemonic) (way : Mode) → are_at at all ≡ true → slice_get all k ≡ Some (m, way) → opcode_in m way ≡ at + k
at_place at [] k m way holds is = absurd cc
at_place at ((n, other) ∷ all) zero m way holds is =
    let here = eqb-true (opcode_in n other) at (and_parts (eqb (opcode_in n other) at) (are_at (at + 1) all) holds).0 in
    ap (λ (i : Instruction). opcode_in i.0 i.1) (sym (same (n, other) (m, way) is)) ∙ here ∙ omega arith
  where
    same : (x y : Instruction) → Some x ≡ Some y → x ≡ y
    same x y e = cc
at_place at ((n, other) ∷ all) (suc k) m way holds is =
    at_place (at + 1) all k m way (and_parts (eqb (opcode_in n other) at) (are_at (at + 1) all) holds).1 is ∙ omega arith

pub opcode_back : (k : ℕ) (m : Mnemonic) (way : Mode) → slice_get matrix k ≡ Some (m, way) → opcode_in m way ≡ k
opcode_back k m way is = at_place 0 matrix k m way all_at is ∙ omega arith

pub one_mode : (k : ℕ) (m : Mnemonic) (way : Mode) → slice_get matrix k ≡ Some (m, way) → modes_of_form m (form_in way) (prefix_in way) ≡ way ∷ []
one_mode k m way is = by (modes_of_form m (form_in way) (prefix_in way)) (of_list is_alone matrix k (m, way) all_alone is)
  where
    by : (found : List Mode) → only way found ≡ true → found ≡ way ∷ []
    by [] holds = absurd cc
    by (x ∷ []) holds = ap (λ (y : Mode). y ∷ []) (same_true mode_type.the_type tt x way holds)
    by (x ∷ y ∷ more) holds = absurd cc

pub used_is : (k : ℕ) (m : Mnemonic) (way : Mode) → slice_get matrix k ≡ Some (m, way) → is_used (m, way) ≡ true
used_is k m way is = of_list is_used matrix k (m, way) all_used is

-- what has the accumulator mode means the accumulator by `A`, and a block move has no such mode
abbrev is_gathered : Instruction → Bool
is_gathered (m, modes.Accumulator) = means_accumulator (use_of m)
is_gathered (m, modes.Move) = not (means_accumulator (use_of m))
is_gathered (m, _) = true

all_gathered : list_all is_gathered matrix ≡ true
unfolding matrix use_of opcode_of
all_gathered = refl

pub accumulates : (k : ℕ) (m : Mnemonic) → slice_get matrix k ≡ Some (m, modes.Accumulator) → means_accumulator (use_of m) ≡ true
accumulates k m is = of_list is_gathered matrix k (m, modes.Accumulator) all_gathered is

pub moves_alone : (k : ℕ) (m : Mnemonic) → slice_get matrix k ≡ Some (m, modes.Move) → not (means_accumulator (use_of m)) ≡ true
moves_alone k m is = of_list is_gathered matrix k (m, modes.Move) all_gathered is

-- an instruction of the table has its mode
abbrev is_there : Instruction → Bool
is_there (m, way) = has_mode m way

all_there : list_all is_there matrix ≡ true
unfolding matrix opcode_of
all_there = refl

pub has_it : (k : ℕ) (m : Mnemonic) (way : Mode) → slice_get matrix k ≡ Some (m, way) → has_mode m way ≡ true
has_it k m way is = of_list is_there matrix k (m, way) all_there is
