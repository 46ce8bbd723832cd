-- The lines of the rest of a run are allowed where they are, and give the run's bytes.
use Rattle.std.proofs.Common.{◌≡◌, ℕ, zero, suc, ◌^◌, ◌<◌, ◌≤◌, Bool, true, false, cond, eqb, List, [], ◌∷◌, ◌++◌, length, take, drop, Some, refl, sym, ap, subst, ◌∙◌, arith, append-nil}
use Rattle.std.specs.Prelude.{slice_get}
use Rattle.std.specs.List.{AllByRecursion, flat_map}
use Rattle.std.proofs.lemmas.Bool.{eqb-true}
use Rattle.std.proofs.lemmas.List.{length-take}
use Rattle.std.proofs.lemmas.List.Concat.{flat_map-append}
use Rattle.byteorder.specs.Endian.{little_bytes, little_number}
use Rattle.byteorder.specs.Numbers.{little_from-lt}
use Rattle.omf_format.specs.Number.{IsBytes}
use Rattle.omf_format.specs.Record.{Record, Const, content_of}
use Rattle.omf_format.specs.laws.FieldLaws.{bytes_back}
use Rattle.orca_meaning.specs.declared.mnemonics.Mnemonic.{Mnemonic}
use Rattle.orca_meaning.specs.declared.modes.Mode.{Mode}
use Rattle.orca_meaning.specs.declared.modes.Mode.TheVariants as modes
use Rattle.orca_meaning.specs.Length.{length_of}
use Rattle.orca_meaning.specs.Matrix.{matrix}
use Rattle.asm_meaning.specs.declared.directives.Switch.TheVariants.{LongA, LongI}
use Rattle.asm_meaning.specs.Instruction.{Widths, kind_of, operand_bytes, opcode_in}
use Rattle.asm_meaning.specs.laws.PieceLaws.{all-append}
use Rattle.list_meaning.specs.Listed.{ListedStatement, SwitchIs, Instructs, Bytes, Number}
use Rattle.list_meaning.specs.Listing.{instruction_of_opcode, after_opcode, widths_following, turns_between, same_bool, operand_by, said_instruction, widths_past, said_rest, widths_rest}
use Rattle.list_meaning.specs.laws.Steps.{written_or}
use Rattle.list_laws.specs.laws.ModeLaw.{has_it}
use Rattle.list_laws.specs.laws.RunLaw.{decoded_is, opcode_is, two_bytes, no_bytes, rejoined}
use Rattle.list_laws.specs.laws.BytesLine.{AreBytes}
use Rattle.list_laws.specs.laws.NumberLine.{TakesNumber, few_bytes}
use Rattle.list_laws.specs.laws.After.{given, widths_after, names_after, given-append, widths_after-append, names_after-append, AreFine, AreFine-append}

-- ---- bytes

pub bytes_are : (bytes : List ℕ) → AreBytes bytes → IsBytes bytes
bytes_are [] are zero = omega arith
bytes_are [] are (suc i) = omega arith
bytes_are (byte ∷ bytes) are zero = are.0
bytes_are (byte ∷ bytes) are (suc i) = bytes_are bytes are.1 i

pub are_bytes : (bytes : List ℕ) → IsBytes bytes → AreBytes bytes
are_bytes [] is = tt
are_bytes (byte ∷ bytes) is = (is 0, are_bytes bytes (λ i. is (suc i)))

take_bytes : (n : ℕ) (bytes : List ℕ) → AreBytes bytes → AreBytes (take n bytes)
take_bytes zero [] are = tt
take_bytes zero (byte ∷ bytes) are = tt
take_bytes (suc n) [] are = tt
take_bytes (suc n) (byte ∷ bytes) are = (are.0, take_bytes n bytes are.1)

number_small : (k n : ℕ) → k ≤ 3 → n < 256 ^ k → n < 2 ^ 32
number_small zero n few less = omega (arith, less)
number_small (suc zero) n few less = omega (arith, less)
number_small (suc (suc zero)) n few less = omega (arith, less)
number_small (suc (suc (suc zero))) n few less = omega (arith, less)
number_small (suc (suc (suc (suc k)))) n few less = absurd (omega (arith, few))

number_fits : (bytes : List ℕ) → AreBytes bytes → little_number (length bytes) bytes < 256 ^ length bytes
number_fits bytes are = little_from-lt 0 (length bytes) bytes (bytes_are bytes are)

-- ---- what the lines of a run do

abbrev pub IsConst : Record → Type 0
IsConst (Const bytes) = Unit {0}
IsConst _ = ⊥

-- these lines are allowed there, leave these widths, and give these bytes
pub record Runs (equates : List (List ℕ)) (align : ℕ) (names : List (List ℕ)) (w v : Widths) (lines : List ListedStatement) (bytes : List ℕ) : Type 0 where
  pub fine : AreFine equates align names w lines
  pub widths : widths_after w lines ≡ v
  pub same_names : names_after names lines ≡ names
  pub consts : AllByRecursion IsConst (given w lines)
  pub bytes_given : flat_map content_of (given w lines) ≡ bytes

module _ (equates : List (List ℕ)) (align : ℕ) (names : List (List ℕ)) where
  pub runs_on : (w v u : Widths) (xs ys : List ListedStatement) (a b : List ℕ) → Runs equates align names w v xs a → Runs equates align names v u ys b → Runs equates align names w u (xs ++ ys) (a ++ b)
  runs_on w v u xs ys a b p q =
      let whole = given-append w xs ys in
      let following : given (widths_after w xs) ys ≡ given v ys = ap (λ (x : Widths). given x ys) p.widths in
      record {
        fine = AreFine-append equates align names w xs ys p.fine
            (subst (λ (n : List (List ℕ)). AreFine equates align n (widths_after w xs) ys) (sym p.same_names) (subst (λ (x : Widths). AreFine equates align names x ys) (sym p.widths) q.fine));
        widths = widths_after-append w xs ys ∙ ap (λ (x : Widths). widths_after x ys) p.widths ∙ q.widths;
        same_names = names_after-append names xs ys ∙ ap (λ (n : List (List ℕ)). names_after n ys) p.same_names ∙ q.same_names;
        consts = subst (AllByRecursion IsConst) (sym whole) (all-append IsConst (given w xs) (given (widths_after w xs) ys) p.consts (subst (AllByRecursion IsConst) (sym following) q.consts));
        bytes_given = ap (flat_map content_of) whole ∙ flat_map-append content_of (given w xs) (given (widths_after w xs) ys)
            ∙ ap (λ (l : List ℕ). l ++ flat_map content_of (given (widths_after w xs) ys)) p.bytes_given
            ∙ ap (λ (l : List Record). a ++ flat_map content_of l) following ∙ ap (λ (l : List ℕ). a ++ l) q.bytes_given;
      }

  -- DC H
  bytes_run : (w : Widths) (byte : ℕ) (bytes : List ℕ) → byte < 256 → AreBytes bytes → length bytes ≤ 3 → Runs equates align names w w (Bytes (byte ∷ bytes) ∷ []) (byte ∷ bytes)
  bytes_run w byte bytes fits are few = record {
    fine = ((tt, (fits, are), omega (arith, few)), tt);
    widths = refl;
    same_names = refl;
    consts = (tt, tt);
    bytes_given = append-nil (byte ∷ bytes);
  }

  -- an instruction that lies in the rest whole
  written_runs : (w : Widths) (m : Mnemonic) (way : Mode) (opcode : ℕ) (bytes : List ℕ) → slice_get matrix opcode ≡ Some (m, way) → opcode_in m way ≡ opcode → opcode < 256 → AreBytes bytes
      → length bytes ≡ operand_bytes w m way → Runs equates align names w w (written_or m way (opcode ∷ bytes) (operand_by (kind_of way) bytes)) (opcode ∷ bytes)
  unfolding kind_of operand_bytes length_of
  written_runs w m way opcode bytes there back fits are size = by way there back size
    where
      few : length bytes ≤ 3
      few = omega (arith, size, few_bytes w m way)

      found : (way : Mode) → slice_get matrix opcode ≡ Some (m, way) → opcode_in m way ≡ opcode → slice_get matrix (opcode_in m way) ≡ Some (m, way)
      found way there back = ap (slice_get matrix) back ∙ there

      value : ℕ
      value = little_number (length bytes) bytes

      number : (way : Mode) → slice_get matrix opcode ≡ Some (m, way) → opcode_in m way ≡ opcode → length bytes ≡ operand_bytes w m way → TakesNumber way
          → Runs equates align names w w (Instructs m way (Number (length bytes) (little_number (length bytes) bytes)) ∷ []) (opcode ∷ bytes)
      number way there back size takes = record {
        fine = (λ constants knows. (found way there back, (takes, size, number_fits bytes are, number_small (length bytes) (little_number (length bytes) bytes) few (number_fits bytes are))), tt);
        widths = refl;
        same_names = refl;
        consts = (tt, tt);
        bytes_given = append-nil (opcode_in m way ∷ little_bytes (length bytes) (little_number (length bytes) bytes))
            ∙ ap (λ (k : ℕ). k ∷ little_bytes (length bytes) (little_number (length bytes) bytes)) back
            ∙ ap (λ (l : List ℕ). opcode ∷ l) (bytes_back (length bytes) bytes refl (bytes_are bytes are));
      }

      by : (way : Mode) → slice_get matrix opcode ≡ Some (m, way) → opcode_in m way ≡ opcode → length bytes ≡ operand_bytes w m way
          → Runs equates align names w w (written_or m way (opcode ∷ bytes) (operand_by (kind_of way) bytes)) (opcode ∷ bytes)
      by modes.Implied there back size = record {
        fine = (λ constants knows. (found modes.Implied there back, has_it opcode m modes.Implied there), tt);
        widths = refl;
        same_names = refl;
        consts = (tt, tt);
        bytes_given = ap (λ (k : ℕ). k ∷ []) back ∙ ap (λ (l : List ℕ). opcode ∷ l) (no_bytes bytes size);
      }
      by modes.Accumulator there back size = record {
        fine = (λ constants knows. (found modes.Accumulator there back, tt), tt);
        widths = refl;
        same_names = refl;
        consts = (tt, tt);
        bytes_given = ap (λ (k : ℕ). k ∷ []) back ∙ ap (λ (l : List ℕ). opcode ∷ l) (no_bytes bytes size);
      }
      by modes.Relative8 there back size = bytes_run w opcode bytes fits are few
      by modes.Relative16 there back size = bytes_run w opcode bytes fits are few
      by modes.Move there back size =
          let two = two_bytes bytes size in
          let low : AreBytes (little_number 1 bytes ∷ little_number 1 (drop 1 bytes) ∷ []) = subst AreBytes (sym two) are in
          record {
            fine = (λ constants knows. (found modes.Move there back, (low.1.0, low.0)), tt);
            widths = refl;
            same_names = refl;
            consts = (tt, tt);
            bytes_given = ap (λ (k : ℕ). k ∷ little_number 1 bytes ∷ little_number 1 (drop 1 bytes) ∷ []) back ∙ ap (λ (l : List ℕ). opcode ∷ l) two;
          }
      by modes.Immediate there back size = number modes.Immediate there back size tt
      by modes.Direct there back size = number modes.Direct there back size tt
      by modes.DirectX there back size = number modes.DirectX there back size tt
      by modes.DirectY there back size = number modes.DirectY there back size tt
      by modes.DirectIndirect there back size = number modes.DirectIndirect there back size tt
      by modes.DirectIndirectY there back size = number modes.DirectIndirectY there back size tt
      by modes.DirectXIndirect there back size = number modes.DirectXIndirect there back size tt
      by modes.DirectLong there back size = number modes.DirectLong there back size tt
      by modes.DirectLongY there back size = number modes.DirectLongY there back size tt
      by modes.Stack there back size = number modes.Stack there back size tt
      by modes.StackIndirectY there back size = number modes.StackIndirectY there back size tt
      by modes.Absolute there back size = number modes.Absolute there back size tt
      by modes.AbsoluteX there back size = number modes.AbsoluteX there back size tt
      by modes.AbsoluteY there back size = number modes.AbsoluteY there back size tt
      by modes.AbsoluteIndirect there back size = number modes.AbsoluteIndirect there back size tt
      by modes.AbsoluteXIndirect there back size = number modes.AbsoluteXIndirect there back size tt
      by modes.AbsoluteLongIndirect there back size = number modes.AbsoluteLongIndirect there back size tt
      by modes.Long there back size = number modes.Long there back size tt
      by modes.LongX there back size = number modes.LongX there back size tt
      by modes.Signature there back size = number modes.Signature there back size tt

  -- LONGA and LONGI where a width changed
  turns_run : (w v : Widths) → Runs equates align names w v (turns_between w v) []
  turns_run w v = by (same_bool w.long_a v.long_a) (same_bool w.long_i v.long_i) (same w.long_a v.long_a) (same w.long_i v.long_i)
    where
      same : (a b : Bool) → same_bool a b ≡ true → a ≡ b
      same true true e = refl
      same true false e = absurd cc
      same false true e = absurd cc
      same false false e = refl

      widths_of : Bool → Bool → Widths
      widths_of a i = record { long_a = a; long_i = i }

      by : (a i : Bool) → (a ≡ true → w.long_a ≡ v.long_a) → (i ≡ true → w.long_i ≡ v.long_i)
          → Runs equates align names w v (cond a [] (SwitchIs LongA v.long_a ∷ []) ++ cond i [] (SwitchIs LongI v.long_i ∷ [])) []
      by true true ea ei = record {
        fine = tt;
        widths = ap (λ (a : Bool). widths_of a w.long_i) (ea refl) ∙ ap (λ (i : Bool). widths_of v.long_a i) (ei refl);
        same_names = refl;
        consts = tt;
        bytes_given = refl;
      }
      by true false ea ei = record { fine = (tt, tt); widths = ap (λ (a : Bool). widths_of a v.long_i) (ea refl); same_names = refl; consts = tt; bytes_given = refl }
      by false true ea ei = record { fine = (tt, tt); widths = ap (λ (i : Bool). widths_of v.long_a i) (ei refl); same_names = refl; consts = tt; bytes_given = refl }
      by false false ea ei = record { fine = (tt, (tt, tt)); widths = refl; same_names = refl; consts = tt; bytes_given = refl }

  -- an instruction of the rest, whole or cut by its end
  instruction_runs : (w : Widths) (opcode : ℕ) (bytes : List ℕ) → opcode < 256 → AreBytes bytes → length bytes ≤ after_opcode w opcode
      → Runs equates align names w (widths_past w opcode bytes) (said_instruction w opcode bytes) (opcode ∷ bytes)
  unfolding said_instruction
  instruction_runs w opcode bytes fits are most = by (eqb (length bytes) (after_opcode w opcode)) refl
    where
      few : length bytes ≤ 3
      few = omega (arith, most, few_bytes w (instruction_of_opcode opcode).0 (instruction_of_opcode opcode).1)

      by : (b : Bool) → eqb (length bytes) (after_opcode w opcode) ≡ b
          → Runs equates align names w (cond b (widths_following (instruction_of_opcode opcode).0 bytes w) w)
          (cond b (written_or (instruction_of_opcode opcode).0 (instruction_of_opcode opcode).1 (opcode ∷ bytes) (operand_by (kind_of (instruction_of_opcode opcode).1) bytes) ++ turns_between w (widths_following (instruction_of_opcode opcode).0 bytes w)) (Bytes (opcode ∷ bytes) ∷ []))
          (opcode ∷ bytes)
      by true e =
          let v = widths_following (instruction_of_opcode opcode).0 bytes w in
          let lines = written_or (instruction_of_opcode opcode).0 (instruction_of_opcode opcode).1 (opcode ∷ bytes) (operand_by (kind_of (instruction_of_opcode opcode).1) bytes) in
          subst (λ (l : List ℕ). Runs equates align names w v (lines ++ turns_between w v) l) (append-nil (opcode ∷ bytes))
          (runs_on w w v lines (turns_between w v) (opcode ∷ bytes) []
          (written_runs w (instruction_of_opcode opcode).0 (instruction_of_opcode opcode).1 opcode bytes (decoded_is opcode fits) (opcode_is opcode fits) fits are (eqb-true (length bytes) (after_opcode w opcode) e)) (turns_run w v))
      by false e = bytes_run w opcode bytes fits are few

  -- the rest of a run, of which the first `taken` bytes were taken
  pub rest_runs : (w : Widths) (taken : ℕ) (run : List ℕ) → AreBytes run → Runs equates align names w (widths_rest w taken run) (said_rest w taken run) (drop taken run)
  unfolding said_rest widths_rest
  rest_runs w zero [] are = record { fine = tt; widths = refl; same_names = refl; consts = tt; bytes_given = refl }
  rest_runs w (suc taken) [] are = record { fine = tt; widths = refl; same_names = refl; consts = tt; bytes_given = refl }
  rest_runs w (suc taken) (byte ∷ following) are = rest_runs w taken following are.1
  rest_runs w zero (opcode ∷ following) are =
      let n = after_opcode w opcode in
      let bytes = take n following in
      let v = widths_past w opcode bytes in
      let most : length bytes ≤ n = omega (arith, length-take n following) in
      subst (λ (l : List ℕ). Runs equates align names w (widths_rest v (length bytes) following) (said_instruction w opcode bytes ++ said_rest v (length bytes) following) (opcode ∷ l)) (rejoined n following)
      (runs_on w v (widths_rest v (length bytes) following) (said_instruction w opcode bytes) (said_rest v (length bytes) following) (opcode ∷ bytes) (drop (length bytes) following)
      (instruction_runs w opcode bytes are.0 (take_bytes n following are.1) most) (rest_runs v (length bytes) following are.1))
