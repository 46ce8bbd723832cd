-- What instructions give.
use Rattle.std.proofs.Common.{◌≡◌, ℕ, Bool, true, cond, List, [], ◌∷◌, Ok, Err, sym, ap, ◌∙◌}
use Rattle.omf_format.specs.Expression.{Leaf, Constant}
use Rattle.asm_meaning.specs.Constant as meaning
use Rattle.orca_operands.specs.AmountView.{AmountBytes, Number, Text, kept_of}
use Rattle.omf_format.specs.Field.{◌>>=◌}
use Rattle.asm_meaning.specs.declared.faults.AsmCause.{AsmCause}
use Rattle.asm_meaning.specs.Answer.{Answer, pair_or_earlier_fault, earlier}
use Rattle.orca_operands.specs.AmountView.{kept_answer}
use Rattle.orca_meaning.specs.declared.forms.Prefix.{Prefix}
use Rattle.orca_meaning.specs.declared.mnemonics.Mnemonic.{Mnemonic}
use Rattle.orca_meaning.specs.declared.modes.Mode.{Mode}
use Rattle.asm_meaning.specs.Instruction.{Widths, operand_bytes, kind_of, is_distance, with_known, with_tree, with_number, bank_record, banks_written}
use Rattle.asm_meaning.specs.Pieces.{Piece, Bytes, Whole}

-- a branch with a constant
pub known_branch : (w : Widths) (m : Mnemonic) (p : Prefix) (n : ℕ) (way : Mode) (width : ℕ) (r : List Piece) (b : Bool) → b ≡ is_distance (kind_of way) → b ≡ true → width ≡ operand_bytes w m way
    → r ≡ with_tree m way p width (Leaf (Constant n)) → r ≡ with_known w m p n way
known_branch w m p n way width r b is branch same tree =
    tree ∙ ap (λ (k : ℕ). with_tree m way p k (Leaf (Constant n))) same
    ∙ ap (λ (c : Bool). cond c (with_tree m way p (operand_bytes w m way) (Leaf (Constant n))) (with_number m way p (operand_bytes w m way) n)) (sym branch ∙ is)

-- a block move of which a bank isn't known
abbrev in_parts : ℕ → meaning.Amount → meaning.Amount → List Piece
in_parts opcode s d = Bytes (opcode ∷ []) ∷ Whole (bank_record 1 d) ∷ Whole (bank_record 2 s) ∷ []

pub to_written : (opcode n : ℕ) (text : List ℕ) (s d : meaning.Amount) (r : List Piece) → Number n ≡ kept_of 2 s → Text text ≡ kept_of 1 d → r ≡ in_parts opcode s d → r ≡ banks_written opcode s d
to_written opcode n text (meaning.Known m) (meaning.Known k) r p q is = absurd cc
to_written opcode n text (meaning.Known m) (meaning.Written t) r p q is = is
to_written opcode n text (meaning.Written t) d r p q is = absurd cc

pub from_written : (opcode : ℕ) (text : List ℕ) (s d : meaning.Amount) (r : List Piece) → Text text ≡ kept_of 2 s → r ≡ in_parts opcode s d → r ≡ banks_written opcode s d
from_written opcode text (meaning.Known m) d r p is = absurd cc
from_written opcode text (meaning.Written t) d r p is = is

-- ---- both banks

abbrev given : List Piece → Answer (List Piece)
given pieces = Ok pieces

abbrev pub refused : AsmCause → Answer (List Piece)
refused cause = Err cause

abbrev kept : AmountBytes → Answer AmountBytes
kept k = Ok k

abbrev bad : AsmCause → Answer AmountBytes
bad cause = Err cause

same_kept : (x y : AmountBytes) → kept x ≡ kept y → x ≡ y
same_kept x y e = cc

same_bad : (x y : AsmCause) → bad x ≡ bad y → x ≡ y
same_bad x y e = cc

abbrev moved_by : ℕ → Answer meaning.Amount → Answer meaning.Amount → Answer (List Piece)
moved_by opcode x y = pair_or_earlier_fault x y >>= λ banks. given (banks_written opcode banks.0 banks.1)

pub both_banks : (opcode : ℕ) (x y : Answer meaning.Amount) (a b : AmountBytes) (r : List Piece) → kept a ≡ kept_answer 2 x → kept b ≡ kept_answer 1 y
    → ((s d : meaning.Amount) → a ≡ kept_of 2 s → b ≡ kept_of 1 d → r ≡ banks_written opcode s d) → given r ≡ moved_by opcode x y
both_banks opcode (Ok s) (Ok d) a b r p q is = ap given (is s d (same_kept a (kept_of 2 s) p) (same_kept b (kept_of 1 d) q))
both_banks opcode (Ok s) (Err cause) a b r p q is = absurd cc
both_banks opcode (Err cause) y a b r p q is = absurd cc

pub first_bank : (opcode : ℕ) (x y : Answer meaning.Amount) (c : AsmCause) (b : AmountBytes) → bad c ≡ kept_answer 2 x → kept b ≡ kept_answer 1 y → refused c ≡ moved_by opcode x y
first_bank opcode (Ok s) y c b p q = absurd cc
first_bank opcode (Err cause) (Ok d) c b p q = ap refused (same_bad c cause p)
first_bank opcode (Err cause) (Err other) c b p q = absurd cc

pub second_bank : (opcode : ℕ) (x y : Answer meaning.Amount) (c : AsmCause) (a : AmountBytes) → kept a ≡ kept_answer 2 x → bad c ≡ kept_answer 1 y → refused c ≡ moved_by opcode x y
second_bank opcode (Ok s) (Ok d) c a p q = absurd cc
second_bank opcode (Ok s) (Err cause) c a p q = ap refused (same_bad c cause q)
second_bank opcode (Err cause) y c a p q = absurd cc

pub no_bank : (opcode : ℕ) (x y : Answer meaning.Amount) (c d : AsmCause) → bad c ≡ kept_answer 2 x → bad d ≡ kept_answer 1 y → refused (earlier c d) ≡ moved_by opcode x y
no_bank opcode (Ok s) y c d p q = absurd cc
no_bank opcode (Err cause) (Ok s) c d p q = absurd cc
no_bank opcode (Err cause) (Err other) c d p q =
    ap (λ (k : AsmCause). refused (earlier k d)) (same_bad c cause p) ∙ ap (λ (k : AsmCause). refused (earlier cause k)) (same_bad d other q)
