use Rattle.std.proofs.Common.{List, ℕ, sym, subst, arith}
use Rattle.lib_dict.proofs.Forms.{ReadFiles, files_cut, files_end, files_more, files_short, files_over, files_next}
use Rattle.lib_dict.proofs.record_forms.file_numbers.Goals as goal

pub returns-then-rest-lt2 : goal.returns-then-rest-lt2
returns-then-rest-lt2 c = files_cut c.args.bytes.now c.files.rest.now c.files.numbers.keys c.files.invariant (omega arith)

pub returns-then-rest-eq2 : goal.returns-then-rest-eq2
returns-then-rest-eq2 c = files_end c.args.bytes.now c.files.rest.now c.files.numbers.keys c.files.invariant (omega arith) (omega arith)

pub returns-else-rest-eq2 : goal.returns-else-rest-eq2
returns-else-rest-eq2 c = files_more c.args.bytes.now c.files.rest.now c.files.numbers.keys c.files.invariant (omega arith) (λ e. absurd (omega arith)) (omega arith)

pub returns-then-rest-lt3 : goal.returns-then-rest-lt3
returns-then-rest-lt3 c = files_short c.args.bytes.now c.files.rest.now c.files.numbers.keys c.files.invariant (omega arith) (λ e. absurd (omega arith)) (omega arith)

pub returns-then-rest-size : goal.returns-then-rest-size
returns-then-rest-size c = files_over c.args.bytes.now c.files.rest.now c.files.numbers.keys c.files.invariant (omega arith) (λ e. absurd (omega arith)) (omega arith)

pub files-preserved : goal.files-preserved
files-preserved c =
    subst (λ (l : List ℕ). ReadFiles c.args.bytes.now l c.insert.new.self.keys) (sym c.items_after-rest.ensures)
    (files_next c.args.bytes.now c.files.rest.now c.files.numbers.keys c.insert.new.self.keys c.number-file.result _ c.files.invariant (omega arith) (λ e. absurd (omega arith)) (omega arith) (omega arith) c.number-file.ensures.value c.in_ok-insert.ensures.keys)
