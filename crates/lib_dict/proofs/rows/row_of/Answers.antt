use Rattle.std.proofs.Common.{◌≡◌, ℕ, ◌+◌, true, take, drop, map, refl, sym, ap, ◌∙◌, arith}
use Rattle.std.specs.Prelude.{nat_eq, not}
use Rattle.std.specs.List.{list_any}
use Rattle.omf_format.specs.Number.{number_at}
use Rattle.lib_dict.specs.Library.{LibraryRow}
use Rattle.lib_dict.specs.View.{outer_row}
use Rattle.lib_dict.specs.Tables.{same_row}
use Rattle.lib_dict.proofs.RowLaws.{made, private_of, text_at, row_unnamed, row_unnumbered, row_name_at, row_unknown, row_known, rows_equal, reported_so}
use Rattle.lib_dict.proofs.rows.row_of.Goals as goal

pub returns-then-not-contains : goal.returns-then-not-contains
returns-then-not-contains c =
    row_unnamed c.args.tables.now c.args.bytes.now c.requires.fits
    (ap (λ (n : ℕ). list_any (nat_eq n) c.args.tables.now.starts.keys) (sym c.number-start.ensures.value) ∙ sym c.contains.ensures ∙ c.if-not-contains.true)

pub returns-then-not-contains-2 : goal.returns-then-not-contains-2
returns-then-not-contains-2 c =
    row_unnumbered c.args.tables.now c.args.bytes.now c.requires.fits
    (ap (λ (n : ℕ). list_any (nat_eq n) c.args.tables.now.numbers.keys) (sym c.number.ensures.value) ∙ sym c.contains-2.ensures ∙ c.if-not-contains-2.true)

pub name_at-name-requires : goal.name_at-name-requires
name_at-name-requires c = row_name_at c.args.tables.now c.number-start.result c.requires.fits (sym c.contains.ensures ∙ c.if-not-contains.false)

pub returns-then-not-is_known : goal.returns-then-not-is_known
returns-then-not-is_known c =
    let t = c.args.tables.now in
    let bytes = c.args.bytes.now in
    let any : list_any (nat_eq (number_at 4 0 bytes)) t.starts.keys ≡ true = ap (λ (n : ℕ). list_any (nat_eq n) t.starts.keys) (sym c.number-start.ensures.value) ∙ sym c.contains.ensures ∙ c.if-not-contains.false in
    let name : text_at t bytes ≡ c.name_at-name.result.now = sym (c.name_at-name.ensures.value ∙ ap (λ (d : ℕ). take (number_at 1 d t.third.now) (drop (d + 1) t.third.now)) c.number-start.ensures.value) in
    let private : private_of bytes ≡ not (nat_eq c.number-private.result 0) = ap (λ (n : ℕ). not (nat_eq n 0)) (sym c.number-private.ensures.value) in
    let at : number_at 4 8 bytes ≡ c.from.result = omega (arith, c.number-at.ensures.value) in
    let row = rows_equal (text_at t bytes) c.name_at-name.result.now 0 0 (private_of bytes) (not (nat_eq c.number-private.result 0)) (number_at 4 8 bytes) c.from.result name refl private at in
    row_unknown t bytes c.requires.fits any (ap (λ (r : LibraryRow). list_any (same_row r) (map outer_row t.known.keys)) row ∙ sym c.is_known.ensures ∙ c.if-not-is_known.true)

pub returns : goal.returns
returns c =
    let t = c.args.tables.now in
    let bytes = c.args.bytes.now in
    let any : list_any (nat_eq (number_at 4 0 bytes)) t.starts.keys ≡ true = ap (λ (n : ℕ). list_any (nat_eq n) t.starts.keys) (sym c.number-start.ensures.value) ∙ sym c.contains.ensures ∙ c.if-not-contains.false in
    let number : list_any (nat_eq (number_at 2 4 bytes)) t.numbers.keys ≡ true = ap (λ (n : ℕ). list_any (nat_eq n) t.numbers.keys) (sym c.number.ensures.value) ∙ sym c.contains-2.ensures ∙ c.if-not-contains-2.false in
    let name : text_at t bytes ≡ c.name_at-name.result.now = sym (c.name_at-name.ensures.value ∙ ap (λ (d : ℕ). take (number_at 1 d t.third.now) (drop (d + 1) t.third.now)) c.number-start.ensures.value) in
    let private : private_of bytes ≡ not (nat_eq c.number-private.result 0) = ap (λ (n : ℕ). not (nat_eq n 0)) (sym c.number-private.ensures.value) in
    let at : number_at 4 8 bytes ≡ c.from.result = omega (arith, c.number-at.ensures.value) in
    let row = rows_equal (text_at t bytes) c.name_at-name.result.now 0 0 (private_of bytes) (not (nat_eq c.number-private.result 0)) (number_at 4 8 bytes) c.from.result name refl private at in
    let answer = row_known t bytes c.requires.fits any number (ap (λ (r : LibraryRow). list_any (same_row r) (map outer_row t.known.keys)) row ∙ sym c.is_known.ensures ∙ c.if-not-is_known.false) in
    let reported = rows_equal c.name_at-name.result.now (text_at t bytes) c.number.result (number_at 2 4 bytes) (not (nat_eq c.number-private.result 0)) (private_of bytes) c.number-at.result (number_at 4 8 bytes) (sym name) c.number.ensures.value (sym private) c.number-at.ensures.value in
    reported_so t bytes (made (text_at t bytes) (number_at 2 4 bytes) (private_of bytes) (number_at 4 8 bytes)) (made c.name_at-name.result.now c.number.result (not (nat_eq c.number-private.result 0)) c.number-at.result) answer reported
