-- The rows of the second record, as far as they were read.
use Rattle.std.proofs.Common.{◌≡◌, ℕ, zero, suc, ◌+◌, ◌*◌, ◌<◌, ◌≤◌, List, [], ◌∷◌, ◌++◌, length, take, drop, map, Some, None, Result, Ok, Err, refl, sym, ap, ◌∙◌, append_assoc, arith}
use Rattle.std.proofs.lemmas.List.{append-nil, length-drop, map-append, length-append}
use Rattle.omf_format.specs.Field.{◌>>=◌}
use Rattle.link_meaning.specs.Member.{OfferedRow}
use Rattle.link_meaning.specs.Dictionary.{numbered_from, rows_from}
use Rattle.lib_dict.specs.declared.dictionary.Row as declared
use Rattle.lib_dict.specs.declared.rows.Tables.{Tables}
use Rattle.lib_dict.specs.Library.{LibraryRow, row_view}
use Rattle.lib_dict.specs.Rows.{seen_row}
use Rattle.lib_dict.specs.Tables.{numbers_in, names_in, row_in, rows_at, IsRowAnswer, AreRowsIn}

abbrev Answer : Type 0
Answer = Result (List OfferedRow) ℕ

-- rows that were read, and then these
abbrev after_rows : List OfferedRow → Answer → Answer
after_rows found (Ok rows) = Ok (found ++ rows)
after_rows found (Err at) = Err at

abbrev rows_left : Tables → ℕ → ℕ → List ℕ → Answer
rows_left t n at rest = rows_from n (numbers_in t.first.now) (names_in t.third.now) (numbered_from 2 (drop 1 t.list.now)) at rest

-- the rows before what is left were read
pub record ReadRows (t : Tables) (start : ℕ) (second : List ℕ) (place : ℕ) (rest : List ℕ) (rows : List declared.Row) : Type 0 where
  pub n : ℕ
  pub size : length rest ≡ 12 * n
  pub place' : place + length rest ≡ start + length second
  pub count : 12 * length rows + length rest ≡ length second
  pub found : List OfferedRow
  pub whole : rows_at t start second ≡ after_rows found (rows_left t n place rest)
  pub reported : map seen_row rows ≡ map (row_view t.list.now) found

rows_step : (t : Tables) (n at : ℕ) (rest : List ℕ) → rows_left t (suc n) at rest ≡ (row_in t at (take 12 rest) >>= λ row. rows_left t n (at + 12) (drop 12 rest) >>= λ rows. Ok (row ∷ rows))
unfolding rows_from
rows_step t n at rest = refl

rows_stop : (t : Tables) (at : ℕ) (rest : List ℕ) → rows_left t 0 at rest ≡ Ok []
unfolding rows_from
rows_stop t at rest = refl

-- there is a row more
more_rows : (n size : ℕ) → size ≡ 12 * n → 12 ≤ size → (m : ℕ) × (n ≡ suc m)
more_rows zero size is long = absurd (omega arith)
more_rows (suc m) size is long = (m, refl)

pub rows_next : (t : Tables) (start : ℕ) (second : List ℕ) (place : ℕ) (rest next : List ℕ) (rows new : List declared.Row) (row : declared.Row) → ReadRows t start second place rest rows → 12 ≤ length rest
    → IsRowAnswer t (take 12 rest) (Some (seen_row row)) → new ≡ rows ++ row ∷ [] → next ≡ drop 12 rest → ReadRows t start second (place + 12) next new
rows_next t start second place rest next rows new row r long answer is_new is_next =
    let m = more_rows r.n (length rest) r.size long in
    let left = drop 12 rest in
    let goes : rows_left t r.n place rest ≡ (rows_left t m.0 (place + 12) left >>= λ more. Ok (answer.0 ∷ more)) =
    ap (λ (n : ℕ). rows_left t n place rest) m.1
    ∙ rows_step t m.0 place rest
    ∙ ap (λ (a : Result OfferedRow ℕ). a >>= λ one. rows_left t m.0 (place + 12) left >>= λ more. Ok (one ∷ more)) (answer.1 place) in
    record {
      n = m.0;
      size = omega (arith, ap length is_next, length-drop 12 rest, r.size, m.1);
      place' = omega (arith, ap length is_next, length-drop 12 rest, r.place');
      count = omega (arith, ap length is_next, length-drop 12 rest, r.count, ap length is_new, length-append rows (row ∷ []));
      found = r.found ++ answer.0 ∷ [];
      whole = r.whole ∙ ap (after_rows r.found) goes ∙ regroup answer.0 (rows_left t m.0 (place + 12) left) ∙ ap (λ (l : List ℕ). after_rows (r.found ++ answer.0 ∷ []) (rows_left t m.0 (place + 12) l)) (sym is_next);
      reported =
          ap (map seen_row) is_new
          ∙ map-append seen_row rows (row ∷ [])
          ∙ ap (λ (l : List LibraryRow). l ++ seen_row row ∷ []) r.reported
          ∙ ap (λ (x : LibraryRow). map (row_view t.list.now) r.found ++ x ∷ []) answer.2
          ∙ sym (map-append (row_view t.list.now) r.found (answer.0 ∷ []));
    }
  where
    regroup : (one : OfferedRow) (a : Answer) → after_rows r.found (a >>= λ more. Ok (one ∷ more)) ≡ after_rows (r.found ++ one ∷ []) a
    regroup one (Ok more) = ap (λ (l : List OfferedRow). done l) (sym (append_assoc r.found (one ∷ []) more))
      where
        done : List OfferedRow → Answer
        done l = Ok l
    regroup one (Err at) = refl

-- a row that the library doesn't bear out
pub rows_false : (t : Tables) (start : ℕ) (second : List ℕ) (place : ℕ) (rest : List ℕ) (rows : List declared.Row) → ReadRows t start second place rest rows → 12 ≤ length rest
    → IsRowAnswer t (take 12 rest) None → rows_at t start second ≡ Err place
rows_false t start second place rest rows r long answer =
    let m = more_rows r.n (length rest) r.size long in
    r.whole
    ∙ ap (λ (n : ℕ). after_rows r.found (rows_left t n place rest)) m.1
    ∙ ap (after_rows r.found) (rows_step t m.0 place rest)
    ∙ ap (λ (a : Result OfferedRow ℕ). after_rows r.found (a >>= λ one. rows_left t m.0 (place + 12) (drop 12 rest) >>= λ more. Ok (one ∷ more))) (answer place)

-- all rows
pub rows_all : (t : Tables) (start : ℕ) (second : List ℕ) (place : ℕ) (rest : List ℕ) (rows : List declared.Row) → ReadRows t start second place rest rows → length rest < 12
    → AreRowsIn t.list.now (rows_at t start second) rows
rows_all t start second place rest rows r short =
    let none : r.n ≡ 0 = omega (arith, r.size) in
    record {
      found = r.found;
      read =
          r.whole
          ∙ ap (λ (n : ℕ). after_rows r.found (rows_left t n place rest)) none
          ∙ ap (after_rows r.found) (rows_stop t place rest)
          ∙ ap (λ (l : List OfferedRow). done l) (append-nil r.found);
      reported = r.reported;
    }
  where
    done : List OfferedRow → Answer
    done l = Ok l
