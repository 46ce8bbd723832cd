-- A table whose entries follow a segment has the entries of the new setting.
use Rattle.std.proofs.Common.{◌≡◌, ℕ, suc, Bool, true, false, cond, ◌+◌, ◌^◌, ◌<◌, List, [], ◌∷◌, ◌++◌, length, map, Option, Some, None, IsSome, refl, sym, ap, subst, ◌∙◌, arith, append_assoc, append-nil}
use Rattle.std.specs.List.{AllByRecursion}
use Rattle.std.specs.Option.{option_map}
use Rattle.std.proofs.lemmas.List.{length-append, length-map, map-append}
use Rattle.omf_format.specs.Number.{number_at}
use Rattle.omf_io.specs.Counts.{IsFront}
use Rattle.load_meaning.specs.declared.table.Target.{Target}
use Rattle.load_meaning.specs.declared.table.Entry.{Entry}
use Rattle.load_meaning.specs.Table.{entry_start, table_bytes, written_at}
use Rattle.loader_machine.specs.Stands.{AddressSetting}
use Rattle.loader_machine.specs.laws.Words.{entry_for}
use Rattle.loader_agrees.specs.laws.EntryBytes.{file_is, segment_is, offset_is, code_set}
use Rattle.loader_users.specs.Renewing.{Choice, is_chosen, code_for, renewed_at, relinked_entries}

-- ---- a target

-- an entry whose code is right by one setting, once it follows
pub record Follows (only : Choice) (address : Option ℕ) (a b : AddressSetting) (t : Target) : Type 0 where
  pub file : t.file < 256 ^ 2
  pub segment : t.segment < 256 ^ 2
  pub offset : is_chosen only t.file t.segment ≡ true → IsSome address → t.offset < 256 ^ 4
  pub chosen : is_chosen only t.file t.segment ≡ true → b.target t.file t.segment ≡ address
  pub others : is_chosen only t.file t.segment ≡ false → b.target t.file t.segment ≡ a.target t.file t.segment

module _ (only : Choice) (address : Option ℕ) (a b : AddressSetting) (id : a.id ≡ b.id) where
  -- the table with these entries by the new setting, and the others by the old one
  abbrev half : List Target → List Target → List Entry
  half done left = map (entry_for b) done ++ map (entry_for a) left

  abbrev one : Target → ℕ → Option ℕ → Entry
  one t user target = record { user = user; file = t.file; segment = t.segment; offset = t.offset; loaded = option_map (λ place. place + t.offset) target }

  renewed_one : (done left : List Target) (t : Target) (bytes : List ℕ) → Follows only address a b t → IsFront (table_bytes (half done (t ∷ left))) bytes
      → IsFront (table_bytes (half (done ++ t ∷ []) left)) (renewed_at only address (entry_start (length done)) bytes)
  unfolding renewed_at
  renewed_one done left t bytes follows is = (is.0, go (is_chosen only t.file t.segment) refl)
    where
      xs : List Entry
      xs = map (entry_for b) done

      ys : List Entry
      ys = map (entry_for a) left

      size : length (map (entry_for b) done) ≡ length done
      size = length-map done (entry_for b)

      segment : number_at 2 (entry_start (length done) + 4) bytes ≡ t.segment
      segment = ap (λ (n : ℕ). number_at 2 (entry_start n + 4) bytes) (sym size) ∙ segment_is (map (entry_for b) done) (map (entry_for a) left) is.0 (entry_for a t) bytes is.1 follows.segment

      file : number_at 2 (entry_start (length done) + 2) bytes ≡ t.file
      file = ap (λ (n : ℕ). number_at 2 (entry_start n + 2) bytes) (sym size) ∙ file_is (map (entry_for b) done) (map (entry_for a) left) is.0 (entry_for a t) bytes is.1 follows.file

      test_is : is_chosen only (number_at 2 (entry_start (length done) + 2) bytes) (number_at 2 (entry_start (length done) + 4) bytes) ≡ is_chosen only t.file t.segment
      test_is = ap (λ (n : ℕ). is_chosen only n (number_at 2 (entry_start (length done) + 4) bytes)) file ∙ ap (is_chosen only t.file) segment

      offset : t.offset < 256 ^ 4 → number_at 4 (entry_start (length done) + 6) bytes ≡ t.offset
      offset fits = ap (λ (n : ℕ). number_at 4 (entry_start n + 6) bytes) (sym size) ∙ offset_is (map (entry_for b) done) (map (entry_for a) left) is.0 (entry_for a t) bytes is.1 fits

      code_is : (o : Option ℕ) → address ≡ o → is_chosen only t.file t.segment ≡ true → code_for address (number_at 4 (entry_start (length done) + 6) bytes) ≡ code_for address t.offset
      code_is None e chosen = rw e refl
      code_is (Some place) e chosen = let some : IsSome address = rw e refl in ap (code_for address) (offset (follows.offset chosen some))

      moved : (e : Entry) → e ≡ entry_for b t → table_bytes (map (entry_for b) done ++ e ∷ map (entry_for a) left) ++ is.0 ≡ table_bytes (half (done ++ t ∷ []) left) ++ is.0
      moved e same = ap (λ (x : Entry). table_bytes (map (entry_for b) done ++ x ∷ map (entry_for a) left) ++ is.0) same
          ∙ ap (λ (l : List Entry). table_bytes l ++ is.0) (sym (append_assoc (map (entry_for b) done) (entry_for b t ∷ []) (map (entry_for a) left)))
          ∙ ap (λ (l : List Entry). table_bytes (l ++ map (entry_for a) left) ++ is.0) (sym (map-append (entry_for b) done (t ∷ [])))

      go : (c : Bool) → is_chosen only t.file t.segment ≡ c
          → cond (is_chosen only (number_at 2 (entry_start (length done) + 2) bytes) (number_at 2 (entry_start (length done) + 4) bytes)) (written_at (entry_start (length done) + 10) (code_for address (number_at 4 (entry_start (length done) + 6) bytes)) bytes) bytes
          ≡ table_bytes (half (done ++ t ∷ []) left) ++ is.0
      go true chosen =
          let test : is_chosen only (number_at 2 (entry_start (length done) + 2) bytes) (number_at 2 (entry_start (length done) + 4) bytes) ≡ true = test_is ∙ chosen in
          let set = code_set (map (entry_for b) done) (map (entry_for a) left) is.0 (entry_for a t) (option_map (λ place. place + t.offset) address) bytes is.1 in
          ap (λ (x : Bool). cond x (written_at (entry_start (length done) + 10) (code_for address (number_at 4 (entry_start (length done) + 6) bytes)) bytes) bytes) test
          ∙ ap (λ (code : List ℕ). written_at (entry_start (length done) + 10) code bytes) (code_is address refl chosen)
          ∙ ap (λ (n : ℕ). written_at (entry_start n + 10) (code_for address t.offset) bytes) (sym size)
          ∙ set ∙ moved (one t a.id address) (ap (λ (n : ℕ). one t n address) id ∙ ap (one t b.id) (sym (follows.chosen chosen)))
      go false others =
          let test : is_chosen only (number_at 2 (entry_start (length done) + 2) bytes) (number_at 2 (entry_start (length done) + 4) bytes) ≡ false = test_is ∙ others in
          ap (λ (x : Bool). cond x (written_at (entry_start (length done) + 10) (code_for address (number_at 4 (entry_start (length done) + 6) bytes)) bytes) bytes) test
          ∙ is.1 ∙ moved (entry_for a t) (ap (λ (n : ℕ). one t n (a.target t.file t.segment)) id ∙ ap (one t b.id) (sym (follows.others others)))

  renewed_from : (done left : List Target) (bytes : List ℕ) → AllByRecursion (Follows only address a b) left → IsFront (table_bytes (half done left)) (relinked_entries only address (length done) bytes)
      → IsFront (table_bytes (half (done ++ left) [])) (relinked_entries only address (length done + length left) bytes)
  renewed_from done [] bytes all is =
      let more : length done ≡ length done + 0 = omega arith in
      subst (λ (n : ℕ). IsFront (table_bytes (half (done ++ []) [])) (relinked_entries only address n bytes)) more
      (subst (λ (l : List Target). IsFront (table_bytes (half l [])) (relinked_entries only address (length done) bytes)) (sym (append-nil done)) is)
  renewed_from done (t ∷ left) bytes all is =
      let one' = renewed_one done left t (relinked_entries only address (length done) bytes) all.0 is in
      let long : length (done ++ t ∷ []) ≡ suc (length done) = omega (arith, length-append done (t ∷ [])) in
      let here : IsFront (table_bytes (half (done ++ t ∷ []) left)) (relinked_entries only address (length (done ++ t ∷ [])) bytes) =
      subst (λ (n : ℕ). IsFront (table_bytes (half (done ++ t ∷ []) left)) (relinked_entries only address n bytes)) (sym long) one' in
      let all' = renewed_from (done ++ t ∷ []) left bytes all.1 here in
      let sum : length (done ++ t ∷ []) + length left ≡ length done + length (t ∷ left) = omega (arith, long) in
      subst (λ (n : ℕ). IsFront (table_bytes (half (done ++ t ∷ left) [])) (relinked_entries only address n bytes)) sum
      (subst (λ (l : List Target). IsFront (table_bytes (half l [])) (relinked_entries only address (length (done ++ t ∷ []) + length left) bytes)) (append_assoc done (t ∷ []) left) all')

  -- a table whose entries follow has the entries of the new setting
  pub renewed_stands : (ts : List Target) (bytes : List ℕ) → AllByRecursion (Follows only address a b) ts → IsFront (table_bytes (map (entry_for a) ts)) bytes
      → IsFront (table_bytes (map (entry_for b) ts)) (relinked_entries only address (length ts) bytes)
  renewed_stands ts bytes all is =
      let none : 0 + length ts ≡ length ts = omega arith in
      subst (λ (l : List Entry). IsFront (table_bytes l) (relinked_entries only address (length ts) bytes)) (append-nil (map (entry_for b) ts))
      (subst (λ (n : ℕ). IsFront (table_bytes (map (entry_for b) ts ++ [])) (relinked_entries only address n bytes)) none (renewed_from [] ts bytes all is))
