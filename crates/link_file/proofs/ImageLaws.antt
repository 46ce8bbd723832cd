-- A header, a body and END are the text of a load segment.
use Rattle.std.proofs.Common.{◌≡◌, ◌↔◌, ℕ, zero, suc, ◌+◌, ◌<◌, ◌≤◌, false, List, [], ◌∷◌, ◌++◌, length, take, drop, replicate, Some, Result, Ok, Err, refl, sym, ap, subst, ◌∙◌, append_assoc, arith}
use Rattle.std.specs.Prelude.{OnOk, slice_get}
use Rattle.std.specs.List.{flat_map}
use Rattle.std.proofs.Math.Seq.{take-append_seam, drop-append_seam}
use Rattle.std.proofs.lemmas.List.{length-append, length-drop, length-replicate, append-nil}
use Rattle.std.proofs.lemmas.List.Concat.{flat_map-cons}
use Rattle.std.proofs.lemmas.Grind.{flat_map-append}
use Rattle.omf_format.specs.Header.{HeaderFields, header_bytes, IsWritable}
use Rattle.omf_format.specs.laws.WrittenHeaderLaws.{length-header}
use Rattle.omf_format.specs.Field.{written_layout}
use Rattle.omf_format.specs.Record.{Record, spelling}
use Rattle.load_meaning.specs.Cells.{Patch}
use Rattle.load_meaning.specs.WrittenBody.{AreWritten, zeros_after, written_cells, body_records, body_text}
use Rattle.load_meaning.specs.laws.StoredLaws.{zeros-le, cells_size}
use Rattle.load_meaning.specs.WrittenFile.{Image, image_body, image_text, file_text}
use Rattle.omf_header.specs.View.{fields}
use Rattle.omf_header.specs.declared.header.Header.{Header}
use Rattle.omf_header.specs.Written.{with_reserved_zeros}
use Rattle.link_content.specs.Holding.{Holding}
use Rattle.link_file.specs.Images.{with_space, spelled_records, image_in, images_in, left_from, IsReady, AreReady}

pub zeros_fit : (content : List ℕ) (patches : List Patch) → AreWritten (length content) 0 patches → zeros_after (written_cells content patches) ≤ length content
unfolding written_cells
zeros_fit content patches are = omega (arith, zeros-le (written_cells content patches), cells_size content patches are)

abbrev pub image : HeaderFields → List ℕ → List Patch → List Record → Image
image f content patches exports = record { fields = f; content = content; patches = patches; exports = exports; whole = false }

-- what a body and the exports after it spell
body_whole : (own : ℕ) (content : List ℕ) (patches : List Patch) (exports : List Record) → body_text own content patches ++ spelled_records exports ≡ flat_map (spelling written_layout) (body_records own content patches ++ exports)
unfolding body_text
body_whole own content patches exports = sym (flat_map-append (spelling written_layout) (body_records own content patches) exports)

-- the body of a load segment is what its records spell, and END
body_is : (f : HeaderFields) (content : List ℕ) (patches : List Patch) (exports : List Record) (body : List ℕ) → body ≡ body_text f.seg_num content patches ++ spelled_records exports → body ++ 0 ∷ [] ≡ image_body (image f content patches exports)
unfolding image_body spelling
body_is f content patches exports body b = ap (λ (l : List ℕ). l ++ 0 ∷ []) (b ∙ body_whole f.seg_num content patches exports)

pub text_is : (f : HeaderFields) (content : List ℕ) (patches : List Patch) (exports : List Record) (front body : List ℕ) → body ≡ body_text f.seg_num content patches ++ spelled_records exports
    → front ≡ header_bytes (with_space f (zeros_after (written_cells content patches))) (length body + 1) → front ++ (body ++ 0 ∷ []) ≡ image_text (image f content patches exports)
unfolding image_text
text_is f content patches exports front body b h =
    let g = with_space f (zeros_after (written_cells content patches)) in
    let whole = body_is f content patches exports body b in
    let size : length body + 1 ≡ length (image_body (image f content patches exports)) = sym (length-append body (0 ∷ [])) ∙ ap length whole in
    ap (λ (l : List ℕ). l ++ (body ++ 0 ∷ [])) (h ∙ ap (header_bytes g) size)
    ∙ ap (λ (l : List ℕ). header_bytes g (length (image_body (image f content patches exports))) ++ l) whole

-- how long it is
pub text_size : (f : HeaderFields) (content : List ℕ) (patches : List Patch) (exports : List Record) (body : List ℕ) → length f.load_name ≡ 10 → body ≡ body_text f.seg_num content patches ++ spelled_records exports
    → length (image_text (image f content patches exports)) ≡ 0x37 + length f.name + (length body + 1)
unfolding image_text
text_size f content patches exports body ten b =
    let g = with_space f (zeros_after (written_cells content patches)) in
    let all = image_body (image f content patches exports) in
    omega (arith, length-append (header_bytes g (length all)) all, length-header g (length all) ten, length-append body (0 ∷ []), ap length (body_is f content patches exports body b))

-- the fields with the body's zeros may be written
pub space_writable : (f : HeaderFields) (zeros : ℕ) → IsWritable (with_space f 0) → zeros ≤ f.length → IsWritable (with_space f zeros)
space_writable f zeros is le = record { version = is.version; banks = is.banks; listed = is.listed; spaced = le }

pub spaced_writable : (f : HeaderFields) (zeros : ℕ) → IsWritable (with_space f zeros) → IsWritable (with_reserved_zeros f zeros)
spaced_writable f zeros is = record { version = refl; banks = is.banks; listed = is.listed; spaced = is.spaced }

-- what the writing of a header gives isn't taken from its fields
pub spaced_bytes : (f : HeaderFields) (zeros size : ℕ) → header_bytes (with_reserved_zeros f zeros) size ≡ header_bytes (with_space f zeros) size
unfolding header_bytes
spaced_bytes f zeros size = refl

-- ---- answers

abbrev failed : {A E : Type 0} → E → Result A E
failed e = Err e

pub err_moved : {A B E : Type 0} → (a b : E) → failed {A = A} a ≡ failed b → failed {A = B} a ≡ failed b
err_moved a b e = let same : a ≡ b = cc in ap failed same

-- it is too long as the header is
pub made_long : {A B D E : Type 0} → (given own : D) (made long : E) → ((made ≡ long) ↔ (given ≡ own)) → failed {A = A} made ≡ failed long → failed {A = B} given ≡ failed own
made_long given own made long is e = let same : made ≡ long = cc in ap failed (is.0 same)

pub ok_moved : {A E : Type 0} → (r : Result A E) (new out x y : List ℕ) → x ≡ y → OnOk r (new ≡ out ++ x) → OnOk r (new ≡ out ++ y)
ok_moved (Ok v) new out x y same more = more ∙ ap (λ (l : List ℕ). out ++ l) same
ok_moved (Err e) new out x y same more = tt

-- ---- one after another

pub one_image : (exports : List Record) (out new all : List ℕ) (headers more_headers : List Header) (contents more_contents : List Holding) (h : Header) (content : Holding) → headers ≡ h ∷ more_headers → contents ≡ content ∷ more_contents
    → new ≡ out ++ image_text (image_in (fields h) content exports) → out ++ file_text (images_in exports headers contents) ≡ all → new ++ file_text (images_in [] more_headers more_contents) ≡ all
unfolding file_text
one_image exports out new all headers more_headers contents more_contents h content hs cs more whole =
    let first = image_text (image_in (fields h) content exports) in
    let rest = flat_map image_text (images_in [] more_headers more_contents) in
    let parts : flat_map image_text (images_in exports headers contents) ≡ first ++ rest =
    ap (λ (l : List Header). flat_map image_text (images_in exports l contents)) hs
    ∙ ap (λ (l : List Holding). flat_map image_text (images_in exports (h ∷ more_headers) l)) cs
    ∙ flat_map-cons image_text (image_in (fields h) content exports) (images_in [] more_headers more_contents) in
    ap (λ (l : List ℕ). l ++ rest) more ∙ append_assoc out first rest ∙ ap (λ (l : List ℕ). out ++ l) (sym parts) ∙ whole

-- where the first is too long all are
pub long_image : (exports : List Record) (out all : List ℕ) (n : ℕ) (headers more_headers : List Header) (contents more_contents : List Holding) (h : Header) (content : Holding) → headers ≡ h ∷ more_headers → contents ≡ content ∷ more_contents
    → out ++ file_text (images_in exports headers contents) ≡ all → n < length out + length (image_text (image_in (fields h) content exports)) → n < length all
unfolding file_text
long_image exports out all n headers more_headers contents more_contents h content hs cs whole long =
    let first = image_text (image_in (fields h) content exports) in
    let rest = flat_map image_text (images_in [] more_headers more_contents) in
    let parts : flat_map image_text (images_in exports headers contents) ≡ first ++ rest =
    ap (λ (l : List Header). flat_map image_text (images_in exports l contents)) hs
    ∙ ap (λ (l : List Holding). flat_map image_text (images_in exports (h ∷ more_headers) l)) cs
    ∙ flat_map-cons image_text (image_in (fields h) content exports) (images_in [] more_headers more_contents) in
    omega (arith, long, ap length whole, length-append out (flat_map image_text (images_in exports headers contents)), ap length parts, length-append first rest)

pub more_ready : (headers more_headers : List Header) (contents more_contents : List Holding) (h : Header) (content : Holding) → headers ≡ h ∷ more_headers → contents ≡ content ∷ more_contents
    → AreReady headers contents → IsReady (fields h) content × AreReady more_headers more_contents
more_ready headers more_headers contents more_contents h content hs cs ready =
    subst (λ (l : List Holding). AreReady (h ∷ more_headers) l) cs (subst (λ (l : List Header). AreReady l contents) hs ready)

-- after the last nothing is left
pub none_left : (exports : List Record) (out all : List ℕ) (headers : List Header) (contents : List Holding) (k : ℕ) → length headers ≤ k → out ++ file_text (images_in exports (drop k headers) contents) ≡ all → out ≡ all
unfolding file_text
none_left exports out all headers contents k none whole =
    sym (append-nil out)
    ∙ ap (λ (l : List Header). out ++ flat_map image_text (images_in exports l contents)) (sym (all_dropped headers k none))
    ∙ whole
  where
    all_dropped : (l : List Header) (k : ℕ) → length l ≤ k → drop k l ≡ []
    all_dropped [] zero le = refl
    all_dropped [] (suc k) le = refl
    all_dropped (h ∷ l) zero le = absurd (omega (arith, le))
    all_dropped (h ∷ l) (suc k) le = all_dropped l k (omega (arith, le))

-- after the first place no ENTRY records are left
pub none_after : (k : ℕ) (exports : List Record) → left_from (k + 1) exports ≡ []
none_after k exports = let next : k + 1 ≡ suc k = omega arith in ap (λ (n : ℕ). left_from n exports) next

-- what a list holds from a place on
pub drop_next : {A : Type 0} (l : List A) (i : ℕ) (x : A) → slice_get l i ≡ Some x → drop i l ≡ x ∷ drop (i + 1) l
drop_next {A = A} [] i x is = absurd cc
drop_next {A = A} (y ∷ l) zero x is = let same : y ≡ x = cc in ap (λ (z : A). z ∷ l) same
drop_next {A = A} (y ∷ l) (suc i) x is = let more : suc i + 1 ≡ suc (i + 1) = omega arith in rw more (drop_next l i x is)

-- there are as many contents as headers
pub ready_size : (headers : List Header) (contents : List Holding) (k : ℕ) → AreReady (drop k headers) (drop k contents) → k < length headers → length contents ≤ k → ⊥
ready_size [] contents k ready less le = omega (arith, less)
ready_size (h ∷ headers) [] zero ready less le = ready
ready_size (h ∷ headers) [] (suc k) ready less le = not_empty (drop k headers) ready (omega (arith, length-drop k headers, less))
  where
    not_empty : (l : List Header) → AreReady l [] → 0 < length l → ⊥
    not_empty [] ready some = omega (arith, some)
    not_empty (h ∷ l) ready some = ready
ready_size (h ∷ headers) (c ∷ contents) zero ready less le = omega (arith, le)
ready_size (h ∷ headers) (c ∷ contents) (suc k) ready less le = ready_size headers contents k ready (omega (arith, less)) (omega (arith, le))

-- ---- a header is written into the room before a body

-- what follows the room for a header
pub after_room : (old mid new room body : List ℕ) → mid ≡ old ++ room → new ≡ mid ++ body → new ≡ old ++ room ++ body
after_room old mid new room body is more = more ∙ ap (λ (l : List ℕ). l ++ body) is

pub after_size : (old body mid at whole : List ℕ) (n : ℕ) → at ≡ old → whole ≡ mid → mid ≡ old ++ replicate n 0 ++ body → length whole ≡ length at + n + length body
after_size old body mid at whole n at_is whole_is is =
    omega (arith, ap length at_is, ap length whole_is, ap length is, length-append (old ++ replicate n 0) body, length-append old (replicate n 0), length-replicate {A = ℕ} n 0)

pub closed : (old front body mid at new : List ℕ) (n : ℕ) → at ≡ old → mid ≡ old ++ replicate n 0 ++ body → length front ≡ n
    → new ≡ take (length at) mid ++ front ++ drop (length at + length front) mid ++ 0 ∷ [] → new ≡ old ++ (front ++ (body ++ 0 ∷ []))
closed old front body mid at new n at_is is size new_is =
    let here : length at ≡ length old = ap length at_is in
    let first : take (length at) mid ≡ old =
    ap (take (length at)) (is ∙ append_assoc old (replicate n 0) body) ∙ ap (λ (k : ℕ). take k (old ++ (replicate n 0 ++ body))) here ∙ take-append_seam old (replicate n 0 ++ body) in
    let there : length at + length front ≡ length (old ++ replicate n 0) = omega (arith, here, size, length-append old (replicate n 0), length-replicate {A = ℕ} n 0) in
    let last : drop (length at + length front) mid ≡ body =
    ap (drop (length at + length front)) is ∙ ap (λ (k : ℕ). drop k (old ++ replicate n 0 ++ body)) there ∙ drop-append_seam (old ++ replicate n 0) body in
    new_is
    ∙ ap (λ (l : List ℕ). l ++ front ++ drop (length at + length front) mid ++ 0 ∷ []) first
    ∙ ap (λ (l : List ℕ). old ++ front ++ l ++ 0 ∷ []) last
    ∙ append_assoc (old ++ front) body (0 ∷ [])
    ∙ append_assoc old front (body ++ 0 ∷ [])
