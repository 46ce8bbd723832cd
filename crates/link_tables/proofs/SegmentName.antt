-- SEGNAME lies in the file.
use Rattle.std.proofs.Common.{◌≡◌, ℕ, ◌+◌, ◌-◌, ◌≤◌, Bool, true, false, List, ◌++◌, length, take, drop, replicate, sym, ap, subst, ◌∙◌, append_assoc, arith}
use Rattle.std.specs.Prelude.{◌==◌, if◌then◌else◌}
use Rattle.std.proofs.Math.Seq.{take-append_seam}
use Rattle.std.proofs.lemmas.List.{take-append-drop, length-take, length-drop}
use Rattle.omf_format.specs.Number.{number_at}
use Rattle.omf_format.specs.Name.{without_trailing, name_at, name_size}
use Rattle.omf_format.specs.Header.{HeaderFields, fields_of, names_end}
use Rattle.omf_format.specs.laws.HeaderLaws.{sound_from_none}
use Rattle.omf_format.specs.File.{IsHeader}
use Rattle.omf_format.specs.laws.FieldLaws.{padded-trim}
use Rattle.link_tables.proofs.Lists.{drop_twice}

front_of : (ys n rest : List ℕ) → ys ≡ n ++ rest → take (length n) ys ≡ n
front_of ys n rest e = ap (λ (l : List ℕ). take (length n) l) e ∙ take-append_seam n rest

abbrev name_by : Bool → ℕ → ℕ → List ℕ → List ℕ
name_by b l at bytes = if b then take (number_at 1 at bytes) (drop (at + 1) bytes) else without_trailing 32 (take l (drop at bytes))

abbrev from_by : Bool → ℕ → ℕ
from_by b at = if b then at + 1 else at

lies_by : (b : Bool) (l at : ℕ) (bytes : List ℕ) → take (length (name_by b l at bytes)) (drop (from_by b at) bytes) ≡ name_by b l at bytes
lies_by true l at bytes =
    let k = number_at 1 at bytes in
    let ys = drop (at + 1) bytes in
    front_of ys (take k ys) (drop k ys) (sym (take-append-drop k ys))
lies_by false l at bytes =
    let ys = drop at bytes in
    let xs = take l ys in
    let w = without_trailing 32 xs in
    let pad = replicate (length xs - length w) 32 in
    front_of ys w (pad ++ drop l ys) (sym (take-append-drop l ys) ∙ ap (λ (z : List ℕ). z ++ drop l ys) (sym (padded-trim 32 xs)) ∙ append_assoc w pad (drop l ys))

-- where it is, and that it ends in the file
pub record Lies (start : ℕ) (f : HeaderFields) (file : List ℕ) : Type 0 where
  pub text : take (length f.name) (drop (start + from_by (f.lab_len == 0) (f.disp_name + 10)) file) ≡ f.name
  pub within : start + from_by (f.lab_len == 0) (f.disp_name + 10) + length f.name ≤ length file

from_within : (b : Bool) (l k at end : ℕ) → at + (if b then 1 + k else l) ≤ end → from_by b at ≤ end
from_within true l k at end h = omega (arith, h)
from_within false l k at end h = omega (arith, h)

pub name_lies : (start : ℕ) (f : HeaderFields) (file : List ℕ) → IsHeader start f file → start ≤ length file → Lies start f file
unfolding fields_of name_at names_end name_size
name_lies start f file is inside =
    let bytes = drop start file in
    let g = fields_of bytes in
    let sound = sound_from_none bytes is.passes in
    let at = g.disp_name + 10 in
    let text = lies_by (g.lab_len == 0) g.lab_len at bytes in
    let moved = drop_twice start (from_by (g.lab_len == 0) at) file in
    let whole : take (length g.name) (drop (start + from_by (g.lab_len == 0) at) file) ≡ g.name = ap (λ (l : List ℕ). take (length g.name) l) moved ∙ text in
    let ends : from_by (g.lab_len == 0) at ≤ length bytes = from_within (g.lab_len == 0) g.lab_len (number_at 1 at bytes) at (length bytes) (omega (arith, sound.names, sound.data', sound.whole)) in
    let few : length g.name ≤ length (drop (from_by (g.lab_len == 0) at) bytes) = omega (arith, ap length text, length-take (length g.name) (drop (from_by (g.lab_len == 0) at) bytes)) in
    let room : start + from_by (g.lab_len == 0) at + length g.name ≤ length file = omega (arith, ends, few, length-drop (from_by (g.lab_len == 0) at) bytes, length-drop start file, inside) in
    let lies : Lies start g file = record { text = whole; within = room } in
    subst (λ (x : HeaderFields). Lies start x file) (sym is.fields) lies

-- LOADNAME lies there, and ends in the file
pub load_name_lies : (start : ℕ) (f : HeaderFields) (file : List ℕ) → IsHeader start f file → start ≤ length file
    → (take 10 (drop (start + f.disp_name) file) ≡ f.load_name) × (start + f.disp_name + 10 ≤ length file)
unfolding fields_of names_end
load_name_lies start f file is inside =
    let bytes = drop start file in
    let g = fields_of bytes in
    let sound = sound_from_none bytes is.passes in
    let moved = drop_twice start g.disp_name file in
    let text : take 10 (drop (start + g.disp_name) file) ≡ g.load_name = ap (take 10) moved in
    let room : start + g.disp_name + 10 ≤ length file = omega (arith, sound.names, sound.data', sound.whole, length-drop start file, inside) in
    let P : HeaderFields → Type 0 = λ x. (take 10 (drop (start + x.disp_name) file) ≡ x.load_name) × (start + x.disp_name + 10 ≤ length file) in
    subst P (sym is.fields) (text, room)
