use Rattle.std.proofs.Common.{◌≡◌, ◌∷◌, ◌++◌, [], false, List, ℕ, length, refl, sym, ap, subst}
use Rattle.omf_format.specs.File.{Segment}
use Rattle.link_meaning.specs.Layout.{load_names}
use Rattle.link_tables.specs.declared.layout.LoadLayout.{LoadLayout}
use Rattle.link_tables.specs.declared.layout.LoadOffset.{LoadOffset}
use Rattle.link_tables.specs.declared.layout.LinkLayout.{LinkLayout}
use Rattle.link_tables.specs.Names.{Indexes}
use Rattle.link_tables.specs.Laid.{IsFresh, load_rows, contains_text}
use Rattle.link_tables.proofs.LoadNames.{name_key}
use Rattle.link_tables.proofs.LaidLaws.{laid_new}
use Rattle.link_tables.proofs.layout.LinkLayout.open.Goals as goal

pub returns : goal.returns
returns c = λ list m at named none laid.
    let old = c.args.self.now in
    let new : LinkLayout = record { names = c.add.new.self; loads = c.push.new.self; places = c.push-2.new.self; conflict = old.conflict } in
    let place : LoadOffset = record { load = length c.as_slice-load.result.now; offset = 0 } in
    let count : length c.as_slice-load.result.now ≡ length old.loads.items = ap (λ (l : List LoadLayout). length l) c.as_slice-load.ensures.value in
    let key : (load_names' : List (List ℕ)) → Indexes (load_rows 0 load_names') old.names → Indexes (load_rows 0 load_names' ++ (name_key m.segment.fields.load_name, length old.loads.items) ∷ []) new.names =
    λ names ix. subst (λ (n : ℕ). Indexes (load_rows 0 names ++ (name_key m.segment.fields.load_name, n) ∷ []) new.names) count
    (subst (λ (x : List ℕ). Indexes (load_rows 0 names ++ (name_key x, length c.as_slice-load.result.now) ∷ []) new.names) named (c.in_ok-add.ensures (load_rows 0 names) ix)) in
    laid_new list m old new c.args.spot c.load_of_member.result place laid (subst (λ (x : List ℕ). contains_text x (load_names list) ≡ false) named none) at.1
    (subst (λ (s : Segment). IsFresh s.fields c.args.spot c.load_of_member.result) (sym at.0) c.load_of_member.ensures) count refl c.in_ok-push.ensures.items c.in_ok-push-2.ensures.items refl (key (load_names list) laid.names)
