use Rattle.std.proofs.Common.{◌≡◌, ◌+◌, ◌<◌, ◌++◌, ◌∷◌, [], List, length, map, get_or, take, sym, ap, subst, ◌∙◌, arith}
use Rattle.std.proofs.lemmas.List.{map-append}
use Rattle.std.proofs.lemmas.Option.{slice_get-get_or}
use Rattle.omf_format.specs.Header.{HeaderFields}
use Rattle.omf_header.specs.declared.header.Header.{Header}
use Rattle.omf_header.specs.View.{fields}
use Rattle.link_tables.specs.declared.layout.LoadLayout.{LoadLayout}
use Rattle.link_tables.specs.Laid.{ShowsLoad, AreHeaders}
use Rattle.link_tables.proofs.LayoutFaults.{headers_next}
use Rattle.link_tables.proofs.layout.headers.Goals as goal

abbrev nothing : LoadLayout
nothing = record { first = record { file = 0; segment = 0; at = 0 }; load_name = []; kind = record { bits = 0 }; org = 0; entry = 0; align = 0; bank_size = 0; length = 0 }

pub overflow_add-number : goal.overflow_add-number
overflow_add-number c = omega (arith, c.loads.invariant.0, c.loads-test.true, ap (λ (l : List LoadLayout). length l) c.deref-load-items.ensures.value, c.requires)

pub loads-preserved : goal.loads-preserved
loads-preserved c =
    let loads = c.args.layout.now.loads.items in
    let k = c.loads.load-index in
    let same : c.deref-load-items.result.now ≡ loads = c.deref-load-items.ensures.value in
    let less : k < length loads = omega (arith, c.loads-test.true, ap (λ (l : List LoadLayout). length l) same) in
    let h = c.in_ok-header_of.field-0 in
    let shows : ShowsLoad (get_or loads k nothing) (c.loads.number + 1) (fields h) = subst (λ (l : List LoadLayout). ShowsLoad (get_or l k nothing) (c.loads.number + 1) (fields h)) same c.in_ok-header_of.ensures in
    let more : map (λ (x : Header). fields x) c.push.new.self.items ≡ map (λ (x : Header). fields x) c.loads.headers.items ++ fields h ∷ [] =
    ap (map (λ (x : Header). fields x)) c.in_ok-push.ensures.items ∙ map-append (λ (x : Header). fields x) c.loads.headers.items (h ∷ []) in (
      omega (arith, c.loads.invariant.0),
      subst (λ (l : List HeaderFields). AreHeaders 1 (take (k + 1) loads) l) (sym more)
          (headers_next loads k c.loads.number (get_or loads k nothing) (map (λ (x : Header). fields x) c.loads.headers.items) (fields h) (slice_get-get_or loads k nothing less) c.loads.invariant.0 c.loads.invariant.1 shows),
    )
