use Rattle.std.proofs.Common.{◌≡◌, ◌<◌, [], List, length, get_or, sym, ap, ◌∙◌, arith}
use Rattle.std.proofs.lemmas.Option.{slice_get-get_or}
use Rattle.link_tables.specs.declared.layout.LoadLayout.{LoadLayout}
use Rattle.link_tables.specs.Laid.{is_long}
use Rattle.link_tables.proofs.layout.LinkLayout.too_long.Goals as goal

abbrev nothing : LoadLayout
nothing = record { first = record { file = 0; segment = 0; at = 0 }; load_name = []; kind = record { bits = 0 }; org = 0; entry = 0; align = 0; bank_size = 0; length = 0 }

pub returns-then-is_long : goal.returns-then-is_long
returns-then-is_long c =
    let items = c.args.self.now.loads.items in
    let k = c.loads.load-index in
    let same : c.deref-load-items.result.now ≡ items = c.deref-load-items.ensures.value in
    let less : k < length items = omega (arith, c.loads-test.true, ap (λ (l : List LoadLayout). length l) same) in
    record {
      k = k;
      load = get_or items k nothing;
      at = slice_get-get_or items k nothing less;
      long = sym (ap (λ (l : List LoadLayout). is_long (get_or l k nothing)) same) ∙ sym c.is_long.ensures ∙ c.if-is_long.true;
      spot' = ap (λ (l : List LoadLayout). (get_or l k nothing).first) same;
      before = c.loads.invariant;
    }
