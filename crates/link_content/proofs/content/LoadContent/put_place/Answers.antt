use Rattle.std.proofs.Common.{replicate, subst, ◌≡◌, ◌++◌, ◌∷◌, [], ℕ, ℤ, w8, to_z, of_z, arith}
use Rattle.std.specs.Prelude.{OnOk}
use Rattle.std.proofs.Math.Facts.{to_z-of_z}
use Rattle.load_writer.specs.declared.written.Patch.{Patch}
use Rattle.link_content.proofs.ContentLaws.{grow_place}
use Rattle.link_content.proofs.content.LoadContent.put_place.Goals as goal

abbrev patch : ℕ → ℕ → ℤ → ℕ → ℕ → Patch
patch at count shift segment offset = record { at = at; count = count; shift = shift; segment = segment; offset = offset }

pub returns : goal.returns
returns c =
    let old = c.args.self.now in
    let new = c.append_patched.new.self in
    let at = c.size.result in
    let more = subst (λ (n : ℕ). OnOk c.append_patched.result (new.bytes ≡ old.bytes ++ replicate n 0)) c.from.ensures c.append_patched.ensures.bytes in
    let shift : to_z w8 (of_z w8 c.args.shift) ≡ c.args.shift = grind (arith, to_z-of_z) in
    let added = subst (λ (z : ℤ). OnOk c.append_patched.result (new.patches ≡ old.patches ++ patch at c.args.count z c.args.segment c.args.offset ∷ [])) shift c.append_patched.ensures.patches in
    grow_place c.append_patched.result old new at c.args.count c.args.segment c.args.offset c.args.shift c.requires.counted c.size.ensures more added
