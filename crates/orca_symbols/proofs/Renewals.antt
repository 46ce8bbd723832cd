-- Settings of symbols.
use Rattle.std.proofs.Common.{◌≡◌, ℕ, Bool, true, false, cond, List, Option, Some, None, refl, sym, ap, subst, ◌∙◌}
use Rattle.std.specs.Prelude.{bytes_eq}
use Rattle.std.specs.Cmp.Lexicographic.{bytes_decides}
use Rattle.std.proofs.Math.Path.{fun_ext}
use Rattle.macro_meaning.specs.declared.statements.SymbolKind.{SymbolKind}
use Rattle.macro_meaning.specs.Symbol.{Symbol, Own, Common, Symbols, SharedTexts}
use Rattle.orca_meaning.specs.Names.{with_name}
use Rattle.orca_symbols.specs.Changes.{IsAssigned, IsRenewed, IsRenewedIn}

-- a name that is given the value that it has
with_same : {A : Type 0} (name : List ℕ) (value : A) (old : List ℕ → Option A) → old name ≡ Some value → with_name name value old ≡ old
with_same name value old is = fun_ext (λ q. by_test q (bytes_eq name q) refl)
  where
    by_test : (q : List ℕ) (b : Bool) → bytes_eq name q ≡ b → cond b (Some value) (old q) ≡ old q
    by_test q true same = sym is ∙ ap old ((bytes_decides name q).0 same)
    by_test q false other = refl

-- a symbol that is there
pub renewed_in : (name : List ℕ) (kind : SymbolKind) (text : List ℕ) (was now : Symbol) (old new : Symbols) (back : Option (List ℕ)) → old name ≡ Some was → new ≡ with_name name now old → IsRenewed kind text was now back
    → IsRenewedIn name kind text (old name) old new back
renewed_in name kind text was now old new back found is so = subst (λ (o : Option Symbol). IsRenewedIn name kind text o old new back) (sym found) (by_symbol was found so)
  where
    by_symbol : (s : Symbol) → old name ≡ Some s → IsRenewed kind text s now back → IsRenewedIn name kind text (Some s) old new back
    by_symbol (Own other before) found so = (is ∙ ap (λ (s : Symbol). with_name name s old) so.0, so.1)
    by_symbol (Common other) found so = (is ∙ ap (λ (s : Symbol). with_name name s old) so.0 ∙ with_same name (Common other) old found, so.1)

-- a setting that hands nothing back
pub assigned_own : (name : List ℕ) (kind : SymbolKind) (text : List ℕ) (found : Option Symbol) (old new : Symbols) (texts : SharedTexts) → IsRenewedIn name kind text found old new None → IsAssigned name kind text found old new texts texts
assigned_own name kind text None old new texts is = (is.0, refl)
assigned_own name kind text (Some (Own other was)) old new texts is = (is.0, refl)
assigned_own name kind text (Some (Common other)) old new texts is = let no_text : None ≡ Some text = is.1 in cc

-- one that hands the text back, which the shared texts take
pub assigned_common : (name : List ℕ) (kind : SymbolKind) (text : List ℕ) (found : Option Symbol) (old new : Symbols) (texts texts' : SharedTexts) (back : List ℕ) → IsRenewedIn name kind text found old new (Some back)
    → texts' ≡ with_name name (kind, back) texts → IsAssigned name kind text found old new texts texts'
assigned_common name kind text None old new texts texts' back is taken = let no_text : Some back ≡ None = is.1 in cc
assigned_common name kind text (Some (Own other was)) old new texts texts' back is taken = let no_text : Some back ≡ None = is.1 in cc
assigned_common name kind text (Some (Common other)) old new texts texts' back is taken =
    let some_text : Some back ≡ Some text = is.1 in
    let same : back ≡ text = cc in
    (is.0, taken ∙ ap (λ (t : List ℕ). with_name name (kind, t) texts) same)
