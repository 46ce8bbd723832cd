use Rattle.std.proofs.Common.{◌≡◌, ℕ, List, [], length, ap, sym, subst, arith}
use Rattle.link_meaning.specs.declared.form.LinkForm.{LinkForm}
use Rattle.link_meaning.specs.LinkFaults.{MayHave}
use Rattle.link_tables.proofs.Lists.{empty}
use Rattle.link_resolve.proofs.given.most_runtimes.Goals as goal

pub returns-in-Runtime-clause-enough : goal.returns-in-Runtime-clause-enough
returns-in-Runtime-clause-enough c = λ files less. subst (λ (f : LinkForm). MayHave f files) (sym c.in-Runtime.is) (empty files (omega (arith, less)))

pub returns-in-Runtime-clause-most : goal.returns-in-Runtime-clause-most
returns-in-Runtime-clause-most c = λ files may.
    let none : files ≡ [] = subst (λ (f : LinkForm). MayHave f files) c.in-Runtime.is may in
    omega (arith, ap (λ (l : List (List ℕ × List ℕ)). length l) none)
