-- Maps of names: without entries, and with values of 32 bits.
use Rattle.std.proofs.Common.{◌≡◌, ℕ, ◌<◌, ◌^◌, arith, Bool, true, false, cond, List, Option, Some, None, sym, ◌∙◌}
use Rattle.std.specs.Prelude.{bytes_eq, Result, Ok, Err, OnOk, OnErr}
use Rattle.std.specs.Global.{Vec}
use Rattle.indexmap.specs.IndexMap.{IndexMap, IsEmpty}
use Rattle.std.proofs.Math.Path.{fun_ext}
use Rattle.asm_meaning.specs.State.{no_names, no_constants}
use Rattle.name_map.specs.Held.{value_of_name}
use Rattle.name_map.proofs.Maps.{empty_held}
use Rattle.orca_operands.specs.NamesView.{names_of, outside_of}
use Rattle.orca_operands.specs.declared.names.DefinedNames.{DefinedNames}
use Rattle.orca_operands.specs.declared.names.OutsideConstants.{OutsideConstants}

pub no_names_held : (m : DefinedNames) → IsEmpty m.map → names_of m ≡ no_names
no_names_held m none = fun_ext (λ q. empty_held m.map none q)

pub no_constants_held : (m : OutsideConstants) → IsEmpty m.map → outside_of m ≡ no_constants
no_constants_held m none = fun_ext (λ q. empty_held m.map none q)

-- ---- values of 32 bits

abbrev none : Option ℕ
none = None

small_put : {S E U : Type 0} (name : List ℕ) (value : Option ℕ) (m n : IndexMap (Vec ℕ) (Option ℕ) S) (r : Result U E) → ((k : ℕ) → value ≡ Some k → k < 2 ^ 32)
    → ((q : List ℕ) (k : ℕ) → value_of_name m q ≡ Some (Some k) → k < 2 ^ 32) → OnOk r ((q : List ℕ) → value_of_name n q ≡ cond (bytes_eq name q) (Some value) (value_of_name m q)) → OnErr r ((q : List ℕ) → value_of_name n q ≡ value_of_name m q)
    → (q : List ℕ) (k : ℕ) → value_of_name n q ≡ Some (Some k) → k < 2 ^ 32
small_put name value m n (Ok u) fits small ok err q k e = by_test (bytes_eq name q) (sym (ok q) ∙ e)
  where
    same : (x y : Option ℕ) → Some x ≡ Some y → x ≡ y
    same x y e = cc

    by_test : (b : Bool) → cond b (Some value) (value_of_name m q) ≡ Some (Some k) → k < 2 ^ 32
    by_test true e = fits k (same value (Some k) e)
    by_test false e = small q k e
small_put name value m n (Err x) fits small ok err q k e = small q k (sym (err q) ∙ e)

pub small_some : {S E U : Type 0} (name : List ℕ) (value : ℕ) (m n : IndexMap (Vec ℕ) (Option ℕ) S) (r : Result U E) → value < 2 ^ 32
    → ((q : List ℕ) (k : ℕ) → value_of_name m q ≡ Some (Some k) → k < 2 ^ 32) → OnOk r ((q : List ℕ) → value_of_name n q ≡ cond (bytes_eq name q) (Some (Some value)) (value_of_name m q)) → OnErr r ((q : List ℕ) → value_of_name n q ≡ value_of_name m q)
    → (q : List ℕ) (k : ℕ) → value_of_name n q ≡ Some (Some k) → k < 2 ^ 32
small_some name value m n r fits = small_put name (Some value) m n r (λ k e. omega (arith, same value k e))
  where
    same : (x y : ℕ) → Some x ≡ Some y → x ≡ y
    same x y e = cc

pub small_none : {S E U : Type 0} (name : List ℕ) (m n : IndexMap (Vec ℕ) (Option ℕ) S) (r : Result U E)
    → ((q : List ℕ) (k : ℕ) → value_of_name m q ≡ Some (Some k) → k < 2 ^ 32) → OnOk r ((q : List ℕ) → value_of_name n q ≡ cond (bytes_eq name q) (Some none) (value_of_name m q)) → OnErr r ((q : List ℕ) → value_of_name n q ≡ value_of_name m q)
    → (q : List ℕ) (k : ℕ) → value_of_name n q ≡ Some (Some k) → k < 2 ^ 32
small_none name m n r = small_put name none m n r (λ k e. absurd cc)

pub small_number : {S E U : Type 0} (name : List ℕ) (value : ℕ) (m n : IndexMap (Vec ℕ) ℕ S) (r : Result U E) → value < 2 ^ 32
    → ((q : List ℕ) (k : ℕ) → value_of_name m q ≡ Some k → k < 2 ^ 32) → OnOk r ((q : List ℕ) → value_of_name n q ≡ cond (bytes_eq name q) (Some value) (value_of_name m q)) → OnErr r ((q : List ℕ) → value_of_name n q ≡ value_of_name m q)
    → (q : List ℕ) (k : ℕ) → value_of_name n q ≡ Some k → k < 2 ^ 32
small_number name value m n (Ok u) fits small ok err q k e = by_test (bytes_eq name q) (sym (ok q) ∙ e)
  where
    same : (x y : ℕ) → Some x ≡ Some y → x ≡ y
    same x y e = cc

    by_test : (b : Bool) → cond b (Some value) (value_of_name m q) ≡ Some k → k < 2 ^ 32
    by_test true e = omega (arith, same value k e)
    by_test false e = small q k e
small_number name value m n (Err x) fits small ok err q k e = small q k (sym (err q) ∙ e)
