-- What the phases after layout return.
use Rattle.std.proofs.Common.{◌≡◌, inl, inr, ℕ, ◌≤◌, ◌<◌, List, [], ◌∷◌, ◌++◌, length, Ok, None, refl, sym, ap, subst, arith}
use Rattle.link_meaning.specs.declared.fault.LinkCause.TheVariants.{FileTooLong}
use Rattle.link_meaning.specs.declared.fault.LinkFault.{LinkFault}
use Rattle.link_meaning.specs.First.{IsIn, IsFirst}
use Rattle.link_meaning.specs.laws.FirstLaws.{none_yet, none_more}
use Rattle.link_meaning.specs.Member.{Member}
use Rattle.link_meaning.specs.Search.{FoundDefinition}
use Rattle.link_meaning.specs.Cycles.{equates}
use Rattle.link_meaning.specs.LinkValues.{EquateAnswer, IsTable}
use Rattle.link_meaning.specs.laws.TableLaws.{one_table}
use Rattle.link_meaning.specs.LinkedCells.{items}
use Rattle.link_meaning.specs.LinkFaults.{no_spot}
use Rattle.link_meaning.specs.LinkWritten.{AreMade, start, written_file}
use Rattle.link_meaning.specs.EmitFaults.{HasCycleFault, HasValueFault, Cycles, Values, Size, HasEmitFault, IsEmitAnswer}
use Rattle.object_meaning.specs.Sizes.{most_bytes}
use Rattle.link_meaning.specs.laws.EmitFaultLaws.{made_sound}
use Rattle.link_file.specs.Answers.{IsEmitRefused}
use Rattle.link_values.specs.Equates.{IsCycleRefused}
use Rattle.link_file.specs.Walks.{IsValueRefused}

in_middle : (front : List FoundDefinition) (e : FoundDefinition) (back : List FoundDefinition) → IsIn (front ++ e ∷ back) e
in_middle [] e back = inl refl
in_middle (x ∷ front) e back = inr (in_middle front e back)

module _ (list : List Member) (reported : List EquateAnswer) (is : IsTable list reported) where
  no_cycle : (its : LinkFault) → IsFirst (HasCycleFault list) (equates list) its → ⊥
  no_cycle its first = is.straight first.item (subst (λ (l : List FoundDefinition). IsIn l first.item) (sym first.parts) (in_middle first.before first.item first.after)) first.here.cycle

  pub refused_value : (fault : LinkFault) → IsValueRefused list reported fault → IsEmitRefused list fault
  refused_value fault (inl memory) = inl memory
  refused_value fault (inr first) = inr (record {
    before = Cycles ∷ [];
    item = Values;
    after = Size ∷ [];
    parts = refl;
    none = none_more (HasEmitFault list) [] Cycles (none_yet (HasEmitFault list)) no_cycle;
    here = (reported, is, first);
  })

  module _ (are : AreMade list reported start (items list)) where
    no_value : (its : LinkFault) → HasEmitFault list (Cycles ∷ []) Values its → ⊥
    no_value its has =
        let same = one_table list has.0 reported has.1 is in
        let first = subst (λ (t : List EquateAnswer). IsFirst (HasValueFault list t) (items list) its) same has.2 in
        made_sound list reported are first.before first.item first.after its first.parts first.here

    pub refused_size : most_bytes < length (written_file list reported) → IsEmitRefused list (record { cause = FileTooLong; name = None; spot = no_spot })
    refused_size long = inr (record {
      before = Cycles ∷ Values ∷ [];
      item = Size;
      after = [];
      parts = refl;
      none = none_more (HasEmitFault list) (Cycles ∷ []) Values (none_more (HasEmitFault list) [] Cycles (none_yet (HasEmitFault list)) no_cycle) no_value;
      here = (reported, is, record { long = long; reported = refl });
    })

    no_size : (its : LinkFault) → length (written_file list reported) ≤ most_bytes → HasEmitFault list (Cycles ∷ Values ∷ []) Size its → ⊥
    no_size its short has =
        let same = one_table list has.0 reported has.1 is in
        omega (arith, has.2.long, ap (λ (t : List EquateAnswer). length (written_file list t)) same, short)

    pub written_is : (output : List ℕ) → output ≡ written_file list reported → length output ≤ most_bytes → IsEmitAnswer list (Ok output)
    written_is output same short = (
      reported,
      record {
        valued = is;
        sound = none_more (HasEmitFault list) (Cycles ∷ Values ∷ []) Size (none_more (HasEmitFault list) (Cycles ∷ []) Values (none_more (HasEmitFault list) [] Cycles (none_yet (HasEmitFault list)) no_cycle) no_value)
            (λ its has. no_size its (subst (λ (l : List ℕ). length l ≤ most_bytes) same short) has);
      },
      same,
    )

pub refused_cycle : (list : List Member) (fault : LinkFault) → IsCycleRefused list fault → IsEmitRefused list fault
refused_cycle list fault (inl memory) = inl memory
refused_cycle list fault (inr first) = inr (record { before = []; item = Cycles; after = Values ∷ Size ∷ []; parts = refl; none = none_yet (HasEmitFault list); here = first })
