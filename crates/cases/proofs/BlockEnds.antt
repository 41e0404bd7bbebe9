-- Demand 1 of the parts of a block of tokens and of a feature, for all bytes and numbers. Assumes nothing.
use Rattle.std.specs.Prelude.{Option}
use Prim.Native.Nat.{ℕ, zero, suc, min}
use mathlib.Core.Path.{◌≡◌, refl, sym, subst}
use mathlib.Core.Bool.{Bool, true, false, ◌||◌}
use mathlib.Core.List.{List, [], ◌∷◌, ◌++◌}
use mathlib.Core.Logic.{◌⊎◌, inl, inr}
use native.Mathlib.Omega.{arith}
use borrow.Author.Tests.{eq-eqb}
use lib.Dec.{eqb}
use Rattle.refusal.specs.Refusal.{Outcome, answer, refuse}
use Rattle.refusal.specs.Checks.{first_fault}
use Rattle.strings.specs.Strings.{Text}
use Rattle.names.specs.Names.{is_property_name}
use Rattle.names.proofs.NameLaws.{node-name-either, property-name-either}
use Rattle.tokens.specs.Steps.{pick, token_checks}
use Rattle.tokens.specs.Tokens.{Token, begin_node, end_node, property, nop, end, fault, tokens}
use Rattle.tokens.proofs.StepNumbers.{step-number}
use Rattle.properties.specs.Properties.{among, name_at, name_fault, read_properties}
use Rattle.positions.specs.Below.{first_that}
use Rattle.positions.proofs.FirstLaws.{IsFirst, first-that}
use Rattle.record.specs.Record.{most_features}
use Rattle.feature.specs.declared.FeatureCells.{FeatureCells}
use Rattle.feature.specs.Feature.{first_of, first_among, cell_numbers}
use Rattle.feature.specs.Phandles.{is_at}
use Rattle.cases.specs.Ends.{is_one_of, Ends, answered, refused, EndsAt, answered_there, refused_there}
use Rattle.cases.specs.Demand1.{Demand1Block, Demand1Feature}
use Rattle.cases.proofs.EndLaws.{or-true, fault-one-of}

-- a name: how many characters it has, or 7
name-ends : {o : Outcome ℕ} → ((n : ℕ) × (o ≡ answer n)) ⊎ (o ≡ refuse 0 7) → Ends (7 ∷ []) 0 o
name-ends (inl e) = subst (Ends (7 ∷ []) 0) (sym e.1) (answered e.0)
name-ends (inr e) = subst (Ends (7 ∷ []) 0) (sym e) (refused 7 refl)

fault-ends : (n : Text) (given : Bool) → is_one_of (0 ∷ 7 ∷ 9 ∷ []) (name_fault n given) ≡ true
unfolding name_fault
fault-ends n given = go (is_property_name n) given
  where
    go : (x y : Bool) → is_one_of (0 ∷ 7 ∷ 9 ∷ []) (pick x (pick y 9 0) 7) ≡ true
    go true true = refl
    go true false = refl
    go false y = refl

-- the properties of a node: the place behind them, or 7 or 9
properties-end : (stop : ℕ) (seen : List Text) (ts : List Token) → EndsAt (7 ∷ 9 ∷ []) 0 (read_properties stop seen ts)
unfolding read_properties first_fault
properties-end stop seen [] = answered_there stop
properties-end stop seen (property at n v ∷ ts) = go (is_property_name n) (among n seen) refl refl (properties-end stop (seen ++ n ∷ []) ts)
  where
    go : (x y : Bool) → is_property_name n ≡ x → among n seen ≡ y → EndsAt (7 ∷ 9 ∷ []) 0 (read_properties stop (seen ++ n ∷ []) ts)
        → EndsAt (7 ∷ 9 ∷ []) 0 (read_properties stop seen (property at n v ∷ ts))
    go true true e k r = rw (e, k, read_properties, first_fault) (refused_there 9 at refl)
    go true false e k r = rw (e, k, read_properties, first_fault) r
    go false y e k r = rw (e, read_properties, first_fault) (refused_there 7 at refl)
properties-end stop seen (nop at ∷ ts) = properties-end stop seen ts
properties-end stop seen (begin_node at n ∷ ts) = answered_there at
properties-end stop seen (end_node at ∷ ts) = answered_there at
properties-end stop seen (end at ∷ ts) = answered_there at
properties-end stop seen (fault at ∷ ts) = answered_there at

pub of-block : (s : List ℕ) (stop : ℕ) (strings : List ℕ) (from limit : ℕ) → Demand1Block s stop strings from limit
unfolding token_checks
of-block s stop strings from limit = record {
  node_name_ends = λ at. name-ends (node-name-either s at stop);
  property_name_ends = λ at. name-ends (property-name-either s at stop);
  step_ends = λ at. subst (λ (n : ℕ). is_one_of (0 ∷ 6 ∷ []) n ≡ true) (sym (step-number s stop at)) (fault-one-of (6 ∷ []) (token_checks s stop at) refl);
  name_ends = λ first t offset. fault-ends _ _;
  properties_end = λ first. properties-end stop [] (tokens s stop (name_at strings from limit) first);
}

-- the first of some numbers that is a refusal is 0 or one of them
one_more : (a : ℕ) (ns : List ℕ) (r : ℕ) → is_one_of (0 ∷ ns) r ≡ true → is_one_of (0 ∷ a ∷ ns) (first_of a r) ≡ true
one_more zero ns r h = go (eqb r 0) h
  where
    go : (b : Bool) → b || is_one_of ns r ≡ true → b || (b || is_one_of ns r) ≡ true
    go true e = refl
    go false e = e
one_more (suc a) ns r h = rw (eq-eqb (suc a) (suc a) refl) (or-true (eqb (suc a) 0))

all_one : (ns : List ℕ) → is_one_of (0 ∷ ns) (first_among ns) ≡ true
all_one [] = refl
all_one (n ∷ ns) = one_more n ns (first_among ns) (all_one ns)

module _ (phandles : List (Option ℕ)) (n phandle : ℕ) where
  -- the position found is the first that has it
  found : {r : Option ℕ} → first_that (min n most_features) (is_at phandles phandle) ≡ r → IsFirst (min n most_features) (is_at phandles phandle) r
  found e = subst (IsFirst (min n most_features) (is_at phandles phandle)) e (first-that (min n most_features) (is_at phandles phandle))

  pub of-feature : (c : FeatureCells) → Demand1Feature c phandles n phandle
  of-feature c = record {
    cells_end = all_one (cell_numbers c);
    carrier_has = λ i e. let f = found e in (omega (arith, f.0), f.1);
    nowhere_none = λ e. found e;
  }
