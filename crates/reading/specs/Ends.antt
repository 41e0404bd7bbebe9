-- How a reading ends (document 01, "The feature record": "All this comes after the whole walk").
use Rattle.std.specs.Prelude.{ℕ, ◌≤◌, ◌≡◌, true, false, List, [], ◌∷◌, ◌++◌, length}
use Rattle.refusal.specs.Refusal.{Fault, Placed, placed, refuse_at, fault}
use Rattle.refusal.specs.Checks.{Check}
use Rattle.record.specs.declared.Record.{Record}
use Rattle.record.specs.Record.{no_features}
use Rattle.walk.specs.Checked.{check_tree, no_layout}
use Rattle.reading.specs.Reading.{record_of}
use Rattle.reading.specs.Accepted.{container_of, checks_of, Accepted}

-- every one of some checks holds
abbrev pub AllHold : List (Check Fault) → Type 0
AllHold [] = Unit {0}
AllHold (c ∷ cs) = (c.holds ≡ true) × AllHold cs

-- the first check that does not hold, and its fault
pub record FirstFailing (all : List (Check Fault)) (number place : ℕ) : Type 0 where
  pub passed : List (Check Fault)
  pub failed : Check Fault
  pub others : List (Check Fault)
  pub split : all ≡ passed ++ failed ∷ others
  pub hold : AllHold passed
  pub fails : failed.holds ≡ false
  pub finds : failed.fault ≡ fault number place

-- with the record of an accepted tree, with the refusal of the walk, or with that of the first check that does not hold
pub data ReadEnds (tree : List ℕ) : Placed Record → Type 0 where
  accepted : Accepted tree → ReadEnds tree (placed (record_of (container_of tree)))
  walk_refused : {number place : ℕ} → check_tree tree ≡ refuse_at no_layout (fault number place) → 1 ≤ number → number ≤ 9 → place ≤ length tree
      → ReadEnds tree (refuse_at no_features (fault number place))
  check_refused : {number place : ℕ} → (check_tree tree).number ≡ 0 → FirstFailing (checks_of tree) number place → 8 ≤ number → number ≤ 13 → place ≤ length tree
      → ReadEnds tree (refuse_at no_features (fault number place))
