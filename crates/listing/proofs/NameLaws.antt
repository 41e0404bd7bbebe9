-- The name of a feature is the string behind its begin token, of at most 63 characters. Assumes nothing.
use mathlib.Core.Path.{◌≡◌, refl, sym, ap, subst, ◌∙◌}
use mathlib.Core.Bool.{Bool, true, false, false≢true}
use mathlib.Core.List.{List, [], ◌∷◌}
use Prim.Native.Nat.{ℕ, zero, suc, ◌+◌, ◌-◌, ◌<◌, ◌≤◌}
use native.Mathlib.Omega.{arith}
use borrow.Author.Tests.{leb-true}
use lib.Dec.{eqb, leb}
use lib.ListN.{length, take, drop}
use Rattle.strings.specs.Strings.{Text, ended, unended, onto, text_of, text_at, ending_of}
use Rattle.std.specs.Prelude.{Some, None}
use Rattle.strings.proofs.Strings.{text-taken}
use Rattle.header.specs.Header.{blocks_of}
use Rattle.header.proofs.Accepted.{header-lies}
use Rattle.names.specs.Names.{both, is_node_name, node_characters, length_within, most_node_name}
use Rattle.record.specs.declared.Record.{Record}
use Rattle.walk.specs.Containers.{container_name}
use Rattle.walk.specs.Faults.{all_tokens}
use Rattle.walk.proofs.Grammar.{accepts-trees}
use Rattle.walk.proofs.CheckEnds.{checks-trees}
use Rattle.nodes.specs.Nodes.{Node, node_at}
use Rattle.reading.specs.Accepted.{features_of, container_of}
use Rattle.reading.specs.Resolved.{Holds}
use Rattle.reading.proofs.Ends.{read-accepted}
use Rattle.reading.proofs.Dependencies.{read-holds}
use Rattle.nodes.proofs.BehindLaws.{name-ends}
use Rattle.listing.specs.Listing.{characters_of, name_of}
use Rattle.listing.specs.Parts.{string_at, name_in, IsRead}
use Rattle.listing.proofs.TokenLaws.{all-behind, child-begin, Named, tokens-named, Good, tokens-good}

-- a string that ends in a block ends in a longer one too
longer : (n m : ℕ) (bs cs : List ℕ) → n ≤ m → text_of (take n bs) ≡ ended cs → text_of (take m bs) ≡ ended cs
unfolding text_of
longer zero m bs cs h e = let z : ◌≡◌ {A = ℕ} 0 1 = cc in absurd (omega arith)
longer (suc n) zero bs cs h e = absurd (omega arith)
longer (suc n) (suc m) [] cs h e = let z : ◌≡◌ {A = ℕ} 0 1 = cc in absurd (omega arith)
longer (suc n) (suc m) (b ∷ bs) cs h e = go (eqb b 0) (text_of (take n bs)) (longer n m bs) e
  where
    go : (q : Bool) (t : Text) → ((ds : List ℕ) → n ≤ m → t ≡ ended ds → text_of (take m bs) ≡ ended ds)
        → (elim q as (λ _. Text) [ true ↦ ended [] | false ↦ onto b t ]) ≡ ended cs
        → (elim q as (λ _. Text) [ true ↦ ended [] | false ↦ onto b (text_of (take m bs)) ]) ≡ ended cs
    go true t f p = p
    go false (ended ds) f p = ap (onto b) (f ds (omega arith) refl) ∙ p
    go false unended f p = let z : ◌≡◌ {A = ℕ} 0 1 = cc in absurd (omega arith)

text-longer : (s : List ℕ) (from end more : ℕ) (cs : List ℕ) → end ≤ more → text_at s from end ≡ ended cs → text_at s from more ≡ ended cs
unfolding text_at
text-longer s from end more cs h e = longer (end - from) (more - from) (drop from s) cs (omega arith) e

-- the string at a place, as a part of the tree
module _ (tree : List ℕ) (from : ℕ) where
  pub string-ends : {place : ℕ} → ending_of from (text_at tree from (length tree)) ≡ Some place → (from ≤ place) × (place ≤ length tree)
  string-ends e = let g = name-ends tree from (length tree) e in omega (arith, g.long, g.within)

  pub string-part : {place : ℕ} → ending_of from (text_at tree from (length tree)) ≡ Some place
      → take (place - from) (drop from tree) ≡ string_at tree from
  unfolding string_at characters_of
  string-part {place} e =
      let g = name-ends tree from (length tree) e in
      let n : place - from ≡ length g.name = omega (arith, g.long) in
      ap (λ (k : ℕ). take k (drop from tree)) n ∙ text-taken tree from (length tree) g.name g.text ∙ sym (ap characters_of g.text)

  pub no-string : ending_of from (text_at tree from (length tree)) ≡ None → [] ≡ string_at tree from
  unfolding string_at characters_of ending_of
  no-string e = go (text_at tree from (length tree)) e
    where
      go : (t : Text) → ending_of from t ≡ None → [] ≡ characters_of t
      go (ended cs) k = let z : ◌≡◌ {A = ℕ} 0 1 = cc in absurd (omega arith)
      go unended k = refl

-- a node name, by its characters
record NodeName (name : Text) : Type 0 where
  characters : List ℕ
  same : name ≡ ended characters
  short : length characters ≤ most_node_name

both_left : (a b : Bool) → both a b ≡ true → a ≡ true
both_left true b h = refl
both_left false b h = h

both_right : (a b : Bool) → both a b ≡ true → b ≡ true
both_right true b h = h
both_right false b h = absurd (false≢true h)

node-name : (name : Text) → is_node_name name ≡ true → NodeName name
unfolding is_node_name
node-name (ended cs) h = record {
  characters = cs;
  same = refl;
  short =
      leb-true (length cs) most_node_name
      (both_right (leb 1 (length cs)) (leb (length cs) most_node_name) (both_left (length_within most_node_name cs) (node_characters cs) h));
}
node-name unended h = absurd (false≢true h)

-- the feature at a position of an accepted tree
module _ {tree : List ℕ} {r : Record} (read : IsRead tree r) (i : ℕ) (low : i < r.count) where
  abbrev feature : Node
  feature = node_at (features_of tree) i

  holds : Holds (container_of tree) r
  holds = subst (Holds (container_of tree)) read.same (read-holds tree read.accepted)

  in_tree : i < length (features_of tree)
  in_tree = omega (arith, holds.count)

  named : feature.name ≡ text_at tree (feature.at + 4) (blocks_of tree).end
  named =
      let b = blocks_of tree in
      child-begin (Named tree b) container_name (all_tokens tree)
      (all-behind (Named tree b) (all_tokens tree) (tokens-named tree b b.start)) 0 i in_tree

  good : NodeName feature.name
  good =
      let w = (checks-trees tree).0 (read-accepted tree read.accepted).walked in
      node-name feature.name
      (child-begin Good container_name (all_tokens tree) (tokens-good tree ((accepts-trees tree (blocks_of tree)).1 w.1)) 0 i in_tree)

  whole : text_at tree (feature.at + 4) (length tree) ≡ feature.name
  whole =
      let w = (checks-trees tree).0 (read-accepted tree read.accepted).walked in
      let lies = header-lies tree w.0 in
      text-longer tree (feature.at + 4) (blocks_of tree).end (length tree) good.characters (omega (arith, lies.end, lies.within))
      (sym named ∙ good.same)
      ∙ sym good.same

  pub name-same : name_in tree r i ≡ name_of tree i
  unfolding name_in string_at name_of
  name-same =
      ap (λ (at : ℕ). characters_of (text_at tree (at + 4) (length tree))) (holds.offset i low) ∙ ap characters_of whole

  pub name-short : length (name_of tree i) ≤ 63
  unfolding name_of characters_of
  name-short = rw good.same good.short

  pub name-in-short : length (name_in tree r i) ≤ 63
  name-in-short = rw name-same name-short
