-- What is told of the record of an accepted tree: how many features are enabled, the words, and of each feature whether it is on. Assumes
-- nothing.
use mathlib.Core.Path.{◌≡◌, refl, sym, ap, ap₂, subst, ◌∙◌}
use mathlib.Core.Bool.{Bool, true, false}
use mathlib.Core.List.{List, [], ◌∷◌, ◌++◌, map}
use Prim.Native.Nat.{ℕ, zero, suc, ◌<◌, ◌≤◌}
use native.Mathlib.Omega.{arith}
use Rattle.std.specs.Prelude.{EachIndex, Result, Ok, Err, IsOk}
use lib.Dec.{le→leb, lt→ltb}
use lib.ListN.{length, get_or, take, length-append, length-map}
use lib.Seq.{take_at}
use Rattle.characters.specs.Characters.{bytes}
use Rattle.refusal.specs.Refusal.{Outcome, answer, refuse, outcome_of}
use Rattle.refusal.specs.declared.Refusal.{Refusal}
use Rattle.refusal.proofs.Numbers.{numbered}
use Rattle.refusal.proofs.Checks.{stops}
use Rattle.cells.specs.Buffer.{written}
use Rattle.positions.specs.Sets.{has, member_count}
use Rattle.record.specs.declared.Record.{Record}
use Rattle.record.specs.Record.{most_features}
use Rattle.form.specs.WellFormed.{well_formed}
use Rattle.permitted.specs.declared.Grants.{Grants}
use Rattle.permitted.specs.Permitted.{hypervisor, permitted_set}
use Rattle.permitted.specs.Asked.{asked_checks}
use Rattle.permitted.proofs.AskedLaws.{all-good, asked-answered}
use Rattle.closure.specs.Graph.{Below, dependencies_in, dependency_in}
use Rattle.closure.specs.Chain.{Chain, end, link}
use Rattle.enabled.specs.Answers.{Members, members_of, nobody, enabled_set, enable, enabled_outcome}
use Rattle.enabled.specs.declared.Enabled.{Enabled}
use Rattle.enabled.proofs.DependencyLaws.{graph-below}
use Rattle.enabled.proofs.AnswerLaws.{few}
use Rattle.chain.specs.Chain.{is_enabled, chain_in, chain_checks, chain, after_chain}
use Rattle.chain.proofs.Told.{told-chain, told-fits, told-length, told-bytes}
use Rattle.words.specs.Words.{WordValues, no_words, words_of, words, words_outcome}
use Rattle.words.specs.declared.FeatureWords.{FeatureWords}
use Rattle.reading.proofs.Formed.{read-formed}
use Rattle.listing.specs.Digits.{decimal}
use Rattle.listing.specs.Listing.{user, all_granted, permitted_in, enabled_in, words_in, name_of, joined, state_text, line_end, feature_line}
use Rattle.listing.specs.Parts.{name_in, IsRead}
use Rattle.listing.proofs.DigitLaws.{decimal_most}
use Rattle.listing.proofs.NameLaws.{name-same, name-short}
use Rattle.listing.proofs.JoinLaws.{AllShort, joined-short}

-- every position of a chain is below the count
module _ (n : ℕ) (num : ℕ → ℕ) (dep : ℕ → ℕ → ℕ) (permitted : ℕ → Bool) (graph : Below n num dep) where
  chain-low : {i : ℕ} {c : List ℕ} → Chain num dep permitted i c → i < n → (j : ℕ) → j < length c → get_or c j 0 < n
  chain-low (end h) l zero k = l
  chain-low (end h) l (suc j) k = absurd (omega arith)
  chain-low (link m h c) l zero k = l
  chain-low {i} (link m h c) l (suc j) k = chain-low c (graph.below i l m h) j (omega arith)

chain-some : {num : ℕ → ℕ} {dep : ℕ → ℕ → ℕ} {permitted : ℕ → Bool} {i : ℕ} {c : List ℕ} → Chain num dep permitted i c → 1 ≤ length c
chain-some (end h) = omega arith
chain-some (link m h c) = omega arith

-- names that agree on some positions
map_same : (f g : ℕ → List ℕ) (xs : List ℕ) → ((j : ℕ) → j < length xs → f (get_or xs j 0) ≡ g (get_or xs j 0)) → map f xs ≡ map g xs
map_same f g [] h = refl
map_same f g (x ∷ xs) h =
    ap₂ (λ (y : List ℕ) (ys : List (List ℕ)). y ∷ ys) (h 0 (omega arith)) (map_same f g xs (λ j l. h (suc j) (omega arith)))

map-short : (f : ℕ → List ℕ) (xs : List ℕ) → ((j : ℕ) → j < length xs → length (f (get_or xs j 0)) ≤ 63) → AllShort (map f xs)
map-short f [] h = tt
map-short f (x ∷ xs) h = (h 0 (omega arith), map-short f xs (λ j l. h (suc j) (omega arith)))

-- an outcome with no number is an answer
outcome-ok : {A B : Type 0} (part : A → B) (zeros : B) (x : Result A Refusal) → (outcome_of part zeros x).number ≡ 0 → IsOk x
outcome-ok part zeros (Ok a) e = refl
outcome-ok part zeros (Err r) e = absurd (numbered r e)

-- how long the parts of a feature's line are
pub record FeatureFits (tree : List ℕ) (r : Record) (i : ℕ) : Type 0 where
  pub low : i < most_features
  pub digits : length (decimal i) ≤ 2
  pub name : length (name_in tree r i) ≤ 63
  pub state : length (state_text (name_in tree r) r i) ≤ 4100

-- the positions that are told of a feature that is left out
pub record Told (tree : List ℕ) (r : Record) (i : ℕ) (listed : List ℕ) (n : ℕ) : Type 0 where
  pub few : n ≤ most_features
  pub low : EachIndex (take n listed) (λ j. get_or (take n listed) j 0 < r.count)
  pub same : bytes " off " ++ joined (map (name_in tree r) (take n listed)) ≡ state_text (name_in tree r) r i

module _ {tree : List ℕ} {r : Record} (read : IsRead tree r) where
  pub read-good : well_formed r ≡ true
  read-good = subst (λ (x : Record). well_formed x ≡ true) read.same (read-formed tree read.accepted)

  pub read-few : r.count ≤ most_features
  read-few = few r read-good

  -- what the calls for the enabled set and the words answer
  module _ {g : Grants} (granted : g ≡ all_granted) where
    enabled-answer : enable r user g ≡ answer (members_of (enabled_in r))
    unfolding enable enabled_in permitted_in
    enabled-answer =
        ap (enable r user) granted
        ∙ sym (asked-answered r user nobody (members_of (enabled_set r (permitted_set r user all_granted)))
        (all-good r user read-good (omega arith)) refl)

    pub enable-ok : (e : Result Enabled Refusal) → enabled_outcome e ≡ enable r user g → IsOk e
    enable-ok e q = outcome-ok _ _ _ (ap (λ (o : Outcome Members). o.number) (q ∙ enabled-answer))

    pub head-count : (e : Result Enabled Refusal) (v : Enabled) → enabled_outcome e ≡ enable r user g → e ≡ Ok v → v.count ≡ member_count (enabled_in r)
    head-count e v q h = ap (λ (o : Outcome Members). o.value.count) (sym (ap enabled_outcome h) ∙ q ∙ enabled-answer)

    words-answer : words r user g ≡ answer (words_in r)
    unfolding words words_in enabled_in permitted_in
    words-answer =
        ap (words r user) granted
        ∙ sym
        (asked-answered r user no_words (words_of r user all_granted (enabled_set r (permitted_set r user all_granted)))
        (all-good r user read-good (omega arith)) refl)

    pub words-ok : (w : Result FeatureWords Refusal) → words_outcome w ≡ words r user g → IsOk w
    words-ok w q = outcome-ok _ _ _ (ap (λ (o : Outcome WordValues). o.number) (q ∙ words-answer))

    pub words_are : (w : Result FeatureWords Refusal) (v : FeatureWords) → words_outcome w ≡ words r user g → w ≡ Ok v
        → (words_outcome (Ok v)).value ≡ words_in r
    words_are w v q h = ap (λ (o : Outcome WordValues). o.value) (sym (ap words_outcome h) ∙ q ∙ words-answer)

  -- the feature at a position
  module _ (i : ℕ) (low : i < r.count) where
    abbrev given : List ℕ
    given = chain_in r (permitted_in r) i

    given-low : is_enabled r (permitted_in r) i ≡ false → (j : ℕ) → j < length given → get_or given j 0 < r.count
    given-low out =
        chain-low r.count (dependencies_in r) (dependency_in r) (has (permitted_in r)) (graph-below r read-good)
        (told-chain r read-good (permitted_in r) i low out) low

    -- the call for its chain
    module _ {g : Grants} (granted : g ≡ all_granted) (old listed : List ℕ) (o : Outcome ℕ) (long : length old ≡ most_features)
        (told : o ≡ chain r user g i (length old)) (left : listed ≡ after_chain r user g i old) where
      outcome : o ≡ chain r user all_granted i (length old)
      outcome = told ∙ ap (λ (x : Grants). chain r user x i (length old)) granted

      enabled-number : is_enabled r (permitted_in r) i ≡ true → o.number ≡ 17
      unfolding chain chain_checks asked_checks permitted_in
      enabled-number on =
          ap (λ (x : Outcome ℕ). x.number)
          (outcome ∙ stops (refuse 0) 0 3 _ _
          (rw read-good tt, (le→leb user hypervisor (omega arith), (lt→ltb i r.count low, rw on tt))))

      out-outcome : is_enabled r (permitted_in r) i ≡ false → o ≡ answer (length given)
      unfolding permitted_in
      out-outcome out = outcome ∙ told-length r user all_granted i read-good (omega arith) low out (length old) (omega (arith, read-few))

      out-bytes : is_enabled r (permitted_in r) i ≡ false → take o.value listed ≡ given
      unfolding permitted_in written
      out-bytes out =
          ap₂ (λ (n : ℕ) (l : List ℕ). take n l) (ap (λ (x : Outcome ℕ). x.value) (out-outcome out))
          (left
          ∙ ap (λ (x : Grants). after_chain r user x i old) granted
          ∙ told-bytes r user all_granted i read-good (omega arith) low out old (omega (arith, read-few)))
          ∙ take_at given _ (length given) refl

      pub state-on : (o.number ≡ 0 → ⊥) → bytes " on" ≡ state_text (name_in tree r) r i
      unfolding state_text
      state-on ne = go (is_enabled r (permitted_in r) i) refl
        where
          go : (b : Bool) → is_enabled r (permitted_in r) i ≡ b → bytes " on" ≡ state_text (name_in tree r) r i
          go true e = rw (e, state_text)
          go false e = absurd (ne (ap (λ (x : Outcome ℕ). x.number) (out-outcome e)))

      is-out : o.number ≡ 0 → is_enabled r (permitted_in r) i ≡ false
      is-out z = go (is_enabled r (permitted_in r) i) refl
        where
          go : (b : Bool) → is_enabled r (permitted_in r) i ≡ b → is_enabled r (permitted_in r) i ≡ false
          go true e = let k : ◌≡◌ {A = ℕ} 17 0 = sym (enabled-number e) ∙ z in absurd (omega arith)
          go false e = e

      pub state-off : o.number ≡ 0 → Told tree r i listed o.value
      unfolding state_text
      state-off z =
          let out = is-out z in
          let fits = told-fits r read-good (permitted_in r) i low out in
          record {
            few = omega (arith, read-few, fits, ap (λ (x : Outcome ℕ). x.value) (out-outcome out));
            low = rw (out-bytes out) (given-low out);
            same = ap (λ (xs : List ℕ). bytes " off " ++ joined (map (name_in tree r) xs)) (out-bytes out) ∙ sym (rw (out, state_text));
          }

    -- its line, by the names of the tree
    state-names : state_text (name_in tree r) r i ≡ state_text (name_of tree) r i
    unfolding state_text
    state-names = go (is_enabled r (permitted_in r) i) refl
      where
        go : (b : Bool) → is_enabled r (permitted_in r) i ≡ b → state_text (name_in tree r) r i ≡ state_text (name_of tree) r i
        go true e = rw (e, state_text)
        go false e =
            rw (e, state_text)
            (ap (λ (ns : List (List ℕ)). bytes " off " ++ joined ns)
            (map_same (name_in tree r) (name_of tree) given (λ j h. name-same read (get_or given j 0) (given-low e j h))))

    pub feature-names : feature_line (name_in tree r) r i ≡ feature_line (name_of tree) r i
    unfolding feature_line
    feature-names =
        ap₂ (λ (n s : List ℕ). decimal i ++ bytes " " ++ n ++ s ++ line_end) (name-same read i low) state-names

    state-short : length (state_text (name_of tree) r i) ≤ 4100
    unfolding state_text
    state-short = go (is_enabled r (permitted_in r) i) refl
      where
        go : (b : Bool) → is_enabled r (permitted_in r) i ≡ b → length (state_text (name_of tree) r i) ≤ 4100
        go true e = rw (e, state_text) (omega arith)
        go false e =
            let names = map (name_of tree) given in
            let many : length names ≡ length given = length-map given (name_of tree) in
            let some = chain-some (told-chain r read-good (permitted_in r) i low e) in
            let fits = told-fits r read-good (permitted_in r) i low e in
            let short = joined-short names (map-short (name_of tree) given (λ j h. name-short read (get_or given j 0) (given-low e j h)))
            (omega arith) in
            rw (e, state_text) (omega (arith, read-few, length-append (bytes " off ") (joined names)))

    pub feature_fits : FeatureFits tree r i
    feature_fits = record {
      low = omega (arith, read-few);
      digits = decimal_most 2 i (omega (arith, read-few)) (omega (arith, read-few)) (omega arith);
      name = rw (name-same read i low) (name-short read i low);
      state = rw state-names state-short;
    }
