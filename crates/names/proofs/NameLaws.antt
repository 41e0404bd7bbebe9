-- Laws of node and property names: what the characters passed say of the whole name, and what a name that was read says. Assumes nothing.
use mathlib.Core.Path.{◌≡◌, refl, sym, ap, ◌∙◌}
use mathlib.Core.Bool.{Bool, true, false, not, cond, ◌&&◌}
use mathlib.Core.Logic.{◌⊎◌, inl, inr}
use mathlib.Core.List.{List, [], ◌∷◌, ◌++◌, append_assoc, append-nil}
use Prim.Native.Nat.{ℕ, suc, ◌+◌, ◌<◌, ◌≤◌, min}
use native.Mathlib.Omega.{arith}
use borrow.Author.Tests.{eq-eqb, ne_eqb, eqb-true, eqb-false, le-leb, lt-leb, leb-true, leb-false, ltb-true, ltb-false}
use lib.Dec.{eqb, leb, ltb}
use native.Mathlib.Nat.{add-zero}
use Rattle.std.specs.Bool.{then_some}
use lib.ListN.{get_or, length, length-append}
use Rattle.characters.specs.Characters.{is_node_character, is_property_character, one_if}
use Rattle.strings.specs.Strings.{Text, ended, unended, onto, text_at}
use Rattle.refusal.specs.Refusal.{Outcome, answer, refuse}
use Rattle.names.specs.Names.{most_node_name, most_property_name, at_sign, name_outcome, both, either, every, at_signs, first_is_plain, last_is_plain, length_within, node_characters, is_node_name, is_property_name, is_root_name, read_name, node_name_at, property_name_at, root_name_at}
use Rattle.strings.proofs.Strings.{text-none, text-empty, text-more, text-within}
use Rattle.names.proofs.Texts.{prefixed, prefixed-onto}

-- tests
both_right : (a : Bool) {b : Bool} → b ≡ false → both a b ≡ false
both_right true h = h
both_right false h = refl

differs : (p : ℕ → Bool) {a b : ℕ} → p a ≡ true → p b ≡ false → a ≡ b → ⊥
differs p h k e = let z : ◌≡◌ {A = ℕ} 0 1 = cc in omega arith

long-false : (most : ℕ) (cs : List ℕ) (rest : Bool) → most < length cs → both (length_within most cs) rest ≡ false
long-false most cs rest h = rw (lt-leb (length cs) most h) (go (leb 1 (length cs)))
  where
    go : (t : Bool) → both (both t false) rest ≡ false
    go true = refl
    go false = refl

-- the characters passed: there are `n`, and the whole string is they and the string behind them
pub record Passed (s : List ℕ) (from end n : ℕ) (cs : List ℕ) : Type 0 where
  pub long : length cs ≡ n
  pub whole : text_at s from end ≡ prefixed cs (text_at s (from + n) end)

passed_none : (s : List ℕ) (from end : ℕ) → Passed s from end 0 []
passed_none s from end = record { long = refl; whole = rw (add-zero from) (go (text_at s from end)) }
  where
    go : (t : Text) → t ≡ prefixed [] t
    go (ended cs) = refl
    go unended = refl

module _ {s : List ℕ} {from end n : ℕ} {cs : List ℕ} (p : Passed s from end n cs) where
  module _ (h : from + n < min (length s) end) {c : ℕ} (e : c ≡ get_or s (from + n) 0) where
    passed-more : (c ≡ 0 → ⊥) → Passed s from end (n + 1) (cs ++ c ∷ [])
    passed-more z =
        let next : from + n + 1 ≡ from + (n + 1) = omega arith in
        record {
          long = omega (arith, p.long, length-append cs (c ∷ []));
          whole =
              p.whole
              ∙ ap (prefixed cs) (text-more s end (from + n) h (λ q. z (e ∙ q)) ∙ rw (e, next))
              ∙ prefixed-onto cs c (text_at s (from + (n + 1)) end);
        }

    text-whole : c ≡ 0 → text_at s from end ≡ ended cs
    text-whole z = p.whole ∙ ap (prefixed cs) (text-empty s end (from + n) h (sym e ∙ z)) ∙ ap ended (append-nil cs)

    good-here : (good : Text → Bool) → c ≡ 0 → good (ended cs) ≡ true → answer n ≡ read_name good (text_at s from end)
    good-here good z g = rw (text-whole z, g, read_name) (ap answer (sym p.long))

    bad-here : (good : Text → Bool) → c ≡ 0 → good (ended cs) ≡ false → refuse 0 7 ≡ read_name good (text_at s from end)
    bad-here good z g = rw (text-whole z, g, read_name)

  -- no string that begins with the characters passed is good
  never : (good : Text → Bool) → ((ds : List ℕ) → good (ended (cs ++ ds)) ≡ false) → refuse 0 7 ≡ read_name good (text_at s from end)
  never good h = rw p.whole (go (text_at s (from + n) end))
    where
      go : (t : Text) → refuse 0 7 ≡ read_name good (prefixed cs t)
      go (ended ds) = rw (h ds)
      go unended = refl

  -- a search that went past the block, or past `most` characters, where no longer string is good
  past : (good : Text → Bool) (most : ℕ) → ((ds : List ℕ) → most < length ds → good (ended ds) ≡ false)
      → min (min (length s) end) (from + (most + 1)) ≤ from + n → refuse 0 7 ≡ read_name good (text_at s from end)
  past good most f h = go (leb (min (length s) end) (from + n)) refl
    where
      go : (t : Bool) → leb (min (length s) end) (from + n) ≡ t → refuse 0 7 ≡ read_name good (text_at s from end)
      go true e = rw (p.whole, text-none s end (from + n) (leb-true (min (length s) end) (from + n) e))
      go false e =
          never good (λ ds. f (cs ++ ds) (omega (arith, p.long, leb-false (min (length s) end) (from + n) e, length-append cs ds)))

-- a string that begins behind its block is none
pub no_name : (good : Text → Bool) (s : List ℕ) (from end : ℕ) → min end (length s) < from → refuse 0 7 ≡ read_name good (text_at s from end)
no_name good s from end h = rw (text-none s end from (omega arith))

-- runs of characters
every_append : (p : ℕ → Bool) (cs ds : List ℕ) → every p (cs ++ ds) ≡ both (every p cs) (every p ds)
unfolding every
every_append p [] ds = refl
every_append p (c ∷ cs) ds = go (p c) (every_append p cs ds)
  where
    go : (t : Bool) → every p (cs ++ ds) ≡ both (every p cs) (every p ds) → both t (every p (cs ++ ds)) ≡ both (both t (every p cs)) (every p ds)
    go true e = e
    go false e = refl

signs-append : (cs ds : List ℕ) → at_signs (cs ++ ds) ≡ at_signs cs + at_signs ds
unfolding at_signs
signs-append [] ds = omega arith
signs-append (c ∷ cs) ds = go (eqb c at_sign) (signs-append cs ds)
  where
    go : (t : Bool) → at_signs (cs ++ ds) ≡ at_signs cs + at_signs ds
        → (elim t as (λ _. ℕ) [ true ↦ suc (at_signs (cs ++ ds)) | false ↦ at_signs (cs ++ ds) ])
        ≡ (elim t as (λ _. ℕ) [ true ↦ suc (at_signs cs) | false ↦ at_signs cs ]) + at_signs ds
    go true e = omega arith
    go false e = e

last_more : (cs : List ℕ) (c : ℕ) → last_is_plain (cs ++ c ∷ []) ≡ not (eqb c at_sign)
unfolding last_is_plain
last_more [] c = refl
last_more (b ∷ []) c = refl
last_more (b ∷ d ∷ ds) c = last_more (d ∷ ds) c

-- a run whose last character is `@` has one
last-sign : (cs : List ℕ) → last_is_plain cs ≡ false → 1 ≤ at_signs cs
unfolding last_is_plain at_signs
last-sign [] e = let z : ◌≡◌ {A = ℕ} 0 1 = cc in omega arith
last-sign (c ∷ []) e = go (eqb c at_sign) e
  where
    go : (t : Bool) → not t ≡ false → 1 ≤ elim t as (λ _. ℕ) [ true ↦ 1 | false ↦ 0 ]
    go true e = omega arith
    go false e = let z : ◌≡◌ {A = ℕ} 0 1 = cc in omega arith
last-sign (c ∷ d ∷ ds) e = go (eqb c at_sign) (last-sign (d ∷ ds) e)
  where
    go : (t : Bool) → 1 ≤ at_signs (d ∷ ds) → 1 ≤ elim t as (λ _. ℕ) [ true ↦ suc (at_signs (d ∷ ds)) | false ↦ at_signs (d ∷ ds) ]
    go true h = omega arith
    go false h = h

-- what makes a run no node name, and what makes it one
abbrev node_or_sign : ℕ → Bool
node_or_sign c = either (is_node_character c) (eqb c at_sign)

abbrev ends_plain : List ℕ → Bool
ends_plain [] = false
ends_plain (c ∷ cs) = last_is_plain (c ∷ cs)

module _ (cs : List ℕ) where
  name-every : every node_or_sign cs ≡ false → is_node_name (ended cs) ≡ false
  unfolding is_node_name node_characters
  name-every h = both_right (length_within most_node_name cs) (rw h)

  name-signs : 1 < at_signs cs → is_node_name (ended cs) ≡ false
  unfolding is_node_name node_characters
  name-signs h = both_right (length_within most_node_name cs) (both_right (every node_or_sign cs) (rw (lt-leb (at_signs cs) 1 h)))

  name-first : first_is_plain cs ≡ false → is_node_name (ended cs) ≡ false
  unfolding is_node_name node_characters
  name-first h = both_right (length_within most_node_name cs) (both_right (every node_or_sign cs) (both_right (leb (at_signs cs) 1) (rw h)))

  name-long : most_node_name < length cs → is_node_name (ended cs) ≡ false
  unfolding is_node_name node_characters
  name-long h = long-false most_node_name cs (node_characters cs) h

name-end : (cs : List ℕ) → ends_plain cs ≡ false → is_node_name (ended cs) ≡ false
unfolding is_node_name node_characters
name-end [] h = refl
name-end (c ∷ cs) h =
    both_right (length_within most_node_name (c ∷ cs))
    (both_right (every node_or_sign (c ∷ cs)) (both_right (leb (at_signs (c ∷ cs)) 1) (both_right (first_is_plain (c ∷ cs)) h)))

name-good : (cs : List ℕ) → ends_plain cs ≡ true → length cs ≤ most_node_name → every node_or_sign cs ≡ true → at_signs cs ≤ 1 → first_is_plain cs ≡ true
    → is_node_name (ended cs) ≡ true
unfolding is_node_name node_characters
name-good [] l m e g f = l
name-good (c ∷ cs) l m e g f =
    rw (le-leb 1 (suc (length cs)) (omega arith), le-leb (suc (length cs)) most_node_name m, e, le-leb (at_signs (c ∷ cs)) 1 g, f) l

-- one character more
module _ (cs : List ℕ) (c : ℕ) where
  every_more : (p : ℕ → Bool) → every p cs ≡ true → p c ≡ true → every p (cs ++ c ∷ []) ≡ true
  unfolding every
  every_more p h k = every_append p cs (c ∷ []) ∙ rw (h, k)

  signs-more : at_signs (cs ++ c ∷ []) ≡ at_signs cs + one_if (eqb c at_sign)
  unfolding at_signs
  signs-more = signs-append cs (c ∷ []) ∙ ap (λ (n : ℕ). at_signs cs + n) (go (eqb c at_sign))
    where
      go : (t : Bool) → (elim t as (λ _. ℕ) [ true ↦ 1 | false ↦ 0 ]) ≡ one_if t
      go true = refl
      go false = refl

  -- and any that follow
  never-every : (p : ℕ → Bool) → p c ≡ false → (ds : List ℕ) → every p ((cs ++ c ∷ []) ++ ds) ≡ false
  unfolding every
  never-every p h ds = rw (append_assoc cs (c ∷ []) ds, every_append p cs (c ∷ ds), h) (both_right (every p cs) refl)

ends_more : (cs : List ℕ) (c : ℕ) → ends_plain (cs ++ c ∷ []) ≡ not (eqb c at_sign)
ends_more [] c = last_more [] c
ends_more (b ∷ bs) c = last_more (b ∷ bs) c

first_more : (cs : List ℕ) (c : ℕ) → first_is_plain cs ≡ true → eqb c at_sign ≡ false → first_is_plain (cs ++ c ∷ []) ≡ true
unfolding first_is_plain
first_more [] c h k = rw k
first_more (b ∷ bs) c h k = h

first-kept : (cs ds : List ℕ) → ends_plain cs ≡ true → first_is_plain cs ≡ true → first_is_plain (cs ++ ds) ≡ true
unfolding first_is_plain
first-kept [] ds e h = cc
first-kept (b ∷ bs) ds e h = h

-- a second `@`, or one with no character before it
never-second : (cs ds : List ℕ) → 1 ≤ at_signs cs → is_node_name (ended ((cs ++ at_sign ∷ []) ++ ds)) ≡ false
never-second cs ds h =
    name-signs ((cs ++ at_sign ∷ []) ++ ds) (omega (arith, signs-append (cs ++ at_sign ∷ []) ds, signs-more cs at_sign))

never-fresh : (cs ds : List ℕ) → ends_plain cs ≡ false → is_node_name (ended ((cs ++ at_sign ∷ []) ++ ds)) ≡ false
unfolding first_is_plain
never-fresh [] ds h = name-first (at_sign ∷ ds) refl
never-fresh (b ∷ bs) ds h = never-second (b ∷ bs) ds (last-sign (b ∷ bs) h)

-- a node name's characters passed: all are good, `split` says whether one is `@`, and `fresh` whether there is none, or the last is `@`
pub record NodePassed (s : List ℕ) (from end : ℕ) (split fresh : Bool) (n : ℕ) : Type 0 where
  pub characters : List ℕ
  pub passed : Passed s from end n characters
  pub all : every node_or_sign characters ≡ true
  pub signs : at_signs characters ≡ one_if split
  pub first : first_is_plain characters ≡ true
  pub last : ends_plain characters ≡ not fresh

pub node-none : (s : List ℕ) (from end : ℕ) → NodePassed s from end false true 0
unfolding every at_signs first_is_plain last_is_plain
node-none s from end = record { characters = []; passed = passed_none s from end; all = refl; signs = refl; first = refl; last = refl }

zero-no-node : is_node_character 0 ≡ false
unfolding is_node_character
zero-no-node = refl

sign-no-node : is_node_character at_sign ≡ false
unfolding is_node_character
sign-no-node = refl

module _ {s : List ℕ} {from end : ℕ} {split fresh : Bool} {n : ℕ} (r : NodePassed s from end split fresh n) where
  pub node-past : min (min (length s) end) (from + (most_node_name + 1)) ≤ from + n → refuse 0 7 ≡ node_name_at s from end
  unfolding node_name_at
  node-past h = past r.passed is_node_name most_node_name name-long h

  module _ (h : from + n < min (length s) end) {c : ℕ} (e : c ≡ get_or s (from + n) 0) where
    pub node-more : is_node_character c ≡ true → NodePassed s from end split false (n + 1)
    node-more k =
        let plain : eqb c at_sign ≡ false = ne_eqb c at_sign (differs is_node_character k sign-no-node) in
        record {
          characters = r.characters ++ c ∷ [];
          passed = passed-more r.passed h e (differs is_node_character k zero-no-node);
          all = every_more r.characters c node_or_sign r.all (rw k);
          signs = signs-more r.characters c ∙ rw plain (omega (arith, r.signs));
          first = first_more r.characters c r.first plain;
          last = ends_more r.characters c ∙ rw plain;
        }

    pub node-sign : fresh ≡ false → c ≡ at_sign → split ≡ false → NodePassed s from end true true (n + 1)
    node-sign f k p =
        let sign : eqb c at_sign ≡ true = eq-eqb c at_sign k in
        record {
          characters = r.characters ++ c ∷ [];
          passed = passed-more r.passed h e (λ z. omega arith);
          all = every_more r.characters c node_or_sign r.all (rw (k, sign-no-node));
          signs = signs-more r.characters c ∙ rw (sign, r.signs, p);
          first = first-kept r.characters (c ∷ []) (r.last ∙ rw f) r.first;
          last = ends_more r.characters c ∙ rw sign;
        }

    pub node-good : fresh ≡ false → n ≤ most_node_name → c ≡ 0 → answer n ≡ node_name_at s from end
    unfolding node_name_at
    node-good f l z =
        good-here r.passed h e is_node_name z
        (name-good r.characters (r.last ∙ rw f) (omega (arith, r.passed.long)) r.all (rw r.signs (one-most split)) r.first)
      where
        one-most : (b : Bool) → one_if b ≤ 1
        one-most true = omega arith
        one-most false = omega arith

    pub node-other : (c ≡ 0 → ⊥) → (c ≡ at_sign → ⊥) → is_node_character c ≡ false → refuse 0 7 ≡ node_name_at s from end
    unfolding node_name_at
    node-other z k p =
        let other : node_or_sign c ≡ false = rw (p, ne_eqb c at_sign k) in
        never (passed-more r.passed h e z) is_node_name (λ ds. name-every ((r.characters ++ c ∷ []) ++ ds) (never-every r.characters c node_or_sign other ds))

    pub node-second : c ≡ at_sign → split ≡ true → refuse 0 7 ≡ node_name_at s from end
    unfolding node_name_at
    node-second k p =
        never (passed-more r.passed h e (λ z. omega arith)) is_node_name
        (λ ds. rw k (never-second r.characters ds (rw (r.signs, p) (omega arith))))

    pub node-fresh : fresh ≡ true → is_node_character c ≡ false → refuse 0 7 ≡ node_name_at s from end
    unfolding node_name_at
    node-fresh f p = go (eqb c 0) (eqb c at_sign) refl refl
      where
        go : (a b : Bool) → eqb c 0 ≡ a → eqb c at_sign ≡ b → refuse 0 7 ≡ read_name is_node_name (text_at s from end)
        go true b z k = bad-here r.passed h e is_node_name (eqb-true c 0 z) (name-end r.characters (r.last ∙ rw f))
        go false true z k =
            never (passed-more r.passed h e (eqb-false c 0 z)) is_node_name
            (λ ds. rw (eqb-true c at_sign k) (never-fresh r.characters ds (r.last ∙ rw f)))
        go false false z k = node-other (eqb-false c 0 z) (eqb-false c at_sign k) p

-- a property name's characters passed: all are good
pub record PropertyPassed (s : List ℕ) (from end n : ℕ) : Type 0 where
  pub characters : List ℕ
  pub passed : Passed s from end n characters
  pub all : every is_property_character characters ≡ true

pub property-none : (s : List ℕ) (from end : ℕ) → PropertyPassed s from end 0
unfolding every
property-none s from end = record { characters = []; passed = passed_none s from end; all = refl }

zero-no-property : is_property_character 0 ≡ false
unfolding is_property_character
zero-no-property = refl

module _ {s : List ℕ} {from end n : ℕ} (r : PropertyPassed s from end n) where
  pub property-past : min (min (length s) end) (from + (most_property_name + 1)) ≤ from + n → refuse 0 7 ≡ property_name_at s from end
  unfolding property_name_at is_property_name
  property-past h =
      past r.passed is_property_name most_property_name (λ ds. long-false most_property_name ds (every is_property_character ds)) h

  module _ (h : from + n < min (length s) end) {c : ℕ} (e : c ≡ get_or s (from + n) 0) where
    pub property-more : is_property_character c ≡ true → PropertyPassed s from end (n + 1)
    property-more k =
        record {
          characters = r.characters ++ c ∷ [];
          passed = passed-more r.passed h e (differs is_property_character k zero-no-property);
          all = every_more r.characters c is_property_character r.all k;
        }

    property-other : is_property_character c ≡ false → (c ≡ 0 → ⊥) → refuse 0 7 ≡ property_name_at s from end
    unfolding property_name_at is_property_name
    property-other p z =
        never (passed-more r.passed h e z) is_property_name
        (λ ds. both_right (length_within most_property_name ((r.characters ++ c ∷ []) ++ ds)) (never-every r.characters c is_property_character p ds))

    property-empty : c ≡ 0 → n ≡ 0 → refuse 0 7 ≡ property_name_at s from end
    unfolding property_name_at is_property_name
    property-empty z k =
        bad-here r.passed h e is_property_name z (rw (lt-leb 1 (length r.characters) (omega (arith, r.passed.long))))

    property-good : c ≡ 0 → 0 < n → n ≤ most_property_name → answer n ≡ property_name_at s from end
    unfolding property_name_at is_property_name
    property-good z k l =
        good-here r.passed h e is_property_name z
        (rw (le-leb 1 (length r.characters) (omega (arith, r.passed.long)), le-leb (length r.characters) most_property_name (omega (arith, r.passed.long))) r.all)

    -- at the first character that no property name has, the name ends, or there is none
    pub property-stops : is_property_character c ≡ false → n ≤ most_property_name
        → name_outcome (then_some (eqb c 0 && ltb 0 n) n) ≡ property_name_at s from end
    property-stops p l = go (eqb c 0) (ltb 0 n) refl refl
      where
        go : (a b : Bool) → eqb c 0 ≡ a → ltb 0 n ≡ b → name_outcome (then_some (a && b) n) ≡ property_name_at s from end
        go true true z k = property-good (eqb-true c 0 z) (ltb-true 0 n k) l
        go true false z k = property-empty (eqb-true c 0 z) (omega (arith, ltb-false 0 n k))
        go false b z k = property-other p (eqb-false c 0 z)

-- the root's name
module _ (s : List ℕ) (from end : ℕ) where
  pub root_none : min (length s) end ≤ from → false ≡ root_name_at s from end
  unfolding root_name_at is_root_name
  root_none h = rw (text-none s end from h)

  pub root-here : from < min (length s) end → eqb (get_or s from 0) 0 ≡ root_name_at s from end
  unfolding root_name_at is_root_name
  root-here h = go (eqb (get_or s from 0) 0) refl
    where
      more : (c : ℕ) (t : Text) → false ≡ is_root_name (onto c t)
      more c (ended cs) = sym (ne_eqb (suc (length cs)) 0 (λ e. omega arith))
      more c unended = refl

      go : (t : Bool) → eqb (get_or s from 0) 0 ≡ t → t ≡ is_root_name (text_at s from end)
      go true e = rw (text-empty s end from h (eqb-true (get_or s from 0) 0 e))
      go false e = rw (text-more s end from h (eqb-false (get_or s from 0) 0 e)) (more (get_or s from 0) (text_at s (from + 1) end))

-- a name that was read: the string of that length stands there, and ends within its block and within the bytes
pub record NameGood (good : Text → Bool) (s : List ℕ) (from end n : ℕ) : Type 0 where
  pub characters : List ℕ
  pub text : text_at s from end ≡ ended characters
  pub right : good (ended characters) ≡ true
  pub long : length characters ≡ n
  pub in_block : from + n < end
  pub in_bytes : from + n < length s

pub refused-not-answered : {n : ℕ} → refuse 0 7 ≡ answer n → ⊥
refused-not-answered p = let z : ◌≡◌ {A = ℕ} 7 0 = ap (λ (o : Outcome ℕ). o.number) p in omega arith

name-read : (good : Text → Bool) (s : List ℕ) (from end n : ℕ) → read_name good (text_at s from end) ≡ answer n → NameGood good s from end n
name-read good s from end n e = go (text_at s from end) refl e
  where
    decided : (cs : List ℕ) (b : Bool) → text_at s from end ≡ ended cs → good (ended cs) ≡ b
        → cond b (answer (length cs)) (refuse 0 7) ≡ answer n → NameGood good s from end n
    decided cs true t g p =
        let l : length cs ≡ n = ap (λ (o : Outcome ℕ). o.value) p in
        let w = text-within s from end cs t in
        record { characters = cs; text = t; right = g; long = l; in_block = omega arith; in_bytes = omega arith }
    decided cs false t g p = absurd (refused-not-answered p)

    go : (t : Text) → text_at s from end ≡ t → read_name good t ≡ answer n → NameGood good s from end n
    go (ended cs) t p = decided cs (good (ended cs)) t refl p
    go unended t p = absurd (refused-not-answered p)

-- a name is read, or it is not
name-either : (good : Text → Bool) (t : Text) → ((n : ℕ) × (read_name good t ≡ answer n)) ⊎ (read_name good t ≡ refuse 0 7)
name-either good unended = inr refl
name-either good (ended cs) = go (good (ended cs))
  where
    go : (b : Bool) → ((n : ℕ) × (cond b (answer (length cs)) (refuse 0 7) ≡ answer n)) ⊎ (cond b (answer (length cs)) (refuse 0 7) ≡ refuse 0 7)
    go true = inl (length cs, refl)
    go false = inr refl

pub node-name-either : (s : List ℕ) (from end : ℕ) → ((n : ℕ) × (node_name_at s from end ≡ answer n)) ⊎ (node_name_at s from end ≡ refuse 0 7)
unfolding node_name_at
node-name-either s from end = name-either is_node_name (text_at s from end)

pub property-name-either : (s : List ℕ) (from end : ℕ) → ((n : ℕ) × (property_name_at s from end ≡ answer n)) ⊎ (property_name_at s from end ≡ refuse 0 7)
unfolding property_name_at
property-name-either s from end = name-either is_property_name (text_at s from end)

pub node-name-good : (s : List ℕ) (from end n : ℕ) → node_name_at s from end ≡ answer n → NameGood is_node_name s from end n
unfolding node_name_at
node-name-good s from end n e = name-read is_node_name s from end n e

pub property-name-good : (s : List ℕ) (from end n : ℕ) → property_name_at s from end ≡ answer n → NameGood is_property_name s from end n
unfolding property_name_at
property-name-good s from end n e = name-read is_property_name s from end n e

-- a name that is not as it should be
name-not-read : (good : Text → Bool) → good unended ≡ false → (t : Text) → read_name good t ≡ refuse 0 7 → good t ≡ false
name-not-read good z unended e = z
name-not-read good z (ended cs) e = go (good (ended cs)) e
  where
    go : (b : Bool) → cond b (answer (length cs)) (refuse 0 7) ≡ refuse 0 7 → b ≡ false
    go true p = absurd (refused-not-answered (sym p))
    go false p = refl

pub node-name-bad : (s : List ℕ) (from end : ℕ) → node_name_at s from end ≡ refuse 0 7 → is_node_name (text_at s from end) ≡ false
unfolding node_name_at is_node_name
node-name-bad s from end e = name-not-read is_node_name refl (text_at s from end) e

pub property-name-bad : (s : List ℕ) (from end : ℕ) → property_name_at s from end ≡ refuse 0 7 → is_property_name (text_at s from end) ≡ false
unfolding property_name_at is_property_name
property-name-bad s from end e = name-not-read is_property_name refl (text_at s from end) e

-- a longer string is no property name
pub long-property : (cs : List ℕ) → most_property_name < length cs → is_property_name (ended cs) ≡ true → ⊥
unfolding is_property_name
long-property cs h e =
    let f = long-false most_property_name cs (every is_property_character cs) h in
    let z : ◌≡◌ {A = ℕ} 0 1 = cc in
    absurd (omega arith)
