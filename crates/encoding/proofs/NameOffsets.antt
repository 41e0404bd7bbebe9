-- Laws of a strings block's names: each used name is among them, once, and is read at its offset. Assumes nothing.
use mathlib.Core.Path.{◌≡◌, refl, sym, ap, ◌∙◌}
use mathlib.Core.Bool.{Bool, true, false}
use mathlib.Core.List.{List, [], ◌∷◌, ◌++◌, append_assoc}
use Prim.Native.Nat.{ℕ, ◌+◌, ◌≤◌}
use native.Mathlib.Omega.{arith}
use lib.ListN.{length, length-append}
use Rattle.cells.specs.Bytes.{Each, Stands}
use Rattle.cells.proofs.Standing.{stands-first, stands_after}
use Rattle.stringlist.specs.StringList.{NotZero, strings_bytes}
use Rattle.strings.specs.Strings.{ended, same_bytes, text_at}
use Rattle.strings.proofs.Strings.{same_true, same_refl, same-same}
use Rattle.names.specs.Names.{either}
use Rattle.tokens.specs.Steps.{pick}
use Rattle.encoding.specs.StringsBlock.{listed, offset_in, with_name, with_names}
use Rattle.encoding.proofs.TextReading.{stands-text}

-- a name is one of these
abbrev pub Listed : List (List ℕ) → List ℕ → Type 0
Listed names name = listed name names ≡ true

-- no name stands there twice
abbrev pub Distinct : List (List ℕ) → Type 0
Distinct [] = Unit {0}
Distinct (n ∷ ns) = (listed n ns ≡ false) × Distinct ns

same-swap : (a b : List ℕ) → same_bytes a b ≡ same_bytes b a
same-swap a b = same-same a b b a sym sym

module _ (name : List ℕ) where
  -- one name more at the end
  listed-append : (names : List (List ℕ)) (m : List ℕ) → listed name (names ++ m ∷ []) ≡ either (listed name names) (same_bytes m name)
  unfolding listed
  listed-append [] m = go (same_bytes m name)
    where
      go : (t : Bool) → either t false ≡ t
      go true = refl
      go false = refl
  listed-append (n ∷ ns) m = go (same_bytes n name) (listed-append ns m)
    where
      go : (t : Bool) → listed name (ns ++ m ∷ []) ≡ either (listed name ns) (same_bytes m name) → either t (listed name (ns ++ m ∷ [])) ≡ either (either t (listed name ns)) (same_bytes m name)
      go true h = refl
      go false h = h

  listed_here : (names : List (List ℕ)) → Listed (with_name names name) name
  unfolding with_name
  listed_here names = go (listed name names) refl
    where
      go : (t : Bool) → listed name names ≡ t → listed name (pick t names (names ++ name ∷ [])) ≡ true
      go true h = h
      go false h = listed-append names name ∙ rw (h, same_refl name)

  listed-still : (names : List (List ℕ)) (m : List ℕ) → Listed names name → Listed (with_name names m) name
  unfolding with_name
  listed-still names m h = go (listed m names)
    where
      go : (t : Bool) → listed name (pick t names (names ++ m ∷ [])) ≡ true
      go true = h
      go false = listed-append names m ∙ rw h

  listed_kept : (names ns : List (List ℕ)) → Listed names name → Listed (with_names names ns) name
  unfolding with_names
  listed_kept names [] h = h
  listed_kept names (n ∷ ns) h = listed_kept (with_name names n) ns (listed-still names n h)

-- each name of the list is among them
pub names-listed : (names ns : List (List ℕ)) → Each (Listed (with_names names ns)) ns
unfolding with_names
names-listed names [] = tt
names-listed names (n ∷ ns) = (listed_kept n (with_name names n) ns (listed_here n names), names-listed (with_name names n) ns)

-- once
distinct_append : (names : List (List ℕ)) (name : List ℕ) → Distinct names → listed name names ≡ false → Distinct (names ++ name ∷ [])
unfolding listed
distinct_append [] name d h = (refl, tt)
distinct_append (n ∷ ns) name d h = go (same_bytes n name) refl (distinct_append ns name d.1) h
  where
    go : (t : Bool) → same_bytes n name ≡ t → (listed name ns ≡ false → Distinct (ns ++ name ∷ [])) → either t (listed name ns) ≡ false → (listed n (ns ++ name ∷ []) ≡ false) × Distinct (ns ++ name ∷ [])
    go true e f k = absurd (let z : ◌≡◌ {A = ℕ} 0 1 = cc in omega arith)
    go false e f k = (listed-append n ns name ∙ rw (d.0, same-swap name n, e), f k)

pub names-distinct : (names ns : List (List ℕ)) → Distinct names → Distinct (with_names names ns)
unfolding with_names with_name
names-distinct names [] d = d
names-distinct names (n ∷ ns) d = names-distinct (with_name names n) ns (go (listed n names) refl)
  where
    go : (t : Bool) → listed n names ≡ t → Distinct (pick t names (names ++ n ∷ []))
    go true h = d
    go false h = distinct_append names n d h

-- what holds of each name of the list holds of each of them
module _ (P : List ℕ → Type 0) where
  each_last : (names : List (List ℕ)) (name : List ℕ) → Each P names → P name → Each P (names ++ name ∷ [])
  each_last [] name h p = (p, tt)
  each_last (n ∷ ns) name h p = (h.0, each_last ns name h.1 p)

  pub each-names : (names ns : List (List ℕ)) → Each P names → Each P ns → Each P (with_names names ns)
  unfolding with_names with_name
  each-names names [] h k = h
  each-names names (n ∷ ns) h k = each-names (with_name names n) ns (go (listed n names)) k.1
    where
      go : (t : Bool) → Each P (pick t names (names ++ n ∷ []))
      go true = h
      go false = each_last names n h k.0

-- a name is read where it stands
module _ (s : List ℕ) (stop : ℕ) (name : List ℕ) where
  pub name-read : (names : List (List ℕ)) (at : ℕ) → Each (Each NotZero) names → Stands s at (strings_bytes names) → at + length (strings_bytes names) ≤ stop → Listed names name
      → text_at s (at + offset_in names name) stop ≡ ended name
  unfolding strings_bytes listed offset_in
  name-read [] at z w r h = cc
  name-read (n ∷ ns) at z w r h = go (same_bytes n name) refl (name-read ns (at + (length n + 1)) z.1) h
    where
      v : Stands s at ((n ++ 0 ∷ []) ++ strings_bytes ns)
      v = rw (append_assoc n (0 ∷ []) (strings_bytes ns)) w

      l : length (n ++ 0 ∷ strings_bytes ns) ≡ length n + 1 + length (strings_bytes ns)
      l = omega (arith, length-append n (0 ∷ strings_bytes ns))

      go : (t : Bool) → same_bytes n name ≡ t
          → (Stands s (at + (length n + 1)) (strings_bytes ns) → at + (length n + 1) + length (strings_bytes ns) ≤ stop → Listed ns name → text_at s (at + (length n + 1) + offset_in ns name) stop ≡ ended name)
          → either t (listed name ns) ≡ true
          → text_at s (at + pick t 0 (length n + 1 + offset_in ns name)) stop ≡ ended name
      go true e f k =
          let o : at + 0 ≡ at = omega arith in
          rw o (stands-text s at stop n z.0 (stands-first s at (n ++ 0 ∷ []) (strings_bytes ns) v) (omega (arith, l))) ∙ ap ended (same_true n name e)
      go false e f k =
          let o : at + (length n + 1 + offset_in ns name) ≡ at + (length n + 1) + offset_in ns name = omega arith in
          rw o (f (stands_after s at (at + (length n + 1)) (n ++ 0 ∷ []) (strings_bytes ns) (omega (arith, length-append n (0 ∷ []))) v) (omega (arith, l)) k)
