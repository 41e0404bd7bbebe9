-- The part that is returned: it lies in its block, and is the property of that name from its token to its value's last byte; the value
-- in it is that property's. Assumes nothing.
use mathlib.Core.Path.{◌≡◌, refl, sym, ap, subst, ◌∙◌}
use mathlib.Core.Bool.{Bool, true, false, true≢false}
use mathlib.Core.List.{List, [], ◌∷◌, ◌++◌}
use Prim.Native.Nat.{ℕ, zero, suc, ◌+◌, ◌-◌, ◌<◌, ◌≤◌}
use native.Mathlib.Omega.{arith}
use native.Mathlib.Decide.{dec_le}
use lib.ListN.{length, get_or, take, drop, length-take, length-drop}
use lib.Seq.{get_or-take, get_or-drop, take-add, drop_at, drop-drop}
use Rattle.cells.specs.Cells.{cell_at}
use Rattle.std.specs.Prelude.{Option, Some, None}
use Rattle.strings.specs.Strings.{Text, ended, unended}
use Rattle.names.specs.Names.{is_property_name, same_text}
use Rattle.names.proofs.Texts.{same-text-true}
use Rattle.tokens.specs.declared.Step.{Step}
use Rattle.tokens.specs.declared.Step.TheVariants.{BeginNode, EndNode, Property, Nop, End, Fault}
use Rattle.tokens.specs.Steps.{step_at}
use Rattle.properties.specs.Properties.{among}
use Rattle.lookup.specs.declared.Found.{Found}
use Rattle.lookup.specs.declared.Found.TheVariants.{InCpu, InParent}
use Rattle.lookup.specs.Lookup.{Held, Block, properties, refused, block_from, block_of, held_as, or_parent, in_either, lookup, part_of, value_of}
use Rattle.lookup.specs.Parts.{name_in}
use Rattle.lookup.specs.LooksUp.{part, PropertyPart}
use Rattle.lookup.proofs.Blocks.{checked, held, read_step, block-done, block-step}
use Rattle.lookup.proofs.Entries.{Lies, lies}

-- a property of a block lies within it
pub record HeldIn (block strings : List ℕ) (h : Held) : Type 0 where
  pub token : cell_at block h.from ≡ 3
  pub size : h.to ≡ h.from + 12 + cell_at block (h.from + 4)
  pub within : h.to ≤ length block
  pub named : h.name ≡ name_in strings (cell_at block (h.from + 8))
  pub good : is_property_name h.name ≡ true

abbrev AllHeld : List ℕ → List ℕ → List Held → Type 0
AllHeld block strings [] = Unit
AllHeld block strings (h ∷ hs) = HeldIn block strings h × AllHeld block strings hs

abbrev AllIn : List ℕ → List ℕ → Block → Type 0
AllIn block strings (properties hs) = AllHeld block strings hs
AllIn block strings (refused n) = Unit

module _ (block strings : List ℕ) where
  all_more : (good given : Bool) (h : Held) (b : Block) → (good ≡ true → HeldIn block strings h) → AllIn block strings b → AllIn block strings (checked good given h b)
  all_more true true h b p q = tt
  all_more true false h (properties hs) p q = (p refl, q)
  all_more true false h (refused n) p q = tt
  all_more false given h b p q = tt

  lies-held : {at t v l o : ℕ} → Lies block at t v l o → is_property_name (name_in strings o) ≡ true → HeldIn block strings (held strings o t (v + l))
  lies-held {t = t} {l = l} g good =
      record {
        token = g.token;
        size = omega (arith, g.value, g.size);
        within = omega (arith, g.value, g.within);
        named = ap (name_in strings) g.offset;
        good = good;
      }

  all-step : (rest : List Text → ℕ → Block) (seen : List Text) (at : ℕ) → ((ns : List Text) (next : ℕ) → AllIn block strings (rest ns next))
      → (x : Step) → step_at block (length block) at ≡ x → AllIn block strings (read_step rest strings seen x)
  all-step rest seen at f (BeginNode t name) e = tt
  all-step rest seen at f (EndNode t next) e = tt
  all-step rest seen at f (Property t v l o next) e =
      let n = name_in strings o in
      all_more (is_property_name n) (among n seen) (held strings o t (v + l)) (rest (seen ++ n ∷ []) next.at) (λ good. lies-held (lies block at e) good) (f (seen ++ n ∷ []) next.at)
  all-step rest seen at f (Nop t next) e = f seen next.at
  all-step rest seen at f (End t) e = tt
  all-step rest seen at f (Fault t) e = tt

  all_from : (most : ℕ) (seen : List Text) (at : ℕ) → AllIn block strings (block_from most block strings seen at)
  unfolding block_from
  all_from zero seen at = tt
  all_from (suc most) seen at = go (dec_le (length block) at) (all_from most)
    where
      go : Dec (length block ≤ at) → ((ns : List Text) (next : ℕ) → AllIn block strings (block_from most block strings ns next)) → AllIn block strings (block_from (suc most) block strings seen at)
      go (yes h) f = subst (AllIn block strings) (sym (block-done block strings seen at (suc most) h)) tt
      go (no h) f =
          subst (AllIn block strings) (sym (block-step block strings seen at most (omega arith) refl))
          (all-step (block_from most block strings) seen at f (step_at block (length block) at) refl)

  -- the property of a name is one of them, and has that name
  pub record Named (name : List ℕ) (h : Held) : Type 0 where
    pub is_in : HeldIn block strings h
    pub same : same_text h.name (ended name) ≡ true

  first-held : (name : List ℕ) (hs : List Held) → AllHeld block strings hs → {h : Held} {ks : List Held} → held_as name hs ≡ h ∷ ks → Named name h
  unfolding held_as
  first-held name [] a e = let z : ◌≡◌ {A = ℕ} 0 1 = cc in absurd (omega arith)
  first-held name (k ∷ hs) a {h} {ks} e = go (same_text k.name (ended name)) refl (first-held name hs a.1) e
    where
      go : (same : Bool) → same_text k.name (ended name) ≡ same → (held_as name hs ≡ h ∷ ks → Named name h)
          → (elim same as (λ _. List Held) [ true ↦ k ∷ [] | false ↦ held_as name hs ]) ≡ h ∷ ks → Named name h
      go true s f q = let p : k ≡ h = cc in subst (Named name) p (record { is_in = a.0; same = s })
      go false s f q = f q

-- its bytes, and what stands behind its head
module _ (block : List ℕ) (from to : ℕ) where
  part-byte : (i : ℕ) → i < to - from → get_or (part block from to) i 0 ≡ get_or block (from + i) 0
  part-byte i h = get_or-take (to - from) (drop from block) i 0 h ∙ get_or-drop from block i 0

  part-cell : (i : ℕ) → i + 4 ≤ to - from → cell_at (part block from to) i ≡ cell_at block (from + i)
  unfolding cell_at
  part-cell i h =
      let e1 : from + (i + 1) ≡ from + i + 1 = omega arith in
      let e2 : from + (i + 2) ≡ from + i + 2 = omega arith in
      let e3 : from + (i + 3) ≡ from + i + 3 = omega arith in
      rw (part-byte i (omega arith), part-byte (i + 1) (omega arith), part-byte (i + 2) (omega arith), part-byte (i + 3) (omega arith), e1, e2, e3)

  part-long : to ≤ length block → length (part block from to) ≡ to - from
  part-long h = length-take (to - from) (drop from block) ∙ omega (arith, length-drop from block)

  part-value : from + 12 ≤ to → to ≤ length block → value_of (part block from to) ≡ take (to - (from + 12)) (drop (from + 12) block)
  unfolding value_of
  part-value h k =
      let e : to - from ≡ 12 + (to - (from + 12)) = omega arith in
      let l : length (take 12 (drop from block)) ≡ 12 = length-take 12 (drop from block) ∙ omega (arith, length-drop from block) in
      ap (λ (n : ℕ). drop 12 (take n (drop from block))) e
      ∙ ap (drop 12) (take-add 12 (to - (from + 12)) (drop from block))
      ∙ drop_at (take 12 (drop from block)) (take (to - (from + 12)) (drop 12 (drop from block))) 12 l
      ∙ ap (take (to - (from + 12))) (drop-drop 12 from block)

module _ (block strings name : List ℕ) where
  same_name : (t : Text) → same_text t (ended name) ≡ true → t ≡ ended name
  unfolding same_text
  same_name (ended cs) e = ap ended (same-text-true cs name e)
  same_name unended e = absurd (true≢false (sym e))

  held-part : {h : Held} → Named block strings name h → PropertyPart block strings name h.from h.to
  held-part {h} g =
      let i = g.is_in in
      let from = h.from in
      let to = h.to in
      let head : from + 12 ≤ to = omega (arith, i.size) in
      let zero_more : from + 0 ≡ from = omega arith in
      let cell : (k : ℕ) → k + 4 ≤ 12 → cell_at (part block from to) k ≡ cell_at block (from + k) = λ k l. part-cell block from to k (omega arith) in
      let value = part-value block from to head i.within in
      let size : cell_at block (from + 4) ≡ length (take (to - (from + 12)) (drop (from + 12) block)) =
      omega (arith, i.size, i.within, length-take (to - (from + 12)) (drop (from + 12) block), length-drop (from + 12) block) in
      record {
        head = head;
        within = i.within;
        long = part-long block from to i.within;
        token = cell 0 (omega arith) ∙ rw zero_more i.token;
        size = cell 4 (omega arith) ∙ size ∙ ap length (sym value);
        named = rw (cell 8 (omega arith), ← i.named) g.same;
        good = subst (λ (t : Text). is_property_name t ≡ true) (same_name h.name g.same) i.good;
        value = value;
      }

  abbrev pub Part : List Held → Type 0
  Part [] = Unit
  Part (h ∷ hs) = PropertyPart block strings name h.from h.to

  -- of a block that reads as properties
  pub read-part : {hs : List Held} → block_of block strings ≡ properties hs → (ks : List Held) → held_as name hs ≡ ks → Part ks
  unfolding block_of
  read-part e [] k = tt
  read-part {hs} e (h ∷ ks) k = held-part (first-held block strings name hs (subst (AllIn block strings) e (all_from block strings (length block) [] 0)) k)

-- what is found
module _ (cpu parent strings name : List ℕ) where
  abbrev Placed : Option Found → Type 0
  Placed (Some (InCpu from to)) = PropertyPart cpu strings name from to
  Placed (Some (InParent from to)) = PropertyPart parent strings name from to
  Placed None = Unit

  placed : Placed (lookup cpu parent strings name)
  unfolding lookup
  placed = go (block_of cpu strings) (block_of parent strings) refl refl
    where
      first : (ps qs : List Held) → Part cpu strings name ps → Part parent strings name qs → Placed (or_parent name ps qs)
      first (p ∷ ps) qs a b = a
      first [] (q ∷ qs) a b = b
      first [] [] a b = tt

      go : (b p : Block) → block_of cpu strings ≡ b → block_of parent strings ≡ p → Placed (in_either name b p)
      go (properties ps) (properties qs) e f =
          first (held_as name ps) (held_as name qs) (read-part cpu strings name e (held_as name ps) refl) (read-part parent strings name f (held_as name qs) refl)
      go (properties ps) (refused n) e f = tt
      go (refused n) p e f = tt

  pub in-cpu : {from to : ℕ} → lookup cpu parent strings name ≡ Some (InCpu from to) → PropertyPart cpu strings name from to
  in-cpu e = subst Placed e placed

  pub in-parent : {from to : ℕ} → lookup cpu parent strings name ≡ Some (InParent from to) → PropertyPart parent strings name from to
  in-parent e = subst Placed e placed

  -- what is no property name is not found
  pub no_name : (is_property_name (ended name) ≡ true → ⊥) → lookup cpu parent strings name ≡ None
  no_name h = go (lookup cpu parent strings name) refl
    where
      go : (f : Option Found) → lookup cpu parent strings name ≡ f → f ≡ None
      go (Some (InCpu from to)) e = absurd (h (in-cpu e).good)
      go (Some (InParent from to)) e = absurd (h (in-parent e).good)
      go None e = refl

  -- the part, as the code has it
  pub cpu-part : {from to : ℕ} → lookup cpu parent strings name ≡ Some (InCpu from to) → take (to - from) (drop from cpu) ≡ part_of cpu parent (lookup cpu parent strings name)
  unfolding part_of
  cpu-part e = sym (ap (part_of cpu parent) e)

  pub parent-part : {from to : ℕ} → lookup cpu parent strings name ≡ Some (InParent from to) → take (to - from) (drop from parent) ≡ part_of cpu parent (lookup cpu parent strings name)
  unfolding part_of
  parent-part e = sym (ap (part_of cpu parent) e)

  pub no_part : lookup cpu parent strings name ≡ None → [] ≡ part_of cpu parent (lookup cpu parent strings name)
  unfolding part_of
  no_part e = sym (ap (part_of cpu parent) e)
