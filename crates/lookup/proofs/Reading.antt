-- Reading a block to its end: what is left decides the whole, and the hit is that among the properties read. Assumes nothing.
use mathlib.Core.Path.{◌≡◌, refl, sym, ap, subst, ◌∙◌}
use mathlib.Core.Bool.{Bool, true, false}
use mathlib.Core.List.{List, [], ◌∷◌, ◌++◌, append_assoc, append-nil}
use Prim.Native.Nat.{ℕ, suc, ◌+◌, ◌-◌, ◌<◌, ◌≤◌}
use native.Mathlib.Omega.{arith}
use lib.ListN.{length, take, drop}
use Rattle.std.specs.Prelude.{Option, Some, None, Ok, Err}
use Rattle.refusal.proofs.Numbers.{numbered}
use Rattle.strings.specs.Strings.{Text, ended}
use Rattle.names.specs.Names.{is_property_name, same_text}
use Rattle.refusal.specs.Refusal.{number_of}
use Rattle.refusal.specs.declared.Refusal.{Refusal}
use Rattle.tokens.specs.declared.Cursor.{Cursor}
use Rattle.tokens.specs.declared.Step.{Step}
use Rattle.tokens.specs.declared.Step.TheVariants.{Property}
use Rattle.tokens.specs.Steps.{pick, step_at}
use Rattle.tokens.specs.Tokens.{Token, property, nop}
use Rattle.tokens.proofs.TokenList.{tokens-step, property-moves, nop-moves}
use Rattle.properties.specs.Properties.{among, given_before, name_fault}
use Rattle.properties.proofs.LookBack.{property_names, Plain, plain-on, names-snoc, names-nop, among-before}
use Rattle.lookup.specs.declared.Entry.{Entry}
use Rattle.lookup.specs.declared.Entry.TheVariants.{Named, Skip}
use Rattle.lookup.specs.declared.Span.{Span}
use Rattle.lookup.specs.Lookup.{Held, Block, properties, refused, block_from, block_of, held_as}
use Rattle.lookup.specs.Parts.{name_in, block_tokens, span, Stands, named, skipped, misnamed, misplaced, first_hit, hit_of, Whole}
use Rattle.lookup.proofs.Blocks.{held, read_step, block-done, block-step, step-misplaced, taken, not_taken, after_held, after_none, after_more}

-- what was read at a place
pub entry-is : {block strings : List ℕ} {at : ℕ} {e f : Entry} → Stands block strings at (Ok e) → e ≡ f → Stands block strings at (Ok f)
entry-is {block} {strings} {at} s k = subst (λ (x : Entry). Stands block strings at (Ok x)) k s

-- one more property
pub hit-more : (name : List ℕ) (hs : List Held) (h : Held)
    → first_hit (hit_of (held_as name hs)) (same_text h.name (ended name)) h.from h.to ≡ hit_of (held_as name (hs ++ h ∷ []))
unfolding held_as
hit-more name [] h = go (same_text h.name (ended name))
  where
    go : (same : Bool) → pick same (Some (span h.from h.to)) None ≡ hit_of (elim same as (λ _. List Held) [ true ↦ h ∷ [] | false ↦ [] ])
    go true = refl
    go false = refl
hit-more name (k ∷ hs) h = go (same_text k.name (ended name)) (hit-more name hs h)
  where
    go : (same : Bool) → first_hit (hit_of (held_as name hs)) (same_text h.name (ended name)) h.from h.to ≡ hit_of (held_as name (hs ++ h ∷ []))
        → first_hit (hit_of (elim same as (λ _. List Held) [ true ↦ k ∷ [] | false ↦ held_as name hs ])) (same_text h.name (ended name)) h.from h.to
        ≡ hit_of (elim same as (λ _. List Held) [ true ↦ k ∷ [] | false ↦ held_as name (hs ++ h ∷ []) ])
    go true f = refl
    go false f = f

-- a block, read up to a place: the tokens and the properties there, and that those from the place on decide
pub record Reading (block strings name : List ℕ) (hit : Option Span) (at : ℕ) : Type 0 where
  pub most : ℕ
  pub enough : length block ≤ at + most
  pub read : List Token
  pub split : block_tokens block strings 0 ≡ read ++ block_tokens block strings at
  pub plain : Plain at read
  pub holds : List Held
  pub first : hit ≡ hit_of (held_as name holds)
  pub same : after_held holds (block_from most block strings (property_names read) at) ≡ block_of block strings

pub reading_begins : (block strings name : List ℕ) → Reading block strings name None 0
unfolding held_as property_names block_of
reading_begins block strings name =
    record {
      most = length block;
      enough = omega arith;
      read = [];
      split = refl;
      plain = tt;
      holds = [];
      first = refl;
      same = after_none (block_from (length block) block strings [] 0);
    }

module _ {block strings name : List ℕ} {hit : Option Span} {at : ℕ} (g : Reading block strings name hit at) where
  more : (t : Token) (next : ℕ) → block_tokens block strings at ≡ t ∷ block_tokens block strings next
      → block_tokens block strings 0 ≡ (g.read ++ t ∷ []) ++ block_tokens block strings next
  more t next e =
      g.split ∙ ap (λ (ts : List Token). g.read ++ ts) e ∙ sym (append_assoc g.read (t ∷ []) (block_tokens block strings next))

  abbrev seen : List Text
  seen = property_names g.read

  abbrev later : List Text → ℕ → Block
  later = block_from (g.most - 1) block strings

  -- what the token at the place makes of the block
  whole : at < length block → {x : Step} → step_at block (length block) at ≡ x → {b : Block} → read_step later strings seen x ≡ b
      → after_held g.holds b ≡ block_of block strings
  whole h e {b} k =
      let m : g.most ≡ suc (g.most - 1) = omega (arith, g.enough) in
      ap (after_held g.holds) (sym (ap (λ (n : ℕ). block_from n block strings seen at) m ∙ block-step block strings seen at (g.most - 1) h e ∙ k)) ∙ g.same

  -- the fault of a name is by the names read
  fault-read : {t v l o : ℕ} {c : Cursor} → step_at block (length block) at ≡ Property t v l o c
      → name_fault (name_in strings o) (given_before t (name_in strings o) (block_tokens block strings 0))
      ≡ pick (is_property_name (name_in strings o)) (pick (among (name_in strings o) seen) 9 0) 7
  unfolding name_fault
  fault-read {o = o} e =
      ap (λ (given : Bool). pick (is_property_name (name_in strings o)) (pick given 9 0) 7)
      (among-before block (length block) (name_in strings) 0 at (name_in strings o) g.read g.split g.plain e)

  module _ (h : at < length block) where
    pub reading-named : {o : ℕ} {s : Span} {c : Cursor} {then : Option Span} → Stands block strings at (Ok (Named o s c))
        → then ≡ first_hit hit (same_text (name_in strings o) (ended name)) s.from s.to → Reading block strings name then c.at
    reading-named {then = then} (named {t} {v} {l} {o} {c} e f) r =
        let m = property-moves block (length block) at e in
        let n = name_in strings o in
        let u = property t n (take l (drop v block)) in
        let p = held strings o t (v + l) in
        let fine = taken (is_property_name n) (among n seen) p (later (seen ++ n ∷ []) c.at) (sym (fault-read e) ∙ f) in
        record {
          most = g.most - 1;
          enough = omega (arith, g.enough, m.on);
          read = g.read ++ u ∷ [];
          split = more u c.at (tokens-step block (length block) (name_in strings) at e);
          plain = plain-on at c.at g.read (u ∷ []) (omega (arith, m.on)) g.plain (omega (arith, m.here, m.on), tt);
          holds = g.holds ++ p ∷ [];
          first = r ∙ ap (λ (x : Option Span). first_hit x (same_text n (ended name)) t (v + l)) g.first ∙ hit-more name g.holds p;
          same =
              ap (λ (ns : List Text). after_held (g.holds ++ p ∷ []) (later ns c.at)) (names-snoc g.read t n (take l (drop v block)))
              ∙ after_more g.holds p (later (seen ++ n ∷ []) c.at)
              ∙ whole h e fine;
        }

    pub reading-skipped : {c : Cursor} → Stands block strings at (Ok (Skip c)) → Reading block strings name hit c.at
    reading-skipped (skipped {t} {c} e) =
        let m = nop-moves block (length block) at e in
        record {
          most = g.most - 1;
          enough = omega (arith, g.enough, m.on);
          read = g.read ++ nop t ∷ [];
          split = more (nop t) c.at (tokens-step block (length block) (name_in strings) at e);
          plain = plain-on at c.at g.read (nop t ∷ []) (omega (arith, m.on)) g.plain (omega (arith, m.here, m.on), tt);
          holds = g.holds;
          first = g.first;
          same = ap (λ (ns : List Text). after_held g.holds (later ns c.at)) (names-nop g.read t) ∙ whole h e refl;
        }

    pub reading-stops : {r : Refusal} → Stands block strings at (Err r) → block_of block strings ≡ refused (number_of r)
    reading-stops (misnamed {t} {v} {l} {o} {c} {r} e f) =
        let n = name_in strings o in
        sym (whole h e (not_taken (is_property_name n) (among n seen) (held strings o t (v + l)) (later (seen ++ n ∷ []) c.at) (f ∙ fault-read e) (numbered r)))
    reading-stops (misplaced {x} e p) = sym (whole h e (step-misplaced later strings seen x p))

  pub reading-ends : length block ≤ at → Whole name (block_of block strings) hit
  reading-ends h =
      record {
        held = g.holds;
        all =
            sym g.same
            ∙ ap (after_held g.holds) (block-done block strings seen at g.most h)
            ∙ ap properties (append-nil g.holds);
        first = g.first;
      }

-- what follows lies further on
pub named-moves : {block strings : List ℕ} {at o : ℕ} {s : Span} {c : Cursor} → Stands block strings at (Ok (Named o s c)) → (at + 4 ≤ c.at) × (c.at ≤ length block)
named-moves {block} {at = at} (named e f) = let m = property-moves block (length block) at e in (m.on, m.within)

pub skip-moves : {block strings : List ℕ} {at : ℕ} {c : Cursor} → Stands block strings at (Ok (Skip c)) → (at + 4 ≤ c.at) × (c.at ≤ length block)
skip-moves {block} {at = at} (skipped e) = let m = nop-moves block (length block) at e in (m.on, m.within)
