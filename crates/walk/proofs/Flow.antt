-- The contents of a node: what is left decides the whole walk. Assumes nothing.
use mathlib.Core.Path.{◌≡◌, refl, sym, ap, subst, ◌∙◌}
use mathlib.Core.Bool.{false}
use mathlib.Core.Logic.{◌⊎◌, inl, inr}
use mathlib.Core.List.{List, [], ◌∷◌, ◌++◌, append_assoc}
use Prim.Native.Nat.{ℕ, ◌+◌, ◌*◌, ◌-◌, ◌/◌, ◌<◌, ◌≤◌, min}
use native.Mathlib.Omega.{arith}
use borrow.Author.Tests.{lt-ltb, le-ltb}
use lib.ListN.{length, take, drop}
use Rattle.strings.specs.Strings.{ended, unended, text_at}
use Rattle.strings.proofs.Strings.{text-taken}
use Rattle.header.specs.declared.Blocks.{Blocks}
use Rattle.names.specs.Names.{is_node_name, node_name_at}
use Rattle.names.proofs.NameLaws.{NameGood, node-name-either, node-name-good, node-name-bad}
use Rattle.tokens.specs.declared.Cursor.{Cursor}
use Rattle.tokens.specs.declared.Step.{Step}
use Rattle.tokens.specs.declared.Step.TheVariants.{BeginNode, EndNode, Property, Nop, End, Fault}
use Rattle.tokens.specs.Steps.{padded, step_at}
use Rattle.tokens.specs.Tokens.{Token, begin_node, end_node, property, nop, end, fault, after_name}
use Rattle.tokens.proofs.TokenList.{follow, tokens-step, nop-moves, end-node-moves, begin-moves}
use Rattle.properties.specs.Properties.{read_properties}
use Rattle.walk.specs.Walk.{State, in_properties, in_children, Verdict, refused, go_on, stop, parent_of, most_levels, step, walk, name_in, tree_tokens}
use Rattle.walk.specs.declared.Containers.{Containers}
use Rattle.walk.specs.declared.Item.{Item}
use Rattle.walk.specs.declared.NodeRead.{NodeRead}
use Rattle.std.specs.Prelude.{Result, Ok, Err}
use Rattle.refusal.specs.Refusal.{answer, refuse, number_of, placed, refuse_at, fault_of_refused}
use Rattle.refusal.specs.declared.RefusedAt.{RefusedAt}
use Rattle.refusal.proofs.Numbers.{numbered}
use Rattle.walk.specs.Parts.{Part, skip, child, close, stop_at, part_of, child_part, part_at, note, notes, Passed, Reads}
use Rattle.walk.proofs.Fold.{walk-on, walk-stop}
use Rattle.walk.proofs.PartLaws.{child-good, child-bad, part-begin, part-end-node, part-property, part-nop, part_end, part-fault}
use Rattle.walk.proofs.Opening.{opened, walk-properties}

-- what stands next in a node behind its properties, with what the bytes say of it
pub data PartIs (s : List ℕ) (b : Blocks) (at : ℕ) : Part → Type 0 where
  nops : {t : ℕ} {c : Cursor} → step_at s b.end at ≡ Nop t c → PartIs s b at (skip c.at)
  enters : {t n : ℕ} {c : Cursor} → step_at s b.end at ≡ BeginNode t c → NameGood is_node_name s c.at b.end n
      → PartIs s b at (child t c.at n (c.at + (n / 4 + 1) * 4))
  closes : {t : ℕ} {c : Cursor} → step_at s b.end at ≡ EndNode t c → PartIs s b at (close c.at)
  bad_child : {t : ℕ} {c : Cursor} → step_at s b.end at ≡ BeginNode t c → is_node_name (text_at s c.at b.end) ≡ false → PartIs s b at (stop_at 7 t)
  late : {t v l o : ℕ} {c : Cursor} → step_at s b.end at ≡ Property t v l o c → PartIs s b at (stop_at 6 t)
  ends : {t : ℕ} → step_at s b.end at ≡ End t → PartIs s b at (stop_at 6 t)
  faults : {t : ℕ} → step_at s b.end at ≡ Fault t → PartIs s b at (stop_at 6 t)

module _ (s : List ℕ) (b : Blocks) (at : ℕ) where
  from-law : {p q : Part} → p ≡ q → PartIs s b at p → PartIs s b at q
  from-law e i = subst (PartIs s b at) e i

  part-view : PartIs s b at (part_at s b at)
  part-view = go (step_at s b.end at) refl
    where
      named : {t : ℕ} {c : Cursor} → step_at s b.end at ≡ BeginNode t c → ((n : ℕ) × (node_name_at s c.at b.end ≡ answer n)) ⊎ (node_name_at s c.at b.end ≡ refuse 0 7)
          → PartIs s b at (child_part s b t c.at)
      named {t} {c} e (inl q) = from-law (child-good s b t c.at q.1) (enters e (node-name-good s c.at b.end q.0 q.1))
      named {t} {c} e (inr q) = from-law (child-bad s b t c.at q) (bad_child e (node-name-bad s c.at b.end q))

      go : (x : Step) → step_at s b.end at ≡ x → PartIs s b at (part_at s b at)
      go (BeginNode t c) e = from-law (part-begin s b at e) (named e (node-name-either s c.at b.end))
      go (EndNode t c) e = from-law (part-end-node s b at e) (closes e)
      go (Property t v l o c) e = from-law (part-property s b at e) (late e)
      go (Nop t c) e = from-law (part-nop s b at e) (nops e)
      go (End t) e = from-law (part_end s b at e) (ends e)
      go (Fault t) e = from-law (part-fault s b at e) (faults e)

  pub part-is : {p : Part} → part_at s b at ≡ p → PartIs s b at p
  part-is e = from-law e part-view

-- an item that was read
pub item-is : {s : List ℕ} {b : Blocks} {at : ℕ} {i j : Item} → part_of (Ok i) ≡ part_at s b at → i ≡ j → PartIs s b at (part_of (Ok j))
item-is {s} {b} {at} {i} {j} e k = part-is s b at (sym e ∙ ap (λ (x : Item). part_of (Ok x)) k)

pub notes-append : (c : Containers) (ts us : List Token) → notes c (ts ++ us) ≡ notes (notes c ts) us
unfolding notes
notes-append c [] us = refl
notes-append c (begin_node at (ended n) ∷ ts) us = notes-append (note c at n) ts us
notes-append c (begin_node at unended ∷ ts) us = notes-append c ts us
notes-append c (end_node at ∷ ts) us = notes-append c ts us
notes-append c (property at n v ∷ ts) us = notes-append c ts us
notes-append c (nop at ∷ ts) us = notes-append c ts us
notes-append c (end at ∷ ts) us = notes-append c ts us
notes-append c (fault at ∷ ts) us = notes-append c ts us

-- inside a node of a level whose contents begin at `from`, behind its properties: the tokens read, and that those from `at` on decide
pub record Inside (s : List ℕ) (b : Blocks) (level from : ℕ) (seen : Containers) (at : ℕ) (found : Containers) : Type 0 where
  pub read : List Token
  pub split : tree_tokens s b from ≡ read ++ tree_tokens s b at
  pub noted : found ≡ notes seen read
  pub forward : min from b.end ≤ at
  pub same : walk b.end (in_children level) (tree_tokens s b at) ≡ walk b.end (in_properties level []) (tree_tokens s b from)

-- what the node's properties come to: the walk stops, or it is behind them
module _ (s : List ℕ) (b : Blocks) (level from : ℕ) where
  pub inside-begins : {behind : ℕ} → placed behind ≡ read_properties b.end [] (tree_tokens s b from) → (seen : Containers) → Inside s b level from seen behind seen
  inside-begins {behind} e seen =
      let o = opened s b level from (placed behind) e refl in
      record { read = o.read; split = o.split; noted = sym (o.noted seen); forward = o.forward; same = o.same }

  pub properties-stop : (e : RefusedAt) → refuse_at 0 (fault_of_refused e) ≡ read_properties b.end [] (tree_tokens s b from)
      → walk b.end (in_properties level []) (tree_tokens s b from) ≡ refused (number_of e.refusal) e.place
  properties-stop e h = walk-properties b.end level [] (tree_tokens s b from) (refuse_at 0 (fault_of_refused e)) h (numbered e.refusal)

pub parent-of : (level : ℕ) → 1 ≤ level → parent_of (level + 1) ≡ in_children level
parent-of level h =
    let a : 1 < level + 1 = omega arith in
    let c : level + 1 - 1 ≡ level = omega arith in
    rw (lt-ltb 1 (level + 1) a, c)

module _ (s : List ℕ) (b : Blocks) (at : ℕ) {t n : ℕ} {c : Cursor} (e : step_at s b.end at ≡ BeginNode t c) (k : NameGood is_node_name s c.at b.end n) where
  after : c.at + (n / 4 + 1) * 4 ≡ after_name c.at k.characters
  unfolding padded
  after = omega (arith, k.long)

  child-tokens : tree_tokens s b at ≡ begin_node t (ended k.characters) ∷ tree_tokens s b (c.at + (n / 4 + 1) * 4)
  child-tokens = tokens-step s b.end (name_in s b) at e ∙ rw (k.text, after)

  child-name : take n (drop c.at s) ≡ k.characters
  child-name = ap (λ (m : ℕ). take m (drop c.at s)) (sym k.long) ∙ text-taken s c.at b.end k.characters k.text

-- one token more
module _ {s : List ℕ} {b : Blocks} {level from : ℕ} {seen : Containers} {at : ℕ} {found : Containers} (g : Inside s b level from seen at found) where
  abbrev T : ℕ → List Token
  T = tree_tokens s b

  abbrev q : State
  q = in_children level

  more : (t : Token) (next : ℕ) → T at ≡ t ∷ T next → T from ≡ (g.read ++ t ∷ []) ++ T next
  more t next e = g.split ∙ ap (λ (ts : List Token). g.read ++ ts) e ∙ sym (append_assoc g.read (t ∷ []) (T next))

  stop-here : (t : Token) (ts : List Token) {v : Verdict} → T at ≡ t ∷ ts → step b.end q t ≡ stop v → walk b.end (in_properties level []) (T from) ≡ v
  stop-here t ts e k = sym g.same ∙ ap (walk b.end q) e ∙ walk-stop b.end q t ts k

  go-on : (t : Token) (ts : List Token) {r : State} → T at ≡ t ∷ ts → step b.end q t ≡ go_on r → walk b.end r ts ≡ walk b.end (in_properties level []) (T from)
  go-on t ts e k = sym (walk-on b.end q t ts k) ∙ sym (ap (walk b.end q) e) ∙ g.same

  by-step : {x : Step} → step_at s b.end at ≡ x → T at ≡ follow s b.end (name_in s b) T x
  by-step e = tokens-step s b.end (name_in s b) at e

  -- the walk goes on past a NOP
  pub inside-skip : {next : ℕ} → PartIs s b at (skip next) → Inside s b level from seen next found
  unfolding step notes
  inside-skip (nops {t} {c} e) =
      let m = nop-moves s b.end at e in
      record {
        read = g.read ++ nop t ∷ [];
        split = more (nop t) c.at (by-step e);
        noted = g.noted ∙ sym (notes-append seen g.read (nop t ∷ []));
        forward = omega (arith, g.forward, m.on);
        same = go-on (nop t) (T c.at) (by-step e) refl;
      }

  -- the node ends, or the walk stops
  pub inside-close : {next : ℕ} → PartIs s b at (close next) → (from ≤ next) × Passed s b (in_properties level []) from seen (parent_of level) next found
  unfolding step notes
  inside-close (closes {t} {c} e) =
      let m = end-node-moves s b.end at e in (
        omega (arith, g.forward, m.on, m.room),
        record {
          read = g.read ++ end_node t ∷ [];
          split = more (end_node t) c.at (by-step e);
          noted = g.noted ∙ sym (notes-append seen g.read (end_node t ∷ []));
          same = sym (go-on (end_node t) (T c.at) (by-step e) refl);
        },
      )

  pub inside-stop : {n p : ℕ} → PartIs s b at (stop_at n p) → walk b.end (in_properties level []) (T from) ≡ refused n p
  unfolding step
  inside-stop (bad_child {t} {c} e k) = stop-here (begin_node t (text_at s c.at b.end)) _ (by-step e) (rw k)
  inside-stop (late {t} {v} {l} {o} {c} e) = stop-here (property t (name_in s b o) (take l (drop v s))) _ (by-step e) refl
  inside-stop (ends {t} e) = stop-here (end t) [] (by-step e) refl
  inside-stop (faults {t} e) = stop-here (fault t) [] (by-step e) refl

  -- a child node begins
  pub inside-deep : {t name n next : ℕ} → PartIs s b at (child t name n next) → most_levels ≤ level → walk b.end (in_properties level []) (T from) ≡ refused 8 t
  unfolding step
  inside-deep (enters {t} {n} {c} e k) h = stop-here (begin_node t (ended k.characters)) _ (child-tokens s b at e k) (rw (k.right, le-ltb level most_levels h))

  module _ (h : level < most_levels) where
    enters-child : {t n : ℕ} {c : Cursor} (e : step_at s b.end at ≡ BeginNode t c) (k : NameGood is_node_name s c.at b.end n)
        → walk b.end (in_properties (level + 1) []) (T (c.at + (n / 4 + 1) * 4)) ≡ walk b.end (in_properties level []) (T from)
    unfolding step
    enters-child {t} e k = go-on (begin_node t (ended k.characters)) _ (child-tokens s b at e k) (rw (k.right, lt-ltb level most_levels h))

    pub inside-child-stops : {t name n next : ℕ} → PartIs s b at (child t name n next) → {m p : ℕ} → walk b.end (in_properties (level + 1) []) (T next) ≡ refused m p
        → walk b.end (in_properties level []) (T from) ≡ refused m p
    inside-child-stops (enters e k) w = sym (enters-child e k) ∙ w

    pub inside-child : {t name n next : ℕ} → PartIs s b at (child t name n next) → 1 ≤ level → {now deeper : Containers} → now ≡ note found t (take n (drop name s))
        → {last : ℕ} → next ≤ last → Passed s b (in_properties (level + 1) []) next now (parent_of (level + 1)) last deeper → Inside s b level from seen last deeper
    unfolding notes
    inside-child (enters {t} {n} {c} e k) l w {last} f inner =
        let m = begin-moves s b.end at e in
        let u = begin_node t (ended k.characters) in
        let next : ℕ = c.at + (n / 4 + 1) * 4 in
        record {
          read = (g.read ++ u ∷ []) ++ inner.read;
          split = more u next (child-tokens s b at e k) ∙ ap (λ (ts : List Token). (g.read ++ u ∷ []) ++ ts) inner.split ∙ sym (append_assoc (g.read ++ u ∷ []) inner.read (T last));
          noted =
              inner.noted
              ∙ ap (λ (z : Containers). notes z inner.read) (w ∙ ap (note found t) (child-name s b at e k) ∙ ap (λ (z : Containers). note z t k.characters) g.noted ∙ sym (notes-append seen g.read (u ∷ [])))
              ∙ sym (notes-append seen (g.read ++ u ∷ []) inner.read);
          forward = omega (arith, g.forward, m.on);
          same = ap (λ (r : State). walk b.end r (T last)) (sym (parent-of level l)) ∙ sym inner.same ∙ enters-child e k;
        }

-- how far a NOP and a child's begin token lead
pub skip-moves : {s : List ℕ} {b : Blocks} {at next : ℕ} → PartIs s b at (skip next) → (at + 4 ≤ b.end) × (at + 4 ≤ next)
skip-moves {s} {b} {at} (nops e) = let m = nop-moves s b.end at e in (m.room, m.on)

pub child-moves : {s : List ℕ} {b : Blocks} {at t name n next : ℕ} → PartIs s b at (child t name n next) → (at + 4 ≤ b.end) × (at + 4 ≤ next) × (name + n ≤ length s)
child-moves {s} {b} {at} (enters e k) = let m = begin-moves s b.end at e in (m.room, omega (arith, m.on), omega (arith, k.in_bytes))

-- what the call for a child answers, one level deeper
module _ (levels : ℕ) (some : 0 < levels) (few : levels < most_levels) (s : List ℕ) (b : Blocks) (next : ℕ) (now : Containers) where
  deeper : most_levels - (levels - 1) ≡ most_levels - levels + 1
  deeper = omega arith

  pub inner-past : (n : NodeRead) → Reads s b (in_properties (most_levels - (levels - 1)) []) next now (parent_of (most_levels - (levels - 1))) (Ok n)
      → (next ≤ n.next.at) × Passed s b (in_properties (most_levels - levels + 1) []) next now (parent_of (most_levels - levels + 1)) n.next.at n.found
  inner-past n r = subst (λ (l : ℕ). (next ≤ n.next.at) × Passed s b (in_properties l []) next now (parent_of l) n.next.at n.found) deeper r

  pub inner-stops : (e : RefusedAt) → Reads s b (in_properties (most_levels - (levels - 1)) []) next now (parent_of (most_levels - (levels - 1))) (Err e)
      → walk b.end (in_properties (most_levels - levels + 1) []) (tree_tokens s b next) ≡ refused (number_of e.refusal) e.place
  inner-stops e r = subst (λ (l : ℕ). walk b.end (in_properties l []) (tree_tokens s b next) ≡ refused (number_of e.refusal) e.place) deeper r

-- a refusal that is passed on
pub stops-with : (s : List ℕ) (b : Blocks) (q : State) (from : ℕ) (seen : Containers) (r : State) {x : Result NodeRead RefusedAt} {e : RefusedAt} → x ≡ Err e
    → walk b.end q (tree_tokens s b from) ≡ refused (number_of e.refusal) e.place → Reads s b q from seen r x
stops-with s b q from seen r e w = subst (Reads s b q from seen r) (sym e) w
