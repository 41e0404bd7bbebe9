-- The carrier of a phandle is the position of a feature that carries it. Assumes nothing.
use mathlib.Core.Path.{◌≡◌, refl, sym, ap, subst, ◌∙◌}
use mathlib.Core.Bool.{Bool, true, false, false≢true}
use mathlib.Core.List.{List, [], ◌∷◌, ◌++◌}
use Prim.Native.Nat.{ℕ, zero, suc, ◌<◌}
use native.Mathlib.Omega.{arith}
use lib.ListN.{length, get_or, take, drop}
use lib.Seq.{split_at, get_or-take, length-take-le}
use borrow.Author.Tests.{eqb-true, eq-eqb}
use Rattle.std.specs.Prelude.{Option, None, Some}
use Rattle.strings.specs.Strings.{unended}
use Rattle.names.specs.Names.{either}
use Rattle.positions.specs.Below.{is_somewhere}
use Rattle.positions.proofs.BelowLaws.{no_way}
use Rattle.positions.proofs.FirstLaws.{IsFirst, first-that}
use Rattle.record.specs.declared.Property.TheVariants.{Phandle}
use Rattle.nodes.specs.Nodes.{Node, node, node_at}
use Rattle.nodes.specs.Values.{Value, missing, value, value_of, number}
use Rattle.reading.specs.Features.{some, is_carried, carries, is_repeated, cell_of, cell_in}
use Rattle.reading.specs.Dependencies.{carries_at, carrier}

-- the node at an index
abbrev nothing : Node
nothing = node 0 unended []

node-at : (ns : List Node) (i : ℕ) → get_or ns i nothing ≡ node_at ns i
unfolding node_at
node-at [] i = refl
node-at (n ∷ ns) zero = refl
node-at (n ∷ ns) (suc i) = node-at ns i

pub node-split : (ns : List Node) (i : ℕ) → i < length ns → ns ≡ take i ns ++ node_at ns i ∷ drop (suc i) ns
node-split ns i h = split_at ns i nothing h ∙ ap (λ (n : Node). take i ns ++ n ∷ drop (suc i) ns) (node-at ns i)

pub node-before : (ns : List Node) (i k : ℕ) → k < i → node_at (take i ns) k ≡ node_at ns k
node-before ns i k h = sym (node-at (take i ns) k) ∙ get_or-take i ns k nothing h ∙ node-at ns k

-- a phandle is carried where it is the cell that is read
carried-cell : (p : ℕ) (v : Value) → is_carried p v ≡ true → cell_of v ≡ Some p
carried-cell p missing h = absurd (false≢true h)
carried-cell p (value bs) h = ap Some (eqb-true (number (value bs)) p h)

cell-carried : (p : ℕ) (v : Value) → cell_of v ≡ Some p → is_carried p v ≡ true
cell-carried p missing h = let z : ◌≡◌ {A = ℕ} 0 1 = cc in absurd (omega arith)
cell-carried p (value bs) h = let e : number (value bs) ≡ p = cc in eq-eqb (number (value bs)) p e

pub carries-phandle : (p : ℕ) (n : Node) → carries p n ≡ true → cell_in n Phandle ≡ Some p
unfolding cell_in
carries-phandle p n h = carried-cell p (value_of n "phandle") h

pub phandle-carries : (p : ℕ) (n : Node) → cell_in n Phandle ≡ Some p → carries p n ≡ true
unfolding cell_in
phandle-carries p n h = cell-carried p (value_of n "phandle") h

-- the carrier among features
pub carrier-carries : (features : List Node) (p : ℕ) {k : ℕ} → carrier features p ≡ Some k → (k < length features) × (carries p (node_at features k) ≡ true)
carrier-carries features p e =
    let f = subst (IsFirst (length features) (carries_at features p)) e (first-that (length features) (carries_at features p)) in (f.0, f.1)

-- one of some nodes: none of them where it is false
pub some-none : (q : Node → Bool) (ns : List Node) (k : ℕ) → k < length ns → some q ns ≡ false → q (node_at ns k) ≡ false
unfolding some node_at
some-none q [] k l h = absurd (omega arith)
some-none q (n ∷ ns) zero l h = go (q n) h
  where
    go : (b : Bool) → either b (some q ns) ≡ false → b ≡ false
    go true e = absurd (false≢true (sym e))
    go false e = refl
some-none q (n ∷ ns) (suc k) l h = go (q n) h (some-none q ns k (omega arith))
  where
    go : (b : Bool) → either b (some q ns) ≡ false → (some q ns ≡ false → q (node_at ns k) ≡ false) → q (node_at ns k) ≡ false
    go true e f = absurd (false≢true (sym e))
    go false e f = f e

some_one : (q : Node → Bool) (ns : List Node) (k : ℕ) → k < length ns → q (node_at ns k) ≡ true → some q ns ≡ true
some_one q ns k l h = go (some q ns) refl
  where
    go : (b : Bool) → some q ns ≡ b → b ≡ true
    go true e = refl
    go false e = no_way (q (node_at ns k)) h (some-none q ns k l e)

none-some : (q : Node → Bool) (ns : List Node) → ((k : ℕ) → k < length ns → q (node_at ns k) ≡ false) → some q ns ≡ false
unfolding some node_at
none-some q [] f = refl
none-some q (n ∷ ns) f = rw (f 0 (omega arith)) (none-some q ns (λ k l. f (suc k) (omega arith)))

-- one of them carries a phandle where its carrier is somewhere
pub some-carrier : (p : ℕ) (ns : List Node) → some (carries p) ns ≡ is_somewhere (carrier ns p)
some-carrier p ns = go (carrier ns p) (first-that (length ns) (carries_at ns p))
  where
    go : (x : Option ℕ) → IsFirst (length ns) (carries_at ns p) x → some (carries p) ns ≡ is_somewhere x
    go None f = none-some (carries p) ns f
    go (Some i) f = some_one (carries p) ns i f.0 f.1

repeated-none : (p : ℕ) (before : List Node) (v : Value) (k : ℕ) → k < length before → is_repeated before v ≡ false → cell_of v ≡ Some p → carries p (node_at before k) ≡ false
repeated-none p before missing k l h e = let z : ◌≡◌ {A = ℕ} 0 1 = cc in absurd (omega arith)
repeated-none p before (value bs) k l h e =
    let z : number (value bs) ≡ p = cc in
    subst (λ (x : ℕ). carries x (node_at before k) ≡ false) z (some-none (carries (number (value bs))) before k l h)

-- a node that repeats no phandle of those before it carries another than they
pub not-twice : (p : ℕ) (ns : List Node) (i k : ℕ) → k < i → i < length ns → is_repeated (take i ns) (value_of (node_at ns i) "phandle") ≡ false
    → carries p (node_at ns i) ≡ true → carries p (node_at ns k) ≡ true → ⊥
not-twice p ns i k h l r c d =
    let t : k < length (take i ns) = omega (arith, length-take-le i ns (omega arith)) in
    let e = repeated-none p (take i ns) (value_of (node_at ns i) "phandle") k t r (carried-cell p (value_of (node_at ns i) "phandle") c) in
    false≢true (sym e ∙ ap (carries p) (node-before ns i k h) ∙ d)
