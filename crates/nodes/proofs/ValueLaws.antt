-- Where the value of a property lies, by the token at a place. Assumes nothing.
use mathlib.Core.Path.{◌≡◌, refl, sym, ap, ◌∙◌}
use mathlib.Core.Bool.{Bool, true, false}
use mathlib.Core.List.{List, [], ◌∷◌}
use Prim.Native.Nat.{ℕ, ◌+◌, ◌<◌, ◌≤◌}
use native.Mathlib.Omega.{arith}
use lib.ListN.{length, take, drop, length-take, length-drop}
use borrow.Author.Tests.{le-leb, lt-leb}
use Rattle.strings.specs.Strings.{Text, ended}
use Rattle.header.specs.declared.Blocks.{Blocks}
use Rattle.names.specs.Names.{same_text}
use Rattle.tokens.specs.declared.Cursor.{Cursor}
use Rattle.tokens.specs.declared.Step.{Step}
use Rattle.tokens.specs.declared.Step.TheVariants.{BeginNode, EndNode, Property, Nop, End, Fault}
use Rattle.tokens.specs.Steps.{padded, step_at}
use Rattle.tokens.specs.Tokens.{fault, tokens}
use Rattle.tokens.proofs.TokenList.{tokens-step, follow, view, Is, begins, ends, holds, skips, stops, cut, unknown, none, seen}
use Rattle.walk.specs.Walk.{tree_tokens}
use Rattle.std.specs.Prelude.{None, Some}
use Rattle.nodes.specs.Places.{tokens_in, extent, held_in}

-- a run of bytes that lies in a list is as long as it says
pub length_run : (s : List ℕ) (from size : ℕ) → from + size ≤ length s → length (take size (drop from s)) ≡ size
length_run s from size h = omega (arith, length-take size (drop from s), length-drop from s)

held-is : {s : List ℕ} {stop at p v l o : ℕ} {c : Cursor} → Is s stop at (Property p v l o c) → stop ≤ length s
    → Some (extent v l) ≡ Some (extent (p + 12) (length (take l (drop v s))))
unfolding padded
held-is {s} {stop} {at} {l = l} (holds r e) h = ap (λ (k : ℕ). Some (extent (at + 12) k)) (sym (length_run s (at + 12) l (omega arith)))

module _ (s : List ℕ) (stop : ℕ) (names : ℕ → Text) (at : ℕ) where
  -- no token stands past the end of the block
  pub tokens-past : stop ≤ at → tokens s stop names at ≡ fault stop ∷ []
  tokens-past h = rw (tokens-step s stop names at refl) (go (view s stop at))
    where
      go : {x : Step} → Is s stop at x → follow s stop names (tokens s stop names) x ≡ fault stop ∷ []
      go (begins r e) = absurd (omega arith)
      go (ends r e) = absurd (omega arith)
      go (holds r e) = absurd (omega arith)
      go (skips r e) = absurd (omega arith)
      go (stops r e) = absurd (omega arith)
      go (cut r e k) = absurd (omega arith)
      go (unknown r a b c d e) = absurd (omega arith)
      go (none r) = refl

  module _ (n : List ℕ) where
    pub held-past : stop ≤ at → held_in n (tokens s stop names at) ≡ None
    unfolding held_in
    held-past h = rw (tokens-past h)

    pub held-nop : {p : ℕ} {c : Cursor} → step_at s stop at ≡ Nop p c → held_in n (tokens s stop names at) ≡ held_in n (tokens s stop names c.at)
    unfolding held_in
    held-nop e = rw (tokens-step s stop names at e)

    -- neither a property nor a no-operation
    pub held_none : (x : Step) → x ≡ step_at s stop at → ((p v l o : ℕ) (c : Cursor) → x ≡ Property p v l o c → ⊥) → ((p : ℕ) (c : Cursor) → x ≡ Nop p c → ⊥)
        → held_in n (tokens s stop names at) ≡ None
    unfolding held_in
    held_none (BeginNode p c) e h k = rw (tokens-step s stop names at (sym e))
    held_none (EndNode p c) e h k = rw (tokens-step s stop names at (sym e))
    held_none (Property p v l o c) e h k = absurd (h p v l o c refl)
    held_none (Nop p c) e h k = absurd (k p c refl)
    held_none (End p) e h k = rw (tokens-step s stop names at (sym e))
    held_none (Fault p) e h k = rw (tokens-step s stop names at (sym e))

    module _ {p v l o : ℕ} {c : Cursor} (e : step_at s stop at ≡ Property p v l o c) {r : Bool} (k : r ≡ same_text (names o) (ended n)) where
      pub held-other : r ≡ false → held_in n (tokens s stop names at) ≡ held_in n (tokens s stop names c.at)
      unfolding held_in
      held-other z = rw (tokens-step s stop names at e, ← k, z)

      pub held-here : r ≡ true → stop ≤ length s → Some (extent v l) ≡ held_in n (tokens s stop names at)
      unfolding held_in
      held-here z h = held-is (seen s stop at e) h ∙ rw (tokens-step s stop names at e, ← k, z)

-- the tokens of blocks that lie in a tree, and of those that do not
module _ (tree : List ℕ) (b : Blocks) (at : ℕ) where
  pub tokens-in : b.end ≤ length tree → tokens_in tree b at ≡ tree_tokens tree b at
  unfolding tokens_in
  tokens-in h = rw (le-leb b.end (length tree) h)

  pub held-outside : (n : List ℕ) → length tree < b.end → None ≡ held_in n (tokens_in tree b at)
  unfolding tokens_in held_in
  held-outside n h = rw (lt-leb b.end (length tree) h)
