-- Two runs of bytes that are the same from a place to another are read the same there. Assumes nothing.
use mathlib.Core.Path.{◌≡◌, refl, sym, ap, fun_ext, ◌∙◌}
use mathlib.Core.List.{List, [], ◌∷◌}
use Prim.Native.Nat.{ℕ, zero, suc, ◌+◌, ◌-◌, ◌<◌, ◌≤◌}
use native.Mathlib.Omega.{arith}
use native.Mathlib.Decide.{dec_le}
use native.Mathlib.Nat.{sub-zero, zero-sub, suc-sub-suc}
use lib.ListN.{get_or, take, drop}
use lib.Seq.{slice, take-nil, take-take, drop-drop, get_or-take, get_or-drop}
use Rattle.cells.specs.Cells.{byte_at, cell_at}
use Rattle.strings.specs.Strings.{Text, ended, unended, text_of, text_at}
use Rattle.header.specs.declared.Blocks.{Blocks}
use Rattle.tokens.specs.declared.Step.{Step}
use Rattle.tokens.specs.Steps.{padded, property_at, step_at}
use Rattle.tokens.specs.Tokens.{Token, begin_node, end_node, nop, after_name, after_begin, tokens}
use Rattle.tokens.proofs.Stepping.{step-none, property-short}
use Rattle.tokens.proofs.TokenList.{Is, begins, ends, holds, skips, stops, cut, unknown, none, view, follow, tokens-step}
use Rattle.properties.specs.Properties.{name_at}
use Rattle.walk.specs.Walk.{name_in, tree_tokens}

slice_taken : {A : Type 0} (f g : ℕ) (l : List A) → slice f g l ≡ take (g - f) (drop f l)
slice_taken zero g l = rw (sub-zero g)
slice_taken (suc f) zero l = rw (zero-sub (suc f))
slice_taken (suc f) (suc g) [] = sym (take-nil (suc g - suc f))
slice_taken (suc f) (suc g) (x ∷ xs) = slice_taken f g xs ∙ rw (suc-sub-suc g f)

module _ (s t : List ℕ) (from to : ℕ) (same : slice from to s ≡ slice from to t) where
  -- a part of a part
  pub part-agrees : (f g : ℕ) → from ≤ f → g ≤ to → slice f g s ≡ slice f g t
  part-agrees f g h k = within s ∙ ap (λ (l : List ℕ). take (g - f) (drop (f - from) l)) same ∙ sym (within t)
    where
      e : from + (f - from) ≡ f
      e = omega arith

      within : (l : List ℕ) → slice f g l ≡ take (g - f) (drop (f - from) (slice from to l))
      within l =
          ap (drop f) (sym (take-take g to l k))
          ∙ slice_taken f g (take to l)
          ∙ ap (take (g - f)) (ap (λ (n : ℕ). drop n (take to l)) (sym e) ∙ sym (drop-drop (f - from) from (take to l)))

  byte-agrees : (i : ℕ) → from ≤ i → i < to → byte_at s i ≡ byte_at t i
  byte-agrees i h k = within s ∙ ap (λ (l : List ℕ). get_or l (i - from) 0) same ∙ sym (within t)
    where
      e : from + (i - from) ≡ i
      e = omega arith

      within : (l : List ℕ) → byte_at l i ≡ get_or (slice from to l) (i - from) 0
      within l = sym (get_or-drop from (take to l) (i - from) 0 ∙ ap (λ (n : ℕ). get_or (take to l) n 0) e ∙ get_or-take to l i 0 k)

  pub cell-agrees : (at : ℕ) → from ≤ at → at + 4 ≤ to → cell_at s at ≡ cell_at t at
  unfolding cell_at
  cell-agrees at h k =
      rw (
        byte-agrees at h (omega arith),
        byte-agrees (at + 1) (omega arith) (omega arith),
        byte-agrees (at + 2) (omega arith) (omega arith),
        byte-agrees (at + 3) (omega arith) (omega arith),
      )

  pub text-agrees : (at limit : ℕ) → from ≤ at → limit ≤ to → text_at s at limit ≡ text_at t at limit
  unfolding text_at
  text-agrees at limit h k = ap text_of (sym (slice_taken at limit s) ∙ part-agrees at limit h k ∙ slice_taken at limit t)

  pub value-agrees : (at size : ℕ) → from ≤ at → at + size ≤ to → take size (drop at s) ≡ take size (drop at t)
  value-agrees at size h k = taken s ∙ part-agrees at (at + size) h k ∙ sym (taken t)
    where
      taken : (l : List ℕ) → take size (drop at l) ≡ slice at (at + size) l
      taken l = let e : at + size - at ≡ size = omega arith in sym (slice_taken at (at + size) l ∙ rw e)

  module _ (stop : ℕ) (inside : stop ≤ to) where
    property-agrees : (at : ℕ) → from ≤ at → property_at s stop at ≡ property_at t stop at
    unfolding property_at
    property-agrees at h = go (dec_le (at + 12) stop)
      where
        go : Dec (at + 12 ≤ stop) → property_at s stop at ≡ property_at t stop at
        go (yes r) = rw (cell-agrees (at + 4) (omega arith) (omega arith), cell-agrees (at + 8) (omega arith) (omega arith))
        go (no r) = property-short s stop at (omega arith) ∙ sym (property-short t stop at (omega arith))

    pub step-agrees : (at : ℕ) → from ≤ at → step_at s stop at ≡ step_at t stop at
    unfolding step_at
    step-agrees at h = go (dec_le (at + 4) stop)
      where
        go : Dec (at + 4 ≤ stop) → step_at s stop at ≡ step_at t stop at
        go (yes r) = rw (cell-agrees at h (omega arith), property-agrees at h)
        go (no r) = step-none s stop at (omega arith) ∙ sym (step-none t stop at (omega arith))

    module _ (names : ℕ → Text) where
      -- the tokens from a place, where those further on are the same
      follow-agrees : (at : ℕ) → from ≤ at → ((next : ℕ) → at + 4 ≤ next → at + 4 ≤ stop → tokens s stop names next ≡ tokens t stop names next)
          → {x : Step} → Is s stop at x → follow s stop names (tokens s stop names) x ≡ follow t stop names (tokens t stop names) x
      unfolding padded
      follow-agrees at h rest (begins r e) = rw (text-agrees (at + 4) stop (omega arith) inside) (ap (λ (ts : List Token). begin_node at (text_at t (at + 4) stop) ∷ ts) (go (text_at t (at + 4) stop)))
        where
          go : (name : Text) → after_begin (tokens s stop names) (at + 4) name ≡ after_begin (tokens t stop names) (at + 4) name
          go (ended cs) = rest (after_name (at + 4) cs) (omega arith) r
          go unended = refl
      follow-agrees at h rest (ends r e) = ap (λ (ts : List Token). end_node at ∷ ts) (rest (at + 4) (omega arith) r)
      follow-agrees at h rest (holds r e) =
          let size = cell_at s (at + 4) in
          rw (value-agrees (at + 12) size (omega arith) (omega arith), rest (at + 12 + padded size) (omega arith) (omega arith))
      follow-agrees at h rest (skips r e) = ap (λ (ts : List Token). nop at ∷ ts) (rest (at + 4) (omega arith) r)
      follow-agrees at h rest (stops r e) = refl
      follow-agrees at h rest (cut r e k) = refl
      follow-agrees at h rest (unknown r n1 n2 n3 n4 n9) = refl
      follow-agrees at h rest (none r) = refl

      agree-within : (n at : ℕ) → stop - at < n → from ≤ at → tokens s stop names at ≡ tokens t stop names at
      agree-within zero at l h = absurd (omega arith)
      agree-within (suc n) at l h =
          tokens-step s stop names at refl
          ∙ follow-agrees at h (λ next k r. agree-within n next (omega arith) (omega arith)) (view s stop at)
          ∙ sym (tokens-step t stop names at (sym (step-agrees at h)))

      pub tokens-agree : (at : ℕ) → from ≤ at → tokens s stop names at ≡ tokens t stop names at
      tokens-agree at h = agree-within (suc (stop - at)) at (omega arith) h

-- the tokens of a tree: the bytes of its structure block from a place on, and those of its strings block, decide them
pub tree-tokens-agree : (s t : List ℕ) (b : Blocks) (at : ℕ) → slice at b.end s ≡ slice at b.end t → slice b.strings b.limit s ≡ slice b.strings b.limit t
    → tree_tokens s b at ≡ tree_tokens t b at
unfolding name_at
tree-tokens-agree s t b at structure strings =
    tokens-agree s t at b.end structure b.end (omega arith) (name_in s b) at (omega arith)
    ∙ ap (λ (names : ℕ → Text). tokens t b.end names at) (fun_ext (λ offset. text-agrees s t b.strings b.limit strings (b.strings + offset) b.limit (omega arith) (omega arith)))

-- so do the bytes below a bound
pub tree-tokens-below : (s t : List ℕ) (n : ℕ) → take n s ≡ take n t → (b : Blocks) → b.end ≤ n → b.limit ≤ n → (at : ℕ) → tree_tokens s b at ≡ tree_tokens t b at
tree-tokens-below s t n same b e l at =
    tree-tokens-agree s t b at (part-agrees s t 0 n same at b.end (omega arith) e) (part-agrees s t 0 n same b.strings b.limit (omega arith) l)
