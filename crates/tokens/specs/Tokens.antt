-- A block of tokens as a list with offsets: the form in which everything later speaks of a tree.
use Rattle.std.specs.Prelude.{ℕ, zero, suc, ◌+◌, ◌-◌, List, [], ◌∷◌, length, take, drop}
use Rattle.strings.specs.Strings.{Text, ended, unended, text_at}
use Rattle.tokens.specs.declared.Step.TheVariants.{BeginNode, EndNode, Property, Nop, End, Fault}
use Rattle.tokens.specs.Steps.{padded, step_at}

-- a token with its offset; `fault` where no token stands: an unknown one, one cut short, or no cell left
pub data Token : Type 0 where
  begin_node : (at : ℕ) (name : Text) → Token
  end_node : (at : ℕ) → Token
  property : (at : ℕ) (name : Text) (value : List ℕ) → Token
  nop : (at : ℕ) → Token
  end : (at : ℕ) → Token
  fault : (at : ℕ) → Token

-- where what follows a name begins, if the name begins at a place
abbrev pub after_name : ℕ → List ℕ → ℕ
after_name from name = from + padded (length name + 1)

-- what follows a begin token whose name begins at a place: nothing where the name does not end
abbrev pub after_begin : (ℕ → List Token) → ℕ → Text → List Token
after_begin rest from (ended name) = rest (after_name from name)
after_begin rest from unended = []

-- the tokens from a place on, in a block of s that ends at `stop`; `names` gives the name at an offset of the strings block. The list
-- ends at an end token, at a fault, or at a begin token whose name does not end. The first argument bounds its length.
unfoldable pub tokens_from : ℕ → List ℕ → ℕ → (ℕ → Text) → ℕ → List Token
tokens_from zero s stop names at = []
tokens_from (suc most) s stop names at =
    elim (step_at s stop at) [
      | BeginNode t name ↦
          begin_node t (text_at s name.at stop) ∷ after_begin (tokens_from most s stop names) name.at (text_at s name.at stop)
      | EndNode t next ↦ end_node t ∷ tokens_from most s stop names next.at
      | Property t value length name next ↦
          property t (names name) (take length (drop value s)) ∷ tokens_from most s stop names next.at
      | Nop t next ↦ nop t ∷ tokens_from most s stop names next.at
      | End t ↦ end t ∷ []
      | Fault t ↦ fault t ∷ []
    ]

-- each token takes four bytes or more, so this bound never shows
unfoldable pub tokens : List ℕ → ℕ → (ℕ → Text) → ℕ → List Token
tokens s stop names at = tokens_from (suc (stop - at)) s stop names at
