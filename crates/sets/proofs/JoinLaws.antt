-- Two sets joined word by word. Assumes nothing.
use Prim.Native.Nat.{ℕ, ◌/◌, ◌%◌, ◌<◌}
use mathlib.Core.Path.{◌≡◌, ap, ◌∙◌}
use mathlib.Core.Bool.{◌&&◌, ◌||◌}
use mathlib.Core.List.{List}
use native.Mathlib.Omega.{arith}
use lib.Bits.{bit_and, bit_or}
use lib.ListN.{get_or}
use Rattle.positions.specs.Bits.{bit}
use Rattle.positions.specs.Sets.{set_words, has, common, either}
use Rattle.positions.proofs.BitLaws.{bit-and, bit-or}
use Rattle.positions.proofs.SetLaws.{WordList}
use Rattle.positions.proofs.MemberLaws.{set-of-is}

module _ (a b t : List ℕ) (g : WordList set_words t) where
  pub common-words : ((w : ℕ) → w < set_words → get_or t w 0 ≡ bit_and (get_or a w 0) (get_or b w 0)) → t ≡ common a b
  unfolding common has
  common-words f =
      set-of-is t (λ j. has a j && has b j) g
      (λ j l. ap (λ (x : ℕ). bit x (j % 64)) (f (j / 64) (omega arith)) ∙ bit-and (get_or a (j / 64) 0) (get_or b (j / 64) 0) (j % 64))

  pub either-words : ((w : ℕ) → w < set_words → get_or t w 0 ≡ bit_or (get_or a w 0) (get_or b w 0)) → t ≡ either a b
  unfolding either has
  either-words f =
      set-of-is t (λ j. has a j || has b j) g
      (λ j l. ap (λ (x : ℕ). bit x (j % 64)) (f (j / 64) (omega arith)) ∙ bit-or (get_or a (j / 64) 0) (get_or b (j / 64) 0) (j % 64))
