-- Where the tokens behind a begin token begin, by where its name ends. Assumes nothing.
use mathlib.Core.Path.{◌≡◌, refl, sym, ap, ◌∙◌}
use mathlib.Core.List.{List}
use Prim.Native.Nat.{ℕ, ◌+◌, ◌-◌, ◌*◌, ◌/◌, ◌<◌}
use native.Mathlib.Omega.{arith}
use lib.ListN.{length}
use Rattle.std.specs.Prelude.{Option, None, Some, unwrap_or}
use Rattle.strings.specs.Strings.{Text, ended, unended, text_at, ending_of}
use Rattle.strings.proofs.Strings.{text-within}
use Rattle.tokens.specs.Steps.{padded}
use Rattle.nodes.specs.Places.{behind_of, next_behind}

-- a name whose zero byte stands at a place
pub record NameEnds (s : List ℕ) (from stop place : ℕ) : Type 0 where
  pub name : List ℕ
  pub text : text_at s from stop ≡ ended name
  pub long : place ≡ from + length name
  pub within : place < length s

module _ (s : List ℕ) (from stop : ℕ) where
  pub name-ends : {place : ℕ} → ending_of from (text_at s from stop) ≡ Some place → NameEnds s from stop place
  unfolding ending_of
  name-ends {place} e = go (text_at s from stop) refl e
    where
      go : (t : Text) → text_at s from stop ≡ t → ending_of from t ≡ Some place → NameEnds s from stop place
      go (ended cs) q e =
          let l : place ≡ from + length cs = cc in
          record { name = cs; text = q; long = l; within = omega (arith, text-within s from stop cs q) }
      go unended q e = cc

  pub behind-name : {place : ℕ} → ending_of from (text_at s from stop) ≡ Some place
      → Some (from + ((place - from) / 4 + 1) * 4) ≡ behind_of from (text_at s from stop)
  unfolding padded behind_of
  behind-name {place} e =
      let g = name-ends e in
      let k : from + ((place - from) / 4 + 1) * 4 ≡ from + (length g.name + 1 + 3) / 4 * 4 = omega (arith, g.long) in
      ap (λ (x : ℕ). Some x) k ∙ sym (ap (behind_of from) g.text)

  pub behind-unended : ending_of from (text_at s from stop) ≡ None → None ≡ behind_of from (text_at s from stop)
  unfolding ending_of behind_of
  behind-unended e = go (text_at s from stop) e
    where
      go : (t : Text) → ending_of from t ≡ None → None ≡ behind_of from t
      go (ended cs) e = cc
      go unended e = refl

-- where to go on, by where the contents begin
pub next-at : (from stop : ℕ) (t : Text) {at : ℕ} → behind_of from t ≡ Some at → at ≡ next_behind from stop t
unfolding behind_of
next-at from stop (ended name) e = cc
next-at from stop unended e = cc

pub next-by : (from stop : ℕ) (t : Text) {at : Option ℕ} → at ≡ behind_of from t → unwrap_or at stop ≡ next_behind from stop t
unfolding behind_of
next-by from stop (ended name) e = rw e
next-by from stop unended e = rw e

-- the contents of a node whose name ends are somewhere
pub ended-somewhere : (from : ℕ) {t : Text} {cs : List ℕ} → t ≡ ended cs → behind_of from t ≡ None → ⊥
unfolding behind_of
ended-somewhere from {cs = cs} q e = let k = sym (ap (behind_of from) q) ∙ e in cc
