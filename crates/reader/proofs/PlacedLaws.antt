-- An outcome whose refusal gets a place, by what `map_err` ensures. Assumes nothing.
use mathlib.Core.Path.{◌≡◌, refl, sym, ◌∙◌}
use Rattle.std.specs.Prelude.{Result, Ok, Err}
use Rattle.std.specs.Result.{MatchResult, IsErrAnd}
use Rattle.std.proofs.lemmas.Result.{err_from_is_err_and}

module _ {A E F : Type 0} (Q : E → F → Type 0) where
  pub was_ok : (r : Result A E) (m : Result A F) → MatchResult r (λ x. m ≡ Ok x) (λ e. IsErrAnd m (Q e)) → {x : A} → m ≡ Ok x → r ≡ Ok x
  was_ok (Ok y) m h k = let q = sym h ∙ k in cc
  was_ok (Err e) m h k = let p = err_from_is_err_and m h in let q = sym p.1 ∙ k in cc

  pub was_err : (r : Result A E) (m : Result A F) → MatchResult r (λ x. m ≡ Ok x) (λ e. IsErrAnd m (Q e)) → {f : F} → m ≡ Err f → (e : E) × (r ≡ Err e) × Q e f
  was_err (Ok y) m h k = let q = sym h ∙ k in cc
  was_err (Err e) m h {f} k =
      let p = err_from_is_err_and m h in
      let q : p.0 ≡ f = let o = sym p.1 ∙ k in cc in
      (e, refl, rw (← q) p.2)
