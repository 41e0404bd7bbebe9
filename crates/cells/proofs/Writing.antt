-- What a call writes into a lent buffer, and that all other bytes stay. Assumes nothing.
use mathlib.Core.Path.{◌≡◌, refl, sym, ap, ap₂, ◌∙◌}
use mathlib.Core.Bool.{Bool, true, false}
use mathlib.Core.List.{List, [], ◌∷◌, ◌++◌, append_assoc}
use Prim.Native.Nat.{ℕ, ◌+◌, ◌≤◌}
use native.Mathlib.Omega.{arith}
use lib.Dec.{T, leb, leb→le}
use lib.ListN.{length, take, drop, length-append, take-append-drop}
use lib.Seq.{take_at, drop_at, drop-drop, length-take-le}
use Rattle.refusal.specs.Refusal.{answer, refuse}
use Rattle.refusal.specs.Checks.{Check, first_fault}
use Rattle.refusal.proofs.Checks.{Stops, Passes, stops, passes}
use Rattle.cells.specs.Buffer.{Stays, Writes, written, after_writing}
use Rattle.cells.proofs.Buffer.{length-written}
use Rattle.cells.proofs.Standing.{stands-take, stands-written}

-- bytes that fit: `written` is the buffer in which they stand and all others stay
module _ (old : List ℕ) (at : ℕ) (new : List ℕ) where
  pub written-writes : at + length new ≤ length old → Writes old at new (written old at new)
  unfolding written
  written-writes h =
      let rest = drop (at + length new) old in
      let front : length (take at old) ≡ at = length-take-le at old (omega arith) in
      let long : length (take at old ++ new) ≡ at + length new = omega (arith, length-append (take at old) new) in
      record {
        stands = stands-written old at new (omega arith);
        stays = record {
          size = length-written old at new h;
          front = take_at (take at old) (new ++ rest) at front;
          later = ap (drop (at + length new)) (sym (append_assoc (take at old) new rest)) ∙ drop_at (take at old ++ new) rest (at + length new) long;
        };
      }

  pub writes-only : {after : List ℕ} → Writes old at new after → after ≡ written old at new
  unfolding written
  writes-only {after} w =
      let part : drop at after ≡ new ++ drop (at + length new) old
      = sym (take-append-drop (length new) (drop at after))
      ∙ ap₂ (λ (a b : List ℕ). a ++ b) (stands-take after at new w.stands) (drop-drop (length new) at after ∙ w.stays.later) in
      sym (take-append-drop at after) ∙ ap₂ (λ (a b : List ℕ). a ++ b) w.stays.front part

-- a call is refused by one of its checks, or passes them all
module _ (cs : List (Check ℕ)) (old : List ℕ) (at : ℕ) (new : List ℕ) where
  pub refused-leaves : (k : ℕ) → Stops k cs → after_writing cs old at new ≡ old
  unfolding after_writing
  refused-leaves k h = stops (λ (n : ℕ). old) 0 k cs (written old at new) h

  pub passed-writes : Passes cs → after_writing cs old at new ≡ written old at new
  unfolding after_writing
  passed-writes h = passes (λ (n : ℕ). old) cs (written old at new) h

-- what is as long as a buffer at most fits at its front
pub front_fits : (new : List ℕ) (room : ℕ) → T (leb (length new) room) → 0 + length new ≤ room
front_fits new room h = let l = leb→le (length new) room h in omega arith

-- where nothing is written, all bytes stay
pub nothing-stays : (old : List ℕ) (at many : ℕ) → Stays old at many old
nothing-stays old at many = record { size = refl; front = refl; later = refl }

-- a call that writes, and answers how many bytes it wrote: its checks see to it that they fit
module _ (old : List ℕ) (at : ℕ) (new : List ℕ) where
  pub call_stays : (cs : List (Check ℕ)) → (Passes cs → at + length new ≤ length old)
      → Stays old at (first_fault (refuse 0) cs (answer (length new))).value (after_writing cs old at new)
  unfolding after_writing first_fault
  call_stays [] fits = (written-writes old at new (fits tt)).stays
  call_stays (c ∷ cs) fits = go c.holds refl (call_stays cs)
    where
      go : (b : Bool) → c.holds ≡ b
          → ((Passes cs → at + length new ≤ length old) → Stays old at (first_fault (refuse 0) cs (answer (length new))).value (after_writing cs old at new))
          → Stays old at (first_fault (refuse 0) (c ∷ cs) (answer (length new))).value (after_writing (c ∷ cs) old at new)
      go true e more = rw (e, first_fault) (more (λ p. fits (rw e tt, p)))
      go false e more = rw (e, first_fault) (nothing-stays old at 0)
