-- Laws of texts that are put into a buffer, one behind the other. Assumes nothing.
use mathlib.Core.Path.{◌≡◌, refl, sym, ap, subst, ◌∙◌}
use mathlib.Core.List.{List, [], ◌++◌, append_assoc}
use Prim.Native.Nat.{ℕ, ◌+◌, ◌≤◌}
use native.Mathlib.Omega.{arith}
use lib.ListN.{length, take, drop, length-append}
use lib.Seq.{take_at, drop_at, drop-drop, length-take-le}
use borrow.Rule.Slice.PartMut.{put_mid}
use Rattle.cells.specs.Buffer.{written}
use Rattle.cells.proofs.Buffer.{written_none, length-written}
use Rattle.listing.specs.Parts.{Put}

pub put_none : (old : List ℕ) (at : ℕ) → at ≤ length old → Put old at [] old at
put_none old at h = record { stands = sym (written_none old at); reached = omega arith; room = omega arith; size = refl }

-- what is put first and what is put behind it are one text
module _ (old : List ℕ) (at : ℕ) (text more : List ℕ) (fits : at + length text ≤ length old) where
  abbrev front : List ℕ
  front = take at old ++ text

  abbrev rest : List ℕ
  rest = drop (at + length text) old

  whole : written old at text ≡ front ++ rest
  unfolding written
  whole = sym (append_assoc (take at old) text rest)

  long : length front ≡ at + length text
  long = length-append (take at old) text ∙ ap (λ (n : ℕ). n + length text) (length-take-le at old (omega arith))

  behind : drop (at + length text + length more) (front ++ rest) ≡ drop (at + length text + length more) old
  behind =
      sym (drop-drop (length more) (at + length text) (front ++ rest))
      ∙ ap (drop (length more)) (drop_at front rest (at + length text) long)
      ∙ drop-drop (length more) (at + length text) old

  written_then : written (written old at text) (at + length text) more ≡ written old at (text ++ more)
  unfolding written
  written_then =
      let n : at + length (text ++ more) ≡ at + length text + length more = omega (arith, length-append text more) in
      ap (λ (l : List ℕ). take (at + length text) l ++ (more ++ drop (at + length text + length more) l)) whole
      ∙ ap (λ (l : List ℕ). l ++ (more ++ drop (at + length text + length more) (front ++ rest)))
      (take_at front rest (at + length text) long)
      ∙ ap (λ (l : List ℕ). front ++ (more ++ l)) (behind ∙ ap (λ (k : ℕ). drop k old) (sym n))
      ∙ append_assoc (take at old) text (more ++ drop (at + length (text ++ more)) old)
      ∙ ap (λ (l : List ℕ). take at old ++ l) (sym (append_assoc text more (drop (at + length (text ++ more)) old)))

pub put_then : {old text mid more new : List ℕ} {at next end : ℕ} → Put old at text mid next → Put mid next more new end
    → Put old at (text ++ more) new end
put_then {old} {text} {mid} {more} {new} {at} {next} {end} p q = record {
  stands =
      q.stands
      ∙ ap (λ (l : List ℕ). written l next more) p.stands
      ∙ ap (λ (n : ℕ). written (written old at text) n more) p.reached
      ∙ written_then old at text more p.room;
  reached = omega (arith, p.reached, q.reached, length-append text more);
  room = omega (arith, p.reached, q.room, p.size, length-append text more);
  size = q.size ∙ p.size;
}

pub put_as : {old text other new : List ℕ} {at next : ℕ} → text ≡ other → Put old at text new next → Put old at other new next
put_as {old} {new = new} {at} {next} e p = subst (λ (l : List ℕ). Put old at l new next) e p

-- a text that is copied into its place is put
pub put_copied : (old : List ℕ) (at many : ℕ) {text copy : List ℕ} → at + length text ≤ length old → many ≡ length text → copy ≡ text
    → Put old at text (put_mid at many old copy) (at + length text)
unfolding written
put_copied old at many {text} {copy} fits long same =
    let stands : put_mid at many old copy ≡ written old at text = rw (same, long, drop-drop (length text) at old) in
    record { stands = stands; reached = refl; room = fits; size = ap length stands ∙ length-written old at text fits }
