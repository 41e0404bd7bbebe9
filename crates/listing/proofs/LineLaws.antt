-- The lines of a tree, by their number. Assumes nothing.
use mathlib.Core.Path.{◌≡◌, refl, sym, ap, ap₂, ◌∙◌}
use mathlib.Core.List.{List, [], ◌∷◌, ◌++◌}
use Prim.Native.Nat.{ℕ, zero, suc, ◌+◌, ◌-◌, ◌<◌, ◌≤◌}
use native.Mathlib.Omega.{arith}
use Rattle.std.specs.Prelude.{Ok, Err}
use lib.Arith.{lt→nleb, le→nltb}
use lib.Dec.{le→leb, lt→ltb, leb→le}
use lib.ListN.{length, get_or, take, drop, length-append, get_or-append}
use lib.Seq.{get_or_at, take_at}
use Rattle.refusal.specs.Refusal.{Outcome, Placed, answer, refuse, number_of}
use Rattle.refusal.specs.declared.RefusedAt.{RefusedAt}
use Rattle.refusal.proofs.Numbers.{numbered as has_number}
use Rattle.refusal.proofs.Checks.{Stops, Passes, stops, passes, outcome-holds}
use Rattle.cells.specs.Buffer.{Stays, written}
use Rattle.cells.specs.Rows.{each}
use Rattle.cells.proofs.Writing.{refused-leaves, passed-writes, front_fits, call_stays}
use Rattle.cells.proofs.Rows.{length-each, row-at}
use Rattle.record.specs.declared.Record.{Record}
use Rattle.reading.specs.Reading.{read_record}
use Rattle.reader.specs.Outcome.{read_outcome}
use Rattle.listing.specs.Listing.{name_of, head_line, feature_line, words_line, refused_line, record_lines, listing, line_at, line_checks, write_line, after_line}
use Rattle.listing.specs.declared.Line.{Line}
use Rattle.listing.specs.Parts.{Puts, name_in, IsRead, Composed, none, some}
use Rattle.listing.proofs.PutLaws.{put_as}
use Rattle.listing.proofs.StateLaws.{feature-names}

-- what a reading answers
pub is-read : {tree : List ℕ} (r : Record) → read_outcome (Ok r) ≡ read_record tree → IsRead tree r
is-read r q =
    record { accepted = sym (ap (λ (o : Placed Record). o.number) q); same = sym (ap (λ (o : Placed Record). o.value) q) }

module _ (tree : List ℕ) (e : RefusedAt) (q : read_outcome (Err e) ≡ read_record tree) where
  pub number_is : number_of e.refusal ≡ (read_record tree).number
  number_is = ap (λ (o : Placed Record). o.number) q

  pub place_is : e.place ≡ (read_record tree).place
  place_is = ap (λ (o : Placed Record). o.place) q

  pub is-refused : (read_record tree).number ≡ 0 → ⊥
  is-refused z = has_number e.refusal (number_is ∙ z)

-- the lines of a refused tree
module _ (tree : List ℕ) (refused : (read_record tree).number ≡ 0 → ⊥) where
  pub refused-lines : listing tree ≡ refused_line (read_record tree).number (read_record tree).place ∷ []
  unfolding listing
  refused-lines = go (read_record tree).number refused
    where
      go : (n : ℕ) → (n ≡ 0 → ⊥)
          → (elim n as (λ _. List (List ℕ)) [
            | zero ↦ record_lines (name_of tree) (read_record tree).value
            | suc m ↦ refused_line
                (read_record tree).number (read_record tree).place ∷ []
          ])
          ≡ refused_line (read_record tree).number (read_record tree).place ∷ []
      go zero f = absurd (f refl)
      go (suc m) f = refl

  pub refused-past : {k : ℕ} {old : Line} → (k ≡ 0 → ⊥) → Composed tree k old old 16
  refused-past ne = none (omega (arith, ap length refused-lines))

  pub refused-first : {k n p : ℕ} {old new : Line} → k ≡ 0 → n ≡ (read_record tree).number → p ≡ (read_record tree).place
      → Puts old (refused_line n p) new
      → Composed tree k old new 0
  unfolding line_at
  refused-first {k} z e q w =
      some (omega (arith, ap length refused-lines))
      (put_as (ap₂ refused_line e q ∙ ap (λ (l : List (List ℕ)). get_or l 0 []) (sym refused-lines) ∙ ap (line_at tree) (sym z)) w)

-- the lines of an accepted tree
module _ {tree : List ℕ} {r : Record} (read : IsRead tree r) where
  pub record-lines : listing tree ≡ record_lines (name_of tree) r
  unfolding listing
  record-lines = rw (read.accepted, listing) (ap (record_lines (name_of tree)) read.same)

  abbrev features : List (List ℕ)
  features = each r.count (feature_line (name_of tree) r)

  pub lines-count : length (listing tree) ≡ r.count + 2
  unfolding record_lines
  lines-count =
      ap length record-lines
      ∙ omega (arith, length-append features (words_line r ∷ []), length-each r.count (feature_line (name_of tree) r))

  line-is : (k : ℕ) → line_at tree k ≡ get_or (record_lines (name_of tree) r) k []
  unfolding line_at
  line-is k = ap (λ (l : List (List ℕ)). get_or l k []) record-lines

  pub head-is : head_line r ≡ line_at tree 0
  unfolding record_lines
  head-is = sym (line-is 0)

  pub feature-is : (i : ℕ) → i < r.count → feature_line (name_in tree r) r i ≡ line_at tree (suc i)
  unfolding record_lines
  feature-is i l =
      feature-names read i l
      ∙ sym
      (line-is (suc i)
      ∙ get_or-append features (words_line r ∷ []) [] i (omega (arith, length-each r.count (feature_line (name_of tree) r)))
      ∙ row-at r.count (feature_line (name_of tree) r) i [] l)

  pub words-is : words_line r ≡ line_at tree (suc r.count)
  unfolding record_lines
  words-is =
      sym (line-is (suc r.count) ∙ get_or_at features (words_line r) [] [] r.count
      (length-each r.count (feature_line (name_of tree) r)))

  -- what composes each of them
  module _ {k : ℕ} {old new : Line} where
    pub compose_head : k ≡ 0 → Puts old (head_line r) new → Composed tree k old new 0
    compose_head z w = some (omega (arith, lines-count)) (put_as (head-is ∙ ap (line_at tree) (sym z)) w)

    pub compose_feature : (k ≡ 0 → ⊥) → k ≤ r.count → Puts old (feature_line (name_in tree r) r (k - 1)) new → Composed tree k old new 0
    compose_feature ne l w =
        let e : suc (k - 1) ≡ k = omega arith in
        some (omega (arith, lines-count)) (put_as (feature-is (k - 1) (omega arith) ∙ ap (line_at tree) e) w)

    pub compose_words : k ≡ r.count + 1 → Puts old (words_line r) new → Composed tree k old new 0
    compose_words e w =
        let q : suc r.count ≡ k = omega arith in
        some (omega (arith, lines-count)) (put_as (words-is ∙ ap (line_at tree) q) w)

  pub compose_past : {k : ℕ} {old : Line} → r.count < k → (k ≡ r.count + 1 → ⊥) → Composed tree k old old 16
  compose_past l ne = none (omega (arith, lines-count))

pub ruleset composes = (compose_head, compose_feature, compose_words, compose_past)

-- a line that is composed
composed : {tree : List ℕ} {k : ℕ} {old new : Line} {n : ℕ} → Composed tree k old new n → n ≡ 0
    → (k < length (listing tree)) × Puts old (line_at tree k) new
composed (none h) e = absurd (omega arith)
composed (some h w) e = (h, w)

-- it fits the line's bytes
pub line-short : {tree : List ℕ} {k : ℕ} {old new : Line} {n : ℕ} → Composed tree k old new n → n ≡ 0 → new.length ≤ length old.bytes
line-short c e = let w = (composed c e).1 in omega (arith, w.reached, w.room)

-- what a composed line, or none, does to a lent buffer
module _ (tree : List ℕ) (k : ℕ) (out : List ℕ) where
  abbrev Ends : Outcome ℕ → List ℕ → Type 0
  Ends outcome after = (outcome ≡ write_line tree k (length out)) × (after ≡ after_line tree k out)

  pub write-none : {old new : Line} {n : ℕ} → Composed tree k old new n → (n ≡ 0 → ⊥) → Ends (refuse 0 n) out
  unfolding write_line after_line line_checks
  write-none (none h) ne = (
    sym (stops (refuse 0) 0 0 _ _ (le→nltb k (length (listing tree)) h)),
    sym (refused-leaves _ _ _ _ 0 (le→nltb k (length (listing tree)) h)),
  )
  write-none (some h w) ne = absurd (ne refl)

  module _ {old new : Line} {n : ℕ} (c : Composed tree k old new n) (accepted : n ≡ 0) (blank : old.length ≡ 0) where
    long : length (line_at tree k) ≡ new.length
    long = let w = (composed c accepted).1 in omega (arith, w.reached)

    pub write-short : length out < new.length → Ends (refuse 0 18) out
    unfolding write_line after_line line_checks
    write-short s =
        let room : Stops 1 (line_checks tree k (length out))
        = (lt→ltb k (length (listing tree)) (composed c accepted).0, lt→nleb (length (line_at tree k)) (length out) (omega (arith, long))) in
        (sym (stops (refuse 0) 0 1 _ _ room), sym (refused-leaves _ _ _ _ 1 room))

    front : take new.length new.bytes ≡ line_at tree k
    unfolding written
    front =
        let w = (composed c accepted).1 in
        ap (take new.length) (w.stands ∙ ap (λ (at : ℕ). written old.bytes at (line_at tree k)) blank)
        ∙ take_at (line_at tree k) (drop (0 + length (line_at tree k)) old.bytes) new.length long

    pub write-all : new.length ≤ length out → {copy : List ℕ} → copy ≡ take new.length new.bytes
        → Ends (answer new.length) (copy ++ drop new.length out)
    unfolding write_line after_line line_checks written
    write-all s {copy} e =
        let room : Passes (line_checks tree k (length out))
        = (
          lt→ltb k (length (listing tree)) (composed c accepted).0,
          (le→leb (length (line_at tree k)) (length out) (omega (arith, long)), tt),
        ) in
        let n : new.length ≡ 0 + length (line_at tree k) = omega (arith, long) in (
          ap answer (sym long) ∙ sym (passes (refuse 0) _ _ room),
          ap₂ (λ (l : List ℕ) (m : ℕ). l ++ drop m out) (e ∙ front) n ∙ sym (passed-writes _ _ _ _ room),
        )

-- no more bytes are written than there are
written-fits : (tree : List ℕ) (k room : ℕ) → (write_line tree k room).value ≤ room
unfolding write_line line_checks
written-fits tree k room =
    outcome-holds (λ (n : ℕ). n ≤ room) 0 (length (line_at tree k)) (line_checks tree k room) (omega arith)
    (λ p. leb→le (length (line_at tree k)) room p.1.0)

-- bytes past a line stay
pub line_stays : (tree : List ℕ) (k : ℕ) (old : List ℕ) → Stays old 0 (write_line tree k (length old)).value (after_line tree k old)
unfolding write_line after_line line_checks
line_stays tree k old =
    call_stays old 0 (line_at tree k) (line_checks tree k (length old)) (λ p. front_fits (line_at tree k) (length old) p.1.0)

-- so that the bytes written are a part of the buffer
pub length-fits : (tree : List ℕ) (k : ℕ) (old : List ℕ) (n : ℕ) {new : List ℕ}
    → answer n ≡ write_line tree k (length old) → new ≡ after_line tree k old
    → n ≤ length new
length-fits tree k old n q e =
    omega (arith, written-fits tree k (length old), (line_stays tree k old).size, ap (λ (o : Outcome ℕ). o.value) q, ap length e)
