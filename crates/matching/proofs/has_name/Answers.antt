-- `matching::has_name` meets its contract. The loop's invariant: behind the bytes passed, the block has the characters of the name that are left
-- exactly when it has the whole name. Assumes nothing.
use native.Mathlib.Omega.{arith}
use borrow.Author.Tests.{eq-eqb, ne_eqb, eqb-true, eqb-false}
use mathlib.Core.Bool.{Bool, true, false}
use mathlib.Core.List.{List}
use mathlib.Core.Path.{◌≡◌, refl, sym, ◌∙◌}
use Prim.Native.Nat.{ℕ, ◌+◌, ◌<◌, min}
use lib.Dec.{eqb}
use lib.ListN.{length, get_or}
use Rattle.names.proofs.Texts.{has_from, has-whole, named-ended, named-apart, named-goes-on}
use Rattle.std.proofs.lemmas.List.{length_push}
use Rattle.std.proofs.lemmas.Slice.Zip.{zip_turn, zip_end}
use Rattle.matching.proofs.Bytes.{part-byte}
use Rattle.matching.proofs.Spelled.{no_block, no_room, no_end}
use Rattle.matching.proofs.has_name.Goals as goal
use Rattle.matching.proofs.has_name.Goals.{then-block-name-via-then-block-name, then-block-name-via-else-block-name+then-block-name-ne0, then-b-c-via-then-b-c, then-b-c-via-else-b-c+then-b-eq0}

module _ (s : List ℕ) (end i : ℕ) (name : List ℕ) (j : ℕ) (h : i < min (length s) end) (l : j < length name) where
  ended-early : get_or s i 0 ≡ 0 → false ≡ has_from s end i name j
  ended-early z = sym (named-ended s end i name j h z (omega arith) ∙ ne_eqb j (length name) (λ e. absurd (omega (arith, e))))

  other_character : (get_or s i 0 ≡ get_or name j 0 → ⊥) → false ≡ has_from s end i name j
  other_character d = go (eqb (get_or s i 0) 0) refl
    where
      go : (b : Bool) → eqb (get_or s i 0) 0 ≡ b → false ≡ has_from s end i name j
      go true e = ended-early (eqb-true (get_or s i 0) 0 e)
      go false e = sym (named-apart s end i name j h (eqb-false (get_or s i 0) 0 e) l d)

pub returns-in_default : goal.returns-in_default
returns-in_default c =
    no_block c.args.s.now c.args.from c.args.end c.args.name.now (omega (arith, c.min.ensures, c.in_default.ensures.lookup))

pub returns-then-block-name : goal.returns-then-block-name
returns-then-block-name c =
    let f = c.in-Some.ensures.lookup.0 in
    elim c.then-block-name.branch [
      | then-block-name-via-then-block-name w ↦ no_room c.args.s.now c.args.from c.args.end c.args.name.now c.min.ensures f.0 f.2 f.3 w.if-block-name.true
      | then-block-name-via-else-block-name+then-block-name-ne0 w ↦
          no_end c.args.s.now c.args.from c.args.end c.args.name.now c.min.ensures f.0 f.2 f.3 w.if-block-name.false w.if-block-name-ne0.true
    ]

pub loop-b-init : goal.loop-b-init
loop-b-init c =
    let f : c.args.from + 0 ≡ c.args.from = omega arith in
    rw f (has-whole c.args.s.now c.args.end c.args.from c.args.name.now)

pub loop-b-preserved : goal.loop-b-preserved
loop-b-preserved c =
    let s = c.args.s.now in
    let name = c.args.name.now in
    let n = length c.loop-b.yielded in
    let found = c.in-Some.ensures.lookup.0 in
    let t =
    zip_turn c.in-Some.block.now name c.loop-b.yielded c.into_iter-b-iterator.result c.loop-b.b-iterator c.next.new.self c.next.result (cc) (cc)
    c.loop-b.yielded_by (c.in-Some-2.b, c.in-Some-2.c) c.in-Some-2.is c.next.ensures.steps in
    let within : c.args.from + n < min (length s) c.args.end = omega (arith, c.min.ensures) in
    let part = part-byte s c.args.from c.min.result n found.2 (omega arith) in
    let b : c.in-Some-2.b.now ≡ get_or s (c.args.from + n) 0 = t.2 0 ∙ part in
    let same : get_or s (c.args.from + n) 0 ≡ get_or name n 0 = sym b ∙ c.if-b-c.false ∙ t.3 0 in
    let on = named-goes-on s c.args.end (c.args.from + n) name n within (λ z. c.if-b-eq0.false (b ∙ z)) t.1 same in
    let p : c.args.from + n + 1 ≡ c.args.from + (n + 1) = omega arith in
    rw (length_push c.loop-b.yielded (c.in-Some-2.b, c.in-Some-2.c)) (rw p at (sym on) ∙ c.loop-b.invariant)

pub returns-then-b-c : goal.returns-then-b-c
returns-then-b-c c =
    let s = c.args.s.now in
    let name = c.args.name.now in
    let n = length c.loop-b.yielded in
    let found = c.in-Some.ensures.lookup.0 in
    let t =
    zip_turn c.in-Some.block.now name c.loop-b.yielded c.into_iter-b-iterator.result c.loop-b.b-iterator c.next.new.self c.next.result (cc) (cc)
    c.loop-b.yielded_by (c.in-Some-2.b, c.in-Some-2.c) c.in-Some-2.is c.next.ensures.steps in
    let within : c.args.from + n < min (length s) c.args.end = omega (arith, c.min.ensures) in
    let part = part-byte s c.args.from c.min.result n found.2 (omega arith) in
    let b : c.in-Some-2.b.now ≡ get_or s (c.args.from + n) 0 = t.2 0 ∙ part in
    elim c.then-b-c.branch [
      | then-b-c-via-then-b-c w ↦
          other_character s c.args.end (c.args.from + n) name n within t.1 (λ e. w.if-b-c.true (b ∙ e ∙ sym (t.3 0))) ∙ c.loop-b.invariant
      | then-b-c-via-else-b-c+then-b-eq0 w ↦
          ended-early s c.args.end (c.args.from + n) name n within t.1 (sym b ∙ w.if-b-eq0.true) ∙ c.loop-b.invariant
    ]

pub returns : goal.returns
returns c =
    let s = c.args.s.now in
    let name = c.args.name.now in
    let n = length c.loop-b.yielded in
    let found = c.in-Some.ensures.lookup.0 in
    let t : n ≡ min (length c.in-Some.block.now) (length name) =
    zip_end c.in-Some.block.now name c.loop-b.yielded c.into_iter-b-iterator.result c.loop-b.b-iterator c.next.new.self c.next.result (cc) (cc)
    c.loop-b.yielded_by c.in-None.is c.next.ensures.steps in
    let whole : n ≡ length name = omega arith in
    let within : c.args.from + n < min (length s) c.args.end = omega (arith, c.min.ensures) in
    let zero : get_or s (c.args.from + n) 0 ≡ 0 =
    sym (part-byte s c.args.from c.min.result n found.2 (omega arith)) ∙ rw whole c.if-block-name-ne0.false in
    let ended-there = named-ended s c.args.end (c.args.from + n) name n within zero (omega arith) in
    sym (ended-there ∙ eq-eqb n (length name) whole) ∙ c.loop-b.invariant
