-- `matching::same_name` meets its contract. The loop's invariant: the strings behind the bytes passed are the same exactly when the whole ones are. Assumes nothing.
use native.Mathlib.Omega.{arith}
use mathlib.Core.Path.{◌≡◌, sym, ◌∙◌}
use native.Mathlib.Decide.{dec_lt}
use Prim.Native.Nat.{◌+◌, ◌<◌, min}
use lib.ListN.{length, get_or}
use Rattle.names.proofs.Texts.{same-none-left, same-none-right, same_ended, same-goes-on, same-apart}
use Rattle.std.proofs.lemmas.List.{length_push}
use Rattle.std.proofs.lemmas.Slice.Zip.{zip_turn, zip_end}
use Rattle.matching.proofs.Bytes.{part-byte}
use Rattle.matching.proofs.same_name.Goals as goal

pub returns-in_default : goal.returns-in_default
returns-in_default c =
    sym (same-none-left c.args.s.now c.args.end c.args.p c.args.q (omega (arith, c.min-stop.ensures, c.in_default.ensures.lookup)))

pub returns-in_default-get : goal.returns-in_default-get
returns-in_default-get c =
    sym (same-none-right c.args.s.now c.args.end c.args.p c.args.q (omega (arith, c.min-stop.ensures, c.in_default-get.ensures.lookup)))

pub loop-x-init : goal.loop-x-init
loop-x-init c =
    let p : c.args.p + 0 ≡ c.args.p = omega arith in
    let q : c.args.q + 0 ≡ c.args.q = omega arith in
    rw (p, q)

pub returns-then-x-y : goal.returns-then-x-y
returns-then-x-y c =
    let n = length c.loop-x.yielded in
    let found-a = c.in-Some.ensures.lookup.0 in
    let found-b = c.in-Some-get.ensures.lookup.0 in
    let t =
    zip_turn c.in-Some.a.now c.in-Some-get.b.now c.loop-x.yielded c.into_iter-x-iterator.result c.loop-x.x-iterator c.next.new.self c.next.result (cc) (cc)
    c.loop-x.yielded_by (c.in-Some-2.x, c.in-Some-2.y) c.in-Some-2.is c.next.ensures.steps in
    let in-a : c.args.p + n < min (length c.args.s.now) c.args.end = omega (arith, c.min-stop.ensures) in
    let in-b : c.args.q + n < min (length c.args.s.now) c.args.end = omega (arith, c.min-stop.ensures) in
    let x : c.in-Some-2.x.now ≡ get_or c.args.s.now (c.args.p + n) 0 = t.2 0 ∙ part-byte c.args.s.now c.args.p c.min-stop.result n found-a.2 (omega arith) in
    let y : c.in-Some-2.y.now ≡ get_or c.args.s.now (c.args.q + n) 0 = t.3 0 ∙ part-byte c.args.s.now c.args.q c.min-stop.result n found-b.2 (omega arith) in
    sym (same-apart c.args.s.now c.args.end (c.args.p + n) (c.args.q + n) in-a in-b (λ e. c.if-x-y.true (x ∙ e ∙ sym y))) ∙ c.loop-x.invariant

pub returns-then-x-eq0 : goal.returns-then-x-eq0
returns-then-x-eq0 c =
    let n = length c.loop-x.yielded in
    let found-a = c.in-Some.ensures.lookup.0 in
    let found-b = c.in-Some-get.ensures.lookup.0 in
    let t =
    zip_turn c.in-Some.a.now c.in-Some-get.b.now c.loop-x.yielded c.into_iter-x-iterator.result c.loop-x.x-iterator c.next.new.self c.next.result (cc) (cc)
    c.loop-x.yielded_by (c.in-Some-2.x, c.in-Some-2.y) c.in-Some-2.is c.next.ensures.steps in
    let in-a : c.args.p + n < min (length c.args.s.now) c.args.end = omega (arith, c.min-stop.ensures) in
    let in-b : c.args.q + n < min (length c.args.s.now) c.args.end = omega (arith, c.min-stop.ensures) in
    let x : c.in-Some-2.x.now ≡ get_or c.args.s.now (c.args.p + n) 0 = t.2 0 ∙ part-byte c.args.s.now c.args.p c.min-stop.result n found-a.2 (omega arith) in
    let y : c.in-Some-2.y.now ≡ get_or c.args.s.now (c.args.q + n) 0 = t.3 0 ∙ part-byte c.args.s.now c.args.q c.min-stop.result n found-b.2 (omega arith) in
    sym (same_ended c.args.s.now c.args.end (c.args.p + n) (c.args.q + n) in-a in-b (sym x ∙ c.if-x-y.false ∙ y) (sym x ∙ c.if-x-eq0.true)) ∙ c.loop-x.invariant

pub loop-x-preserved : goal.loop-x-preserved
loop-x-preserved c =
    let n = length c.loop-x.yielded in
    let found-a = c.in-Some.ensures.lookup.0 in
    let found-b = c.in-Some-get.ensures.lookup.0 in
    let t =
    zip_turn c.in-Some.a.now c.in-Some-get.b.now c.loop-x.yielded c.into_iter-x-iterator.result c.loop-x.x-iterator c.next.new.self c.next.result (cc) (cc)
    c.loop-x.yielded_by (c.in-Some-2.x, c.in-Some-2.y) c.in-Some-2.is c.next.ensures.steps in
    let in-a : c.args.p + n < min (length c.args.s.now) c.args.end = omega (arith, c.min-stop.ensures) in
    let in-b : c.args.q + n < min (length c.args.s.now) c.args.end = omega (arith, c.min-stop.ensures) in
    let x : c.in-Some-2.x.now ≡ get_or c.args.s.now (c.args.p + n) 0 = t.2 0 ∙ part-byte c.args.s.now c.args.p c.min-stop.result n found-a.2 (omega arith) in
    let y : c.in-Some-2.y.now ≡ get_or c.args.s.now (c.args.q + n) 0 = t.3 0 ∙ part-byte c.args.s.now c.args.q c.min-stop.result n found-b.2 (omega arith) in
    let p : c.args.p + n + 1 ≡ c.args.p + (n + 1) = omega arith in
    let q : c.args.q + n + 1 ≡ c.args.q + (n + 1) = omega arith in
    rw (length_push c.loop-x.yielded (c.in-Some-2.x, c.in-Some-2.y))
    (rw (p, q) at (sym (same-goes-on c.args.s.now c.args.end (c.args.p + n) (c.args.q + n) in-a in-b (sym x ∙ c.if-x-y.false ∙ y) (λ z. c.if-x-eq0.false (x ∙ z)))) ∙ c.loop-x.invariant)

pub returns : goal.returns
returns c =
    let n = length c.loop-x.yielded in
    let found-a = c.in-Some.ensures.lookup.0 in
    let found-b = c.in-Some-get.ensures.lookup.0 in
    let t : n ≡ min (length c.in-Some.a.now) (length c.in-Some-get.b.now) =
    zip_end c.in-Some.a.now c.in-Some-get.b.now c.loop-x.yielded c.into_iter-x-iterator.result c.loop-x.x-iterator c.next.new.self c.next.result (cc) (cc)
    c.loop-x.yielded_by c.in-None.is c.next.ensures.steps in
    elim (dec_lt (length c.in-Some.a.now) (length c.in-Some-get.b.now)) [
      | yes h ↦ sym (same-none-left c.args.s.now c.args.end (c.args.p + n) (c.args.q + n) (omega (arith, c.min-stop.ensures))) ∙ c.loop-x.invariant
      | no h ↦ sym (same-none-right c.args.s.now c.args.end (c.args.p + n) (c.args.q + n) (omega (arith, c.min-stop.ensures))) ∙ c.loop-x.invariant
    ]
