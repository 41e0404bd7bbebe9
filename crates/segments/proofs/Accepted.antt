-- A value of `ibm,segment-page-sizes` is accepted exactly when it is the encoding of descriptors within bounds; it is that of one list only, and the
-- answer is the table of that list. Assumes nothing.
use mathlib.Core.Path.{◌≡◌, refl, sym, ap, subst, ◌∙◌}
use mathlib.Core.Bool.{Bool, true, false}
use mathlib.Core.List.{List, [], ◌∷◌, map, flat_map}
use mathlib.Core.Logic.{◌↔◌}
use Prim.Native.Nat.{ℕ, zero, suc, ◌<◌, ◌≤◌}
use native.Mathlib.Omega.{arith}
use lib.Dec.{ltb, ltb→lt}
use lib.ListN.{length, length-append}
use lib.Seq.{take-length, take_all}
use Rattle.refusal.specs.Refusal.{Outcome, answer, refuse}
use Rattle.refusal.proofs.Checks.{Passes, Numbered, passes, numbered-both, answered, tests}
use Rattle.cells.specs.Bytes.{IsByte, Each, Stands}
use Rattle.cells.proofs.Standing.{stands-take}
use Rattle.segments.specs.Segments.{most_descriptors, next_at, descriptor_checks, checks_from, descriptors_from, segment_checks, table_of, segment_pages}
use Rattle.segments.specs.Encoded.{Segment, segment_bytes, encoded, Encodes, descriptor_of}
use Rattle.segments.specs.declared.Descriptor.{Descriptor}
use Rattle.segments.specs.declared.SegmentTable.{SegmentTable}
use Rattle.segments.proofs.SegmentLaws.{numbered-descriptor}
use Rattle.segments.proofs.SegmentBytes.{length-segment}
use Rattle.segments.proofs.SegmentLists.{segments_from, descriptors-of, SegmentsAt, read-from, found_from}

-- every fault is a number of the table
numbered-checks : (v : List ℕ) (most i at : ℕ) → Numbered (checks_from most v i at)
unfolding checks_from
numbered-checks v zero i at = tt
numbered-checks v (suc most) i at = go (ltb at (length v)) refl (numbered-checks v most (suc i) (next_at v at))
  where
    go : (b : Bool) → ltb at (length v) ≡ b → Numbered (checks_from most v (suc i) (next_at v at)) → Numbered (checks_from (suc most) v i at)
    go true e rest =
        rw (e, checks_from) (numbered-both (descriptor_checks v i at) (checks_from most v (suc i) (next_at v at)) (numbered-descriptor v i at) rest)
    go false e rest = rw (e, checks_from) tt

numbered-segments : (v : List ℕ) → Numbered (segment_checks v)
unfolding segment_checks
numbered-segments v = (omega arith, numbered-checks v (suc most_descriptors) 0 0)

-- there are descriptors exactly where there are bytes
some-encoded : (segments : List Segment) → 1 ≤ length segments ↔ 0 < length (encoded segments)
unfolding flat_map
some-encoded [] = (λ h. absurd (omega arith), λ h. absurd (omega arith))
some-encoded (s ∷ ss) = (λ h. omega (arith, length-append (segment_bytes s) (encoded ss), length-segment s), λ h. omega arith)

-- a value is an encoding exactly where the descriptors stand from its start to its end
module _ (segments : List Segment) (value : List ℕ) where
  from_start : Encodes segments value → SegmentsAt value 0 0 segments
  unfolding Stands
  from_start g = record {
    few = omega (arith, g.within.few);
    within = g.within.each;
    stands = subst (λ (l : List ℕ). Stands l 0 (encoded segments)) (sym g.bytes) (take-length (encoded segments));
    ends = omega (arith, ap length g.bytes);
  }

  whole-encodes : 0 < length value → SegmentsAt value 0 0 segments → Encodes segments value
  whole-encodes h g =
      let e : length (encoded segments) ≡ length value = omega (arith, g.ends) in
      record {
        within = record { some = (some-encoded segments).1 (omega arith); few = omega (arith, g.few); each = g.within };
        bytes = sym (take_all (length (encoded segments)) value (omega arith)) ∙ stands-take value 0 (encoded segments) g.stands;
      }

  encoded-read : Encodes segments value → Passes (checks_from (suc most_descriptors) value 0 0) × (segments_from (suc most_descriptors) value 0 ≡ segments)
  encoded-read g = read-from value (suc most_descriptors) 0 0 segments (omega arith) (from_start g)

-- the answer is the table of what the value encodes
pub segments-read : (segments : List Segment) (value : List ℕ) → Encodes segments value → segment_pages value ≡ answer (table_of (map descriptor_of segments))
unfolding segment_pages segment_checks
segments-read segments value g =
    let some : 0 < length value = omega (arith, ap length g.bytes, (some-encoded segments).0 g.within.some) in
    let whole = encoded-read segments value g in
    passes (refuse (table_of [])) (segment_checks value) (answer (table_of (descriptors_from (suc most_descriptors) value 0))) (omega (arith, tests), whole.0)
    ∙ ap (λ (ds : List Descriptor). answer (table_of ds)) (descriptors-of value (suc most_descriptors) 0 ∙ ap (map descriptor_of) whole.1)

-- there is one such list
pub segments-once : (a b : List Segment) (value : List ℕ) → Encodes a value → Encodes b value → a ≡ b
segments-once a b value g h = sym (encoded-read a value g).1 ∙ (encoded-read b value h).1

-- a value is accepted exactly when it is an encoding
pub segments-accepts : (value : List ℕ) → Each IsByte value → (segment_pages value).number ≡ 0 ↔ ((segments : List Segment) × Encodes segments value)
unfolding segment_pages segment_checks
segments-accepts value bytes = (found, λ g. ap (λ (r : Outcome SegmentTable). r.number) (segments-read g.0 value g.1))
  where
    found : (segment_pages value).number ≡ 0 → (segments : List Segment) × Encodes segments value
    found e =
        let p = answered (table_of []) (table_of (descriptors_from (suc most_descriptors) value 0)) (segment_checks value) (numbered-segments value) e in
        let segments : List Segment = segments_from (suc most_descriptors) value 0 in
        let g = found_from value bytes (suc most_descriptors) 0 0 (omega arith) (omega arith) (omega arith) p.1 in
        (segments, whole-encodes segments value (ltb→lt 0 (length value) p.0) g)
