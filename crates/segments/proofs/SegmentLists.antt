-- Descriptors that stand one after the other up to a value's end are read, and no check of them fails; and where no check fails, those that are
-- read stand there. Assumes nothing.
use mathlib.Core.Path.{◌≡◌, refl, sym, ap, ap₂, subst, ◌∙◌}
use mathlib.Core.Bool.{Bool, true, false}
use mathlib.Core.List.{List, [], ◌∷◌, map, flat_map}
use Prim.Native.Nat.{ℕ, zero, suc, ◌+◌, ◌<◌, ◌≤◌}
use native.Mathlib.Omega.{arith}
use native.Mathlib.Decide.{dec_lt}
use borrow.Author.Tests.{lt-ltb, le-ltb}
use lib.Dec.{ltb}
use lib.ListN.{length, length-append}
use Rattle.refusal.proofs.Checks.{Passes, passes-join, passes-both}
use Rattle.cells.specs.Bytes.{IsByte, Each, Stands}
use Rattle.cells.proofs.Rows.{length-each}
use Rattle.cells.proofs.Standing.{stands-none, stands-first, stands_after, stands-joined}
use Rattle.segments.specs.Segments.{most_descriptors, count_at, page_at, next_at, descriptor_at, descriptor_checks, checks_from, descriptors_from}
use Rattle.segments.specs.Encoded.{Segment, segment_bytes, encoded, SegmentWithin, descriptor_of}
use Rattle.segments.specs.declared.Descriptor.{Descriptor}
use Rattle.segments.proofs.SegmentLaws.{checks-more, checks-none}
use Rattle.segments.proofs.SegmentBytes.{length-segment, segment_at, segment-read, segment-found}
use Rattle.segments.proofs.Bounds.{within-passes, passes-within}

-- the descriptors that are read from a place on, as many as `descriptors_from` reads
unfoldable pub segments_from : ℕ → List ℕ → ℕ → List Segment
segments_from zero v at = []
segments_from (suc most) v at = elim (ltb at (length v)) [ true ↦ segment_at v at ∷ segments_from most v (next_at v at) | false ↦ [] ]

-- they are the descriptors that `segment_pages` answers
descriptor-of : (v : List ℕ) (at : ℕ) → descriptor_at v at ≡ descriptor_of (segment_at v at)
unfolding descriptor_at descriptor_of
descriptor-of v at = rw (length-each (count_at v at) (page_at v at))

pub descriptors-of : (v : List ℕ) (most at : ℕ) → descriptors_from most v at ≡ map descriptor_of (segments_from most v at)
unfolding descriptors_from segments_from
descriptors-of v zero at = refl
descriptors-of v (suc most) at = go (ltb at (length v)) refl (descriptors-of v most (next_at v at))
  where
    go : (b : Bool) → ltb at (length v) ≡ b → descriptors_from most v (next_at v at) ≡ map descriptor_of (segments_from most v (next_at v at))
        → descriptors_from (suc most) v at ≡ map descriptor_of (segments_from (suc most) v at)
    go true e rest =
        rw (e, descriptors_from, segments_from) (ap₂ (λ (d : Descriptor) (ds : List Descriptor). d ∷ ds) (descriptor-of v at) rest)
    go false e rest = rw (e, descriptors_from, segments_from)

-- from a place on: there is a descriptor, or the value ends
module _ (v : List ℕ) (most at : ℕ) where
  segments-more : at < length v → segments_from (suc most) v at ≡ segment_at v at ∷ segments_from most v (next_at v at)
  unfolding segments_from
  segments-more h = rw (lt-ltb at (length v) h, segments_from)

  segments-none : length v ≤ at → segments_from (suc most) v at ≡ []
  unfolding segments_from
  segments-none h = rw (le-ltb at (length v) h, segments_from)

-- the value from a place to its end is the encoding of descriptors within bounds, the first of them of index i
pub record SegmentsAt (v : List ℕ) (i at : ℕ) (segments : List Segment) : Type 0 where
  pub few : i + length segments ≤ most_descriptors
  pub within : Each SegmentWithin segments
  pub stands : Stands v at (encoded segments)
  pub ends : at + length (encoded segments) ≡ length v

module _ (v : List ℕ) where
  -- they are read, and no check fails
  pub read-from : (most i at : ℕ) (segments : List Segment) → i + most ≡ suc most_descriptors → SegmentsAt v i at segments
      → Passes (checks_from most v i at) × (segments_from most v at ≡ segments)
  unfolding flat_map
  read-from zero i at segments e g = absurd (omega (arith, g.few))
  read-from (suc most) i at [] e g =
      let h : length v ≤ at = omega (arith, g.ends) in
      (rw (checks-none v most i at h) tt, segments-none v most at h)
  read-from (suc most) i at (s ∷ ss) e g =
      let k = length-append (segment_bytes s) (encoded ss) in
      let l = length-segment s in
      let same : segment_at v at ≡ s = segment-read v at s (stands-first v at (segment_bytes s) (encoded ss) g.stands) in
      let count : count_at v at ≡ length s.pages = sym (length-each (count_at v at) (page_at v at)) ∙ ap (λ (x : Segment). length x.pages) same in
      let h : at < length v = omega (arith, g.ends) in
      let next : at + length (segment_bytes s) ≡ next_at v at = omega arith in
      let checked = within-passes v at i (omega (arith, g.few)) (omega (arith, g.ends)) (subst SegmentWithin (sym same) g.within.0) in
      let rest =
      read-from most (suc i) (next_at v at) ss (omega arith)
      (record {
        few = omega (arith, g.few);
        within = g.within.1;
        stands = stands_after v at (next_at v at) (segment_bytes s) (encoded ss) next g.stands;
        ends = omega (arith, g.ends);
      }) in (
        rw (checks-more v most i at h) (passes-join (descriptor_checks v i at) (checks_from most v (suc i) (next_at v at)) checked rest.0),
        segments-more v most at h ∙ ap₂ (λ (x : Segment) (xs : List Segment). x ∷ xs) same rest.1,
      )

  -- where no check fails, those that are read stand there
  module _ (bytes : Each IsByte v) where
    segment-more : (i at : ℕ) (ss : List Segment) → i < most_descriptors → next_at v at ≤ length v → SegmentWithin (segment_at v at) → SegmentsAt v (suc i) (next_at v at) ss
        → SegmentsAt v i at (segment_at v at ∷ ss)
    unfolding flat_map
    segment-more i at ss few whole w g =
        let s : Segment = segment_at v at in
        let k = length-append (segment_bytes s) (encoded ss) in
        let l = length-segment s in
        let c = length-each (count_at v at) (page_at v at) in
        record {
          few = omega (arith, g.few);
          within = (w, g.within);
          stands = stands-joined v at (next_at v at) (segment_bytes s) (encoded ss) (omega arith) (segment-found v at bytes whole) g.stands;
          ends = omega (arith, g.ends);
        }

    pub found_from : (most i at : ℕ) → i + most ≡ suc most_descriptors → i ≤ most_descriptors → at ≤ length v → Passes (checks_from most v i at)
        → SegmentsAt v i at (segments_from most v at)
    unfolding flat_map
    found_from zero i at e h r p = absurd (omega arith)
    found_from (suc most) i at e h r p = go (dec_lt at (length v)) (found_from most (suc i) (next_at v at))
      where
        go : Dec (at < length v)
            → (suc i + most ≡ suc most_descriptors → suc i ≤ most_descriptors → next_at v at ≤ length v → Passes (checks_from most v (suc i) (next_at v at))
            → SegmentsAt v (suc i) (next_at v at) (segments_from most v (next_at v at)))
            → SegmentsAt v i at (segments_from (suc most) v at)
        go (yes m) rest =
            let c = passes-both (descriptor_checks v i at) (checks_from most v (suc i) (next_at v at)) (rw (checks-more v most i at m) at p) in
            let d = passes-within v at bytes i c.0 in
            rw (segments-more v most at m)
            (segment-more i at (segments_from most v (next_at v at)) d.0 d.1 d.2 (rest (omega arith) (omega arith) d.1 c.1))
        go (no m) rest =
            rw (segments-none v most at (omega arith)) (record { few = omega arith; within = tt; stands = stands-none v at; ends = omega arith })
