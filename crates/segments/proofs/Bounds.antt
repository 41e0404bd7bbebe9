-- The checks of a descriptor hold exactly where it is within bounds. Assumes nothing.
use mathlib.Core.Path.{◌≡◌, subst}
use mathlib.Core.List.{List}
use Prim.Native.Nat.{ℕ, zero, suc, ◌+◌, ◌*◌, ◌<◌, ◌≤◌}
use native.Mathlib.Omega.{arith}
use native.Mathlib.Decide.{dec_lt}
use lib.Dec.{leb→le, ltb→lt}
use lib.ListN.{length}
use Rattle.refusal.proofs.Checks.{Passes, tests}
use Rattle.cells.specs.Bytes.{IsByte, Each}
use Rattle.cells.proofs.Rows.{length-each}
use Rattle.cells.proofs.Lists.{each_row, each-in-row}
use Rattle.cells.proofs.Bytes.{is-cell}
use Rattle.sizes.specs.Sizes.{largest_exponent}
use Rattle.segments.specs.Segments.{most_descriptors, most_pages, base_at, count_at, page_at, next_at, page_checks, exponent_checks, descriptor_checks}
use Rattle.segments.specs.Encoded.{PageWithin, SegmentWithin}
use Rattle.segments.proofs.SegmentBytes.{segment_at}

module _ (v : List ℕ) (at : ℕ) where
  -- the exponent of the page of index j is within its bounds
  abbrev InRange : ℕ → Type 0
  InRange j = ((page_at v at j).exponent ≤ largest_exponent) × (base_at v at ≤ (page_at v at j).exponent)

  pages-pass : (n j : ℕ) → ((k : ℕ) → j ≤ k → k < j + n → InRange k) → Passes (page_checks n v at j)
  unfolding page_checks
  pages-pass zero j f = tt
  pages-pass (suc n) j f =
      let g = f j (omega arith) (omega arith) in
      (omega (arith, tests), (omega (arith, tests), pages-pass n (suc j) (λ k l h. f k (omega arith) (omega arith))))

  passes-pages : (n j : ℕ) → Passes (page_checks n v at j) → (k : ℕ) → j ≤ k → k < j + n → InRange k
  unfolding page_checks
  passes-pages zero j p k l h = absurd (omega arith)
  passes-pages (suc n) j p k l h = go (dec_lt j k) (passes-pages n (suc j) p.1.1 k)
    where
      go : Dec (j < k) → (suc j ≤ k → k < suc j + n → InRange k) → InRange k
      go (yes m) f = f (omega arith) (omega arith)
      go (no m) f =
          let e : j ≡ k = omega arith in
          subst InRange e (leb→le (page_at v at j).exponent largest_exponent p.0, leb→le (base_at v at) (page_at v at j).exponent p.1.0)

  pub within-passes : (i : ℕ) → i < most_descriptors → next_at v at ≤ length v → SegmentWithin (segment_at v at) → Passes (descriptor_checks v i at)
  unfolding descriptor_checks exponent_checks
  within-passes i few whole w =
      let n : ℕ = count_at v at in
      let l = length-each n (page_at v at) in
      let pages = each-in-row (PageWithin (base_at v at)) n (page_at v at) w.pages in
      let p = pages-pass n 0 (λ k m h. let g = pages k (omega arith) in (omega arith, omega arith)) in
      let exponents : Passes (exponent_checks v at n) = (omega (arith, tests), p) in
      (omega (arith, tests), (omega (arith, tests), (omega (arith, tests), (omega (arith, tests), (omega (arith, tests), exponents)))))

  pub passes-within : Each IsByte v → (i : ℕ) → Passes (descriptor_checks v i at) → (i < most_descriptors) × (next_at v at ≤ length v) × SegmentWithin (segment_at v at)
  unfolding descriptor_checks exponent_checks
  passes-within bytes i p =
      let n : ℕ = count_at v at in
      let l = length-each n (page_at v at) in
      let h = leb→le (at + 12) (length v) p.1.0 in
      let some = ltb→lt 0 n p.1.1.0 in
      let few = leb→le n most_pages p.1.1.1.0 in
      let r = leb→le (next_at v at) (length v) p.1.1.1.1.0 in
      let q = p.1.1.1.1.1 in
      let base = leb→le (base_at v at) largest_exponent q.0 in (
        ltb→lt i most_descriptors p.0,
        r,
        record {
          low = omega arith;
          encoding = is-cell v bytes (at + 4) (omega arith);
          some = omega arith;
          few = omega arith;
          pages =
              each_row (PageWithin (base_at v at)) n (page_at v at)
              (λ k m.
              (let g = passes-pages n 0 q.1 k (omega arith) (omega arith) in
              record { low = omega arith; not_below = omega arith; encoding = is-cell v bytes (at + 16 + 8 * k) (omega arith) }));
        },
      )
