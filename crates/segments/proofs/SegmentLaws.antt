-- Laws of `ibm,segment-page-sizes`, one for each case of the code. Assumes nothing.
use mathlib.Core.Path.{◌≡◌, refl, sym, ap, ◌∙◌}
use mathlib.Core.List.{List, [], ◌∷◌, ◌++◌, append_assoc, append-nil}
use Prim.Native.Nat.{ℕ, suc, zero, ◌+◌, ◌*◌, ◌-◌, ◌<◌, ◌≤◌}
use native.Mathlib.Omega.{arith}
use native.Mathlib.Numerals.{add-one}
use borrow.Author.Tests.{lt-ltb, le-ltb}
use lib.Dec.{T, leb, ltb, leb→le, ltb→lt}
use lib.ListN.{length, set, replicate, length-append}
use Rattle.refusal.specs.Refusal.{Outcome, answer, refuse}
use Rattle.refusal.specs.Checks.{check, first_fault, fault_of}
use Rattle.refusal.proofs.Checks.{Numbered, stops, holds_on, stops-with, next-decides, no-fault-passes, fault-some, fault-none, tests}
use Rattle.cells.specs.Rows.{each, padded}
use Rattle.sizes.specs.Sizes.{largest_exponent}
use Rattle.segments.specs.Segments.{most_descriptors, most_pages, base_at, encoding_at, count_at, page_at, next_at, no_page, descriptor_at, page_checks, exponent_checks, descriptor_checks, checks_from, descriptors_from, segment_checks, no_descriptor, table_of, segment_pages}
use Rattle.segments.specs.declared.Page.{Page}
use Rattle.segments.specs.declared.Descriptor.{Descriptor}
use Rattle.segments.specs.declared.SegmentTable.{SegmentTable}
use Rattle.cells.proofs.Rows.{padded-more, padded-each}

-- the pages below j have good exponents, and those from j on decide
pub record PagesPassed (v : List ℕ) (at count j : ℕ) : Type 0 where
  pub within : j ≤ count
  pub same : fault_of (page_checks (count - j) v at j) ≡ fault_of (exponent_checks v at count)

module _ (v : List ℕ) (at count : ℕ) where
  pub base_above : largest_exponent < base_at v at → 12 ≡ fault_of (exponent_checks v at count)
  unfolding exponent_checks
  base_above h = stops-with 0 _ (omega (arith, tests))

  pub base-passed : base_at v at ≤ largest_exponent → PagesPassed v at count 0
  unfolding exponent_checks
  base-passed h =
      let e : count - 0 ≡ count = omega arith in
      record { within = omega arith; same = rw e (sym (next-decides _ _ (omega (arith, tests)))) }

module _ {v : List ℕ} {at count j : ℕ} (g : PagesPassed v at count j) where
  pub pages-passed : count ≤ j → 0 ≡ fault_of (exponent_checks v at count)
  unfolding page_checks fault_of first_fault
  pages-passed h = let e : count - j ≡ 0 = omega arith in rw (e, page_checks) at g.same

  module _ (h : j < count) where
    one-page : page_checks (count - j) v at j
        ≡ check (leb (page_at v at j).exponent largest_exponent) 12
        ∷ check (leb (base_at v at) (page_at v at j).exponent) 12
        ∷ page_checks (count - (j + 1)) v at (j + 1)
    unfolding page_checks
    one-page = let e : count - j ≡ suc (count - (j + 1)) = omega arith in rw (e, add-one j)

    pub exponent-above : largest_exponent < (page_at v at j).exponent → 12 ≡ fault_of (exponent_checks v at count)
    exponent-above k = stops-with 0 _ (omega (arith, tests)) ∙ (rw one-page at g.same)

    pub exponent-below : (page_at v at j).exponent ≤ largest_exponent
        → (page_at v at j).exponent < base_at v at
        → 12 ≡ fault_of (exponent_checks v at count)
    exponent-below k l = stops-with 1 _ (omega (arith, tests)) ∙ (rw one-page at g.same)

    pub page-passed : (page_at v at j).exponent ≤ largest_exponent
        → base_at v at ≤ (page_at v at j).exponent
        → PagesPassed v at count (j + 1)
    page-passed k l = record {
      within = omega arith;
      same =
          sym (next-decides _ _ (omega (arith, tests)) ∙ next-decides _ _ (omega (arith, tests)))
          ∙ (rw one-page at g.same);
    }

-- a descriptor whose header is good and whose pages are there: its exponents decide
pub exponents-decide : (v : List ℕ) (i at count : ℕ)
    → count ≡ count_at v at
    → i < most_descriptors
    → at + 12 ≤ length v
    → 0 < count
    → count ≤ most_pages
    → at + 12 + 8 * count ≤ length v
    → fault_of (exponent_checks v at count) ≡ fault_of (descriptor_checks v i at)
unfolding descriptor_checks
exponents-decide v i at count e few header some most pages =
    let c1 : T (ltb i most_descriptors) = omega (arith, tests) in
    let c2 : T (leb (at + 12) (length v)) = omega (arith, tests) in
    let c3 : T (ltb 0 (count_at v at)) = omega (arith, tests) in
    let c4 : T (leb (count_at v at) most_pages) = omega (arith, tests) in
    let c5 : T (leb (next_at v at) (length v)) = omega (arith, tests) in
    rw e (sym (next-decides _ _ c1 ∙ next-decides _ _ c2 ∙ next-decides _ _ c3 ∙ next-decides _ _ c4 ∙ next-decides _ _ c5))

-- the descriptor at a place, with some pages
unfoldable pub with_pages : List ℕ → ℕ → List Page → Descriptor
with_pages v at pages = record { base = base_at v at; encoding = encoding_at v at; count = count_at v at; pages = pages }

-- j of its pages are read
pub record PagesRead (v : List ℕ) (at : ℕ) (d : Descriptor) (j : ℕ) : Type 0 where
  pub within : j ≤ count_at v at
  pub holds : d ≡ with_pages v at (padded most_pages no_page (each j (page_at v at)))

module _ {v : List ℕ} {at : ℕ} where
  pub no-page-read : {b e n : ℕ}
      → b ≡ base_at v at
      → e ≡ encoding_at v at
      → n ≡ count_at v at
      → PagesRead v at (record { base = b; encoding = e; count = n; pages = replicate most_pages no_page }) 0
  unfolding with_pages
  no-page-read p q r = record { within = omega arith; holds = rw (p, q, r) }

  module _ {d : Descriptor} {j : ℕ} (g : PagesRead v at d j) where
    pub page-read : {x y : ℕ}
        → j < count_at v at
        → count_at v at ≤ most_pages
        → x ≡ (page_at v at j).exponent
        → y ≡ (page_at v at j).encoding
        → PagesRead v at
        (record {
          base = d.base;
          encoding = d.encoding;
          count = d.count;
          pages = set d.pages j (record { exponent = x; encoding = y });
        })
        (j + 1)
    unfolding with_pages
    page-read h most p q = record {
      within = omega arith;
      holds =
          rw (g.holds, p, q)
          (ap (with_pages v at) (padded-each most_pages no_page (page_at v at) j (omega arith)));
    }

    pub pages-read : count_at v at ≤ j → d ≡ descriptor_at v at
    unfolding with_pages descriptor_at
    pages-read h = let e : j ≡ count_at v at = omega arith in rw e at g.holds

-- the faults of a descriptor are numbers of the table, so that none means that each check holds
numbered-pages : (n : ℕ) (v : List ℕ) (at j : ℕ) → Numbered (page_checks n v at j)
unfolding page_checks
numbered-pages zero v at j = tt
numbered-pages (suc n) v at j = (omega arith, (omega arith, numbered-pages n v at (suc j)))

pub numbered-descriptor : (v : List ℕ) (i at : ℕ) → Numbered (descriptor_checks v i at)
unfolding descriptor_checks exponent_checks
numbered-descriptor v i at =
    (omega arith, (omega arith, (omega arith, (omega arith, (omega arith, (omega arith, numbered-pages (count_at v at) v at 0))))))

-- what is known of a descriptor that is not refused
pub record GoodDescriptor (v : List ℕ) (i at : ℕ) : Type 0 where
  pub faultless : fault_of (descriptor_checks v i at) ≡ 0
  pub few : i < most_descriptors
  pub most : count_at v at ≤ most_pages
  pub whole : next_at v at ≤ length v

pub not-refused : (v : List ℕ) (i at : ℕ) → fault_of (descriptor_checks v i at) ≡ 0 → GoodDescriptor v i at
unfolding descriptor_checks exponent_checks
not-refused v i at e =
    let p = no-fault-passes _ (numbered-descriptor v i at) e in
    record {
      faultless = e;
      few = ltb→lt i most_descriptors p.0;
      most = leb→le (count_at v at) most_pages p.1.1.1.0;
      whole = leb→le (next_at v at) (length v) p.1.1.1.1.0;
    }

pub read_count : (v : List ℕ) (at : ℕ) {d : Descriptor} → d ≡ descriptor_at v at → d.count ≡ count_at v at
unfolding descriptor_at
read_count v at e = ap (λ (x : Descriptor). x.count) e

-- the checks from a place on: there is a descriptor, or the value ends
module _ (v : List ℕ) (most i at : ℕ) where
  pub checks-more : at < length v → checks_from (suc most) v i at ≡ descriptor_checks v i at ++ checks_from most v (suc i) (next_at v at)
  unfolding checks_from
  checks-more h = rw (lt-ltb at (length v) h, checks_from)

  pub checks-none : length v ≤ at → checks_from (suc most) v i at ≡ []
  unfolding checks_from
  checks-none h = rw (le-ltb at (length v) h, checks_from)

-- what the descriptors from index i on decide, where `read` are those before it
abbrev pub outcome_from : List ℕ → List Descriptor → ℕ → ℕ → Outcome SegmentTable
outcome_from v read i at =
    first_fault (refuse (table_of [])) (checks_from (suc most_descriptors - i) v i at)
    (answer (table_of (read ++ descriptors_from (suc most_descriptors - i) v at)))

-- i descriptors are read, and those from `at` on decide
pub record DescriptorsRead (v : List ℕ) (descriptors : List Descriptor) (at i : ℕ) : Type 0 where
  pub read : List Descriptor
  pub counted : length read ≡ i
  pub few : i ≤ most_descriptors
  pub within : at ≤ length v
  pub holds : descriptors ≡ padded most_descriptors no_descriptor read
  pub same : outcome_from v read i at ≡ segment_pages v

pub no_bytes : (v : List ℕ) → length v ≡ 0 → refuse (table_of []) 11 ≡ segment_pages v
unfolding segment_pages segment_checks
no_bytes v h = sym (stops (refuse (table_of [])) 0 0 _ _ (omega (arith, tests)))

pub none_read : {v : List ℕ} → 0 < length v → DescriptorsRead v (replicate most_descriptors no_descriptor) 0 0
unfolding segment_pages segment_checks
none_read {v} h = record {
  read = [];
  counted = refl;
  few = omega arith;
  within = omega arith;
  holds = refl;
  same = sym (holds_on (refuse (table_of [])) _ _ _ (omega (arith, tests)));
}

module _ {v : List ℕ} {descriptors : List Descriptor} {at i : ℕ} (g : DescriptorsRead v descriptors at i) where
  one_less : suc most_descriptors - i ≡ suc (suc most_descriptors - (i + 1))
  one_less = omega arith

  -- the value ends
  pub all_read : length v ≤ at → answer (record { count = i; descriptors = descriptors }) ≡ segment_pages v
  unfolding table_of checks_from descriptors_from first_fault
  all_read h =
      rw (g.holds, ← g.counted)
      (rw (one_less, le-ltb at (length v) h, checks_from, descriptors_from, append-nil) at g.same)

  module _ (h : at < length v) where
    first-checks : checks_from (suc most_descriptors - i) v i at
        ≡ descriptor_checks v i at ++ checks_from (suc most_descriptors - (i + 1)) v (i + 1) (next_at v at)
    first-checks = rw (one_less, add-one i) (checks-more v (suc most_descriptors - suc i) i at h)

    first-descriptor : descriptors_from (suc most_descriptors - i) v at
        ≡ descriptor_at v at ∷ descriptors_from (suc most_descriptors - (i + 1)) v (next_at v at)
    unfolding descriptors_from
    first-descriptor = rw (one_less, lt-ltb at (length v) h, descriptors_from)

    pub descriptor-refused : {n : ℕ}
        → n ≡ fault_of (descriptor_checks v i at)
        → (n ≡ 0 → ⊥)
        → refuse (table_of []) n ≡ segment_pages v
    descriptor-refused {n} e z =
        rw e
        (sym (fault-some (refuse (table_of [])) (descriptor_checks v i at) _ _ (λ k. z (e ∙ k)))
        ∙ (rw first-checks at g.same))

    pub descriptor-read : {d : Descriptor} {next : ℕ}
        → GoodDescriptor v i at
        → d ≡ descriptor_at v at
        → next ≡ next_at v at
        → DescriptorsRead v (set descriptors i d) next (i + 1)
    descriptor-read {d} {next} good e n =
        record {
          read = g.read ++ d ∷ [];
          counted = length-append g.read (d ∷ []) ∙ ap (λ (m : ℕ). m + 1) g.counted;
          few = omega arith;
          within = omega arith;
          holds =
              rw (g.holds, ← g.counted) (padded-more most_descriptors no_descriptor g.read d (omega arith));
          same =
              rw (e, n, append_assoc g.read)
              (sym (fault-none (refuse (table_of [])) (descriptor_checks v i at) _ _ (numbered-descriptor v i at) good.faultless)
              ∙ (rw (first-checks, first-descriptor) at g.same));
        }
