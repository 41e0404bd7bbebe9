-- Descriptors that stand at a place of a value are what is read there, and what is read there stands there. Assumes nothing.
use mathlib.Core.Path.{◌≡◌, refl, sym, ap₂}
use mathlib.Core.List.{List, [], ◌∷◌, ◌++◌, append_assoc, append-nil, flat_map}
use Prim.Native.Nat.{ℕ, zero, suc, ◌+◌, ◌*◌, ◌<◌, ◌≤◌}
use native.Mathlib.Omega.{arith}
use lib.ListN.{length, get_or, length-append}
use Rattle.cells.specs.Rows.{each}
use Rattle.cells.specs.Bytes.{IsByte, cell_bytes, Each, Stands}
use Rattle.cells.proofs.Rows.{length-each, each-list}
use Rattle.cells.proofs.Standing.{stands-none, stands-first, stands_after, stands-joined}
use Rattle.cells.proofs.Bytes.{length-cell, stands-cell, cell-stands}
use Rattle.segments.specs.Segments.{base_at, encoding_at, count_at, page_at, next_at, no_page}
use Rattle.segments.specs.Encoded.{Segment, page_bytes, pages_bytes, segment_bytes}
use Rattle.segments.specs.declared.Page.{Page}

-- how many bytes there are
length-page : (p : Page) → length (page_bytes p) ≡ 8
unfolding page_bytes
length-page p = simp (length-append, length-cell)

length-pages : (ps : List Page) → length (pages_bytes ps) ≡ 8 * length ps
unfolding flat_map
length-pages [] = refl
length-pages (p ∷ ps) = omega (arith, length-append (page_bytes p) (pages_bytes ps), length-page p, length-pages ps)

pub length-segment : (s : Segment) → length (segment_bytes s) ≡ 12 + 8 * length s.pages
unfolding segment_bytes
length-segment s = simp (length-append, length-cell) (omega (arith, length-pages s.pages))

-- one page more behind others
one-page-more : (ps : List Page) (p : Page) → pages_bytes (ps ++ p ∷ []) ≡ pages_bytes ps ++ page_bytes p
unfolding flat_map
one-page-more [] p = append-nil (page_bytes p)
one-page-more (q ∷ ps) p = rw (one-page-more ps p) (sym (append_assoc (page_bytes q) (pages_bytes ps) (page_bytes p)))

-- the descriptor that is read at a place
abbrev pub segment_at : List ℕ → ℕ → Segment
segment_at v at = record { base = base_at v at; encoding = encoding_at v at; pages = each (count_at v at) (page_at v at) }

module _ (v : List ℕ) where
  -- the page of index i, of those that stand at a place
  page-stands : (ps : List Page) (place i : ℕ) → Stands v place (pages_bytes ps) → i < length ps → Stands v (place + 8 * i) (page_bytes (get_or ps i no_page))
  unfolding flat_map
  page-stands [] place i w h = absurd (omega arith)
  page-stands (p ∷ ps) place zero w h =
      let e : place + 8 * 0 ≡ place = omega arith in
      rw e (stands-first v place (page_bytes p) (pages_bytes ps) w)
  page-stands (p ∷ ps) place (suc i) w h =
      let e : place + 8 * suc i ≡ place + 8 + 8 * i = omega arith in
      rw e
      (page-stands ps (place + 8) i (stands_after v place (place + 8) (page_bytes p) (pages_bytes ps) (omega (arith, length-page p)) w) (omega arith))

  module _ (at : ℕ) where
    -- and it is read
    page-same : (ps : List Page) → Stands v (at + 12) (pages_bytes ps) → (i : ℕ) → i < length ps → page_at v at i ≡ get_or ps i no_page
    unfolding page_bytes
    page-same ps w i h =
        let p : Page = get_or ps i no_page in
        let u = page-stands ps (at + 12) i w h in
        let exponent = stands-first v (at + 12 + 8 * i) (cell_bytes p.exponent) (cell_bytes p.encoding) u in
        let encoding = stands_after v (at + 12 + 8 * i) (at + 16 + 8 * i) (cell_bytes p.exponent) (cell_bytes p.encoding) (omega (arith, length-cell p.exponent)) u in
        ap₂ (λ (m n : ℕ). record { exponent = m; encoding = n }) (stands-cell v (at + 12 + 8 * i) p.exponent exponent) (stands-cell v (at + 16 + 8 * i) p.encoding encoding)

    -- a descriptor that stands there is read
    module _ (s : Segment) (w : Stands v at (segment_bytes s)) where
      pub segment-read : segment_at v at ≡ s
      unfolding segment_bytes
      segment-read =
          let r3 : List ℕ = pages_bytes s.pages in
          let r2 : List ℕ = cell_bytes (length s.pages) ++ r3 in
          let r1 : List ℕ = cell_bytes s.encoding ++ r2 in
          let w1 = stands_after v at (at + 4) (cell_bytes s.base) r1 (omega (arith, length-cell s.base)) w in
          let w2 = stands_after v (at + 4) (at + 8) (cell_bytes s.encoding) r2 (omega (arith, length-cell s.encoding)) w1 in
          let w3 = stands_after v (at + 8) (at + 12) (cell_bytes (length s.pages)) r3 (omega (arith, length-cell (length s.pages))) w2 in
          let base : base_at v at ≡ s.base = stands-cell v at s.base (stands-first v at (cell_bytes s.base) r1 w) in
          let encoding : encoding_at v at ≡ s.encoding = stands-cell v (at + 4) s.encoding (stands-first v (at + 4) (cell_bytes s.encoding) r2 w1) in
          let count : count_at v at ≡ length s.pages = stands-cell v (at + 8) (length s.pages) (stands-first v (at + 8) (cell_bytes (length s.pages)) r3 w2) in
          let pages : each (length s.pages) (page_at v at) ≡ s.pages = each-list no_page s.pages (page_at v at) (page-same s.pages w3) in
          rw (base, encoding, count, pages)

    -- a descriptor that is read stands there
    module _ (bytes : Each IsByte v) where
      page-found : (i : ℕ) → at + 20 + 8 * i ≤ length v → Stands v (at + 12 + 8 * i) (page_bytes (page_at v at i))
      unfolding page_bytes
      page-found i h =
          let p : Page = page_at v at i in
          stands-joined v (at + 12 + 8 * i) (at + 16 + 8 * i) (cell_bytes p.exponent) (cell_bytes p.encoding) (omega (arith, length-cell p.exponent))
          (cell-stands v bytes (at + 12 + 8 * i) p.exponent (omega arith) refl)
          (cell-stands v bytes (at + 16 + 8 * i) p.encoding (omega arith) refl)

      pages-found : (n : ℕ) → at + 12 + 8 * n ≤ length v → Stands v (at + 12) (pages_bytes (each n (page_at v at)))
      unfolding flat_map
      pages-found zero h = stands-none v (at + 12)
      pages-found (suc n) h =
          let ps : List Page = each n (page_at v at) in
          let l : at + 12 + length (pages_bytes ps) ≡ at + 12 + 8 * n = omega (arith, length-pages ps, length-each n (page_at v at)) in
          rw (one-page-more ps (page_at v at n))
          (stands-joined v (at + 12) (at + 12 + 8 * n) (pages_bytes ps) (page_bytes (page_at v at n)) l (pages-found n (omega arith)) (page-found n (omega arith)))

      pub segment-found : next_at v at ≤ length v → Stands v at (segment_bytes (segment_at v at))
      unfolding segment_bytes
      segment-found h =
          let n : ℕ = count_at v at in
          let ps : List Page = each n (page_at v at) in
          let r3 : List ℕ = pages_bytes ps in
          let r2 : List ℕ = cell_bytes (length ps) ++ r3 in
          let r1 : List ℕ = cell_bytes (encoding_at v at) ++ r2 in
          let count = cell-stands v bytes (at + 8) (length ps) (omega arith) (sym (length-each n (page_at v at))) in
          let w2 = stands-joined v (at + 8) (at + 12) (cell_bytes (length ps)) r3 (omega (arith, length-cell (length ps))) count (pages-found n h) in
          let encoding = cell-stands v bytes (at + 4) (encoding_at v at) (omega arith) refl in
          let w1 = stands-joined v (at + 4) (at + 8) (cell_bytes (encoding_at v at)) r2 (omega (arith, length-cell (encoding_at v at))) encoding w2 in
          let base = cell-stands v bytes at (base_at v at) (omega arith) refl in
          stands-joined v at (at + 4) (cell_bytes (base_at v at)) r1 (omega (arith, length-cell (base_at v at))) base w1
