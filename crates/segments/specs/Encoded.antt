-- The values of `ibm,segment-page-sizes` as a relation in document 01's words: "1 to 8 descriptors of base exponent, SLB encoding and a count 1 to 8,
-- then count pairs of exponent and encoding. Exponents at most 63, none below the base." `segment_pages` reads them.
use Rattle.std.specs.Prelude.{ℕ, ◌≤◌, ◌≡◌, length}
use mathlib.Core.List.{List, ◌++◌, flat_map}
use Rattle.cells.specs.Bytes.{IsCell, cell_bytes, Each}
use Rattle.cells.specs.Rows.{padded}
use Rattle.sizes.specs.Sizes.{largest_exponent}
use Rattle.segments.specs.Segments.{most_descriptors, most_pages, no_page}
use Rattle.segments.specs.declared.Page.{Page}
use Rattle.segments.specs.declared.Descriptor.{Descriptor}

-- a descriptor as a value encodes it: the count is the number of its pages
pub record Segment : Type 0 where
  pub base : ℕ
  pub encoding : ℕ
  pub pages : List Page

-- "pairs of exponent and encoding": two cells
unfoldable pub page_bytes : Page → List ℕ
page_bytes p = cell_bytes p.exponent ++ cell_bytes p.encoding

abbrev pub pages_bytes : List Page → List ℕ
pages_bytes = flat_map page_bytes

-- "base exponent, SLB encoding and a count .., then count pairs"
unfoldable pub segment_bytes : Segment → List ℕ
segment_bytes s = cell_bytes s.base ++ (cell_bytes s.encoding ++ (cell_bytes (length s.pages) ++ pages_bytes s.pages))

-- descriptors, one after the other
abbrev pub encoded : List Segment → List ℕ
encoded = flat_map segment_bytes

-- of a page: "Exponents at most 63, none below the base"; the encoding is a cell
pub record PageWithin (base : ℕ) (p : Page) : Type 0 where
  pub low : p.exponent ≤ largest_exponent
  pub not_below : base ≤ p.exponent
  pub encoding : IsCell p.encoding

-- of a descriptor: "Exponents at most 63"; the encoding is a cell; "a count 1 to 8"
pub record SegmentWithin (s : Segment) : Type 0 where
  pub low : s.base ≤ largest_exponent
  pub encoding : IsCell s.encoding
  pub some : 1 ≤ length s.pages
  pub few : length s.pages ≤ most_pages
  pub pages : Each (PageWithin s.base) s.pages

-- "1 to 8 descriptors"
pub record SegmentsWithin (segments : List Segment) : Type 0 where
  pub some : 1 ≤ length segments
  pub few : length segments ≤ most_descriptors
  pub each : Each SegmentWithin segments

-- a value is the encoding of descriptors within bounds
pub record Encodes (segments : List Segment) (value : List ℕ) : Type 0 where
  pub within : SegmentsWithin segments
  pub bytes : value ≡ encoded segments

-- a descriptor as a table has it: its count, and its pages up to 8 with zeros behind them
unfoldable pub descriptor_of : Segment → Descriptor
descriptor_of s = record {
  base = s.base;
  encoding = s.encoding;
  count = length s.pages;
  pages = padded most_pages no_page s.pages;
}
