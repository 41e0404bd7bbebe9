-- What the attributes are read from: by document 01, "reserved bits and bytes from 24 are ignored"; by A13 of document 02, "in 1 bytes 24 to
-- 253 are handed on raw too".
use Rattle.std.specs.Prelude.{◌≡◌, List, ℕ, ◌-◌, ◌<◌, ◌≤◌, replicate}
use Rattle.cells.specs.Cells.{byte_at}
use Rattle.attributes.specs.Attributes.{most_bytes, first_later, edition_later, top_bit}
use Rattle.attributes.specs.declared.PaTable.{PaTable}

-- two runs of bytes that agree on the bits and bytes that an edition names; the top bits of bytes 38, 40 and 64 are among its later bytes
pub record Agree (edition : ℕ) (a b : List ℕ) : Type 0 where
  pub raw : (k : ℕ) → k < 6 → byte_at a k ≡ byte_at b k
  pub data_streams : top_bit (byte_at a 6) ≡ top_bit (byte_at b 6)
  pub coprocessor : (k : ℕ) → 8 ≤ k → k < 16 → byte_at a k ≡ byte_at b k
  pub vector : top_bit (byte_at a 16) ≡ top_bit (byte_at b 16)
  pub vector_scalar : top_bit (byte_at a 18) ≡ top_bit (byte_at b 18)
  pub vector_crypto : top_bit (byte_at a 20) ≡ top_bit (byte_at b 20)
  pub transactional_memory : top_bit (byte_at a 22) ≡ top_bit (byte_at b 22)
  pub later : edition ≡ edition_later → (k : ℕ) → first_later ≤ k → k < most_bytes → byte_at a k ≡ byte_at b k

-- "0 behaves as before": the parts that A13 adds are zero
pub record NothingLater (t : PaTable) : Type 0 where
  pub copy_paste : t.copy_paste ≡ 0
  pub radix_translation : t.radix_translation ≡ 0
  pub second_watchpoint : t.second_watchpoint ≡ 0
  pub raw_later : t.raw_later ≡ replicate (most_bytes - first_later) 0
