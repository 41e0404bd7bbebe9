-- In edition 0, `ibm,pa-features` is answered as it was before A13, for every value, with zeros in the new parts. Assumes nothing.
use mathlib.Core.Path.{◌≡◌, refl, sym, ap, subst, ◌∙◌}
use mathlib.Core.List.{List}
use Prim.Native.Nat.{ℕ, ◌-◌}
use native.Mathlib.Omega.{arith}
use lib.ListN.{take, replicate, length-take}
use Rattle.cells.specs.Cells.{byte_at, cell_at, word_at}
use Rattle.cells.specs.Rows.{each}
use Rattle.refusal.specs.Refusal.{Outcome, answer, refuse}
use Rattle.refusal.specs.Checks.{first_fault}
use Rattle.refusal.proofs.Checks.{holds_on, outcome-through}
use Rattle.attributes.specs.Attributes.{most_bytes, first_later, edition_first, top_bit, known_bytes, pa_table, no_attributes, pa_checks, pa_features, attribute_checks, attribute_bytes}
use Rattle.attributes.specs.declared.PaTable.{PaTable}
use Rattle.attributes.specs.Reserved.{NothingLater}
use Rattle.attributes.proofs.Editions.{known-first, later-none}
use Rattle.attributes.proofs.Reserved.{front_at, front-behind}

-- the answer of then, and its definition
pub record TableBefore : Type 0 where
  pub raw : List ℕ
  pub data_streams : ℕ
  pub vector : ℕ
  pub vector_scalar : ℕ
  pub vector_crypto : ℕ
  pub transactional_memory : ℕ
  pub coprocessor : ℕ

abbrev pub table_before : List ℕ → TableBefore
table_before bytes = record {
  raw = each 6 (byte_at bytes);
  data_streams = top_bit (byte_at bytes 6);
  vector = top_bit (byte_at bytes 16);
  vector_scalar = top_bit (byte_at bytes 18);
  vector_crypto = top_bit (byte_at bytes 20);
  transactional_memory = top_bit (byte_at bytes 22);
  coprocessor = word_at bytes 8;
}

abbrev pub zeros_before : TableBefore
zeros_before = record {
  raw = replicate 6 0;
  data_streams = 0;
  vector = 0;
  vector_scalar = 0;
  vector_crypto = 0;
  transactional_memory = 0;
  coprocessor = 0;
}

abbrev pub pa_before : List ℕ → Outcome TableBefore
pa_before value = first_fault (refuse zeros_before) (attribute_checks value) (answer (table_before (attribute_bytes value)))

-- the answer of now that has zeros in the new parts
abbrev pub with_zeros : TableBefore → PaTable
with_zeros t = record {
  raw = t.raw;
  data_streams = t.data_streams;
  vector = t.vector;
  vector_scalar = t.vector_scalar;
  vector_crypto = t.vector_crypto;
  transactional_memory = t.transactional_memory;
  copy_paste = 0;
  radix_translation = 0;
  second_watchpoint = 0;
  coprocessor = t.coprocessor;
  raw_later = replicate (most_bytes - first_later) 0;
}

same-table : (bytes : List ℕ) → with_zeros (table_before bytes) ≡ pa_table (take first_later bytes)
unfolding pa_table word_at cell_at
same-table bytes =
    let at = front_at bytes in
    rw (
      at 0 (omega arith),
      at 1 (omega arith),
      at 2 (omega arith),
      at 3 (omega arith),
      at 4 (omega arith),
      at 5 (omega arith),
      at 6 (omega arith),
      at 8 (omega arith),
      at 9 (omega arith),
      at 10 (omega arith),
      at 11 (omega arith),
      at 12 (omega arith),
      at 13 (omega arith),
      at 14 (omega arith),
      at 15 (omega arith),
      at 16 (omega arith),
      at 18 (omega arith),
      at 20 (omega arith),
      at 22 (omega arith),
      front-behind bytes 38 (omega arith),
      front-behind bytes 40 (omega arith),
      front-behind bytes 64 (omega arith),
      sym (later-none (take first_later bytes) (omega (arith, length-take first_later bytes))),
    )

pub as_before : (value : List ℕ) → let o = pa_before value in pa_features edition_first value ≡ record { number = o.number; value = with_zeros o.value }
unfolding pa_features pa_checks no_attributes
as_before value =
    let bytes : List ℕ = attribute_bytes value in
    holds_on (refuse no_attributes) _ (attribute_checks value) _ tt
    ∙ sym
    (outcome-through with_zeros zeros_before (table_before bytes) no_attributes (pa_table (known_bytes edition_first bytes)) (attribute_checks value) refl
    (λ _. same-table bytes ∙ ap pa_table (sym (known-first bytes refl))))

-- so the new parts are zero
pub nothing-later : (value : List ℕ) → NothingLater (pa_features edition_first value).value
nothing-later value =
    subst (λ (o : Outcome PaTable). NothingLater o.value) (sym (as_before value))
    (record { copy_paste = refl; radix_translation = refl; second_watchpoint = refl; raw_later = refl })
