-- Demand 2, for all bytes and numbers. Assumes nothing.
use Rattle.std.specs.Prelude.{Option}
use Prim.Native.Nat.{ℕ, ◌<◌, ◌≤◌}
use mathlib.Core.Path.{◌≡◌, refl, ap, ◌∙◌}
use mathlib.Core.List.{List, [], ◌∷◌, map}
use native.Mathlib.Omega.{arith}
use lib.Dec.{eqb, eqb→eq}
use lib.ListN.{length}
use Rattle.refusal.specs.Refusal.{Outcome, answer, refuse}
use Rattle.refusal.specs.Checks.{check, fault_of}
use Rattle.refusal.proofs.Checks.{answered, passes, stops, next-decides, outcome-number, eq→eqb, tests}
use Rattle.cells.specs.Cells.{word_at, cells_in}
use Rattle.unit.proofs.Demand2.{number-text-number, eight-bytes, text-number-text, one-shortest}
use Rattle.sizes.specs.Sizes.{size_only, size_or_none, radix_size, no_sizes, size_checks, size_table, sizes}
use Rattle.sizes.proofs.Accepted.{sizes-accepts, sizes-read, sizes-once, sizes-plain, without-gaps, places-read}
use Rattle.segments.proofs.Accepted.{segments-accepts, segments-read, segments-once}
use Rattle.radix.specs.Radix.{encoding_of, radix_table, no_encodings, radix_encodings}
use Rattle.radix.proofs.Accepted.{radix-accepts, radix-read, radix-once}
use Rattle.attributes.specs.Attributes.{attribute_checks, attribute_bytes, pa_table, edition_later, known_bytes, pa_checks, no_attributes, pa_features, pi_table, pi_features, bus_frequency}
use Rattle.attributes.proofs.Editions.{known-later}
use Rattle.attributes.proofs.Described.{described-once}
use Rattle.attributes.proofs.Accepted.{pa-read, pa-accepts, pa-reserved, pi-read, pi-accepts}
use Rattle.attributes.proofs.Before.{nothing-later}
use Rattle.walk.proofs.CheckEnds.{checks-trees}
use Rattle.walk.proofs.TotalSize.{changed-behind, more-behind}
use Rattle.names.proofs.NameLaws.{long-property}
use Rattle.lookup.proofs.LooksUp.{looks-up}
use Rattle.lookup.proofs.ReturnedPart.{no_name}
use Rattle.reading.specs.Reading.{read_record}
use Rattle.reading.proofs.Accepts.{read-accepts}
use Rattle.reading.proofs.ContainerRefused.{container-refused}
use Rattle.reading.proofs.Faults.{read-ends}
use Rattle.reading.proofs.Dependencies.{read-holds, read-zeroed, read-dependencies}
use Rattle.reading.proofs.Capability.{read-capability}
use Rattle.reading.proofs.TotalSize.{same-tree-read}
use Rattle.listing.proofs.TotalSize.{same-tree-listing, first-listing}
use Rattle.cases.specs.Demand2.{Demand2Tree, Demand2Lookup, Demand2Sizes, Demand2Radix, Demand2Pa, Demand2Pi, Demand2Value, Demand2Unit, Demand2}
use Rattle.cases.proofs.StringLists.{of-list}

of_tree : (tree : List ℕ) → Demand2Tree read_record tree
of_tree tree = record {
  walked = checks-trees tree;
  accepted = read-accepts tree;
  else_refused = container-refused tree;
  ends = read-ends tree;
  holds = read-holds tree;
  zeroed = read-zeroed tree;
  resolved = read-dependencies tree;
  capability = read-capability tree;
  behind = same-tree-read tree;
  list_behind = same-tree-listing tree;
  list_first = first-listing tree;
  changed = changed-behind tree;
  followed = more-behind tree;
}

of-lookup : (cpu parent strings name : List ℕ) → Demand2Lookup cpu parent strings name
of-lookup cpu parent strings name = record {
  looks_up = looks-up cpu parent strings name;
  no_name = no_name cpu parent strings name;
  long_name = λ h. no_name cpu parent strings name (long-property name h);
}

module _ (value : List ℕ) where
  of-sizes : (rule : ℕ → Option ℕ) → Demand2Sizes rule (sizes rule) value
  unfolding sizes
  of-sizes rule = record {
    accepted = sizes-accepts rule value;
    answered = λ cells. sizes-read rule cells value;
    once = λ a b. sizes-once rule a b value;
    numbered = outcome-number no_sizes (size_table (cells_in value)) (size_checks rule value);
  }

  pa-unknown : (edition : ℕ) → edition_later < edition → pa_features edition value ≡ refuse no_attributes 15
  unfolding pa_features pa_checks
  pa-unknown edition h = stops (refuse no_attributes) 0 0 (pa_checks edition value) _ (omega (arith, tests))

  pa-number : (edition : ℕ) → edition ≤ edition_later → (pa_features edition value).number ≡ fault_of (attribute_checks value)
  unfolding pa_features pa_checks
  pa-number edition h =
      outcome-number no_attributes (pa_table (known_bytes edition (attribute_bytes value))) (pa_checks edition value)
      ∙ next-decides _ (attribute_checks value) (omega (arith, tests))

  of-pa : Demand2Pa pa_features value
  of-pa = record {
    unknown = pa-unknown;
    accepted = λ edition. pa-accepts edition value;
    answered = λ edition. pa-read edition value;
    numbered = pa-number;
    first = nothing-later value;
    later = λ ds used g. pa-read edition_later value (omega arith) ds used g ∙ ap (λ (bytes : List ℕ). answer (pa_table bytes)) (known-later used (λ e. omega arith));
    reserved = λ edition h. pa-reserved edition h value;
  }

  of-pi : Demand2Pi pi_features value
  unfolding pi_features
  of-pi = record {
    accepted = pi-accepts value;
    answered = pi-read value;
    numbered = outcome-number (pi_table []) (pi_table (attribute_bytes value)) (attribute_checks value);
  }

  of-radix : Demand2Radix radix_encodings value
  unfolding radix_encodings
  of-radix = record {
    accepted = radix-accepts value;
    answered = radix-read value;
    once = radix-once value;
    numbered = outcome-number no_encodings (radix_table (map encoding_of (cells_in value))) (size_checks radix_size value);
  }

  bus-read : length value ≡ 8 → bus_frequency value ≡ answer (word_at value 0)
  unfolding bus_frequency
  bus-read e = passes (refuse 0) (check (eqb (length value) 8) 11 ∷ []) (answer (word_at value 0)) (eq→eqb (length value) 8 e, tt)

  bus-length : (bus_frequency value).number ≡ 0 → length value ≡ 8
  unfolding bus_frequency
  bus-length z = eqb→eq (length value) 8 (answered 0 (word_at value 0) (check (eqb (length value) 8) 11 ∷ []) (omega arith, tt) z).0

  of-value : Demand2Value value
  of-value = record {
    pages = of-sizes size_only;
    pages_plain = sizes-plain size_only value refl;
    sizes_of_segments = of-sizes size_or_none;
    places = λ cells. places-read cells value;
    without_gaps = without-gaps value;
    segments_accepted = segments-accepts value;
    segments_read = λ segments. segments-read segments value;
    segments_once = λ a b. segments-once a b value;
    radix = of-radix;
    pa = of-pa;
    pi = of-pi;
    described_once = described-once value;
    bus_accepted = (bus-length, λ e. ap (λ (o : Outcome ℕ). o.number) (bus-read e));
    bus_read = bus-read;
  }

of-text : Demand2Unit
of-text = record { reads_back = number-text-number; enough = eight-bytes; shortest = text-number-text; one = one-shortest }

pub demand-2 : Demand2
demand-2 = record { trees = of_tree; lookups = of-lookup; lists = of-list; values = of-value; texts = of-text }
