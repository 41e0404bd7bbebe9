-- The record of an accepted tree is well formed. Assumes nothing.
use mathlib.Core.Path.{◌≡◌, refl, sym, subst}
use mathlib.Core.Bool.{true, false≢true}
use mathlib.Core.List.{List}
use Prim.Native.Nat.{ℕ, ◌<◌}
use native.Mathlib.Omega.{arith}
use Rattle.record.specs.declared.Record.{Record}
use Rattle.record.specs.declared.Property.{Property}
use Rattle.record.specs.declared.Property.TheVariants.{HvSupport, OsSupport, HfscrBitNr, FscrBitNr, HwcapBitNr}
use Rattle.record.specs.Record.{feature_at}
use Rattle.record.specs.Cells.{cell}
use Rattle.form.specs.Formed.{InRange, GivenWith, FeatureFormed}
use Rattle.form.specs.WellFormed.{well_formed}
use Rattle.form.proofs.Formed.{formed-passes}
use Rattle.nodes.specs.Nodes.{Node, node_at, children}
use Rattle.nodes.specs.Values.{Value, missing, value, value_of, number}
use Rattle.reading.specs.Features.{cell_of, cell_in}
use Rattle.reading.specs.Reading.{read_record}
use Rattle.reading.specs.Accepted.{container_of, NumberForm, GivenWhere, FeatureForm}
use Rattle.reading.specs.Resolved.{Holds, Resolved}
use Rattle.reading.proofs.Ends.{read-accepted}
use Rattle.reading.proofs.Dependencies.{form-at, read-holds, read-dependencies}

-- a bit number that is in range, and given where it is required
in-range : (highest : ℕ) (v : Value) → NumberForm highest v → InRange highest (cell_of v)
in-range highest missing f n e = let z : ◌≡◌ {A = ℕ} 0 1 = cc in absurd (omega arith)
in-range highest (value bs) f n e = let same : number (value bs) ≡ n = cc in omega (arith, f.range)

given-with : (support v : Value) → GivenWhere support v → GivenWith (cell_of support) (cell_of v)
given-with missing v f e = absurd (false≢true e)
given-with (value ss) missing f e = absurd (false≢true (f e))
given-with (value ss) (value bs) f e = (number (value bs), refl)

module _ (c : Node) (r : Record) (h : Holds c r) (s : Resolved (children c) r) where
  module _ (i : ℕ) (l : i < r.count) {before : List Node} (f : FeatureForm before (node_at (children c) i)) where
    abbrev n : Node
    n = node_at (children c) i

    low : (highest : ℕ) (p : Property) → InRange highest (cell_in n p) → InRange highest (cell (feature_at r i) p)
    low highest p = subst (InRange highest) (sym (h.cells i l p))

    there : (p q : Property) → GivenWith (cell_in n p) (cell_in n q)
        → GivenWith (cell (feature_at r i) p) (cell (feature_at r i) q)
    there p q g = rw (h.cells i l p, h.cells i l q) g

    feature-formed : FeatureFormed r i
    unfolding cell_in
    feature-formed = record {
      hfscr = low _ HfscrBitNr (in-range _ _ f.hfscr);
      fscr = low _ FscrBitNr (in-range _ _ f.fscr);
      hwcap = low _ HwcapBitNr (in-range _ _ f.hwcap);
      hfscr_given = there HvSupport HfscrBitNr (given-with (value_of n "hv-support") (value_of n "hfscr-bit-nr") f.hfscr_given);
      fscr_given = there OsSupport FscrBitNr (given-with (value_of n "os-support") (value_of n "fscr-bit-nr") f.fscr_given);
      few = omega (arith, s.number i l, f.few);
      below = λ j m. s.below i j l m;
    }

pub read-formed : (tree : List ℕ) → (read_record tree).number ≡ 0 → well_formed (read_record tree).value ≡ true
read-formed tree z =
    let r = (read_record tree).value in
    let a = read-accepted tree z in
    let h = read-holds tree z in
    let s = read-dependencies tree z in
    formed-passes r (record {
      few = omega (arith, h.count, a.form.few);
      each = λ i l. feature-formed (container_of tree) r h s i l (form-at (container_of tree) a.form i (omega (arith, h.count)));
    })
