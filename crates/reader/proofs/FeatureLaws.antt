-- All properties of one feature. Assumes nothing.
use mathlib.Core.Path.{◌≡◌, refl, sym, ap, subst, ◌∙◌}
use mathlib.Core.Bool.{Bool}
use mathlib.Core.List.{List}
use Prim.Native.Nat.{ℕ}
use lib.ListN.{length, set}
use Rattle.header.specs.declared.Blocks.{Blocks}
use Rattle.std.specs.Prelude.{Option, Result, Ok, Err}
use Rattle.positions.proofs.BitLaws.{bit-none}
use Rattle.walk.specs.Walk.{tree_tokens}
use Rattle.refusal.specs.declared.Refusal.{Refusal}
use Rattle.refusal.specs.Refusal.{Fault, number_in}
use Rattle.refusal.specs.Checks.{Check}
use Rattle.record.specs.declared.Feature.{Feature}
use Rattle.feature.specs.declared.FeatureCells.{FeatureCells}
use Rattle.record.specs.declared.Property.{Property}
use Rattle.record.specs.declared.Property.TheVariants.{Isa, UsablePrivilege, HvSupport, OsSupport, HfscrBitNr, FscrBitNr, HwcapBitNr, Phandle, Dependencies}
use Rattle.record.specs.Cells.{low_bit as bit_of_cell, feature_with}
use Rattle.feature.specs.declared.CellRead.{CellRead}
use Rattle.feature.specs.Feature.{read_as, refused_number, cell_from, cells_from, refusal_of, feature_from, feature_read, feature_outcome}
use Rattle.feature.proofs.RefusalLaws.{first-none, none-refused, answer-number, answer-feature}
use Rattle.nodes.specs.declared.NodePlace.{NodePlace}
use Rattle.nodes.specs.Nodes.{Node}
use Rattle.nodes.specs.Values.{Value, missing, value, low_bit}
use Rattle.nodes.specs.Parts.{IsNode}
use Rattle.reading.specs.Features.{bit_checks, feature_checks, cell_of, count_of, cell_in, feature_of}
use Rattle.reader.specs.Parts.{CellResult, CellIs, Judged, noted_of, ArePhandles, BitIs, IsRead, CellsAre, ReadsFeature}
use Rattle.reader.proofs.JudgedLaws.{judged-both}
use Rattle.reader.proofs.PropertyLaws.{required-judged, optional-judged}

-- a property as an answer gives it
number-as : (c : CellResult) → refused_number (read_as c).refusal ≡ number_in c
number-as (Ok cell) = refl
number-as (Err refusal) = refl

module _ {Is : CellResult → Type 0} {r : CellRead} where
  pub is-read : (c : CellResult) → Is c → r ≡ read_as c → IsRead Is r
  is-read c h e = record { answer = c; is = h; same = e }

  module _ (h : IsRead Is r) where
    number-read : refused_number r.refusal ≡ number_in h.answer
    number-read = ap (λ (r : CellRead). refused_number r.refusal) h.same ∙ number-as h.answer

    judged-read : {cs : List (Check Fault)} {at : ℕ} → Judged cs (number_in h.answer) at → Judged cs (refused_number r.refusal) at
    judged-read j = rw number-read j

    cell-read : {x : Option ℕ} → (number_in h.answer ≡ 0 → cell_from (read_as h.answer) ≡ x) → refused_number r.refusal ≡ 0 → cell_from r ≡ x
    cell-read k z = ap cell_from h.same ∙ k (sym number-read ∙ z)

-- bit 0 of a support cell
low-cell : (v : Value) → bit_of_cell (cell_of v) ≡ low_bit v
low-cell missing = sym (bit-none 0)
low-cell (value bs) = refl

support-judged : {highest : ℕ} {needed : Bool} {v u : Value} {s r : CellRead} → IsRead (CellIs needed v) s → refused_number s.refusal ≡ 0
    → IsRead (BitIs highest (bit_of_cell (cell_from s)) u) r → (at : ℕ) → Judged (bit_checks at highest (low_bit v) u) (refused_number r.refusal) at
support-judged {highest} {v = v} {u = u} {r = r} h z g at =
    subst (λ (b : Bool). Judged (bit_checks at highest b u) (refused_number r.refusal) at) (ap bit_of_cell (cell-read h h.is.cell z) ∙ low-cell v)
    (judged-read g (g.is.judged at))

module _ {tree : List ℕ} {b : Blocks} {p : NodePlace} {phandles : List (Option ℕ)} {i : ℕ} {cells : FeatureCells} (cs : CellsAre (tree_tokens tree b p.behind) phandles i cells)
    (before : List Node) (n : Node) (h : IsNode tree b n p) where
  feature-judged : ArePhandles phandles before → i ≡ length before → Judged (feature_checks before n) (refusal_of cells) n.at
  unfolding feature_checks
  feature-judged y e =
      simp h.values
      (judged-both _ _ (judged-read cs.isa (required-judged cs.isa.is n.at)) (λ a.
      judged-both _ _ (judged-read cs.support.usable (required-judged cs.support.usable.is n.at)) (λ z.
      judged-both _ _ (judged-read cs.support.hv (optional-judged cs.support.hv.is n.at)) (λ v.
      judged-both _ _ (judged-read cs.support.os (optional-judged cs.support.os.is n.at)) (λ o.
      judged-both _ _ (support-judged cs.support.hv v cs.bits.hfscr n.at) (λ z.
      judged-both _ _ (support-judged cs.support.os o cs.bits.fscr n.at) (λ z.
      judged-both _ _ (judged-read cs.bits.hwcap (cs.bits.hwcap.is.judged n.at)) (λ z.
      judged-both _ _ (judged-read cs.phandle (cs.phandle.is.judged before y e n.at)) (λ z.
      rw (← (first-none (refused_number cells.dependencies.refusal))) (judged-read cs.dependencies (cs.dependencies.is.judged n.at)))))))))))

-- the feature, where nothing is refused
module _ {tree : List ℕ} {b : Blocks} {p : NodePlace} {phandles : List (Option ℕ)} {i : ℕ} {cells : FeatureCells} (cs : CellsAre (tree_tokens tree b p.behind) phandles i cells)
    (n : Node) (h : IsNode tree b n p) (z : refusal_of cells ≡ 0) where
  cells-read : (q : Property) → cells_from cells q ≡ cell_in n q
  unfolding cell_in
  cells-read Isa = cell-read cs.isa cs.isa.is.cell (none-refused cells z Isa) ∙ ap cell_of (sym (h.values _))
  cells-read UsablePrivilege = cell-read cs.support.usable cs.support.usable.is.cell (none-refused cells z UsablePrivilege) ∙ ap cell_of (sym (h.values _))
  cells-read HvSupport = cell-read cs.support.hv cs.support.hv.is.cell (none-refused cells z HvSupport) ∙ ap cell_of (sym (h.values _))
  cells-read OsSupport = cell-read cs.support.os cs.support.os.is.cell (none-refused cells z OsSupport) ∙ ap cell_of (sym (h.values _))
  cells-read HfscrBitNr = cell-read cs.bits.hfscr cs.bits.hfscr.is.cell (none-refused cells z HfscrBitNr) ∙ ap cell_of (sym (h.values _))
  cells-read FscrBitNr = cell-read cs.bits.fscr cs.bits.fscr.is.cell (none-refused cells z FscrBitNr) ∙ ap cell_of (sym (h.values _))
  cells-read HwcapBitNr = cell-read cs.bits.hwcap cs.bits.hwcap.is.cell (none-refused cells z HwcapBitNr) ∙ ap cell_of (sym (h.values _))
  cells-read Phandle = cell-read cs.phandle cs.phandle.is.cell (none-refused cells z Phandle) ∙ ap cell_of (sym (h.values _))
  cells-read Dependencies = cell-read cs.dependencies cs.dependencies.is.cell (none-refused cells z Dependencies) ∙ ap count_of (sym (h.values _))

  feature-read : feature_from p.at cells ≡ feature_of n
  unfolding feature_of
  feature-read = let at = sym h.offset in λ k. feature_with (at k) (λ q. cells-read q k)

  phandle-noted : cell_from cells.phandle ≡ noted_of n
  phandle-noted = cell-read cs.phandle cs.phandle.is.cell (none-refused cells z Phandle) ∙ ap cell_of (sym (h.values _))

pub feature-is : {tree : List ℕ} {b : Blocks} {p : NodePlace} {old : List (Option ℕ)} {i : ℕ} {cells : FeatureCells} (r : Result Feature Refusal) {x : Option ℕ}
    → CellsAre (tree_tokens tree b p.behind) old i cells → feature_outcome r ≡ feature_read p.at cells → x ≡ cell_from cells.phandle
    → ReadsFeature tree b p old (set old i x) i r
feature-is {p = p} {old = old} {cells = cells} r cs e q before n h y l =
    let k : number_in r ≡ refusal_of cells = answer-number p.at cells r e in
    record {
      judged = rw k (feature-judged cs before n h y l);
      feature = λ f. answer-feature p.at cells r e f ∙ feature-read cs n h (sym k ∙ ap number_in f);
      phandle = λ z. rw (← l, q, phandle-noted cs n h (sym k ∙ z));
    }
