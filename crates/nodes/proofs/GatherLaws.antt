-- Gathering the children of a node, token by token: what is left decides the whole. Assumes nothing.
use mathlib.Core.Path.{◌≡◌, refl, sym, ap, ◌∙◌}
use mathlib.Core.List.{List, [], ◌∷◌, ◌++◌, map, append_assoc, append-nil}
use Prim.Native.Nat.{ℕ, ◌+◌, ◌<◌, ◌≤◌}
use native.Mathlib.Omega.{arith}
use borrow.Author.Tests.{lt-ltb, le-ltb}
use lib.ListN.{length, take, set, length-append}
use lib.Seq.{take_all, take-append_seam}
use Rattle.std.specs.Prelude.{Option, None, Some}
use Rattle.cells.specs.Rows.{padded}
use Rattle.header.specs.declared.Blocks.{Blocks}
use Rattle.walk.specs.Walk.{name_in, tree_tokens}
use Rattle.record.specs.Record.{most_features}
use Rattle.nodes.specs.declared.Move.TheVariants.{Child, Past}
use Rattle.nodes.specs.declared.NodePlace.{NodePlace}
use Rattle.nodes.specs.declared.ChildPlaces.{ChildPlaces}
use Rattle.nodes.specs.Nodes.{Node, node_at, children_at}
use Rattle.nodes.specs.Places.{no_place, place_of, over_of, child_places}
use Rattle.nodes.specs.Parts.{Moved, child, past}
use Rattle.nodes.proofs.MoveLaws.{children-past}
use Rattle.nodes.proofs.RowLaws.{row_more}

-- the node behind others, and none
node-seam : (ns : List Node) (n : Node) (ms : List Node) → node_at (ns ++ n ∷ ms) (length ns) ≡ n
unfolding node_at
node-seam [] n ms = refl
node-seam (m ∷ ns) n ms = node-seam ns n ms

-- where one more than may be taken begins, and none where there are not so many
no-more : (ns : List Node) → length ns ≤ most_features → over_of ns ≡ None
no-more ns h = rw (le-ltb most_features (length ns) h)

one-more : (ns : List Node) → most_features < length ns → over_of ns ≡ Some (node_at ns most_features).at
one-more ns h = rw (lt-ltb most_features (length ns) h)

same-places : {c d : ℕ} {o p : Option ℕ} {ps qs : List NodePlace} → c ≡ d → o ≡ p → ps ≡ qs
    → ◌≡◌ {A = ChildPlaces} (record { count = c; over = o; places = ps }) (record { count = d; over = p; places = qs })
same-places e f g = rw (e, f, g)

module _ (tree : List ℕ) (b : Blocks) where
  abbrev row : List Node → List NodePlace
  row ns = padded most_features no_place (map (place_of b.end) ns)

  -- the children that begin before a place are taken; the tokens from there on have the others
  pub record Gathering (first : ℕ) (fs : ChildPlaces) (depth at : ℕ) : Type 0 where
    pub taken : List Node
    pub split : children_at 0 (tree_tokens tree b first) ≡ taken ++ children_at depth (tree_tokens tree b at)
    pub few : length taken ≤ most_features
    pub count : fs.count ≡ length taken
    pub over : fs.over ≡ None
    pub places : fs.places ≡ row taken
    pub low : depth ≤ at

  module _ {first : ℕ} {fs : ChildPlaces} {depth at : ℕ} (g : Gathering first fs depth at) where
    abbrev all : List Node
    all = children_at 0 (tree_tokens tree b first)

    -- a child begins
    abbrev with : ℕ → NodePlace → ChildPlaces
    with n p = record { count = n + 1; over = fs.over; places = set fs.places n p }

    pub gather-child : {t name next : ℕ} → Moved tree b depth at (Child t name next) → fs.count < most_features
        → Gathering first (with fs.count (record { at = t; name = name; behind = next })) 1 next
    gather-child {next = next} (child {n = n} e p on) room =
        record {
          taken = g.taken ++ n ∷ [];
          split =
              g.split
              ∙ ap (λ (ns : List Node). g.taken ++ ns) e
              ∙ sym (append_assoc g.taken (n ∷ []) (children_at 1 (tree_tokens tree b next)));
          few = omega (arith, g.count, length-append g.taken (n ∷ []));
          count = omega (arith, g.count, length-append g.taken (n ∷ []));
          over = g.over;
          places =
              rw (g.places, g.count)
              (ap (set (row g.taken) (length g.taken)) (sym p)
              ∙ row_more (place_of b.end) most_features no_place g.taken n (omega (arith, g.count)));
          low = omega (arith, on);
        }

    -- a token is passed
    pub gather-past : {d next : ℕ} → Moved tree b depth at (Past d next) → Gathering first fs d next
    gather-past (past e on l) =
        record {
          taken = g.taken;
          split = g.split ∙ ap (λ (ns : List Node). g.taken ++ ns) e;
          few = g.few;
          count = g.count;
          over = g.over;
          places = g.places;
          low = l;
        }

    -- there are no more
    pub gathered : b.end ≤ at → fs ≡ child_places b.end all
    unfolding child_places
    gathered h =
        let none = children-past tree b.end (name_in tree b) at h depth in
        let whole : all ≡ g.taken = g.split ∙ ap (λ (ns : List Node). g.taken ++ ns) none ∙ append-nil g.taken in
        rw whole
        (same-places
        (omega (arith, g.count, g.few))
        (g.over ∙ sym (no-more g.taken g.few))
        (g.places ∙ ap row (sym (take_all most_features g.taken g.few))))

    -- there is one more than may be taken
    abbrev overfull : ℕ → ChildPlaces
    overfull t = record { count = fs.count; over = Some t; places = fs.places }

    pub gathered-over : {t name next : ℕ} → Moved tree b depth at (Child t name next) → most_features ≤ fs.count
        → overfull t ≡ child_places b.end all
    unfolding child_places
    gathered-over {next = next} (child {n = n} e p on) h =
        let rest = n ∷ children_at 1 (tree_tokens tree b next) in
        let whole : all ≡ g.taken ++ rest = g.split ∙ ap (λ (ns : List Node). g.taken ++ ns) e in
        let k : most_features ≡ length g.taken = omega (arith, g.count, g.few) in
        let l = length-append g.taken rest in
        let m : most_features < length (g.taken ++ rest) = omega arith in
        rw whole
        (same-places
        (omega (arith, g.count))
        (ap Some
        (ap (λ (q : NodePlace). q.at) (sym p)
        ∙ ap (λ (o : Node). o.at) (sym (node-seam g.taken n _))
        ∙ ap (λ (i : ℕ). (node_at (g.taken ++ rest) i).at) (sym k))
        ∙ sym (one-more (g.taken ++ rest) m))
        (g.places ∙ ap row (sym (take-append_seam g.taken rest) ∙ ap (λ (i : ℕ). take i (g.taken ++ rest)) (sym k))))
