-- A tree, checked whole: its header, and then the walk (document 01, "The walk").
use Rattle.std.specs.Prelude.{ℕ, zero, suc, List, [], Result}
use Rattle.refusal.specs.Refusal.{Placed, placed, refuse_at, fault, placed_of}
use Rattle.refusal.specs.declared.RefusedAt.{RefusedAt}
use Rattle.header.specs.Header.{header}
use Rattle.header.specs.declared.Blocks.{Blocks}
use Rattle.walk.specs.Walk.{Verdict, accepted, refused, before_root, walk, tree_tokens}
use Rattle.walk.specs.Containers.{container_offsets, first_two}
use Rattle.walk.specs.declared.Layout.{Layout}

-- where a tree's blocks lie and where its containers begin
unfoldable pub layout_of : List ℕ → Blocks → Layout
layout_of tree b = record { blocks = b; containers = first_two (container_offsets (tree_tokens tree b b.start)) }

unfoldable pub no_layout : Layout
no_layout = record { blocks = record { start = 0; end = 0; strings = 0; limit = 0 }; containers = first_two [] }

-- the walk's verdict, with the layout of an accepted tree
abbrev pub judge : List ℕ → Blocks → Verdict → Placed Layout
judge tree b accepted = placed (layout_of tree b)
judge tree b (refused n p) = refuse_at no_layout (fault n p)

-- the walk comes after the header's checks
abbrev pub after_header : List ℕ → Placed Blocks → Placed Layout
after_header tree h = elim h.number [
  | zero ↦ judge tree h.value (walk h.value.end before_root (tree_tokens tree h.value h.value.start))
  | suc n ↦ refuse_at no_layout (fault h.number h.place)
]

unfoldable pub check_tree : List ℕ → Placed Layout
check_tree tree = after_header tree (header tree)

-- what an answer says: the number of document 01, the place, and the layout
abbrev pub checked_outcome : Result Layout RefusedAt → Placed Layout
checked_outcome r = placed_of (λ (l : Layout). l) no_layout r
