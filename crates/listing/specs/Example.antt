-- The list of document 01's five features ("Both sides": "It prints"), and that of the same with one that has no capability bit (A2).
use Rattle.std.specs.Prelude.{ℕ, List, [], ◌∷◌, ◌++◌, map}
use Prim.Native.String.{String}
use Rattle.characters.specs.Characters.{bytes}
use Rattle.listing.specs.Listing.{line_end}

-- by the words
abbrev lines_with : String → List (List ℕ)
lines_with words_text =
    map (λ (text : String). bytes text ++ line_end)
    ("isa 3000 features 5 enabled 2"
    ∷ "0 alpha on"
    ∷ "1 bravo on"
    ∷ "2 carol off carol"
    ∷ "3 delta off delta>carol"
    ∷ "4 echo off echo"
    ∷ words_text
    ∷ [])

unfoldable pub example_lines : List (List ℕ)
example_lines = lines_with "hwcap 00000004 00000008 fscr 0000000000000200 hfscr 0000000000000000"

-- alpha "can be enabled and adds nothing to the capability words"
unfoldable pub older_lines : List (List ℕ)
older_lines = lines_with "hwcap 00000000 00000008 fscr 0000000000000200 hfscr 0000000000000000"
