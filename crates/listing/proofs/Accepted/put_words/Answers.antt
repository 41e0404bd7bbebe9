-- `listing::Accepted::put_words` meets its contract.
use mathlib.Core.Path.{ap, ◌∙◌}
use mathlib.Core.List.{◌++◌}
use Prim.Native.Nat.{ℕ}
use Rattle.characters.specs.Characters.{bytes}
use Rattle.words.specs.Words.{WordValues}
use Rattle.listing.specs.Digits.{hex_word}
use Rattle.listing.specs.Listing.{words_line}
use Rattle.listing.proofs.PutLaws.{put_then, put_as}
use Rattle.listing.proofs.StateLaws.{words-ok, words_are}
use Rattle.listing.proofs.Accepted.put_words.Goals as goal

pub unwrap-words-requires : goal.unwrap-words-requires
unwrap-words-requires c = words-ok c.args.self.now.read c.all_granted.ensures _ c.words.ensures

pub returns : goal.returns
unfolding words_line
returns c =
    let words = words_are c.args.self.now.read c.all_granted.ensures _ c.unwrap-words.result c.words.ensures c.unwrap-words.ensures in
    put_then
    (put_then
    (put_then
    (put_then
    (put_as (ap (λ (n : ℕ). bytes "hwcap " ++ hex_word 8 n) (c.from.ensures ∙ ap (λ (v : WordValues). v.first) words)) c.put_worded.ensures)
    (put_as (ap (λ (n : ℕ). bytes " " ++ hex_word 8 n) (c.from-2.ensures ∙ ap (λ (v : WordValues). v.second) words)) c.put_worded-2.ensures))
    (put_as (ap (λ (v : WordValues). bytes " fscr " ++ hex_word 16 v.fscr) words) c.put_worded-3.ensures))
    (put_as (ap (λ (v : WordValues). bytes " hfscr " ++ hex_word 16 v.hfscr) words) c.put_worded-4.ensures))
    c.put.ensures
