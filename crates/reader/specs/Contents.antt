-- What the contents of a node are.
use Rattle.std.specs.Prelude.{List}
use Rattle.tokens.specs.Tokens.{Token}
use Rattle.walk.specs.Walk.{tree_tokens}
use Rattle.reader.specs.declared.tree.Contents.{Contents}

-- the tokens of the contents of a node
abbrev pub tokens_of : Contents → List Token
tokens_of c = tree_tokens c.tree.bytes.now c.tree.blocks c.first
