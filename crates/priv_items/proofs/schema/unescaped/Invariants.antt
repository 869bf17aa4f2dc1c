use Rattle.std.proofs.Common.{◌≡◌, ℕ, List, ◌++◌, encode_utf8_all, string_bytes}
use Rattle.priv_items.specs.Escapes.{held_back, unescaped}
use Rattle.priv_items.proofs.schema.unescaped.Given as goal

abbrev pub invariant-loop-character : goal.invariant-loop-character
invariant-loop-character l =
    (rest : List ℕ) → string_bytes l.name ++ unescaped (held_back l.held rest) ≡ unescaped (encode_utf8_all l.yielded ++ rest)
