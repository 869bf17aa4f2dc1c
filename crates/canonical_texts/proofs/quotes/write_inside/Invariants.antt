use Rattle.std.proofs.Common.{◌≡◌, ◌++◌, string_bytes, encode_utf8_all}
use Rattle.canonical_texts.specs.Quotes.{string_inside}
use Rattle.canonical_texts.proofs.quotes.write_inside.Given as goal

abbrev pub invariant-loop-character : goal.invariant-loop-character
invariant-loop-character l = string_bytes l.text ≡ string_bytes l.initial.text ++ string_inside (encode_utf8_all l.yielded)
