use Rattle.std.proofs.Common.{◌≡◌, ◌++◌, string_bytes, encode_utf8_all}
use Rattle.acl_names.specs.Quoted.{doubled}
use Rattle.canonical_texts.proofs.quotes.write_doubled.Given as goal

abbrev pub invariant-loop-character : goal.invariant-loop-character
invariant-loop-character l = string_bytes l.text ≡ string_bytes l.initial.text ++ doubled (encode_utf8_all l.yielded)
