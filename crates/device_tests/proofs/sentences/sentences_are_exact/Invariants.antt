use Rattle.std.proofs.Common.{ℕ, List}
use Rattle.device_tests.specs.Sentences.{sentence, sentence_sane}
use Rattle.device_tests.proofs.sentences.sentences_are_exact.Given as goal

abbrev pub ghosts-whole_reader_is_exact : goal.ghosts-whole_reader_is_exact
ghosts-whole_reader_is_exact a = record { Token = ℕ; Meaning = List (List ℕ) × List ℕ; grammar = sentence; sane = sentence_sane }

abbrev pub ghosts-lists_are_refused_once : goal.ghosts-lists_are_refused_once
ghosts-lists_are_refused_once a = record { Token = ℕ; Meaning = List (List ℕ) × List ℕ; grammar = sentence; sane = sentence_sane }
