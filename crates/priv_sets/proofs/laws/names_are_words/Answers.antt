use Rattle.std.proofs.Common.{ap, sym, ◌∙◌}
use Rattle.std.proofs.lemmas.Bool.{false≢true}
use Rattle.std.proofs.lemmas.List.Sums.{AllPass-from_list_all}
use Rattle.priv_sets.specs.PlainNames.{is_words, is_capital_or_space}
use Rattle.priv_sets.proofs.Names.{names_of_words, names_of_capitals}
use Rattle.priv_sets.proofs.PrivilegeNames.{capital_privilege}
use Rattle.priv_sets.proofs.laws.names_are_words.Goals as goal

pub returns-clause-words : goal.returns-clause-words
returns-clause-words c = names_of_words

pub returns-clause-bytes : goal.returns-clause-bytes
returns-clause-bytes c = λ p below. AllPass-from_list_all is_capital_or_space _ (names_of_capitals p below)

pub returns-clause-not_empty : goal.returns-clause-not_empty
returns-clause-not_empty c = λ p below empty. false≢true (sym (ap is_words empty) ∙ names_of_words p below)

pub returns-clause-capitals : goal.returns-clause-capitals
returns-clause-capitals c = capital_privilege
