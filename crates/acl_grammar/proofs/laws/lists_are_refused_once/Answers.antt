use Rattle.acl_grammar.specs.Spelling.{spells}
use Rattle.acl_grammar.proofs.Whole.{not_spelled, refused_once}
use Rattle.acl_grammar.proofs.laws.lists_are_refused_once.Goals as goal

pub returns-clause-once : goal.returns-clause-once
returns-clause-once g c = refused_once (spells g.G.SaneGrammar.grammar)

pub returns-clause-unspelled : goal.returns-clause-unspelled
returns-clause-unspelled g c = λ tokens bad value h. not_spelled (spells g.G.SaneGrammar.grammar) tokens bad h value
