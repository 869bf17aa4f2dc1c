use Rattle.std.proofs.Common.{subst}
use Rattle.acl_grammar.specs.Spelling.{spells}
use Rattle.acl_grammar.proofs.Whole.{Right, whole_only, whole_right}
use Rattle.acl_grammar.proofs.laws.whole_reader_is_exact.Goals as goal

pub returns-clause-found : goal.returns-clause-found
returns-clause-found g c = λ tokens value h.
    let grammar = g.G.SaneGrammar.grammar in
    subst (Right (spells grammar) tokens) h (whole_right grammar g.G.SaneGrammar.sane tokens)

pub returns-clause-only : goal.returns-clause-only
returns-clause-only g c = whole_only g.G.SaneGrammar.grammar g.G.SaneGrammar.sane

pub returns-clause-refused : goal.returns-clause-refused
returns-clause-refused g c = λ tokens bad h.
    let grammar = g.G.SaneGrammar.grammar in
    subst (Right (spells grammar) tokens) h (whole_right grammar g.G.SaneGrammar.sane tokens)
