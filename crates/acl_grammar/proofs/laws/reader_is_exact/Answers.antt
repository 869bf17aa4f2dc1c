use Rattle.std.proofs.Common.{subst}
use Rattle.acl_grammar.specs.Reader.{read}
use Rattle.acl_grammar.specs.Spelling.{spells}
use Rattle.acl_grammar.proofs.Exact.{Judged}
use Rattle.acl_grammar.proofs.Theorem.{exact}
use Rattle.acl_grammar.proofs.laws.reader_is_exact.Goals as goal

pub returns-clause-took : goal.returns-clause-took
returns-clause-took g c = λ tokens value rest h.
    let grammar = g.G.SaneGrammar.grammar in
    subst (Judged (spells grammar) (read grammar) tokens) h ((exact grammar g.G.SaneGrammar.sane).judged tokens)

pub returns-clause-stopped : goal.returns-clause-stopped
returns-clause-stopped g c = λ tokens bad h.
    let grammar = g.G.SaneGrammar.grammar in
    subst (Judged (spells grammar) (read grammar) tokens) h ((exact grammar g.G.SaneGrammar.sane).judged tokens)

pub returns-clause-all : goal.returns-clause-all
returns-clause-all g c = (exact g.G.SaneGrammar.grammar g.G.SaneGrammar.sane).all
