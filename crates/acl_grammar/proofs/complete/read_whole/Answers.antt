use Rattle.acl_grammar.proofs.Answered.{answer_found, answer_only, answer_refused, whole_complete}
use Rattle.acl_grammar.specs.Spelling.{spells}
use Rattle.acl_grammar.proofs.complete.read_whole.Goals as goal

pub returns-clause-found : goal.returns-clause-found
returns-clause-found g c =
    answer_found (spells g.R.Rule.grammar) _ _ (whole_complete g.R.Rule.grammar g.met.R.Rule.sane c.args.tokens.now)
    g.R.Rule.view c.read_to_end.result c.read_to_end.ensures

pub returns-clause-only : goal.returns-clause-only
returns-clause-only g c =
    answer_only (spells g.R.Rule.grammar) _ _ (whole_complete g.R.Rule.grammar g.met.R.Rule.sane c.args.tokens.now)
    g.R.Rule.view c.read_to_end.result c.read_to_end.ensures

pub returns-clause-refused : goal.returns-clause-refused
returns-clause-refused g c =
    answer_refused (spells g.R.Rule.grammar) _ _ (whole_complete g.R.Rule.grammar g.met.R.Rule.sane c.args.tokens.now)
    g.R.Rule.view c.read_to_end.result c.read_to_end.ensures
