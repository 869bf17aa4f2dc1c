use Rattle.acl_grammar.proofs.Answered.{answer_found, answer_only, answer_refused, either_complete}
use Rattle.acl_grammar.specs.Code.{either_view}
use Rattle.acl_grammar.specs.Spelling.{one_of, spells}
use Rattle.acl_grammar.proofs.complete.read_either.Goals as goal

pub returns-clause-found : goal.returns-clause-found
returns-clause-found g c =
    answer_found (spells (one_of g.R.Rule.grammar g.S.Rule.grammar)) _ _
    (either_complete g.R.Rule.grammar g.S.Rule.grammar g.met.R.Rule.sane g.met.S.Rule.sane c.requires c.args.tokens.now)
    (either_view g.R.Rule.view g.S.Rule.view) c.read_furthest.result c.read_furthest.ensures

pub returns-clause-only : goal.returns-clause-only
returns-clause-only g c =
    answer_only (spells (one_of g.R.Rule.grammar g.S.Rule.grammar)) _ _
    (either_complete g.R.Rule.grammar g.S.Rule.grammar g.met.R.Rule.sane g.met.S.Rule.sane c.requires c.args.tokens.now)
    (either_view g.R.Rule.view g.S.Rule.view) c.read_furthest.result c.read_furthest.ensures

pub returns-clause-refused : goal.returns-clause-refused
returns-clause-refused g c =
    answer_refused (spells (one_of g.R.Rule.grammar g.S.Rule.grammar)) _ _
    (either_complete g.R.Rule.grammar g.S.Rule.grammar g.met.R.Rule.sane g.met.S.Rule.sane c.requires c.args.tokens.now)
    (either_view g.R.Rule.view g.S.Rule.view) c.read_furthest.result c.read_furthest.ensures
