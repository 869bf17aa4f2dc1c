use Rattle.grant_parse.proofs.Unique.{one_statement, statement_meant_once}
use Rattle.grant_parse.specs.Meaning.{MeansStatement, level_fault}
use Rattle.grant_parse.specs.Statements.{SpellsStatement}
use Rattle.grant_parse.proofs.Once.{answered_exactly, answered_only}
use Rattle.grant_parse.proofs.parsing.parse.Goals as goal

pub returns-clause-only : goal.returns-clause-only
returns-clause-only c =
    answered_only SpellsStatement level_fault MeansStatement one_statement statement_meant_once c.args.most c.args.text.now c.read_statement.result
    c.read_statement.ensures.ok c.read_statement.ensures.err

pub returns-clause-exact : goal.returns-clause-exact
returns-clause-exact c =
    answered_exactly SpellsStatement level_fault MeansStatement one_statement c.args.most c.args.text.now c.read_statement.result
    c.read_statement.ensures.ok c.read_statement.ensures.err
