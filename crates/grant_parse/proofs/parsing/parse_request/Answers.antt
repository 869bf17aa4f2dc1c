use Rattle.grant_parse.proofs.Unique.{one_request, request_meant_once}
use Rattle.grant_parse.specs.Meaning.{MeansRequest, request_fault}
use Rattle.grant_parse.specs.Statements.{SpellsRequest}
use Rattle.grant_parse.proofs.Once.{answered_exactly, answered_only}
use Rattle.grant_parse.proofs.parsing.parse_request.Goals as goal

pub returns-clause-only : goal.returns-clause-only
returns-clause-only c =
    answered_only SpellsRequest request_fault MeansRequest one_request request_meant_once c.args.most c.args.text.now c.read_request.result
    c.read_request.ensures.ok c.read_request.ensures.err

pub returns-clause-exact : goal.returns-clause-exact
returns-clause-exact c =
    answered_exactly SpellsRequest request_fault MeansRequest one_request c.args.most c.args.text.now c.read_request.result
    c.read_request.ensures.ok c.read_request.ensures.err
