use Rattle.std.proofs.Common.{arith}
use Rattle.grant_parse.proofs.Kept.{request_few}
use Rattle.grant_parse.proofs.parsing.read_request.Goals as goal

pub request_from-requires : goal.request_from-requires
request_from-requires c = request_few c.args.text.now c.in_ok-named.named c.in_ok-named.target (grind arith) c.in_ok-named.ensures.ok
