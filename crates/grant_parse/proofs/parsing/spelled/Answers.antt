use Rattle.grant_parse.proofs.Disjoint.{rules_differ}
use Rattle.grant_parse.proofs.parsing.spelled.Goals as goal

pub read_text_either-requires-clause-apart : goal.read_text_either-requires-clause-apart
read_text_either-requires-clause-apart c = rules_differ
