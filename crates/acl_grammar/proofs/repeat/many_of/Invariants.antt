use Rattle.std.proofs.Common.{◌≡◌, map, length}
use Rattle.acl_grammar.specs.Grammar.Grammar.{many}
use Rattle.acl_grammar.specs.Reader.{read}
use Rattle.acl_grammar.proofs.Loops.{following}
use Rattle.acl_grammar.proofs.repeat.many_of.Given as goal

abbrev pub invariant-items : goal.invariant-items
invariant-items g l =
    read (many g.R.Rule.grammar) l.fn.tokens ≡ following (map g.R.Rule.view l.values.items) (read (many g.R.Rule.grammar) l.rest)

abbrev pub decreases-items : goal.decreases-items
decreases-items g l = length l.rest
