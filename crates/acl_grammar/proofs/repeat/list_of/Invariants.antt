use Rattle.std.proofs.Common.{◌≡◌, map, length}
use Rattle.acl_grammar.specs.Grammar.Grammar.{list}
use Rattle.acl_grammar.specs.Reader.{read}
use Rattle.acl_grammar.proofs.Loops.{following, more_items}
use Rattle.acl_grammar.proofs.repeat.list_of.Given as goal

abbrev pub invariant-items : goal.invariant-items
invariant-items g l =
    read (list (g.C.Class.is l.mark) g.R.Rule.grammar) l.fn.tokens
    ≡ following (map g.R.Rule.view l.values.items) (more_items (g.C.Class.is l.mark) g.R.Rule.grammar l.rest)

abbrev pub decreases-items : goal.decreases-items
decreases-items g l = length l.rest
