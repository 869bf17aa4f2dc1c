use Rattle.row_tables.proofs.HeldRows.{take_ready, take_sound, take_state}
use Rattle.row_tables.specs.contracts.rows.Rows.{the_view}
use Rattle.row_tables.proofs.rows.Rows.remove_held.Goals as goal

pub take_held-requires-clause-may_go : goal.take_held-requires-clause-may_go
take_held-requires-clause-may_go c = take_ready (the_view c.self.inside) c.args.self.now c.self.view_is c.self.invariant c.args.row.now c.requires.other c.requires.free

pub returns-clause-state : goal.returns-clause-state
returns-clause-state c =
    take_state (the_view c.self.inside) c.args.self.now c.self.view_is c.self.invariant c.args.row.now c.requires.other c.take_held.new.holdings c.take_held.ensures.accounts c.take_held.ensures.goes

pub invariant_of-self : goal.invariant_of-self
invariant_of-self c =
    take_sound (the_view c.self.inside) c.args.self.now c.self.view_is c.self.invariant c.args.row.now c.requires.other c.take_held.new.holdings c.take_held.ensures.accounts c.requires.free c.take_held.ensures.goes
