use Rattle.row_tables.proofs.HeldRows.{put_ready, put_sound, put_state}
use Rattle.row_tables.specs.contracts.rows.Rows.{the_view}
use Rattle.row_tables.proofs.rows.Rows.add_held.Goals as goal

pub put_held-requires-clause-ready : goal.put_held-requires-clause-ready
put_held-requires-clause-ready c = put_ready (the_view c.self.inside) c.args.self.now c.self.view_is c.self.invariant c.args.row c.requires.other c.requires.ready

pub invariant_of-self : goal.invariant_of-self
invariant_of-self c =
    put_sound (the_view c.self.inside) c.args.self.now c.self.view_is c.self.invariant c.args.row c.requires.other c.put_held.new.holdings c.put_held.ensures.accounts c.requires.names c.requires.level c.requires.ready c.put_held.ensures.comes

pub returns-clause-state : goal.returns-clause-state
returns-clause-state c =
    put_state (the_view c.self.inside) c.args.self.now c.self.view_is c.self.invariant c.args.row c.requires.other c.put_held.new.holdings c.put_held.ensures.accounts c.requires.names c.put_held.ensures.comes
