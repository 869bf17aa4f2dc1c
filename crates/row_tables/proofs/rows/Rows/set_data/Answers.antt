use Rattle.std.specs.Prelude.{vec_capacity, vec_len}
use Rattle.std.proofs.Common.{◌-◌, ◌∙◌, ap, sym}
use Rattle.row_tables.proofs.AccountSteps.{data_state, found_none}
use Rattle.row_tables.specs.contracts.rows.Rows.{the_view}
use Rattle.numbered_rows.specs.Numbering.{number_of}
use Rattle.row_tables.proofs.rows.Rows.set_data.Goals as goal

pub returns-in-Some-clause-state : goal.returns-in-Some-clause-state
returns-in-Some-clause-state c =
    data_state (the_view c.self.inside) c.args.self.now c.self.view_is c.self.invariant c.change_known.new.known.items c.args.account.now c.args.value c.in-Some.number
    (ap (λ t. number_of t.accounts.names c.args.account.now) c.self.view_is ∙ sym c.number.ensures.is ∙ c.in-Some.is) c.change_known.ensures.value (vec_capacity c.change_known.new.known - vec_len c.change_known.new.known)

pub returns-in_default-clause-state : goal.returns-in_default-clause-state
returns-in_default-clause-state c =
    absurd (found_none (the_view c.self.inside) c.args.self.now c.self.view_is c.self.invariant c.args.account.now c.requires
    (ap (λ t. number_of t.accounts.names c.args.account.now) c.self.view_is ∙ sym c.number.ensures.is ∙ c.in_default.is))
