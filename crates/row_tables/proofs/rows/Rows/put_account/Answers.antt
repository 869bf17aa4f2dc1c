use Rattle.std.specs.Prelude.{vec_capacity, vec_len}
use Rattle.std.proofs.Common.{◌-◌, ◌∙◌, ap, sym}
use Rattle.row_tables.proofs.AccountSteps.{data_state}
use Rattle.row_tables.specs.Changes.{with_data}
use Rattle.row_tables.specs.contracts.rows.Rows.{the_view}
use Rattle.numbered_rows.specs.Numbering.{number_of}
use Rattle.row_tables.proofs.rows.Rows.put_account.Goals as goal

pub returns-clause-state : goal.returns-clause-state
returns-clause-state c =
    data_state (the_view c.self.inside) c.add_account-number.new.self c.self.view_is c.self.invariant c.change_known.new.known.items c.args.account c.args.value c.add_account-number.result
    (ap (λ t. number_of t.accounts.names c.args.account) c.self.view_is ∙ c.add_account-number.ensures.number) c.change_known.ensures.value (vec_capacity c.change_known.new.known - vec_len c.change_known.new.known)
    ∙ ap (with_data c.args.account c.args.value) c.add_account-number.ensures.state
