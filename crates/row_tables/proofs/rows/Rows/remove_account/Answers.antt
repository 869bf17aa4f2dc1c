use Rattle.std.proofs.Common.{◌∙◌, ap, sym}
use Rattle.row_tables.proofs.AccountSteps.{account_absent, gone_sound, gone_state}
use Rattle.row_tables.specs.contracts.rows.Rows.{the_view}
use Rattle.row_tables.specs.Tables.{state_of}
use Rattle.numbered_rows.specs.Numbering.{number_of}
use Rattle.row_tables.proofs.rows.Rows.remove_account.Goals as goal
use Rattle.row_tables.proofs.rows.Rows.remove_account.Goals.{in-Some-1, in-None-1}

pub invariant_of-self : goal.invariant_of-self
invariant_of-self c =
    gone_sound (the_view c.self.inside) c.args.self.now c.self.view_is c.self.invariant c.remove.new.self c.args.account.now c.in-Some.number
    (ap (λ t. number_of t.accounts.names c.args.account.now) c.self.view_is ∙ sym c.number.ensures.is ∙ c.in-Some.is)
    c.remove.ensures.names c.requires c.remove.ensures.len

pub returns-in-Some-clause-state : goal.returns-in-Some-clause-state
returns-in-Some-clause-state c =
    let found = ap (λ t. number_of t.accounts.names c.args.account.now) c.self.view_is ∙ sym c.number.ensures.is ∙ c.in-Some.is in
    let gone = gone_state (the_view c.self.inside) c.args.self.now c.self.view_is c.self.invariant c.remove.new.self c.args.account.now c.in-Some.number found c.remove.ensures.names c.requires in
    elim c.match-remove.branch [
      | in-Some-1 w ↦ ap state_of w.self-is ∙ gone
      | in-None-1 w ↦ ap state_of w.self-is ∙ gone
    ]

pub returns-in_default-clause-state : goal.returns-in_default-clause-state
returns-in_default-clause-state c =
    ap state_of (sym c.self.view_is)
    ∙ account_absent (the_view c.self.inside) c.args.self.now c.self.view_is c.self.invariant c.args.account.now
    (ap (λ t. number_of t.accounts.names c.args.account.now) c.self.view_is ∙ sym c.number.ensures.is ∙ c.in_default.is)
