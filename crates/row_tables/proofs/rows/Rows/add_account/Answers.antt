use Rattle.std.proofs.Common.{◌∙◌, ap, sym, refl, ◌==◌, is_some, if◌then◌else◌}
use Rattle.acl_model.specs.declared.account_data.AccountData.{AccountData}
use Rattle.row_tables.proofs.AccountSteps.{absent_new, account_again, added_number, added_sound, added_state, found_not}
use Rattle.row_tables.specs.contracts.rows.Rows.{the_view}
use Rattle.numbered_rows.specs.Numbering.{number_of}
use Rattle.numbered_rows.specs.Tables.{known_at}
use Rattle.row_tables.proofs.rows.Rows.add_account.Goals as goal

pub returns-in-Some-clause-number : goal.returns-in-Some-clause-number
returns-in-Some-clause-number c = sym c.number.ensures.is ∙ c.in-Some.is

pub returns-in-Some-clause-state : goal.returns-in-Some-clause-state
returns-in-Some-clause-state c =
    account_again (the_view c.self.inside) c.args.self.now c.self.view_is c.self.invariant c.args.account c.number.result c.number.ensures.is (ap is_some c.in-Some.is)

pub add-number-requires-clause-new : goal.add-number-requires-clause-new
add-number-requires-clause-new c =
    absent_new c.self.inside.accounts.names c.args.account c.number.result (c.number.ensures.is ∙ ap (λ t. number_of t.accounts.names c.args.account) (sym c.self.view_is)) (ap is_some c.in_default.is)

pub invariant_of-self : goal.invariant_of-self
invariant_of-self c =
    added_sound (the_view c.self.inside) c.args.self.now c.self.view_is c.self.invariant
    (the_view (record c.self.inside { accounts = c.add-number.new.self; account_data = c.set_known.new.known; holdings = c.add_account.new.self })) c.args.account c.add-number.result c.number.result
    (c.number.ensures.is ∙ ap (λ t. number_of t.accounts.names c.args.account) (sym c.self.view_is)) (ap is_some c.in_default.is)
    c.add-number.ensures.free c.add-number.ensures.names c.add_account.ensures.alike
    (c.requires.ready (found_not (the_view c.self.inside) c.args.self.now c.self.view_is c.self.invariant c.args.account c.number.result c.number.ensures.is c.in_default.is))
    c.add-number.ensures.within c.add-number.ensures.none_free c.add-number.ensures.len c.set_known.ensures.len c.add_account.ensures.accounts

pub returns-clause-number : goal.returns-clause-number
returns-clause-number c =
    added_number (the_view c.self.inside) c.args.self.now c.self.view_is c.self.invariant
    (the_view (record c.self.inside { accounts = c.add-number.new.self; account_data = c.set_known.new.known; holdings = c.add_account.new.self })) c.args.account c.add-number.result c.number.result
    (c.number.ensures.is ∙ ap (λ t. number_of t.accounts.names c.args.account) (sym c.self.view_is)) (ap is_some c.in_default.is)
    c.add-number.ensures.free c.add-number.ensures.names c.add_account.ensures.alike

pub returns-clause-state : goal.returns-clause-state
returns-clause-state c =
    added_state (the_view c.self.inside) c.args.self.now c.self.view_is c.self.invariant
    (the_view (record c.self.inside { accounts = c.add-number.new.self; account_data = c.set_known.new.known; holdings = c.add_account.new.self })) c.args.account c.add-number.result c.number.result
    (c.number.ensures.is ∙ ap (λ t. number_of t.accounts.names c.args.account) (sym c.self.view_is)) (ap is_some c.in_default.is)
    c.add-number.ensures.free c.add-number.ensures.names c.add_account.ensures.alike
    (λ n. c.set_known.ensures.value n ∙ ap (λ (known : AccountData). if n == c.add-number.result then known else known_at c.self.inside.account_data.items n) c.new_account.ensures) refl refl
