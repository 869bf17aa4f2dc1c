use Rattle.std.proofs.Common.{◌∙◌, ap, refl}
use Rattle.row_tables.proofs.Alike.{alike_sound, alike_state}
use Rattle.row_tables.specs.Tables.{state_of}
use Rattle.row_tables.specs.contracts.rows.Rows.{the_view}
use Rattle.row_tables.proofs.rows.Rows.reserve.Goals as goal

pub returns-in_err-reserve-clause-state : goal.returns-in_err-reserve-clause-state
returns-in_err-reserve-clause-state c =
    alike_state (the_view c.self.inside) (the_view (record c.self.inside { accounts = c.reserve.new.self })) c.reserve.ensures.names (λ h. refl) refl refl refl
    ∙ ap state_of c.self.view_is

pub returns-in_err-reserve-2-clause-state : goal.returns-in_err-reserve-2-clause-state
returns-in_err-reserve-2-clause-state c =
    alike_state (the_view c.self.inside) (the_view (record c.self.inside { accounts = c.reserve.new.self; account_data = c.reserve-2.new.self })) c.reserve.ensures.names (λ h. refl) c.reserve-2.ensures.items refl refl
    ∙ ap state_of c.self.view_is

pub returns-clause-state : goal.returns-clause-state
returns-clause-state c =
    alike_state (the_view c.self.inside) (the_view (record c.self.inside { accounts = c.reserve.new.self; account_data = c.reserve-2.new.self; holdings = c.reserve-3.new.self })) c.reserve.ensures.names c.reserve-3.ensures.alike c.reserve-2.ensures.items refl refl
    ∙ ap state_of c.self.view_is

pub invariant_of-self-2 : goal.invariant_of-self-2
invariant_of-self-2 c =
    alike_sound (the_view c.self.inside) (the_view (record c.self.inside { accounts = c.reserve.new.self; account_data = c.reserve-2.new.self; holdings = c.reserve-3.new.self })) c.reserve.ensures.names c.reserve-3.ensures.alike
    c.reserve-2.ensures.items c.reserve-3.ensures.accounts c.self.invariant
