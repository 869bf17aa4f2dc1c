use Rattle.std.proofs.Common.{◌∙◌, ap, sym, List}
use Rattle.std.proofs.lemmas.Result.{IfOk-weaker}
use Rattle.std.specs.List.{list_any}
use Rattle.account_holdings.specs.Holdings.{same_holding}
use Rattle.account_holdings.specs.declared.holding.Holding.{Holding}
use Rattle.acl_model.specs.Rows.{same_row}
use Rattle.acl_model.specs.declared.row.Row.{Row}
use Rattle.numbered_rows.specs.Numbering.{number_of}
use Rattle.row_tables.proofs.Listed.{no_own_rows, own_rows}
use Rattle.row_tables.specs.contracts.rows.Rows.{the_view}
use Rattle.row_tables.proofs.rows.Rows.held_rows.Goals as goal

pub returns-in_default : goal.returns-in_default
returns-in_default c = λ row.
    ap (λ (rows : List Row). list_any (same_row row) rows) c.new.ensures.items
    ∙ no_own_rows c.args.self.now c.args.account.now (sym c.number.ensures.is ∙ c.in_default.is) row

pub returns : goal.returns
returns c =
    IfOk-weaker c.rows_with_own.result _ _ (λ rows made row.
    ap (λ (list : List Row). list_any (same_row row) list) made
    ∙ own_rows (the_view c.self.inside) c.args.self.now c.self.view_is c.self.invariant c.args.account.now c.in-Some.number c.deref.result.now
    (ap (λ t. number_of t.accounts.names c.args.account.now) c.self.view_is ∙ sym c.number.ensures.is ∙ c.in-Some.is)
    (λ h. ap (λ (list : List Holding). list_any (same_holding h) list) c.deref.ensures.value ∙ c.in_ok-held.ensures h) row) c.rows_with_own.ensures
