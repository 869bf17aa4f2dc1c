use Rattle.std.proofs.Common.{◌∙◌, ap, sym}
use Rattle.row_tables.proofs.AccountSteps.{found_none, renamed_new, renamed_sound, renamed_stands, renamed_state}
use Rattle.row_tables.specs.contracts.rows.Rows.{the_view}
use Rattle.numbered_rows.specs.Numbering.{number_of}
use Rattle.row_tables.proofs.rows.Rows.rename.Goals as goal

pub rename-requires-clause-stands : goal.rename-requires-clause-stands
rename-requires-clause-stands c =
    renamed_stands (the_view c.self.inside) c.args.self.now c.self.view_is c.self.invariant c.self.inside.accounts c.args.old.now c.args.new c.in-Some.number
    (ap (λ t. number_of t.accounts.names c.args.old.now) c.self.view_is ∙ sym c.number.ensures.is ∙ c.in-Some.is) c.requires.new

pub rename-requires-clause-new : goal.rename-requires-clause-new
rename-requires-clause-new c =
    renamed_new (the_view c.self.inside) c.args.self.now c.self.view_is c.self.invariant c.self.inside.accounts c.args.old.now c.args.new c.in-Some.number
    (ap (λ t. number_of t.accounts.names c.args.old.now) c.self.view_is ∙ sym c.number.ensures.is ∙ c.in-Some.is) c.requires.new

pub invariant_of-self : goal.invariant_of-self
invariant_of-self c =
    renamed_sound (the_view c.self.inside) c.args.self.now c.self.view_is c.self.invariant c.rename.new.self c.args.old.now c.args.new c.in-Some.number
    (ap (λ t. number_of t.accounts.names c.args.old.now) c.self.view_is ∙ sym c.number.ensures.is ∙ c.in-Some.is) c.requires.new c.rename.ensures.names c.rename.ensures.len

pub returns-in-Some-clause-state : goal.returns-in-Some-clause-state
returns-in-Some-clause-state c =
    renamed_state (the_view c.self.inside) c.args.self.now c.self.view_is c.self.invariant c.rename.new.self c.args.old.now c.args.new c.in-Some.number
    (ap (λ t. number_of t.accounts.names c.args.old.now) c.self.view_is ∙ sym c.number.ensures.is ∙ c.in-Some.is) c.requires.new c.rename.ensures.names

pub returns-in_default-clause-state : goal.returns-in_default-clause-state
returns-in_default-clause-state c =
    absurd (found_none (the_view c.self.inside) c.args.self.now c.self.view_is c.self.invariant c.args.old.now c.requires.old
    (ap (λ t. number_of t.accounts.names c.args.old.now) c.self.view_is ∙ sym c.number.ensures.is ∙ c.in_default.is))
