use Rattle.std.proofs.Common.{◌∙◌, ◌==◌, ap, sym}
use Rattle.std.specs.List.{find}
use Rattle.std.specs.Option.{option_copied}
use Rattle.script_run.proofs.Columns.{column_found}
use Rattle.script_run.proofs.denial.column_of.Goals as goal

pub returns : goal.returns
returns c =
    c.get.ensures ∙ column_found c.args.privileges.now c.args.missing.privilege c.in_ok-number.number c.in_ok-place.place c.args.missing.column c.in_ok-columns.columns.now
    (sym c.static_number.ensures ∙ c.in_ok-number.was) (ap (find (λ columns. columns.privilege == c.in_ok-number.number)) (sym c.as_slice.ensures) ∙ sym c.columns_on.ensures ∙ ap option_copied c.in_ok-columns.was) c.in_ok-place.was
