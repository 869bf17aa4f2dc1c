use Rattle.std.proofs.Common.{◌∙◌}
use Rattle.acl_rows.proofs.Openings.{opening_all, opening_none}
use Rattle.acl_rows.proofs.rows.Rows.opening.Goals as goal

pub hold_static-requires : goal.hold_static-requires
hold_static-requires c = rw (c.in_ok-insert.ensures.ok, c.in_ok-root.ensures, c.new.ensures.items, c.new-2.ensures.items, c.new-3.ensures) opening_none

pub returns : goal.returns
returns c = c.in_ok-hold_dynamic.ensures ∙ opening_all
