use Rattle.std.proofs.Common.{◌∙◌, ◌||◌, sym, refl, count_by, add-zero, get_or}
use Rattle.role_graph.specs.Edges.{is_admin_link}
use Rattle.role_graph.proofs.Counts.{count_set, any_insert}
use Rattle.role_graph.proofs.Tables.{no_link}
use Rattle.role_graph.proofs.Puts.{table_allowed, table_insert, admin_set}
use Rattle.role_graph.proofs.table.put.Goals as goal

pub returns-in-Ok-clause-table : goal.returns-in-Ok-clause-table
returns-in-Ok-clause-table c =
    rw (c.allow.ensures.items no_link)
    (table_allowed c.args.links.now.items c.in-Ok.place c.args.link c.requires.table
    (rw c.deref.ensures.value at c.in-Ok.ensures.inside) (rw c.deref.ensures.value at c.in-Ok.ensures.found))

pub returns-in-Ok-clause-counts : goal.returns-in-Ok-clause-counts
returns-in-Ok-clause-counts c = λ p.
    let old = get_or c.args.links.now.items c.in-Ok.place no_link in
    rw (c.allow.ensures.items no_link, rw c.deref.ensures.value at c.in-Ok.ensures.stands)
    (count_set (λ l. p l.from l.to) c.args.links.now.items c.in-Ok.place (record old { admin = old.admin || c.args.link.admin }) no_link
    (rw c.deref.ensures.value at c.in-Ok.ensures.inside) refl
    ∙ sym (add-zero (count_by (λ l. p l.from l.to) c.args.links.now.items)))

pub returns-in-Ok-clause-admin : goal.returns-in-Ok-clause-admin
returns-in-Ok-clause-admin c = λ from to.
    rw (c.allow.ensures.items no_link)
    (admin_set c.args.links.now.items c.in-Ok.place c.args.link no_link
    (rw c.deref.ensures.value at c.in-Ok.ensures.inside) (rw c.deref.ensures.value at (c.in-Ok.ensures.found no_link)) from to)

pub returns-in-Err-clause-table : goal.returns-in-Err-clause-table
returns-in-Err-clause-table c =
    rw (c.insert_at.ensures.items)
    (table_insert c.args.links.now.items c.in-Err.place c.args.link c.requires.table c.requires.within
    (rw c.deref.ensures.value at c.in-Err.ensures.within) (rw c.deref.ensures.value at c.in-Err.ensures.before)
    (rw c.deref.ensures.value at c.in-Err.ensures.after))

pub returns-in-Err-clause-admin : goal.returns-in-Err-clause-admin
returns-in-Err-clause-admin c = λ from to.
    rw (c.insert_at.ensures.items) (any_insert (is_admin_link from to) c.args.links.now.items c.in-Err.place c.args.link)
