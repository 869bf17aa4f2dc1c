use Rattle.std.proofs.Common.{◌∙◌, ◌+◌, ap, sym, nat_lt, length}
use Rattle.acl_stmt.specs.declared.refusal.Full.TheVariants as full
use Rattle.acl_names.specs.Text.{text_eq}
use Rattle.held_bits.specs.HeldBits.{thing_count}
use Rattle.numbered_rows.proofs.Counts.{over_accounts}
use Rattle.numbered_rows.proofs.Limits.{over_edges, over_objects, over_pairs, over_schemas}
use Rattle.row_tables.proofs.Alike.{told}
use Rattle.row_tables.specs.contracts.rows.Rows.{the_view}
use Rattle.row_tables.proofs.rows.Rows.exceeds.Goals as goal

pub returns-in-Accounts : goal.returns-in-Accounts
returns-in-Accounts c =
    told (nat_lt 4096 c.len.result) (the_view c.self.inside) c.args.self.now c.self.view_is c.args.what full.Accounts c.in-Accounts.is
    (over_accounts (the_view c.self.inside) c.self.invariant.once 4096 c.len.result c.len.ensures)

pub returns-in-Schemas : goal.returns-in-Schemas
returns-in-Schemas c =
    told (nat_lt 4096 c.things.result) (the_view c.self.inside) c.args.self.now c.self.view_is c.args.what full.Schemas c.in-Schemas.is
    (over_schemas (the_view c.self.inside) c.self.invariant.once c.self.invariant.well (rw (← c.schemas.ensures) c.is_sound.ensures) 4096 c.things.result (c.things.ensures ∙ ap (λ h. thing_count text_eq h.entries) c.schemas-in-Schemas.ensures))

pub returns-in-Pairs : goal.returns-in-Pairs
returns-in-Pairs c =
    told (nat_lt 262144 c.len-in-Pairs.result) (the_view c.self.inside) c.args.self.now c.self.view_is c.args.what full.Pairs c.in-Pairs.is
    (over_pairs (the_view c.self.inside) c.self.invariant.once c.self.invariant.well (rw (← c.schemas.ensures) c.is_sound.ensures) 262144 c.len-in-Pairs.result (c.len-in-Pairs.ensures ∙ ap (λ h. length h.entries) c.schemas-in-Pairs.ensures))

pub returns-in-Objects : goal.returns-in-Objects
returns-in-Objects c =
    told (nat_lt 65536 c.len-in-Objects.result) (the_view c.self.inside) c.args.self.now c.self.view_is c.args.what full.Objects c.in-Objects.is
    (over_objects (the_view c.self.inside) c.self.invariant.once c.self.invariant.well (rw (← c.objects.ensures) c.is_sound-2.ensures.sound) (rw (← c.objects.ensures) c.is_sound-2.ensures.unrestricted) 65536 c.len-in-Objects.result
    (c.len-in-Objects.ensures ∙ ap (λ h. length h.entries) c.objects-in-Objects.ensures))

pub returns-in-Edges : goal.returns-in-Edges
returns-in-Edges c =
    let n = length c.args.self.now.holdings.roles.links + length c.args.self.now.holdings.defaults.entries in
    rw c.has_more_edges.ensures
    (told (nat_lt 65536 n) (the_view c.self.inside) c.args.self.now c.self.view_is c.args.what full.Edges c.in-Edges.is
    (over_edges (the_view c.self.inside) c.self.invariant.once c.self.invariant.well (rw (← c.roles.ensures) c.lists_each_edge_once.ensures.once) (rw (← c.defaults.ensures) c.is_sound-3.ensures) 65536 n
    (ap (λ v. length v.holdings.roles.links + length v.holdings.defaults.entries) (sym c.self.view_is))))
